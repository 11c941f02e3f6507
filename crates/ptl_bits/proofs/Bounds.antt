-- What is read from bits fits the places of a record, and is 0 past each count and for an absent level.
use mathlib.Core.Path.{◌≡◌, refl, ap, sym, ◌∙◌}
use mathlib.Core.Bool.{Bool, true, false}
use mathlib.Core.List.{List, [], ◌∷◌, ◌++◌}
use Prim.Native.Nat.{ℕ, zero, suc, ◌+◌, ◌-◌, ◌*◌, ◌/◌, ◌%◌, ◌^◌, ◌≤◌, ◌<◌}
use native.Mathlib.Omega.{arith}
use lib.Dec.{ltb, lit<}
use lib.ListN.{length, get_or, take, drop, replicate, length-append, length-drop}
use lib.Seq.{get_or-drop, length-take-le}
use Rattle.std.specs.Prelude.{if◌then◌else◌}
use Rattle.parse.specs.Parse.{value, Parser, give, times}
use Rattle.parse.proofs.Binds.{first_read}
use Rattle.rbsp.proofs.Below.{Below}
use Rattle.bit_reader.specs.Bits.{u, is_set}
use Rattle.bit_reader.proofs.Numbers.{u_read}
use Rattle.ptl.specs.Ptl.{padded, present_flags, levels, without_flags, general_constraints_info, constraint_bytes, profile_tier_level}
use Rattle.ptl_bits.specs.inner.Sections.{general, constraints, sublayers, sub_profiles, ptl_of_sections}
use Rattle.ptl.specs.declared.VvcPtlRecord.{VvcPtlRecord}
use Rattle.ptl_bits.specs.declared.constraints.Constraints.{Constraints}
use Rattle.ptl_bits.specs.declared.sublayers.Sublayers.{Sublayers}
use Rattle.ptl_bits.specs.declared.sub_profiles.SubProfiles.{SubProfiles}
use Rattle.ptl.proofs.Arrays.{length_padded, padded_past}
use Rattle.ptl_bits.proofs.ConstraintInfo.{info_read, length_without}
use Rattle.ptl_bits.proofs.SublayerLevels.{byte_if, flags_length}
use Rattle.ptl_bits.proofs.Whole.{sections, general_read}

-- ---- lists of numbers below b
module _ (b : ℕ) (h : 0 < b) where
  zeros_below : (n : ℕ) → Below b (replicate n 0)
  zeros_below zero i = h
  zeros_below (suc n) zero = h
  zeros_below (suc n) (suc i) = zeros_below n i

  append_below : (l k : List ℕ) → Below b l → Below b k → Below b (l ++ k)
  append_below [] k g f i = f i
  append_below (x ∷ l) k g f zero = g 0
  append_below (x ∷ l) k g f (suc i) = append_below l k (λ j. g (suc j)) f i

  pub padded_below : (N : ℕ) (l : List ℕ) → Below b l → Below b (padded N 0 l)
  padded_below N l g = append_below l (replicate (N - length l) 0) g (zeros_below (N - length l))

  take_below : (n : ℕ) (l : List ℕ) → Below b l → Below b (take n l)
  take_below zero l g i = h
  take_below (suc n) [] g i = h
  take_below (suc n) (x ∷ l) g zero = g 0
  take_below (suc n) (x ∷ l) g (suc i) = take_below n l (λ j. g (suc j)) i

  one_below : (v : ℕ) → v < b → Below b (v ∷ [])
  one_below v g zero = g
  one_below v g (suc i) = h

drop_below : (b n : ℕ) (l : List ℕ) → Below b l → Below b (drop n l)
drop_below b n l g i = rw (get_or-drop n l i 0) (g (n + i))

without_below : (l : List ℕ) → Below 256 l → Below 256 (without_flags l)
unfolding without_flags
without_below [] g i = g i
without_below (b ∷ l) g zero = omega arith
without_below (b ∷ l) g (suc i) = g (suc i)

without_first : (l : List ℕ) → get_or (padded 63 0 (without_flags l)) 0 0 < 64
unfolding without_flags
without_first [] = lit< tt
without_first (b ∷ l) = omega arith

-- ---- the constraint information
pub record Constrained (c : Constraints) : Type 0 where
  pub some : 1 ≤ c.num_bytes_constraint_info
  pub few : c.num_bytes_constraint_info ≤ 43
  pub long : length c.general_constraint_info ≡ 63
  pub below : Below 256 c.general_constraint_info
  pub top : get_or c.general_constraint_info 0 0 < 64
  pub past : (i : ℕ) → c.num_bytes_constraint_info ≤ i → get_or c.general_constraint_info i 0 ≡ 0

-- the constraint bytes, from the frame-only bit to the alignment, are 1 to 43 (SCOPE 3.6)
constrained : (s l : List ℕ) (n : ℕ) (c : Constraints) → Below 256 l → length l ≡ n → 1 ≤ n → n ≤ 43
    → c.num_bytes_constraint_info ≡ length (without_flags l) → c.general_constraint_info ≡ padded 63 0 (without_flags l) → Constrained c
constrained s l n c g e h k i j =
    let m : length (without_flags l) ≡ n = length_without l ∙ e in
    record {
      some = omega arith;
      few = omega arith;
      long = rw j (length_padded 63 0 (without_flags l) (omega arith));
      below = rw j (padded_below 256 (lit< tt) 63 (without_flags l) (without_below l g));
      top = rw j (without_first l);
      past = λ t f. rw j (padded_past 63 0 (without_flags l) t (omega arith));
    }

pub constraints_read : (s : List ℕ) (p : ℕ) (c : Constraints) (q : ℕ) → Below 256 s → constraints s p ≡ value c q → Constrained c
unfolding constraints constraint_bytes
constraints_read s p c q g h =
    first_read (u 1 s p) _ h (λ f a e j. first_read (u 1 s a) _ j (λ m b k l. first_read (general_constraints_info s b) _ l (λ _ t i o.
    let x = u_read 1 s p f a e in
    let y = u_read 1 s a m b k in
    let z = info_read s b t i in
    let n = length-take-le (t / 8 - p / 8) (drop (p / 8) s) (omega (arith, length-drop (p / 8) s)) in
    constrained s (take (t / 8 - p / 8) (drop (p / 8) s)) (t / 8 - p / 8) c
    (take_below 256 (lit< tt) (t / 8 - p / 8) (drop (p / 8) s) (drop_below 256 (p / 8) s g)) n (omega arith) (omega arith) (cc) (cc))))

-- ---- the sublayers: flags and levels side by side
abbrev pub Absent : List Bool → List ℕ → Type 0
Absent flags idcs = (i : ℕ) → get_or flags i false ≡ false → get_or idcs i 0 ≡ 0

absent_append : (xs xs' : List Bool) (ys ys' : List ℕ) → length xs ≡ length ys → Absent xs ys → Absent xs' ys' → Absent (xs ++ xs') (ys ++ ys')
absent_append [] xs' [] ys' e g f i = f i
absent_append [] xs' (y ∷ ys) ys' e g f i = absurd (omega arith)
absent_append (x ∷ xs) xs' [] ys' e g f i = absurd (omega arith)
absent_append (x ∷ xs) xs' (y ∷ ys) ys' e g f zero = g 0
absent_append (x ∷ xs) xs' (y ∷ ys) ys' e g f (suc i) = absent_append xs xs' ys ys' (omega arith) (λ j. g (suc j)) f i

absent_zeros : (n m : ℕ) → Absent (replicate m false) (replicate n 0)
absent_zeros zero m i e = refl
absent_zeros (suc n) m zero e = refl
absent_zeros (suc n) m (suc i) e = absent_zeros n 0 i refl

pub record Levels (m byte : ℕ) (ls : List ℕ) : Type 0 where
  pub count : length ls ≡ m
  pub below : Below 256 ls
  pub absent : Absent (present_flags m byte) ls

-- read by any L whose values are bytes
module _ (L : Parser ℕ) (s : List ℕ) (low : (p v q : ℕ) → L s p ≡ value v q → v < 256) where
  -- a level that is not read is 0
  level_read : (b : Bool) (p v q : ℕ) → (if b then L else give 0) s p ≡ value v q → (v < 256) × Absent (b ∷ []) (v ∷ [])
  level_read true p v q e = (low p v q e, present)
    where
      present : Absent (true ∷ []) (v ∷ [])
      present zero f = let z : ◌≡◌ {A = ℕ} 0 1 = cc in absurd (omega arith)
      present (suc i) f = refl
  level_read false p v q e = let z : 0 ≡ v = cc in rw (← z) (lit< tt, absent_zeros 1 1)

  pub levels_read : (m byte p : ℕ) (ls : List ℕ) (q : ℕ) → levels L m byte s p ≡ value ls q → Levels m byte ls
  unfolding levels present_flags
  levels_read zero byte p ls q e = let z : [] ≡ ls = cc in rw (← z) (record { count = refl; below = λ i. lit< tt; absent = λ i f. refl })
  levels_read (suc m) byte p ls q e =
      first_read ((if is_set (byte / 128) then L else give 0) s p) _ e (λ v a g f.
      first_read (levels L m (byte % 128 * 2) s a) _ f (λ below t h k.
      let z : below ++ (v ∷ []) ≡ ls = cc in
      let r = levels_read m (byte % 128 * 2) a below t h in
      let w = level_read (is_set (byte / 128)) p v a g in
      rw (← z)
      (record {
        count = rw (length-append, r.count) (omega arith);
        below = append_below 256 (lit< tt) below (v ∷ []) r.below (one_below 256 (lit< tt) v w.0);
        absent = absent_append (present_flags m (byte % 128 * 2)) (is_set (byte / 128) ∷ []) below (v ∷ [])
            (flags_length m (byte % 128 * 2) ∙ sym r.count) r.absent w.1;
      })))

pub record Layered (m : ℕ) (l : Sublayers) : Type 0 where
  pub flags_long : length l.sublayer_level_present_flag ≡ 7
  pub flags_past : (i : ℕ) → m ≤ i → get_or l.sublayer_level_present_flag i false ≡ false
  pub long : length l.sublayer_level_idc ≡ 7
  pub below : Below 256 l.sublayer_level_idc
  pub absent : Absent l.sublayer_level_present_flag l.sublayer_level_idc

layered : (m byte : ℕ) (ls : List ℕ) (l : Sublayers) → m ≤ 7 → Levels m byte ls
    → l.sublayer_level_present_flag ≡ padded 7 false (present_flags m byte) → l.sublayer_level_idc ≡ padded 7 0 ls → Layered m l
layered m byte ls l h r e f =
    let n = flags_length m byte in
    record {
      flags_long = rw e (length_padded 7 false (present_flags m byte) (omega arith));
      flags_past = λ i k. rw e (padded_past 7 false (present_flags m byte) i (omega arith));
      long = rw f (length_padded 7 0 ls (omega arith));
      below = rw f (padded_below 256 (lit< tt) 7 ls r.below);
      absent = rw (e, f) (absent_append (present_flags m byte) (replicate (7 - length (present_flags m byte)) false) ls (replicate (7 - length ls) 0)
          (n ∙ sym r.count) r.absent
          (absent_zeros (7 - length ls) (7 - length (present_flags m byte))));
    }

pub sublayers_read : (s : List ℕ) (m p : ℕ) (l : Sublayers) (q : ℕ) → m ≤ 7 → sublayers m s p ≡ value l q → Layered m l
unfolding sublayers
sublayers_read s m p l q g h =
    first_read (byte_if (ltb 0 m) s p) _ h (λ byte a e f. first_read (levels (u 8) m byte s a) _ f (λ ls t k j.
    layered m byte ls l g (levels_read (u 8) s (λ b v d o. (u_read 8 s b v d o).low) m byte a ls t k) (cc) (cc)))

-- ---- the sub-profiles
pub record Words (n : ℕ) (vs : List ℕ) : Type 0 where
  pub count : length vs ≡ n
  pub below : Below (2 ^ 32) vs

-- read by any P whose values fit 32 bits
pub times_read : (P : Parser ℕ) (s : List ℕ) → ((p v q : ℕ) → P s p ≡ value v q → v < 2 ^ 32) → (n p : ℕ) (vs : List ℕ) (q : ℕ)
    → times n P s p ≡ value vs q → Words n vs
unfolding times
times_read P s low zero p vs q e = let z : [] ≡ vs = cc in rw (← z) (record { count = refl; below = λ i. lit< tt })
times_read P s low (suc n) p vs q e =
    first_read (P s p) _ e (λ v a g f. first_read (times n P s a) _ f (λ rest t h k.
    let z : v ∷ rest ≡ vs = cc in
    let r = times_read P s low n a rest t h in
    rw (← z) (record {
      count = ap suc r.count;
      below = append_below (2 ^ 32) (lit< tt) (v ∷ []) rest (one_below (2 ^ 32) (lit< tt) v (low p v a g)) r.below;
    })))

pub record Profiled (v : SubProfiles) : Type 0 where
  pub few : v.num_sub_profiles ≤ 255
  pub long : length v.general_sub_profile_idc ≡ 255
  pub below : Below (2 ^ 32) v.general_sub_profile_idc
  pub past : (i : ℕ) → v.num_sub_profiles ≤ i → get_or v.general_sub_profile_idc i 0 ≡ 0

profiled : (n : ℕ) (vs : List ℕ) (v : SubProfiles) → n < 256 → Words n vs → v.num_sub_profiles ≡ n
    → v.general_sub_profile_idc ≡ padded 255 0 vs → Profiled v
profiled n vs v h r e f = record {
  few = omega arith;
  long = rw f (length_padded 255 0 vs (omega arith));
  below = rw f (padded_below (2 ^ 32) (lit< tt) 255 vs r.below);
  past = λ i k. rw f (padded_past 255 0 vs i (omega arith));
}

pub sub_profiles_read : (s : List ℕ) (p : ℕ) (v : SubProfiles) (q : ℕ) → sub_profiles s p ≡ value v q → Profiled v
unfolding sub_profiles
sub_profiles_read s p v q h =
    first_read (u 8 s p) _ h (λ n a e f. first_read (times n (u 32) s a) _ f (λ vs t k j.
    profiled n vs v (u_read 8 s p n a e).low (times_read (u 32) s (λ b x d o. (u_read 32 s b x d o).low) n a vs t k) (cc) (cc)))

-- ---- the whole
pub record Fits (m : ℕ) (r : VvcPtlRecord) : Type 0 where
  pub profile : r.general_profile_idc < 128
  pub level : r.general_level_idc < 256
  pub info_some : 1 ≤ r.num_bytes_constraint_info
  pub info_few : r.num_bytes_constraint_info ≤ 43
  pub info_long : length r.general_constraint_info ≡ 63
  pub info_below : Below 256 r.general_constraint_info
  pub info_top : get_or r.general_constraint_info 0 0 < 64
  pub info_past : (i : ℕ) → r.num_bytes_constraint_info ≤ i → get_or r.general_constraint_info i 0 ≡ 0
  pub levels_count : r.num_sublayer_levels ≡ m
  pub flags_long : length r.sublayer_level_present_flag ≡ 7
  pub flags_past : (i : ℕ) → m ≤ i → get_or r.sublayer_level_present_flag i false ≡ false
  pub levels_long : length r.sublayer_level_idc ≡ 7
  pub levels_below : Below 256 r.sublayer_level_idc
  pub levels_absent : Absent r.sublayer_level_present_flag r.sublayer_level_idc
  pub subs_few : r.num_sub_profiles ≤ 255
  pub subs_long : length r.general_sub_profile_idc ≡ 255
  pub subs_below : Below (2 ^ 32) r.general_sub_profile_idc
  pub subs_past : (i : ℕ) → r.num_sub_profiles ≤ i → get_or r.general_sub_profile_idc i 0 ≡ 0

pub ptl_fits_lem : (m : ℕ) (s : List ℕ) (p : ℕ) (r : VvcPtlRecord) (q : ℕ) → m ≤ 7 → Below 256 s → profile_tier_level m s p ≡ value r q → Fits m r
ptl_fits_lem m s p r q h k e = first_read (general s p) _ (sym (sections m s p) ∙ e) (λ g a ge f. first_read (constraints s a) _ f (λ c b ce j.
    first_read (sublayers m s b) _ j (λ l d le i. first_read (sub_profiles s d) _ i (λ v t ve o.
    let z : ptl_of_sections m g c l v ≡ r = cc in
    let w = general_read s p g a ge in
    let x = constraints_read s a c b k ce in
    let y = sublayers_read s m b l d h le in
    let n = sub_profiles_read s d v t ve in
    rw (← z)
    (record {
      profile = w.profile;
      level = w.level;
      info_some = x.some;
      info_few = x.few;
      info_long = x.long;
      info_below = x.below;
      info_top = x.top;
      info_past = x.past;
      levels_count = refl;
      flags_long = y.flags_long;
      flags_past = y.flags_past;
      levels_long = y.long;
      levels_below = y.below;
      levels_absent = y.absent;
      subs_few = n.few;
      subs_long = n.long;
      subs_below = n.below;
      subs_past = n.past;
    })))))
