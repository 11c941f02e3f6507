-- What is kept of a PTL that is written: it has the same bytes when it is written again, and a PTL with zeros past its counts is kept whole.
use Prim.Native.Nat.{ℕ, zero, suc, ◌+◌, ◌-◌, ◌*◌, ◌≤◌, ◌<◌}
use mathlib.Core.Path.{◌≡◌, refl, sym, ap, ◌∙◌}
use mathlib.Core.Bool.{Bool, true, false}
use mathlib.Core.List.{List, [], ◌∷◌, ◌++◌}
use mathlib.Core.Logic.{⊎_elim}
use native.Mathlib.Nat.{eq-or-lt_of_le, le_of_suc-le-suc, not-suc-le-zero}
use native.Mathlib.Omega.{arith}
use native.Mathlib.Decide.{dec_le}
use lib.ListN.{length, get_or, take, replicate, length-append, get_or-replicate, get_or-append}
use lib.Seq.{length-take-le, get_or-take, get_or_at, get_or-append-add, ext_get_or, take-suc, take_at}
use borrow.Author.Tests.{ne_eqb, lt-ltb}
use Rattle.std.specs.Prelude.{if◌then◌else◌}
use Rattle.parse.specs.Logic.{bit}
use Rattle.ptl.specs.Ptl.{padded, without_flags}
use Rattle.ptl.specs.declared.VvcPtlRecord.{VvcPtlRecord}
use Rattle.ptl.proofs.Arrays.{length_padded}
use Rattle.ptl_record.specs.Write.{constraint_info, with_flags, has_level, flag_byte, level_bytes, level_part, sub_profile_bytes, ptl_bytes, ptl_fits}
use Rattle.ptl_record.specs.AsWritten.{up_to, level_of, as_written}
use Rattle.ptl_record.specs.inner.Places.{one_level}
use Rattle.ptl_record.proofs.Writing.{info_long, levels_split, fitting}

module _ {A : Type 0} where
  length_up_to : (m : ℕ) (f : ℕ → A) → length (up_to m f) ≡ m
  unfolding up_to
  length_up_to zero f = refl
  length_up_to (suc m) f = rw (length-append, length_up_to m f) (omega arith)

  get_d_up_to : (m : ℕ) (f : ℕ → A) (d : A) (k : ℕ) → k < m → get_or (up_to m f) k d ≡ f k
  unfolding up_to
  get_d_up_to zero f d k h = absurd (not-suc-le-zero h)
  get_d_up_to (suc m) f d k h =
      ⊎_elim
      (λ e. rw e (get_or_at (up_to m f) (f m) [] d m (length_up_to m f)))
      (λ l. get_or-append (up_to m f) (f m ∷ []) d k (let n = length_up_to m f in omega arith) ∙ get_d_up_to m f d k l)
      (eq-or-lt_of_le (le_of_suc-le-suc h))

  get_d_padded_up_to : (N : ℕ) (z : A) (m : ℕ) (f : ℕ → A) (d : A) (k : ℕ) → k < m → get_or (padded N z (up_to m f)) k d ≡ f k
  get_d_padded_up_to N z m f d k h =
      get_or-append (up_to m f) (replicate (N - length (up_to m f)) z) d k (let n = length_up_to m f in omega arith) ∙ get_d_up_to m f d k h

  -- a table of the elements of a list
  up_to_take : (l : List A) (d : A) (m : ℕ) (f : ℕ → A) → m ≤ length l → ((k : ℕ) → k < m → f k ≡ get_or l k d) → up_to m f ≡ take m l
  unfolding up_to
  up_to_take l d zero f h e = refl
  up_to_take l d (suc m) f h e =
      rw (up_to_take l d m f (omega arith) (λ k o. e k (omega arith)), e m (omega arith)) (sym (take-suc l m d h))

  -- the values of an array again
  pub take_padded : (N : ℕ) (z : A) (xs : List A) → take (length xs) (padded N z xs) ≡ xs
  take_padded N z xs = take_at xs (replicate (N - length xs) z) (length xs) refl

  -- an array that holds z from a count on
  padded_back : (N : ℕ) (z : A) (l : List A) (n : ℕ) → length l ≡ N → n ≤ N → ((i : ℕ) → n ≤ i → get_or l i z ≡ z) → padded N z (take n l) ≡ l
  padded_back N z l n e h rest =
      let t = length-take-le n l (omega arith) in
      let long : length (padded N z (take n l)) ≡ length l = length_padded N z (take n l) (omega arith) ∙ sym e in
      ext_get_or z (padded N z (take n l)) l long (λ i o. at i (omega arith))
    where
      at : (i : ℕ) → i < N → get_or (padded N z (take n l)) i z ≡ get_or l i z
      at i o =
          let t = length-take-le n l (omega arith) in
          elim (dec_le n i) [
            | yes k ↦
                (let j : i ≡ length (take n l) + (i - n) = omega arith in
                ap (λ (x : ℕ). get_or (padded N z (take n l)) x z) j
                ∙ get_or-append-add (take n l) (replicate (N - length (take n l)) z) (i - n) z
                ∙ get_or-replicate (N - length (take n l)) (i - n) z z (omega arith)
                ∙ sym (rest i k))
            | no k ↦
                (get_or-append (take n l) (replicate (N - length (take n l)) z) z i (omega arith)
                ∙ get_or-take n l i z (omega arith))
          ]

length_without : (xs : List ℕ) → length (without_flags xs) ≡ length xs
unfolding without_flags
length_without [] = refl
length_without (x ∷ xs) = refl

-- ---- written again

module _ (p : VvcPtlRecord) (fits : ptl_fits p ≡ true) (info_is : length p.general_constraint_info ≡ 63)
    (subs_are : length p.general_sub_profile_idc ≡ 255) (sublayers : ℕ) where
  abbrev q : VvcPtlRecord
  q = as_written p sublayers

  abbrev ci : List ℕ
  ci = constraint_info p

  abbrev m : ℕ
  m = sublayers - 1

  long : (1 ≤ length ci) × (length ci ≤ 63)
  long = info_long p info_is (fitting p fits).info

  info_again : constraint_info q ≡ without_flags ci
  info_again =
      rw (ne_eqb (length ci) 0 (λ e. omega (arith, long)))
      (ap (λ (n : ℕ). take n (padded 63 0 (without_flags ci))) (sym (length_without ci)) ∙ take_padded 63 0 (without_flags ci))

  flags_again : (xs : List ℕ) → with_flags q (without_flags xs) ≡ with_flags p xs
  unfolding with_flags without_flags
  flags_again [] = refl
  flags_again (x ∷ xs) =
      ap (λ (b : ℕ). (bit p.ptl_frame_only_constraint_flag * 128 + bit p.ptl_multilayer_enabled_flag * 64 + b) ∷ xs) (omega arith)

  has_again : (i : ℕ) → i < m → has_level q i ≡ has_level p i
  has_again i h = rw (lt-ltb i m h) (get_d_padded_up_to 7 false m (has_level p) false i h)

  flag_again : (k : ℕ) → k ≤ m → flag_byte q k ≡ flag_byte p k
  unfolding flag_byte
  flag_again zero h = refl
  flag_again (suc k) h = rw (has_again k h, flag_again k (omega arith))

  one_again : (b : Bool) (v w : ℕ) → v ≡ (if b then w else 0) → one_level b v ≡ one_level b w
  one_again true v w e = ap (λ (x : ℕ). x ∷ []) e
  one_again false v w e = refl

  levels_again : (k : ℕ) → k ≤ m → level_bytes q k ≡ level_bytes p k
  unfolding level_bytes
  levels_again zero h = refl
  levels_again (suc k) h =
      levels_split q k
      ∙ rw (has_again k h, levels_again k (omega arith))
      (ap (λ (x : List ℕ). x ++ level_bytes p k)
      (one_again (has_level p k) (get_or q.sublayer_level_idc k 0) (get_or p.sublayer_level_idc k 0) (get_d_padded_up_to 7 0 m (level_of p) 0 k h)))
      ∙ sym (levels_split p k)

  part_again : level_part q sublayers ≡ level_part p sublayers
  part_again = rw (flag_again m (omega arith), levels_again m (omega arith))

  subs_again : take p.num_sub_profiles q.general_sub_profile_idc ≡ take p.num_sub_profiles p.general_sub_profile_idc
  subs_again =
      let f = fitting p fits in
      let l = length-take-le p.num_sub_profiles p.general_sub_profile_idc (omega arith) in
      ap (λ (n : ℕ). take n q.general_sub_profile_idc) (sym l) ∙ take_padded 255 0 (take p.num_sub_profiles p.general_sub_profile_idc)

  -- what was read is written as the same bytes
  pub bytes_again : ptl_bytes (as_written p sublayers) sublayers ≡ ptl_bytes p sublayers
  unfolding ptl_bytes
  bytes_again =
      let n : length (constraint_info q) ≡ length ci = ap length info_again ∙ length_without ci in
      let w : with_flags q (constraint_info q) ≡ with_flags p ci = ap (with_flags q) info_again ∙ flags_again ci in
      λ i. (n i ∷ [])
      ++ ((p.general_profile_idc * 2 + bit p.general_tier_flag) ∷ [])
      ++ (p.general_level_idc ∷ [])
      ++ w i
      ++ part_again i
      ++ (p.num_sub_profiles ∷ [])
      ++ sub_profile_bytes (subs_again i)

-- ---- kept whole

-- a PTL as it is read: at least one constraint byte, the first with its top two bits 0, as many levels as there are sublayers below the
-- highest, and 0 and false past each count and for an absent level
pub record Canonical (p : VvcPtlRecord) (sublayers : ℕ) : Type 0 where
  pub info_is : length p.general_constraint_info ≡ 63
  pub info_some : 1 ≤ p.num_bytes_constraint_info
  pub info_few : p.num_bytes_constraint_info ≤ 63
  pub info_clear : get_or p.general_constraint_info 0 0 < 64
  pub info_rest : (i : ℕ) → p.num_bytes_constraint_info ≤ i → get_or p.general_constraint_info i 0 ≡ 0
  pub counted : p.num_sublayer_levels ≡ sublayers - 1
  pub counted_few : sublayers - 1 ≤ 7
  pub flags_are : length p.sublayer_level_present_flag ≡ 7
  pub flags_rest : (i : ℕ) → sublayers - 1 ≤ i → get_or p.sublayer_level_present_flag i false ≡ false
  pub levels_are : length p.sublayer_level_idc ≡ 7
  pub levels_rest : (i : ℕ) → get_or p.sublayer_level_present_flag i false ≡ false → get_or p.sublayer_level_idc i 0 ≡ 0
  pub subs_are : length p.general_sub_profile_idc ≡ 255
  pub subs_few : p.num_sub_profiles ≤ 255
  pub subs_rest : (i : ℕ) → p.num_sub_profiles ≤ i → get_or p.general_sub_profile_idc i 0 ≡ 0

without_clear : (xs : List ℕ) → get_or xs 0 0 < 64 → without_flags xs ≡ xs
unfolding without_flags
without_clear [] h = refl
without_clear (x ∷ xs) h = ap (λ (b : ℕ). b ∷ xs) (omega arith)

level_kept : (b : Bool) (v : ℕ) → (b ≡ false → v ≡ 0) → (if b then v else 0) ≡ v
level_kept true v h = refl
level_kept false v h = sym (h refl)

module _ (p : VvcPtlRecord) (sublayers : ℕ) (ok : Canonical p sublayers) where
  abbrev bytes : ℕ
  bytes = p.num_bytes_constraint_info

  abbrev below : ℕ
  below = sublayers - 1

  info_kept : constraint_info p ≡ take bytes p.general_constraint_info
  info_kept = rw (ne_eqb bytes 0 (λ e. omega (arith, ok.info_some)))

  len_kept : length (constraint_info p) ≡ bytes
  len_kept = ap length info_kept ∙ length-take-le bytes p.general_constraint_info (omega (arith, ok.info_few, ok.info_is))

  clear_kept : get_or (take bytes p.general_constraint_info) 0 0 < 64
  clear_kept = rw (get_or-take bytes p.general_constraint_info 0 0 ok.info_some) ok.info_clear

  bytes_kept : padded 63 0 (without_flags (constraint_info p)) ≡ p.general_constraint_info
  bytes_kept =
      ap (λ (x : List ℕ). padded 63 0 x) (ap without_flags info_kept ∙ without_clear (take bytes p.general_constraint_info) clear_kept)
      ∙ padded_back 63 0 p.general_constraint_info bytes ok.info_is ok.info_few ok.info_rest

  has_kept : (k : ℕ) → k < below → has_level p k ≡ get_or p.sublayer_level_present_flag k false
  has_kept k h = rw (ok.counted, lt-ltb k below h)

  flags_kept : padded 7 false (up_to below (has_level p)) ≡ p.sublayer_level_present_flag
  flags_kept =
      ap (λ (x : List Bool). padded 7 false x)
      (up_to_take p.sublayer_level_present_flag false below (has_level p) (omega (arith, ok.counted_few, ok.flags_are)) has_kept)
      ∙ padded_back 7 false p.sublayer_level_present_flag below ok.flags_are ok.counted_few ok.flags_rest

  level_is : (k : ℕ) → k < below → level_of p k ≡ get_or p.sublayer_level_idc k 0
  level_is k h = level_kept (has_level p k) (get_or p.sublayer_level_idc k 0) (λ e. ok.levels_rest k (sym (has_kept k h) ∙ e))

  levels_kept : padded 7 0 (up_to below (level_of p)) ≡ p.sublayer_level_idc
  levels_kept = ap (λ (x : List ℕ). padded 7 0 x)
      (up_to_take p.sublayer_level_idc 0 below (level_of p) (omega (arith, ok.counted_few, ok.levels_are)) level_is)
      ∙ padded_back 7 0 p.sublayer_level_idc below ok.levels_are ok.counted_few (λ i h. ok.levels_rest i (ok.flags_rest i h))

  pub kept : as_written p sublayers ≡ p
  kept = λ i. record {
    general_profile_idc = p.general_profile_idc;
    general_tier_flag = p.general_tier_flag;
    general_level_idc = p.general_level_idc;
    ptl_frame_only_constraint_flag = p.ptl_frame_only_constraint_flag;
    ptl_multilayer_enabled_flag = p.ptl_multilayer_enabled_flag;
    num_bytes_constraint_info = len_kept i;
    general_constraint_info = bytes_kept i;
    num_sublayer_levels = sym ok.counted i;
    sublayer_level_present_flag = flags_kept i;
    sublayer_level_idc = levels_kept i;
    num_sub_profiles = p.num_sub_profiles;
    general_sub_profile_idc =
        padded_back 255 0 p.general_sub_profile_idc p.num_sub_profiles ok.subs_are ok.subs_few ok.subs_rest i;
  }
