-- A PTL record read after writing, between other bytes.
use Prim.Native.Nat.{ℕ, ◌+◌, ◌-◌, ◌*◌, ◌/◌, ◌%◌, ◌^◌, ◌≤◌, ◌<◌}
use mathlib.Core.Path.{◌≡◌, refl, sym, ap, ◌∙◌}
use mathlib.Core.Bool.{Bool, true, false}
use mathlib.Core.List.{List, [], ◌∷◌, ◌++◌}
use native.Mathlib.Omega.{arith}
use lib.Dec.{ltb}
use lib.ListN.{length, get_or, take, drop, length-append}
use lib.Seq.{length-take-le, get_or-take, get_or-set_same}
use borrow.Author.Tests.{eq-eqb, ne_eqb, ltb-false}
use Rattle.parse.specs.Parse.{value}
use Rattle.parse.specs.Logic.{bit}
use Rattle.parse.proofs.General.{bit_le}
use Rattle.bit_reader.specs.Bits.{is_set}
use Rattle.ptl.specs.Ptl.{padded, present_flags, without_flags}
use Rattle.ptl.specs.declared.VvcPtlRecord.{VvcPtlRecord}
use Rattle.ptl_record.specs.Read.{vvc_ptl_record}
use Rattle.ptl_record.specs.Write.{constraint_info, with_flags, has_level, flag_byte, level_bytes}
use Rattle.ptl_record.specs.Write.{level_part, sub_profile_bytes, ptl_bytes, ptl_fits, front_bytes}
use Rattle.ptl_record.specs.AsWritten.{up_to, level_of, as_written}
use Rattle.ptl_record.specs.inner.Places.{words, levels_len, levels_at, flags_at, levels_start, count_place, ptl_end, ptl_fields}
use Rattle.ptl_record.proofs.Reading.{reads_after}
use Rattle.ptl_record.proofs.Writing.{Fitting, fitting, flagged, with_first, info_long, length_with_flags, length_front, length_ptl}
use Rattle.ptl_record.proofs.AsWritten.{Canonical, kept, bytes_again}
use Rattle.ptl_record.proofs.Standing.{Stands, stands_left, stands_right, stands_between, stands_head, stands_take}
use Rattle.ptl_record.proofs.Standing.{is_set_bit, flags_cleared, flag_small, len_back, flags_back, levels_back, words_back}

-- a PTL whose fields fit their places and whose arrays are as the struct has them
pub record Writable (p : VvcPtlRecord) : Type 0 where
  pub fits : ptl_fits p ≡ true
  pub info_is : length p.general_constraint_info ≡ 63
  pub subs_are : length p.general_sub_profile_idc ≡ 255
  pub subs_small : (i : ℕ) → get_or p.general_sub_profile_idc i 0 < 2 ^ 32

tier_back : (b : Bool) (n : ℕ) → is_set ((n * 2 + bit b) % 2) ≡ b
tier_back true n = eq-eqb ((n * 2 + 1) % 2) 1 (omega arith)
tier_back false n = ne_eqb ((n * 2 + 0) % 2) 1 (λ e. omega arith)

module _ (p : VvcPtlRecord) (ok : Writable p) (sublayers : ℕ) (few : sublayers ≤ 7) (s : List ℕ) (at : ℕ)
    (st : Stands s at (ptl_bytes p sublayers)) where
  abbrev ci : List ℕ
  ci = constraint_info p

  abbrev F : List ℕ
  F = front_bytes p

  abbrev W : List ℕ
  W = with_flags p (constraint_info p)

  abbrev L : List ℕ
  L = level_part p sublayers

  abbrev N : List ℕ
  N = p.num_sub_profiles ∷ []

  abbrev vs : List ℕ
  vs = take p.num_sub_profiles p.general_sub_profile_idc

  abbrev S : List ℕ
  S = sub_profile_bytes vs

  plain : Fitting p
  plain = fitting p ok.fits

  long : (1 ≤ length ci) × (length ci ≤ 63)
  long = info_long p ok.info_is plain.info

  -- the parts where they lie
  st_fLN : Stands s at ((F ++ L) ++ N)
  unfolding ptl_bytes
  st_fLN = stands_left s at ((F ++ L) ++ N) S st

  st_fL : Stands s at (F ++ L)
  st_fL = stands_left s at (F ++ L) N st_fLN

  st_f : Stands s at F
  st_f = stands_left s at F L st_fL

  st_w : Stands s (at + 3) W
  st_w = stands_right s at (length ci ∷ (p.general_profile_idc * 2 + bit p.general_tier_flag) ∷ p.general_level_idc ∷ []) W st_f

  abbrev after : ℕ
  after = at + 3 + length ci

  abbrev count : ℕ
  count = after + length L

  st_l : Stands s after L
  st_l = let e : at + length F ≡ after = omega (arith, length_front p) in rw e at (stands_right s at F L st_fL)

  st_n : Stands s count N
  st_n =
      let e : at + length (F ++ L) ≡ count = omega (arith, length_front p, length-append F L) in
      rw e at (stands_right s at (F ++ L) N st_fLN)

  st_s : Stands s (count + 1) S
  unfolding ptl_bytes
  st_s =
      let e : at + length ((F ++ L) ++ N) ≡ count + 1 = omega (arith, length_front p, length-append F L, length-append (F ++ L) N) in
      rw e at (stands_right s at ((F ++ L) ++ N) S st)

  -- the fields before the levels
  b0 : get_or s at 0 ≡ length ci
  b0 = stands_head s at _ _ st_f

  b1 : get_or s (at + 1) 0 ≡ p.general_profile_idc * 2 + bit p.general_tier_flag
  b1 = st_f.same 1 (omega arith)

  b2 : get_or s (at + 2) 0 ≡ p.general_level_idc
  b2 = st_f.same 2 (omega arith)

  b3 : get_or s (at + 3) 0 ≡ flagged p (get_or ci 0 0)
  b3 =
      let l = length_with_flags p ci in
      let e : at + 3 + 0 ≡ at + 3 = omega arith in
      rw e at (st_w.same 0 (omega (arith, long)))
      ∙ ap (λ (x : List ℕ). get_or x 0 0) (with_first p ci long.0)
      ∙ get_or-set_same ci 0 (flagged p (get_or ci 0 0)) 0 long.0

  tops : (bit p.ptl_frame_only_constraint_flag ≤ 1) × (bit p.ptl_multilayer_enabled_flag ≤ 1)
  tops = (bit_le p.ptl_frame_only_constraint_flag, bit_le p.ptl_multilayer_enabled_flag)

  profile_back : get_or s (at + 1) 0 / 2 ≡ p.general_profile_idc
  profile_back = omega (arith, b1, bit_le p.general_tier_flag)

  tier_is : is_set (get_or s (at + 1) 0 % 2) ≡ p.general_tier_flag
  tier_is = rw b1 (tier_back p.general_tier_flag p.general_profile_idc)

  frame_is : is_set (get_or s (at + 3) 0 / 128) ≡ p.ptl_frame_only_constraint_flag
  frame_is =
      let e : get_or s (at + 3) 0 / 128 ≡ bit p.ptl_frame_only_constraint_flag = omega (arith, b3, tops) in
      rw e (is_set_bit p.ptl_frame_only_constraint_flag)

  multilayer_is : is_set (get_or s (at + 3) 0 / 64 % 2) ≡ p.ptl_multilayer_enabled_flag
  multilayer_is =
      let e : get_or s (at + 3) 0 / 64 % 2 ≡ bit p.ptl_multilayer_enabled_flag = omega (arith, b3, tops) in
      rw e (is_set_bit p.ptl_multilayer_enabled_flag)

  info_back : without_flags (take (length ci) (drop (at + 3) s)) ≡ without_flags ci
  info_back =
      ap (λ (n : ℕ). without_flags (take n (drop (at + 3) s))) (sym (length_with_flags p ci))
      ∙ ap without_flags (stands_take s (at + 3) W st_w)
      ∙ flags_cleared p ci

  -- the levels
  abbrev m : ℕ
  m = sublayers - 1

  abbrev flags : ℕ
  flags = flags_at sublayers s after

  record Levelled : Type 0 where
    pub byte : flags < 256
    pub end_is : levels_start sublayers after + levels_len m flags ≡ count
    pub flags_are : present_flags m flags ≡ up_to m (has_level p)
    pub levels_are : levels_at m flags s (levels_start sublayers after) ≡ up_to m (level_of p)

  levelled : (b : Bool) → ltb 1 sublayers ≡ b → Levelled
  unfolding levels_len present_flags levels_at up_to
  levelled true e =
      let x : Stands s after (flag_byte p m ∷ level_bytes p m) = rw e at st_l in
      let f = stands_head s after (flag_byte p m) (level_bytes p m) x in
      let y = stands_right s after (flag_byte p m ∷ []) (level_bytes p m) x in
      let small : m < 7 = omega arith in
      record {
        byte = rw (e, f) (flag_small p m);
        end_is = rw (e, f, len_back p m small) (omega arith);
        flags_are = rw (e, f, flags_back p m small);
        levels_are = rw (e, f, levels_back p m small s (after + 1) y);
      }
  levelled false e =
      let z : m ≡ 0 = omega (arith, ltb-false 1 sublayers e) in
      record { byte = rw e (omega arith); end_is = rw (e, z) refl; flags_are = rw z refl; levels_are = rw z refl }

  facts : Levelled
  facts = levelled (ltb 1 sublayers) refl

  -- the sub-profiles
  count_is : get_or s count 0 ≡ p.num_sub_profiles
  count_is = stands_head s count p.num_sub_profiles [] st_n

  subs_fit : p.num_sub_profiles ≤ length p.general_sub_profile_idc
  subs_fit = omega (arith, plain.subs, ok.subs_are)

  vs_long : length vs ≡ p.num_sub_profiles
  vs_long = length-take-le p.num_sub_profiles p.general_sub_profile_idc subs_fit

  subs_back : words p.num_sub_profiles s (count + 1) ≡ vs
  subs_back =
      ap (λ (n : ℕ). words n s (count + 1)) (sym vs_long)
      ∙ words_back s (count + 1) vs
      (λ k h. rw (get_or-take p.num_sub_profiles p.general_sub_profile_idc k 0 (omega (arith, vs_long))) (ok.subs_small k)) st_s

  end_is : ptl_end s count ≡ at + length (ptl_bytes p sublayers)
  end_is = omega (arith, count_is, length_ptl p sublayers subs_fit, length_front p)

  abbrev read : VvcPtlRecord
  read = ptl_fields s at (length ci) m (padded 7 false (present_flags m flags)) (padded 7 0 (levels_at m flags s (levels_start sublayers after))) count

  fields : read ≡ as_written p sublayers
  fields = λ i. record {
    general_profile_idc = profile_back i;
    general_tier_flag = tier_is i;
    general_level_idc = b2 i;
    ptl_frame_only_constraint_flag = frame_is i;
    ptl_multilayer_enabled_flag = multilayer_is i;
    num_bytes_constraint_info = length ci;
    general_constraint_info = padded 63 0 (info_back i);
    num_sublayer_levels = m;
    sublayer_level_present_flag = padded 7 false (facts.flags_are i);
    sublayer_level_idc = padded 7 0 (facts.levels_are i);
    num_sub_profiles = count_is i;
    general_sub_profile_idc = padded 255 0 ((ap (λ (n : ℕ). words n s (count + 1)) count_is ∙ subs_back) i);
  }

  -- where the bytes of a PTL lie, what they keep of it is read
  pub read_standing : vvc_ptl_record sublayers s at ≡ value (as_written p sublayers) (at + length (ptl_bytes p sublayers))
  read_standing =
      let l = length_ptl p sublayers subs_fit in
      let h : at < length s = omega (arith, st.room) in
      let n : length ci ≡ get_or s at 0 % 64 = omega (arith, b0, long) in
      let r = reads_after sublayers s at h (length ci) n long.0 facts.byte in
      let c : count_place s at (length ci) sublayers ≡ count = facts.end_is in
      let q = rw c at r in
      let k : ptl_end s count ≤ length s = omega (arith, end_is, st.room) in
      q.there k ∙ rw (fields, end_is)

-- a PTL that was written is read again, whatever comes before and after
pub round_trip : (p : VvcPtlRecord) → Writable p → (sublayers : ℕ) → sublayers ≤ 7 → (xs ys : List ℕ)
    → vvc_ptl_record sublayers (xs ++ (ptl_bytes p sublayers ++ ys)) (length xs)
    ≡ value (as_written p sublayers) (length xs + length (ptl_bytes p sublayers))
round_trip p ok sublayers few xs ys =
    read_standing p ok sublayers few (xs ++ (ptl_bytes p sublayers ++ ys)) (length xs) (stands_between xs (ptl_bytes p sublayers) ys)

-- a PTL as it is read is read whole after writing
pub round_trip_kept : (p : VvcPtlRecord) → Writable p → (sublayers : ℕ) → sublayers ≤ 7 → Canonical p sublayers → (xs ys : List ℕ)
    → vvc_ptl_record sublayers (xs ++ (ptl_bytes p sublayers ++ ys)) (length xs) ≡ value p (length xs + length (ptl_bytes p sublayers))
round_trip_kept p ok sublayers few whole xs ys = rw (kept p sublayers whole) at (round_trip p ok sublayers few xs ys)

-- what was read is written as the same bytes
pub rewritten : (p : VvcPtlRecord) → Writable p → (sublayers : ℕ) → ptl_bytes (as_written p sublayers) sublayers ≡ ptl_bytes p sublayers
rewritten p ok sublayers = bytes_again p ok.fits ok.info_is ok.subs_are sublayers
