-- Laws of the bytes of a PTL record: field by field, and their lengths.
use Prim.Native.Nat.{ℕ, zero, suc, ◌+◌, ◌-◌, ◌*◌, ◌%◌, ◌≤◌, ◌<◌}
use mathlib.Core.Path.{◌≡◌, refl}
use mathlib.Core.Bool.{Bool, true, false}
use mathlib.Core.List.{List, [], ◌∷◌, ◌++◌}
use native.Mathlib.Omega.{arith}
use native.Mathlib.Decide.{dec_le}
use lib.Dec.{leb, ltb}
use lib.ListN.{length, get_or, set, take, length-append}
use lib.Seq.{length-take-le}
use borrow.Author.Tests.{leb-true, eq-eqb, ne_eqb}
use Rattle.std.specs.Prelude.{if◌then◌else◌}
use Rattle.parse.specs.Logic.{bit}
use Rattle.parse.proofs.General.{both_true}
use Rattle.boxes.proofs.Numbers.{length_to_be}
use Rattle.ptl.specs.declared.VvcPtlRecord.{VvcPtlRecord}
use Rattle.ptl_record.specs.Write.{constraint_info, with_flags, has_level, flag_byte, level_bytes}
use Rattle.ptl_record.specs.Write.{level_part, sub_profile_bytes, ptl_bytes, ptl_fits, front_bytes}
use Rattle.ptl_record.specs.inner.Places.{one_level}

-- ---- the constraint bytes

module _ (p : VvcPtlRecord) where
  pub length_with_flags : (xs : List ℕ) → length (with_flags p xs) ≡ length xs
  unfolding with_flags
  length_with_flags [] = refl
  length_with_flags (x ∷ xs) = refl

  -- a first byte with the two flags in its top bits
  abbrev pub flagged : ℕ → ℕ
  flagged b = bit p.ptl_frame_only_constraint_flag * 128 + bit p.ptl_multilayer_enabled_flag * 64 + b % 64

  pub with_first : (xs : List ℕ) → 0 < length xs → with_flags p xs ≡ set xs 0 (flagged (get_or xs 0 0))
  unfolding with_flags
  with_first [] h = absurd (omega arith)
  with_first (x ∷ xs) h = refl

  pub info_long : length p.general_constraint_info ≡ 63 → p.num_bytes_constraint_info ≤ 63
      → (1 ≤ length (constraint_info p)) × (length (constraint_info p) ≤ 63)
  info_long l h =
      elim (dec_le 1 p.num_bytes_constraint_info) [
        | yes k ↦
            (let m = length-take-le p.num_bytes_constraint_info p.general_constraint_info (omega arith) in
            rw (ne_eqb p.num_bytes_constraint_info 0 (λ e. omega arith)) (omega arith, omega arith))
        | no k ↦ rw (eq-eqb p.num_bytes_constraint_info 0 (omega arith)) (omega arith, omega arith)
      ]

-- ---- the sub-profiles

pub length_subs : (xs : List ℕ) → length (sub_profile_bytes xs) ≡ length xs * 4
unfolding sub_profile_bytes
length_subs [] = refl
length_subs (v ∷ vs) = rw (length-append, length_to_be 4 v, length_subs vs) (omega arith)

-- ---- the levels

pub levels_split : (p : VvcPtlRecord) (j : ℕ) → level_bytes p (suc j) ≡ one_level (has_level p j) (get_or p.sublayer_level_idc j 0) ++ level_bytes p j
unfolding level_bytes
levels_split p j = go (has_level p j)
  where
    go : (b : Bool) → (if b then get_or p.sublayer_level_idc j 0 ∷ level_bytes p j else level_bytes p j)
        ≡ one_level b (get_or p.sublayer_level_idc j 0) ++ level_bytes p j
    go true = refl
    go false = refl

-- no more bytes than levels
levels_few : (p : VvcPtlRecord) (m : ℕ) → length (level_bytes p m) ≤ m
unfolding level_bytes
levels_few p zero = omega arith
levels_few p (suc m) = go (levels_few p m) (has_level p m)
  where
    go : length (level_bytes p m) ≤ m → (b : Bool) → length (if b then get_or p.sublayer_level_idc m 0 ∷ level_bytes p m else level_bytes p m) ≤ suc m
    go h true = omega arith
    go h false = omega arith

-- the flag byte and the levels of up to seven sublayers
pub part_few : (p : VvcPtlRecord) (sublayers : ℕ) → sublayers ≤ 7 → length (level_part p sublayers) ≤ 7
part_few p sublayers h = go (ltb 1 sublayers)
  where
    go : (b : Bool) → length (if b then flag_byte p (sublayers - 1) ∷ level_bytes p (sublayers - 1) else []) ≤ 7
    go true = omega (arith, levels_few p (sublayers - 1))
    go false = omega arith

-- ---- a record that fits

-- every field of the PTL fits its place in a record, in plain words
pub record Fitting (p : VvcPtlRecord) : Type 0 where
  pub profile : p.general_profile_idc ≤ 127
  pub info : p.num_bytes_constraint_info ≤ 63
  pub levels : p.num_sublayer_levels ≤ 7
  pub subs : p.num_sub_profiles ≤ 255

pub fitting : (p : VvcPtlRecord) → ptl_fits p ≡ true → Fitting p
unfolding ptl_fits
fitting p e =
    let a = both_true (leb p.general_profile_idc 127) _ e in
    let b = both_true (leb p.num_bytes_constraint_info 63) _ a.1 in
    let c = both_true (leb p.num_sublayer_levels 7) _ b.1 in
    record { profile = leb-true _ _ a.0; info = leb-true _ _ b.0; levels = leb-true _ _ c.0; subs = leb-true _ _ c.1 }

-- ---- the whole record

module _ (p : VvcPtlRecord) where
  pub length_front : length (front_bytes p) ≡ 3 + length (constraint_info p)
  length_front = rw (length_with_flags p (constraint_info p)) (omega arith)

module _ (p : VvcPtlRecord) (sublayers : ℕ) where
  abbrev F : List ℕ
  F = front_bytes p

  abbrev L : List ℕ
  L = level_part p sublayers

  abbrev N : List ℕ
  N = p.num_sub_profiles ∷ []

  abbrev S : List ℕ
  S = sub_profile_bytes (take p.num_sub_profiles p.general_sub_profile_idc)

  pub length_ptl : p.num_sub_profiles ≤ length p.general_sub_profile_idc
      → length (ptl_bytes p sublayers) ≡ length F + length L + 1 + p.num_sub_profiles * 4
  unfolding ptl_bytes
  length_ptl h =
      let k = length-take-le p.num_sub_profiles p.general_sub_profile_idc h in
      let s = length_subs (take p.num_sub_profiles p.general_sub_profile_idc) in
      omega (arith, length-append F L, length-append (F ++ L) N, length-append ((F ++ L) ++ N) S)
