-- Laws of the bytes of a PTL record as they are stored: one field after another, and in the fields one element after another.
use Prim.Native.Nat.{ℕ, suc, ◌+◌, ◌*◌, ◌/◌, ◌≤◌, ◌<◌}
use mathlib.Core.Path.{◌≡◌, refl, sym, ap, ◌∙◌}
use mathlib.Core.List.{List, [], ◌∷◌, ◌++◌, append_assoc, append-nil}
use native.Mathlib.Numerals.{add-one}
use native.Mathlib.Omega.{arith}
use native.Mathlib.Decide.{dec_le}
use lib.ListN.{length, get_or, set, take, length-append}
use lib.Seq.{sets, take-suc, length-take-le, take-set-lt}
use borrow.Author.Tests.{eq-eqb, ne_eqb}
use Rattle.parse.specs.Logic.{bit}
use Rattle.parse.proofs.General.{sets_append, sets_then}
use Rattle.boxes.specs.Bytes.{to_be}
use Rattle.ptl.specs.declared.VvcPtlRecord.{VvcPtlRecord}
use Rattle.ptl_record.specs.Write.{constraint_info, with_flags, has_level, flag_byte, level_bytes, level_part, sub_profile_bytes, ptl_bytes, front_bytes}
use Rattle.ptl_record.specs.inner.Places.{one_level}
use Rattle.ptl_record.proofs.Writing.{flagged, with_first, length_subs, levels_split}
use Rattle.ptl_record.proofs.Standing.{length_one}
use Rattle.ptl_record_write.specs.inner.Places.{first_constraint_byte}

-- ---- the constraint bytes

module _ (p : VvcPtlRecord) where
  pub info_some : (p.num_bytes_constraint_info ≡ 0 → ⊥) → constraint_info p ≡ take p.num_bytes_constraint_info p.general_constraint_info
  info_some n = rw (ne_eqb _ 0 n)

  take_first : (a : List ℕ) (x : ℕ) → 0 < length a → take 1 (set a 0 x) ≡ x ∷ []
  take_first [] x h = absurd (omega arith)
  take_first (y ∷ ys) x h = refl

  -- the constraint bytes are those of the array with its first byte replaced
  pub info_stored : length p.general_constraint_info ≡ 63 → p.num_bytes_constraint_info ≤ 63
      → with_flags p (constraint_info p) ≡ take (length (constraint_info p)) (set p.general_constraint_info 0 (first_constraint_byte p))
  unfolding with_flags
  info_stored l h =
      elim (dec_le 1 p.num_bytes_constraint_info) [
        | yes k ↦ some k
        | no k ↦
            rw (eq-eqb p.num_bytes_constraint_info 0 (omega arith)) (sym (take_first p.general_constraint_info _ (omega arith)))
      ]
    where
      some : 1 ≤ p.num_bytes_constraint_info
          → with_flags p (constraint_info p) ≡ take (length (constraint_info p)) (set p.general_constraint_info 0 (first_constraint_byte p))
      some s =
          let m = p.num_bytes_constraint_info in
          let a = p.general_constraint_info in
          let k = length-take-le m a (omega arith) in
          rw (ne_eqb p.num_bytes_constraint_info 0 (λ e. omega arith))
          (with_first p (take m a) (omega arith) ∙ sym (take-set-lt m a 0 (flagged p (get_or (take m a) 0 0)) s)
          ∙ ap (λ (j : ℕ). take j (set a 0 (flagged p (get_or (take m a) 0 0)))) (sym k))

-- ---- the sub-profiles

subs_append : (xs ys : List ℕ) → sub_profile_bytes (xs ++ ys) ≡ sub_profile_bytes xs ++ sub_profile_bytes ys
unfolding sub_profile_bytes
subs_append [] ys = refl
subs_append (v ∷ vs) ys = rw (subs_append vs ys) (sym (append_assoc (to_be 4 v) (sub_profile_bytes vs) (sub_profile_bytes ys)))

-- one more sub-profile of an array, stored after those before it
pub subs_more : (d : List ℕ) (at k : ℕ) (a : List ℕ) → k < length a
    → sets (sets d at (sub_profile_bytes (take k a))) (at + k * 4) (to_be 4 (get_or a k 0)) ≡ sets d at (sub_profile_bytes (take (k + 1) a))
unfolding sub_profile_bytes
subs_more d at k a h =
    let l = length-take-le k a (omega arith) in
    let m = length_subs (take k a) in
    rw (add-one k, take-suc a k 0 h, subs_append (take k a) (get_or a k 0 ∷ []), append-nil (to_be 4 (get_or a k 0)))
    (sets_then d at (at + k * 4) (sub_profile_bytes (take k a)) (to_be 4 (get_or a k 0)) (omega arith))

-- ---- the levels

pub flag_more : (p : VvcPtlRecord) (i : ℕ) → flag_byte p (i + 1) ≡ bit (has_level p i) * 128 + flag_byte p i / 2
unfolding flag_byte
flag_more p i = rw (add-one i)

module _ (p : VvcPtlRecord) (j : ℕ) where
  abbrev one : List ℕ
  one = one_level (has_level p j) (get_or p.sublayer_level_idc j 0)

  pub levels_more : (d : List ℕ) (w : ℕ) → sets (sets d w one) (w + length one) (level_bytes p j) ≡ sets d w (level_bytes p (suc j))
  levels_more d w = rw (levels_split p j) (sets_append d w one (level_bytes p j))

  pub levels_longer : length (level_bytes p (suc j)) ≡ length one + length (level_bytes p j)
  levels_longer = rw (levels_split p j) (length-append one (level_bytes p j))

  pub levels_counted : length (level_bytes p (j + 1)) ≡ length (level_bytes p j) + bit (has_level p j)
  levels_counted = rw (add-one j) (omega (arith, levels_longer, length_one p (has_level p j) (get_or p.sublayer_level_idc j 0)))

-- ---- the whole record

module _ (p : VvcPtlRecord) where
  pub front_stored : (d : List ℕ) (at : ℕ)
      → sets
      (set (set (set d at (length (constraint_info p))) (at + 1) (p.general_profile_idc * 2 + bit p.general_tier_flag)) (at + 2)
      p.general_level_idc)
      (at + 3)
      (with_flags p (constraint_info p))
      ≡ sets d at (front_bytes p)
  front_stored d at =
      let e2 : at + 2 ≡ suc (suc at) = omega arith in
      let e3 : at + 3 ≡ suc (suc (suc at)) = omega arith in
      rw (add-one at, e2, e3)

-- two runs, an element and a run, stored one after another
four_stored : (F L S d : List ℕ) (n at : ℕ)
    → sets (set (sets (sets d at F) (at + length F) L) (at + length F + length L) n) (at + length F + length L + 1) S
    ≡ sets d at (((F ++ L) ++ (n ∷ [])) ++ S)
four_stored F L S d n at =
    let a : at + length F + length L ≡ at + length (F ++ L) = omega (arith, length-append F L) in
    let b : at + length F + length L + 1 ≡ at + length ((F ++ L) ++ (n ∷ [])) =
    omega (arith, length-append F L, length-append (F ++ L) (n ∷ [])) in
    ap (λ (x : List ℕ). sets (set x (at + length F + length L) n) (at + length F + length L + 1) S) (sets_then d at (at + length F) F L refl)
    ∙ ap (λ (x : List ℕ). sets x (at + length F + length L + 1) S) (sets_then d at (at + length F + length L) (F ++ L) (n ∷ []) a)
    ∙ sets_then d at (at + length F + length L + 1) ((F ++ L) ++ (n ∷ [])) S b

-- the fields of a PTL, stored one after another
pub ptl_stored : (p : VvcPtlRecord) (sublayers : ℕ) (d : List ℕ) (at : ℕ)
    → let F = length (front_bytes p) in
    let L = length (level_part p sublayers) in
    sets (set (sets (sets d at (front_bytes p)) (at + F) (level_part p sublayers)) (at + F + L) p.num_sub_profiles) (at + F + L + 1)
    (sub_profile_bytes (take p.num_sub_profiles p.general_sub_profile_idc))
    ≡ sets d at (ptl_bytes p sublayers)
unfolding ptl_bytes
ptl_stored p sublayers d at =
    four_stored (front_bytes p) (level_part p sublayers) (sub_profile_bytes (take p.num_sub_profiles p.general_sub_profile_idc)) d
    p.num_sub_profiles at
