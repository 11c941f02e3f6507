-- `walk::start` returns the cursor after the version of a list, before all its units.
use Prim.Native.Nat.{ℕ, ◌≤◌}
use mathlib.Core.Path.{◌≡◌, refl, sym, ap, ◌∙◌}
use mathlib.Core.List.{List, [], ◌∷◌}
use native.Mathlib.Omega.{arith}
use lib.ListN.{length, get_or}
use Rattle.unit_list.specs.UnitList.{length_width}
use Rattle.unit_list.specs.inner.Walk.{TwoOrFour}
use Rattle.unit_list.proofs.Left.{decode_too_long, list_too_long, decode_versionless, list_versionless, decode_arrays, left_start, width_known}
use Rattle.unit_list.proofs.walk.start.Goals as goal

-- `walk::start` returns the cursor after the version of a list, before all its units.
-- a list with a version has a byte
has_byte : (s : List ℕ) → (length_width (get_or s 0 0) ≡ 0 → ⊥) → 1 ≤ length s
has_byte [] h = absurd (h refl)
has_byte (b ∷ s) h = omega arith

pub returns-then-list-gt-LARGEST_INPUT : goal.returns-then-list-gt-LARGEST_INPUT
returns-then-list-gt-LARGEST_INPUT c =
    let s = c.args.list.now in
    (sym (list_too_long s (omega arith)), sym (decode_too_long s (omega arith)), tt)

pub returns-then-width-eq0 : goal.returns-then-width-eq0
returns-then-width-eq0 c =
    let s : List ℕ = c.args.list.now in
    let e : length_width (get_or s 0 0) ≡ c.length_width-width.result =
    ap length_width (sym c.byte.ensures) ∙ sym c.length_width-width.ensures in
    let n : length_width (get_or s 0 0) ≡ 0 = e ∙ c.if-width-eq0.true in
    (sym (list_versionless s (omega arith) n), sym (decode_versionless s (omega arith) n), tt)

pub returns : goal.returns
returns c =
    let s : List ℕ = c.args.list.now in
    let w : ℕ = c.length_width-width.result in
    let e : length_width (get_or s 0 0) ≡ w = ap length_width (sym c.byte.ensures) ∙ sym c.length_width-width.ensures in
    let some : length_width (get_or s 0 0) ≡ 0 → ⊥ = λ z. c.if-width-eq0.false (sym e ∙ z) in
    let known : TwoOrFour w = rw e at (width_known (get_or s 0 0) some) in (
      left_start s (omega arith) w e c.if-width-eq0.false,
      sym (decode_arrays s (omega arith) w e c.if-width-eq0.false),
      record { before = omega arith; within = has_byte s some; lent = omega arith; width = known },
    )
