-- `check_unit` answers yes for a unit that is not empty, does not end in 00 and has nothing in it that may not occur, else no; 23 first.
use Prim.Native.Nat.{ℕ, ◌<◌}
use mathlib.Core.Path.{◌≡◌, sym, ◌∙◌}
use mathlib.Core.List.{List}
use native.Mathlib.Omega.{arith}
use mathlib.Core.Bool.{true, false}
use lib.ListN.{length}
use Rattle.parse.proofs.Lent.{lent_within}
use Rattle.unit_check.specs.UnitCheck.{ends_in_zero}
use Rattle.unit_check.proofs.Checks.{unchecked_empty, unchecked_zero, unchecked_forbidden, checked_whole}
use Rattle.unit_check.proofs.check_unit.Goals as goal

pub returns-then-unit-eq0 : goal.returns-then-unit-eq0
returns-then-unit-eq0 c =
    let u : List ℕ = c.args.unit.now in
    rw (unchecked_empty u (omega arith)) (sym (lent_within u _ (omega arith)))

pub returns-then-ends_in_zero : goal.returns-then-ends_in_zero
returns-then-ends_in_zero c =
    let u : List ℕ = c.args.unit.now in
    let some : 0 < length u = omega arith in
    let ends : ends_in_zero u ≡ true = sym c.ends_in_zero.ensures ∙ c.if-ends_in_zero.true in
    rw (unchecked_zero u some ends) (sym (lent_within u _ (omega arith)))

pub returns-then-first_place-unit : goal.returns-then-first_place-unit
returns-then-first_place-unit c =
    let u : List ℕ = c.args.unit.now in
    let some : 0 < length u = omega arith in
    let ends : ends_in_zero u ≡ false = sym c.ends_in_zero.ensures ∙ c.if-ends_in_zero.false in
    rw (unchecked_forbidden u some ends (omega arith)) (sym (lent_within u _ (omega arith)))

pub returns : goal.returns
returns c =
    let u : List ℕ = c.args.unit.now in
    let some : 0 < length u = omega arith in
    let ends : ends_in_zero u ≡ false = sym c.ends_in_zero.ensures ∙ c.if-ends_in_zero.false in
    rw (checked_whole u some ends (omega arith)) (sym (lent_within u _ (omega arith)))
