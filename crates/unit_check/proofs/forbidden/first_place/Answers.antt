-- `forbidden::first_place` returns the first place of what may not occur in a unit. The loop's invariant: it is not from the front up to `i`.
use Prim.Native.Nat.{ℕ}
use mathlib.Core.Path.{sym, ◌∙◌}
use mathlib.Core.List.{List}
use native.Mathlib.Omega.{arith}
use lib.ListN.{drop}
use Rattle.unit_check.specs.UnitCheck.{starts_forbidden}
use Rattle.start_code.proofs.FirstPlaces.{before_here, before_next}
use Rattle.unit_check.proofs.ForbiddenBytes.{forbidden_past, forbidden_jump, forbidden_end}
use Rattle.unit_check.proofs.forbidden.first_place.Goals as goal

pub loop-i-preserved-then-third-gt3 : goal.loop-i-preserved-then-third-gt3
loop-i-preserved-then-third-gt3 c =
    let e = forbidden_jump c.args.u.now c.loop-i.i (omega arith) c.if-third-gt3.true in
    (omega arith, omega arith)

pub loop-i-preserved-then-third-eq0 : goal.loop-i-preserved-then-third-eq0
loop-i-preserved-then-third-eq0 c =
    let off = sym c.at_place.ensures ∙ c.if-at_place.false in
    let e = before_next starts_forbidden c.args.u.now c.loop-i.i (omega arith) off in
    (omega arith, omega arith)

pub loop-i-preserved : goal.loop-i-preserved
loop-i-preserved c =
    let off = sym c.at_place-else-third-eq0.ensures ∙ c.if-at_place-2.false in
    let e = forbidden_past c.args.u.now c.loop-i.i (omega arith) c.if-third-eq0.false off in
    (omega arith, omega arith)

pub returns-then-u-i-lt3 : goal.returns-then-u-i-lt3
returns-then-u-i-lt3 c =
    let e = forbidden_end c.args.u.now c.loop-i.i c.loop-i.invariant.0 c.if-u-i-lt3.true in
    omega arith

pub returns-then-at_place : goal.returns-then-at_place
returns-then-at_place c =
    let u : List ℕ = c.args.u.now in
    let e = before_here starts_forbidden (drop c.loop-i.i u) (sym c.at_place.ensures ∙ c.if-at_place.true) in
    omega arith

pub returns-then-at_place-2 : goal.returns-then-at_place-2
returns-then-at_place-2 c =
    let u : List ℕ = c.args.u.now in
    let e = before_here starts_forbidden (drop c.loop-i.i u) (sym c.at_place-else-third-eq0.ensures ∙ c.if-at_place-2.true) in
    omega arith
