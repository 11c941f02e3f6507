-- `forbidden::at_place` tells whether what may not occur in a unit is at the place.
use mathlib.Core.Path.{sym, ◌∙◌}
use native.Mathlib.Omega.{arith}
use Rattle.unit_check.proofs.ForbiddenBytes.{first_not, second_not, third_low, third_high, third_three}
use Rattle.unit_check.proofs.forbidden.at_place.Goals as goal

pub returns-then-u-i-ne0 : goal.returns-then-u-i-ne0
returns-then-u-i-ne0 c =
    sym (first_not c.args.u.now c.args.i c.requires c.if-u-i-ne0.true)

pub returns-then-u-i-ne0-2 : goal.returns-then-u-i-ne0-2
returns-then-u-i-ne0-2 c =
    sym (second_not c.args.u.now c.args.i c.requires c.if-u-i-ne0.false c.if-u-i-ne0-2.true)

pub returns-then-third-lt3 : goal.returns-then-third-lt3
returns-then-third-lt3 c =
    sym (third_low c.args.u.now c.args.i c.requires c.if-u-i-ne0.false c.if-u-i-ne0-2.false (omega arith))

pub returns-then-third-ne3 : goal.returns-then-third-ne3
returns-then-third-ne3 c =
    sym (third_high c.args.u.now c.args.i c.requires c.if-u-i-ne0.false c.if-u-i-ne0-2.false
    (omega arith))

pub returns : goal.returns
returns c =
    c.above_three.ensures
    ∙ sym (third_three c.args.u.now c.args.i c.requires c.if-u-i-ne0.false
    c.if-u-i-ne0-2.false (omega arith))
