-- `forbidden::ends_in_zero` tells whether the last byte is 00.
use mathlib.Core.Path.{sym}
use native.Mathlib.Omega.{arith}
use Rattle.unit_check.proofs.Checks.{ends_none, ends_last}
use Rattle.unit_check.proofs.forbidden.ends_in_zero.Goals as goal

pub returns-then-u-eq0 : goal.returns-then-u-eq0
returns-then-u-eq0 c =
    sym (ends_none c.args.u.now (omega arith))

pub returns : goal.returns
returns c =
    sym (ends_last c.args.u.now (omega (arith, c.if-u-eq0.false)))
