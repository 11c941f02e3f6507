-- `flag_byte` returns the byte of flags: the loop shifts them in from the top.
use native.Mathlib.Omega.{arith}
use borrow.Author.Rules.{rules}
use Rattle.ptl_record.specs.Write.{flag_byte}
use Rattle.ptl_record_write.proofs.Stores.{flag_more}
use Rattle.ptl_record_write.proofs.write.flag_byte.Goals as goal

pub loop-i-init : goal.loop-i-init
unfolding flag_byte
loop-i-init c =
    search rules

pub loop-i-preserved : goal.loop-i-preserved
loop-i-preserved c =
    let e = flag_more c.args.p c.loop-i.i in
    let b = rw c.has_level.ensures at c.from.ensures in
    grind (arith, e, b)
