-- `levels_len` counts the levels that are written.
use native.Mathlib.Omega.{arith}
use borrow.Author.Rules.{rules}
use Rattle.ptl_record.specs.Write.{level_bytes}
use Rattle.ptl_record_write.proofs.Stores.{levels_counted}
use Rattle.ptl_record_write.proofs.write.levels_len.Goals as goal

pub loop-i-init : goal.loop-i-init
unfolding level_bytes
loop-i-init c =
    search rules

pub loop-i-preserved : goal.loop-i-preserved
loop-i-preserved c =
    let e = levels_counted c.args.p c.loop-i.i in
    let b = rw c.has_level.ensures at c.from-n.ensures in
    grind (arith, e, b)
