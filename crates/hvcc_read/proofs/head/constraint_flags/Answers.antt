-- `constraint_flags` returns the number of six bytes, from that of two and that of four.
use mathlib.Core.Path.{sym}
use Rattle.boxes.proofs.Numbers.{be_append}
use Rattle.hvcc_read.proofs.head.constraint_flags.Goals as goal

pub returns : goal.returns
returns c =
    let s = c.args.s.now in
    rw (c.number-low.ensures.0, c.number-high.ensures.0) (sym (be_append s 6 2 4))
