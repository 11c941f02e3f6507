-- `read_levels` returns the flags and the levels: the loop fills both arrays from the highest sublayer down.
use Rattle.ptl_record_read.proofs.Places.{Filled}
use Rattle.ptl_record_read.proofs.read.read_levels.Given as goal

abbrev pub invariant-loop-i : goal.invariant-loop-i
invariant-loop-i l = Filled l.s l.at l.flags l.m l.present l.idc l.next l.f l.i
