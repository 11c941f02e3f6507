-- `fill_rbsp` writes as much of the RBSP as there is room for: what is at the front and what is left make up the whole.
use Prim.Native.Nat.{◌-◌}
use lib.ListN.{length}
use Rattle.rbsp.proofs.Filling.{Filled}
use Rattle.rbsp.proofs.fill.fill_rbsp.Given as goal

abbrev pub invariant-loop-b : goal.invariant-loop-b
invariant-loop-b l = Filled l.payload l.initial.out l.out l.zeros l.n l.b-index
