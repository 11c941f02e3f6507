-- `slots::fill_slots`: the entries that are stored, and the walk before those that are left.
use Rattle.std.proofs.Common.{◌≡◌}
use Rattle.directory_fill.proofs.Filling.{Filling}
use Rattle.directory_fill.proofs.slots.fill_slots.Given as goal

abbrev pub invariant-loop-slot : goal.invariant-loop-slot
invariant-loop-slot l = let f = l.fn.walk in (l.walk.list ≡ f.list) × Filling f.list.now f.cursor l.initial.slots l.walk.cursor l.slot-index l.slots
