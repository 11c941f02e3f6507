-- `stream::put_kept` stores the first kept units from a place of the item on. Invariant: those stored and those left are the whole.
use Prim.Native.Nat.{◌-◌, ◌≤◌}
use lib.ListN.{length}
use Rattle.access_unit.specs.inner.Gathered.{kept_left}
use Rattle.access_unit_annex_b.specs.inner.Stream.{first_units, rest_units}
use Rattle.access_unit_annex_b.proofs.Storing.{FirstLeft}
use Rattle.access_unit_annex_b.proofs.stream.put_kept.Given as goal

abbrev pub invariant-loop-left : goal.invariant-loop-left
invariant-loop-left l = (l.at ≤ length l.item)
    × FirstLeft l.codes l.item l.initial.out l.to (first_units l.n (kept_left l.size l.target l.item l.from)) (rest_units l.n (kept_left l.size l.target l.item l.from))
    (kept_left l.size l.target l.item l.at) l.left l.out l.end

abbrev pub decreases-loop-left : goal.decreases-loop-left
decreases-loop-left l = length l.item - l.at
