-- `source::next_kept` finds the next kept unit. Invariant: the kept units from `at` on are those from `from` on.
use Prim.Native.Nat.{◌-◌, ◌≤◌}
use mathlib.Core.Path.{◌≡◌}
use lib.ListN.{length}
use Rattle.access_unit.specs.inner.Gathered.{kept_left}
use Rattle.access_unit_nal.proofs.source.next_kept.Given as goal

abbrev pub invariant-loop-step : goal.invariant-loop-step
invariant-loop-step l = (l.from ≤ l.at) × (l.at ≤ length l.item) × (kept_left l.size l.target l.item l.at ≡ kept_left l.size l.target l.item l.from)

abbrev pub decreases-loop-step : goal.decreases-loop-step
decreases-loop-step l = length l.item - l.at
