-- `split_annex_b_count` counts the units of a stream. The loop's invariant: those passed and those left are all.
use Prim.Native.Nat.{◌-◌, ◌≤◌}
use mathlib.Core.Path.{◌≡◌}
use lib.ListN.{length}
use Rattle.boxes.specs.Walk.{count_found}
use Rattle.boxes.proofs.Walk.{plus}
use Rattle.annex_b.specs.Stream.{split_stream}
use Rattle.annex_b.proofs.Streams.{stream_left}
use Rattle.annex_b.proofs.split_annex_b_count.Given as goal

abbrev pub invariant-loop-step : goal.invariant-loop-step
invariant-loop-step l = (l.at ≤ length l.stream) × (l.n ≤ l.at) × (plus l.n (count_found (stream_left l.stream l.at)) ≡ count_found (split_stream l.stream))

abbrev pub decreases-loop-step : goal.decreases-loop-step
decreases-loop-step l = length l.stream - l.at
