-- `split_annex_b_at` says where unit k of a stream lies. The loop's invariant: unit `left` of those left is unit k.
use Prim.Native.Nat.{◌-◌, ◌≤◌}
use mathlib.Core.Path.{◌≡◌}
use lib.ListN.{length}
use Rattle.boxes.specs.Places.{nth_found}
use Rattle.annex_b.specs.Stream.{split_stream}
use Rattle.annex_b.proofs.Streams.{stream_left}
use Rattle.annex_b.proofs.split_annex_b_at.Given as goal

abbrev pub invariant-loop-found : goal.invariant-loop-found
invariant-loop-found l = (l.at ≤ length l.stream) × (nth_found (stream_left l.stream l.at) l.left ≡ nth_found (split_stream l.stream) l.k)

abbrev pub decreases-loop-found : goal.decreases-loop-found
decreases-loop-found l = length l.stream - l.at
