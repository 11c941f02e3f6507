-- `array_rules` tests the bytes that arrays begin with. Invariant: the tests so far joined with those left are the whole.
use Prim.Native.Nat.{◌-◌, ◌≤◌}
use mathlib.Core.Path.{◌≡◌}
use mathlib.Core.Bool.{true}
use lib.ListN.{length}
use Rattle.parse.specs.Parse.{times, outcome}
use Rattle.full.specs.Rules.{array_byte}
use Rattle.record_rules.specs.inner.Rules.{tested}
use Rattle.record_rules.proofs.arrays.array_rules.Given as goal

abbrev pub invariant-loop : goal.invariant-loop
invariant-loop l = (l.at ≤ length l.record)
    × (tested l.reserved l.typed (outcome (times (l.count - l.counter) array_byte l.record l.at)) ≡ tested true true (outcome (times l.count array_byte l.record l.from)))
