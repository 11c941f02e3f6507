-- `rbsp_len` returns the length of the RBSP: what is counted and what is left make up the whole.
use Prim.Native.Nat.{◌+◌, ◌-◌, ◌≤◌}
use mathlib.Core.Path.{◌≡◌}
use lib.ListN.{length, drop}
use Rattle.rbsp.specs.Rbsp.{rbsp, unescape}
use Rattle.rbsp.proofs.fill.rbsp_len.Given as goal

abbrev pub invariant-loop-b : goal.invariant-loop-b
invariant-loop-b l = (l.b-index ≤ length l.payload) × (l.zeros ≤ l.b-index) × (l.n ≤ l.b-index) × (length (rbsp l.payload) ≡ l.n + length (unescape l.zeros (drop l.b-index l.payload)))
