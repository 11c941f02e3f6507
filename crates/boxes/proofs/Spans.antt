-- Laws of spans: their lengths, and what they hold.
use Prim.Native.Nat.{ℕ, ◌+◌, ◌≤◌}
use mathlib.Core.Path.{◌≡◌}
use mathlib.Core.List.{List, [], ◌∷◌}
use native.Mathlib.Omega.{arith}
use lib.ListN.{length, length-drop}
use lib.Seq.{length-take-le}
use Rattle.boxes.specs.Parts.{held}
use Rattle.boxes.specs.declared.Span.{Span}

-- a span that lies in s holds as many bytes as it says
pub held_long : (s : List ℕ) (a : Span) → a.start + a.len ≤ length s → length (held s a) ≡ a.len
held_long s a h = let l = length-drop a.start s in length-take-le a.len _ (omega arith)

-- how many bytes they hold together
abbrev pub span_lengths : List Span → ℕ
span_lengths [] = 0
span_lengths (a ∷ xs) = a.len + span_lengths xs
