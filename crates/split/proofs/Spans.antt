-- Laws of spans one after another, none empty: those of the units of an item and of a stream.
use Prim.Native.Nat.{ℕ, zero, suc, ◌+◌, ◌≤◌, ◌<◌}
use mathlib.Core.List.{List, [], ◌∷◌}
use native.Mathlib.Omega.{arith}
use lib.ListN.{length, get_or}
use Rattle.boxes.specs.Parts.{nowhere}
use Rattle.boxes.specs.declared.Span.{Span}
use Rattle.boxes.proofs.Spans.{span_lengths}

-- each starts after place p and after the one before it, and the last ends at e or before
pub data Apart (e : ℕ) : ℕ → List Span → Type 0 where
  none : {p : ℕ} → p ≤ e → Apart e p []
  more : {p : ℕ} {a : Span} {xs : List Span} → p < a.start → 0 < a.len → Apart e (a.start + a.len) xs → Apart e p (a ∷ xs)

-- their count and their lengths together are no more than the bytes from p to e
pub apart_sum : {e p : ℕ} {xs : List Span} → Apart e p xs → p + (length xs + span_lengths xs) ≤ e
apart_sum (none h) = omega arith
apart_sum (more h k r) = let l = apart_sum r in omega arith

-- each ends at e or before; so does the empty span, which is used where there is none
pub apart_inside : {e p : ℕ} {xs : List Span} → Apart e p xs → (k : ℕ) → (get_or xs k nowhere).start + (get_or xs k nowhere).len ≤ e
apart_inside (none h) k = omega arith
apart_inside {e} (more h l r) zero = let b = apart_sum r in omega arith
apart_inside (more h l r) (suc k) = apart_inside r k

-- none is empty
pub apart_some : {e p : ℕ} {xs : List Span} → Apart e p xs → (k : ℕ) → k < length xs → 0 < (get_or xs k nowhere).len
apart_some (none h) k i = absurd (omega arith)
apart_some (more h l r) zero i = l
apart_some (more h l r) (suc k) i = apart_some r k (omega arith)
