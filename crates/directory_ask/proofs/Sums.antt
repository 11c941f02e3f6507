-- Laws of the sum of the totals, total after total.
use Prim.Native.Nat.{ℕ, suc, ◌+◌, ◌-◌, ◌≤◌, ◌<◌}
use mathlib.Core.Path.{◌≡◌, sym, ap, ◌∙◌}
use mathlib.Core.List.{List, [], ◌∷◌, ◌++◌}
use native.Mathlib.Omega.{arith}
use native.Mathlib.Numerals.{add-one}
use lib.ListN.{length, get_or, take, drop, take-append-drop}
use lib.Seq.{take-suc, take_all}
use Rattle.directory.specs.Directory.{sum}

sum_append : (ms ns : List ℕ) → sum (ms ++ ns) ≡ sum ms + sum ns
unfolding sum
sum_append [] ns = omega arith
sum_append (m ∷ ms) ns = let e = sum_append ms ns in omega arith

-- the totals before t are taken from the room, and `left` is left of it
module _ (totals : List ℕ) (room : ℕ) where
  pub record Taken (left t : ℕ) : Type 0 where
    pub within : t ≤ length totals
    pub taken : sum (take t totals) + left ≡ room

  pub taken_start : Taken room 0
  unfolding sum
  taken_start = record { within = omega arith; taken = omega arith }

  module _ (left t : ℕ) (i : Taken left t) where
    module _ (here : t < length totals) where
      next : sum (take (suc t) totals) ≡ sum (take t totals) + get_or totals t 0
      unfolding sum
      next = ap sum (take-suc totals t 0 here) ∙ sum_append (take t totals) (get_or totals t 0 ∷ []) ∙ omega arith

      pub taken_too_many : left < get_or totals t 0 → room < sum totals
      taken_too_many h =
          let e = ap sum (sym (take-append-drop (suc t) totals)) ∙ sum_append (take (suc t) totals) (drop (suc t) totals) in
          omega (arith, next, i.taken)

      pub taken_more : get_or totals t 0 ≤ left → Taken (left - get_or totals t 0) (t + 1)
      taken_more h = record { within = omega arith; taken = rw (add-one t) (omega (arith, next, i.taken)) }

    pub taken_all : length totals ≤ t → (room - left ≡ sum totals) × (sum totals ≤ room)
    taken_all h = let e = ap sum (take_all t totals h) in (omega (arith, i.taken), omega (arith, i.taken))
