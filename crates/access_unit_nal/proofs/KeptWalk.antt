-- Laws of the walk over the kept units of an item.
use Prim.Native.Nat.{ℕ, ◌≤◌}
use mathlib.Core.Path.{◌≡◌, refl}
use mathlib.Core.List.{List, []}
use Rattle.std.specs.Prelude.{Option, Some, None, Result, Ok, Err}
use Rattle.error.specs.declared.Refusal.{Refusal}
use Rattle.parse.specs.Answers.{answer_of}
use native.Mathlib.Omega.{arith}
use Rattle.error.specs.Refusals.{number_of}
use Rattle.parse.specs.Outcome.{accept, refuse}
use Rattle.split.specs.Answers.{item_step}
use Rattle.split.specs.inner.Walk.{Onward}
use Rattle.split.specs.declared.NextUnit.{NextUnit}
use Rattle.split.proofs.Items.{found_end, found_refusal}
use Rattle.access_unit.specs.AccessUnit.{kept}
use Rattle.access_unit.specs.inner.Gathered.{kept_left}

-- what a step found lies after every earlier place too
pub onward_earlier : (item : List ℕ) (p q : ℕ) → p ≤ q → (r : Result (Option NextUnit) Refusal) → Onward item q r → Onward item p r
onward_earlier item p q h (Ok (Some m)) f = record { some = f.some; ahead = omega arith; after = f.after; inside = f.inside }
onward_earlier item p q h (Ok None) f = tt
onward_earlier item p q h (Err e) f = tt

module _ (size : ℕ) (target : Option ℕ) (item : List ℕ) where
  -- the end and a refusal say the same for the kept units
  module _ (p : ℕ) (r : Result (Option NextUnit) Refusal) (said : answer_of r ≡ item_step size item p) where
    pub over_ended : r ≡ Ok None → accept [] ≡ kept_left size target item p
    unfolding kept_left kept
    over_ended e = rw (found_end size item p r said e)

    pub over_broken : (x : Refusal) → r ≡ Err x → refuse (number_of x) ≡ kept_left size target item p
    unfolding kept_left kept
    over_broken x e = rw (found_refusal size item p r said x e)
