-- A law of units that were counted: all of them read.
use Prim.Native.Nat.{ℕ}
use mathlib.Core.Path.{◌≡◌}
use mathlib.Core.List.{List}
use Rattle.parse.specs.Outcome.{accept}
use Rattle.boxes.specs.declared.Span.{Span}
use Rattle.unit_list.specs.inner.Walk.{units_left}
use Rattle.unit_list.specs.declared.ListCursor.{ListCursor}
use Rattle.grouping.specs.inner.Units.{units_at, held_units}

module _ (s : List ℕ) (c : ListCursor) (us : List Span) where
  -- units that were counted are those after the cursor
  pub units_counted : accept us ≡ units_left s c → accept (units_at s c) ≡ held_units s (units_left s c)
  unfolding units_at
  units_counted e = rw (← e)
