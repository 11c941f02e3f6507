-- Worked bytes, computed by the definitions.
use mathlib.Core.Path.{◌≡◌, refl}
use mathlib.Core.List.{[], ◌∷◌}
use Rattle.parse.specs.Outcome.{accept, refuse}
use Rattle.parse.specs.Parse.{many, many_up_to}
use Rattle.boxes.specs.Bytes.{be, uint, bytes}
use Rattle.split.specs.Item.{item_unit, item_units}

item_units_lem : item_units 2 (0 ∷ 1 ∷ 7 ∷ 0 ∷ 2 ∷ 8 ∷ 9 ∷ []) ≡ accept (record { start = 2; len = 1 } ∷ record { start = 5; len = 2 } ∷ [])
unfolding item_units many many_up_to item_unit uint bytes be
item_units_lem = refl

-- in byte order: the zero length comes before the length that runs past the end
item_zero : item_units 1 (1 ∷ 7 ∷ 0 ∷ 9 ∷ []) ≡ refuse 5
unfolding item_units many many_up_to item_unit uint bytes be
item_zero = refl

item_past : item_units 1 (9 ∷ 7 ∷ 0 ∷ 9 ∷ []) ≡ refuse 1
unfolding item_units many many_up_to item_unit uint bytes be
item_past = refl
