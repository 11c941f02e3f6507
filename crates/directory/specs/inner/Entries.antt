-- Internal: what filling and its laws share about entries.
use Rattle.std.specs.Prelude.{◌≤◌, List, [], ◌∷◌}
use Rattle.unit_list.specs.UnitList.{largest_type}
use Rattle.directory.specs.declared.Entry.{Entry}

-- each entry has a type that has a total
unfoldable pub TypesFit : List Entry → Type 0
TypesFit [] = Unit {0}
TypesFit (e ∷ es) = (e.unit_type ≤ largest_type) × TypesFit es
