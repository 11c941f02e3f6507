-- Internal: a step of a walk over what is read.
use Rattle.std.specs.Prelude.{List, ◌∷◌}
use Rattle.parse.specs.Outcome.{Outcome, accept, refuse}

-- a in front of what is left
abbrev pub more : {A : Type 0} → A → Outcome (List A) → Outcome (List A)
more a (accept xs) = accept (a ∷ xs)
more a (refuse e) = refuse e
