-- Internal: a list measured in a version.
use Rattle.std.specs.Prelude.{ℕ, ◌≡◌, List, length, Result, Ok, Err}
use Rattle.error.specs.Refusals.{number_of}
use Rattle.error.specs.declared.Refusal.{Refusal}
use Rattle.parse.specs.Outcome.{Outcome, accept, refuse}
use Rattle.boxes.specs.declared.Span.{Span}
use Rattle.unit_list.specs.UnitList.{Array, length_width, held_arrays, encode_as, lengths_fit}
use Rattle.unit_list.specs.inner.Walk.{arrays_from}
use Rattle.narrow.specs.declared.list.ListLayout.{ListLayout}

-- l is the layout in version v of the arrays o of s, which are left of its walk
pub record Laid (s : List ℕ) (v : ℕ) (o : Outcome (List (Array Span))) (l : ListLayout) : Type 0 where
  pub arrays : List (Array Span)
  pub is : o ≡ accept arrays
  pub found : arrays_from s l.arrays.cursor ≡ accept arrays
  pub same : l.arrays.list.now ≡ s
  pub long : l.len ≡ length (encode_as v (held_arrays s arrays))
  pub short : l.fits ≡ lengths_fit (length_width v) (held_arrays s arrays)

-- what the answer says of the arrays o
abbrev pub SizeOf : List ℕ → ℕ → Outcome (List (Array Span)) → Result ListLayout Refusal → Type 0
SizeOf s v o (Ok l) = Laid s v o l
SizeOf s v o (Err e) = o ≡ refuse (number_of e)
