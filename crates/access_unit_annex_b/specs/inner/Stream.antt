-- Internal: units found in a list or an item and stored as a stream.
use Rattle.std.specs.Prelude.{ℕ, ◌+◌, ◌≤◌, ◌≡◌, List, length, take, drop, Option}
use Rattle.std.proofs.lemmas.List.Edits.{sets}
use Rattle.parse.specs.Outcome.{Outcome, accept, and_then}
use Rattle.parse.specs.inner.Stores.{bytes_of}
use Rattle.boxes.specs.declared.Span.{Span}
use Rattle.access_unit.specs.inner.Gathered.{Walks, kept_left, Gathered, gather, bytes_at, gathered_bytes}
use Rattle.access_unit_sizes.specs.inner.Sizes.{sizes_of}
use Rattle.access_unit.specs.declared.StartCodes.{StartCodes}
use Rattle.access_unit_sizes.specs.declared.sizes.Sizes.{Sizes}
use Rattle.access_unit_annex_b.specs.declared.stream.Places.{Places}

-- the first n of the units found, and those after them
abbrev pub first_units : ℕ → Outcome (List Span) → Outcome (List Span)
first_units n o = and_then o (λ us. accept (take n us))

abbrev pub rest_units : ℕ → Outcome (List Span) → Outcome (List Span)
rest_units n o = and_then o (λ us. accept (drop n us))

-- there are n kept units from place p of an item on, and the output has room for their stream
pub record PutsFirst (codes : StartCodes) (size : ℕ) (target : Option ℕ) (item : List ℕ) (p n : ℕ) (out : List ℕ) (to : ℕ) : Type 0 where
  pub walks : Walks size item p
  pub units : List Span
  pub found : kept_left size target item p ≡ accept units
  pub enough : n ≤ length units
  pub room : to + length (bytes_at codes item (take n units)) ≤ length out

-- the stream of the first n kept units was stored; r has the places after them in the item and in the output
pub record FirstPut (codes : StartCodes) (size : ℕ) (target : Option ℕ) (item : List ℕ) (p n : ℕ) (out : List ℕ) (to : ℕ) (r : Places)
    (after : List ℕ) : Type 0 where
  pub within : r.item ≤ length item
  pub next : kept_left size target item r.item ≡ rest_units n (kept_left size target item p)
  pub ends : r.out ≡ to + length (bytes_of (bytes_at codes item) (first_units n (kept_left size target item p)))
  pub stored : after ≡ sets out to (bytes_of (bytes_at codes item) (first_units n (kept_left size target item p)))

-- an access unit was measured, and the output has room for its stream
pub record PutsStream (codes : StartCodes) (size : ℕ) (target : Option ℕ) (list item : List ℕ) (sizes : Sizes) (out : List ℕ) : Type 0 where
  pub parts : Gathered
  pub found : gather size target list item ≡ accept parts
  pub sized : sizes ≡ sizes_of codes list item parts
  pub room : length (gathered_bytes codes list item (accept parts)) ≤ length out
