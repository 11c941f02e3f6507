-- The claims of the two versions of a unit list, proved in proofs/Versions.antt. AllBytes says that a list is one of bytes.
use Rattle.std.specs.Prelude.{ℕ, ◌*◌, ◌^◌, ◌≤◌, ◌<◌, ◌≡◌, List, [], ◌∷◌, leb, length, get_or}
use Rattle.parse.specs.Outcome.{Outcome, accept, and_then}
use Rattle.boxes.specs.Bytes.{AllBytes}
use Rattle.boxes.specs.declared.Span.{Span}
use Rattle.unit_list.specs.UnitList.{Array, decode, held_arrays, contents, lengths_fit}
use Rattle.narrow.specs.Narrow.{narrowed, widened}

-- a list of version 01, narrowed and widened again, is the same bytes
abbrev pub NarrowedBack : Type 0
NarrowedBack = (s : List ℕ) → AllBytes s → get_or s 0 0 ≡ 1 → (n : List ℕ) → narrowed s ≡ accept n → widened n ≡ accept s

-- a list of version 02, widened and narrowed again, is the same bytes; a widened list of more than 2^30 bytes is 23
abbrev pub WidenedBack : Type 0
WidenedBack =
    (s : List ℕ) → AllBytes s → get_or s 0 0 ≡ 2 → (w : List ℕ) → widened s ≡ accept w → length w ≤ 2 ^ 30 → narrowed w ≡ accept s

-- a list that has the version already is given back as it is, and is never 29
abbrev pub VersionKept : Type 0
VersionKept =
    (s : List ℕ) → AllBytes s → (xs : List (Array Span)) → decode s ≡ accept xs
    → (get_or s 0 0 ≡ 1 → widened s ≡ accept s) × (get_or s 0 0 ≡ 2 → narrowed s ≡ accept s)

-- Both versions of a list have the same arrays: complete, reserved bit, type, and the bytes of the units.
abbrev pub SameArrays : Type 0
SameArrays =
    (s : List ℕ) → AllBytes s → (t : List ℕ)
    → (narrowed s ≡ accept t → contents t ≡ contents s) × (widened s ≡ accept t → length t ≤ 2 ^ 30 → contents t ≡ contents s)

-- So every answer that is made of the arrays and the bytes of their units is the same for both: f is what a call makes of them. Only where a part
-- lies depends on more. crates/both_versions has it call by call.
abbrev pub SameAnswer : Type 1
SameAnswer =
    (B : Type 0) (f : List (Array (List ℕ)) → Outcome B) (s t : List ℕ) → contents t ≡ contents s
    → and_then (decode t) (λ xs. f (held_arrays t xs)) ≡ and_then (decode s) (λ xs. f (held_arrays s xs))

-- a narrowed list is no longer than the list, a widened one less than twice as long
abbrev pub Lengths : Type 0
Lengths =
    (s : List ℕ) → AllBytes s → (t : List ℕ)
    → (narrowed s ≡ accept t → length t ≤ length s) × (widened s ≡ accept t → length t < 2 * length s)

-- a unit alone in its array can be narrowed up to 65,531 bytes
abbrev pub Alone : Type 0
Alone =
    (c r t : ℕ) (u : List ℕ) → lengths_fit 2 (record { complete = c; reserved_bit = r; unit_type = t; units = u ∷ [] } ∷ []) ≡ leb (length u) 65531
