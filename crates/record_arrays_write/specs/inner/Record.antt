-- Internal: a record of a head and of the arrays of a list, whichever head it has. A head is given by its bytes, or by its refusal.
use Rattle.std.specs.Prelude.{ℕ, ◌+◌, ◌≤◌, ◌≡◌, ◌&&◌, List, [], ◌∷◌, ◌++◌, leb, length, if◌then◌else◌, Result, Ok, Err}
use Rattle.error.specs.declared.Refusal.{Refusal}
use Rattle.std.proofs.lemmas.List.Edits.{sets}
use Rattle.error.specs.Refusals.{number_of}
use Rattle.error.specs.declared.Refusal.TheVariants.{FieldTooWide}
use Rattle.parse.specs.Outcome.{Outcome, accept, refuse, and_then, lent_output, counted}
use Rattle.boxes.specs.declared.Span.{Span}
use Rattle.unit_list.specs.UnitList.{Array, decode, held_arrays}
use Rattle.unit_list.specs.inner.Walk.{arrays_from}
use Rattle.unit_list.specs.declared.ListWalk.{ListWalk}
use Rattle.record_arrays.specs.Write.{arrays_bytes, arrays_fit}
use Rattle.record_arrays.specs.declared.Codec.{Codec}
use Rattle.list_arrays.specs.declared.measure.Measure.{Measure}
use Rattle.record_arrays_write.specs.declared.record.RecordLayout.{RecordLayout}

-- the record of a head and arrays. Refusals: the head's, 22
abbrev pub record_of : Codec → Outcome (List ℕ) → List (Array (List ℕ)) → Outcome (List ℕ)
record_of k h xs = and_then h (λ b. if leb (length xs) 255 && arrays_fit k xs then accept (b ++ (length xs ∷ []) ++ arrays_bytes k xs) else refuse 22)

-- the record of a head and of arrays found in a list
abbrev pub record_in : Codec → Outcome (List ℕ) → List ℕ → Outcome (List (Array Span)) → Outcome (List ℕ)
record_in k h s o = and_then o (λ xs. record_of k h (held_arrays s xs))

-- h is a head of n bytes
pub record HeadLen (h : Outcome (List ℕ)) (n : ℕ) : Type 0 where
  pub bytes : List ℕ
  pub is : h ≡ accept bytes
  pub long : n ≡ length bytes

-- what a size says of a head
abbrev pub HeadIs : Outcome (List ℕ) → Result ℕ Refusal → Type 0
HeadIs h (Ok n) = HeadLen h n
HeadIs h (Err e) = h ≡ refuse (number_of e)

-- no head is longer than the longest of a full record
abbrev pub HeadShort : Result ℕ Refusal → Type 0
HeadShort (Ok n) = n ≤ 1104
HeadShort (Err e) = Unit {0}

-- a layout is that of the arrays of s that are left of its walk
pub record Laid (k : Codec) (s : List ℕ) (l : RecordLayout) : Type 0 where
  pub same : l.arrays.list.now ≡ s
  pub found : List (Array Span)
  pub is : arrays_from s l.arrays.cursor ≡ accept found
  pub number : l.count ≡ length (held_arrays s found)
  pub few : l.count ≤ 255
  pub long : l.len ≡ l.head_len + 1 + length (arrays_bytes k (held_arrays s found))

-- o is the record of the head h with this layout
pub record Writable (k : Codec) (s : List ℕ) (h o : Outcome (List ℕ)) (l : RecordLayout) : Type 0 where
  pub laid : Laid k s l
  pub head : HeadLen h l.head_len
  pub bytes : o ≡ accept (head.bytes ++ (length (held_arrays s laid.found) ∷ []) ++ arrays_bytes k (held_arrays s laid.found))

-- the layout of a head of n bytes and of measured arrays that are left of w
abbrev pub sized : ℕ → ListWalk → Measure → Result RecordLayout Refusal
sized n w m =
    if leb m.count 255 && m.fits then Ok (record { head_len = n; arrays = w; count = m.count; len = n + 1 + m.len })
    else Err FieldTooWide

-- what the answer says of the record o of the head h
abbrev pub SizeOf : Codec → List ℕ → Outcome (List ℕ) → Outcome (List ℕ) → Result RecordLayout Refusal → Type 0
SizeOf k s h o (Ok l) = Writable k s h o l
SizeOf k s h o (Err e) = o ≡ refuse (number_of e)

-- and, for a head of this size, of the record of arrays that were found
abbrev pub Sizes : Codec → List ℕ → Result ℕ Refusal → Outcome (List (Array Span)) → Result RecordLayout Refusal → Type 0
Sizes k s n o r = (h : Outcome (List ℕ)) → HeadIs h n → SizeOf k s h (record_in k h s o) r

-- d was the output and d' is, where the record o of the head h is stored but for its head
pub record Stored (h o : Outcome (List ℕ)) (d : List ℕ) (n : ℕ) (d' : List ℕ) : Type 0 where
  pub bytes : List ℕ
  pub is : h ≡ accept bytes
  pub room : length bytes ≤ length d'
  pub whole : ◌≡◌ {A = Outcome ℕ × List ℕ} (accept n, sets d' 0 bytes) (lent_output (counted o) d)

-- what the answer says of it
abbrev pub PutAfter : Outcome (List ℕ) → Outcome (List ℕ) → List ℕ → Result ℕ Refusal → List ℕ → Type 0
PutAfter h o d (Ok n) d' = Stored h o d n d'
PutAfter h o d (Err e) d' = ◌≡◌ {A = Outcome ℕ × List ℕ} (refuse (number_of e), d') (lent_output (counted o) d)

-- what is stored is so for every record with this layout
abbrev pub PutsLaid : Codec → List ℕ → RecordLayout → List ℕ → Result ℕ Refusal → List ℕ → Type 0
PutsLaid k s l d r d' = (h o : Outcome (List ℕ)) → Writable k s h o l → PutAfter h o d r d'

-- and for the record of a head of this size and a list
abbrev pub PutsRecord : Codec → List ℕ → Result ℕ Refusal → List ℕ → Result ℕ Refusal → List ℕ → Type 0
PutsRecord k s n d r d' = (h : Outcome (List ℕ)) → HeadIs h n → PutAfter h (record_in k h s (decode s)) d r d'
