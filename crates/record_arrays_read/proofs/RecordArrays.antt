-- Laws of the arrays of a record: the head of an array, one array measured and stored, and the bytes of many.
use Prim.Native.Nat.{ℕ, ◌+◌, ◌-◌, ◌*◌, ◌/◌, ◌≤◌, ◌<◌}
use mathlib.Core.Path.{◌≡◌, refl, sym, ap, ◌∙◌, subst}
use mathlib.Core.Bool.{Bool, true, false}
use mathlib.Core.List.{List, [], ◌∷◌, ◌++◌}
use native.Mathlib.Omega.{arith}
use lib.ListN.{length, get_or}
use lib.Seq.{sets, length-sets}
use Rattle.std.specs.Prelude.{if◌then◌else◌, Option, Some, None}
use Rattle.parse.specs.Parse.{Parsed, value, refused, bind, give, times, outcome}
use Rattle.parse.specs.Outcome.{accept}
use Rattle.parse.specs.inner.Answers.{there_of}
use Rattle.parse.specs.inner.Stores.{Puts}
use Rattle.boxes.specs.Bytes.{be, uint, chunk, to_be}
use Rattle.boxes.specs.declared.Span.{Span}
use Rattle.boxes.proofs.Numbers.{be_one}
use Rattle.boxes.proofs.Fields.{uint_there, uint_short}
use Rattle.unit_list.specs.UnitList.{Array, list_width, held_array, encode_array, encode_arrays}
use Rattle.unit_list.proofs.Encode.{length_array}
use Rattle.unit_list.proofs.Written.{array_stored}
use Rattle.record_arrays.specs.Read.{reserved_in, type_in, holds_one, record_array}
use Rattle.record_arrays.specs.inner.Counts.{count_len}
use Rattle.record_arrays.specs.declared.Codec.{Codec}
use Rattle.counted_units.specs.inner.Counted.{units_in_list, room_taken, stored_bytes, StoredAt}
use Rattle.counted_units.specs.declared.Stored.{Stored}
use Rattle.record_arrays_read.specs.inner.Arrays.{array_head, ArrayHeadFits, array_in_list, arrays_in_list}
use Rattle.record_arrays_read.specs.declared.ArrayHead.{ArrayHead}

-- reading a byte that is there
pub byte_read : (s : List ℕ) (p : ℕ) → p < length s → uint 1 s p ≡ value (get_or s p 0) (p + 1)
byte_read s p h = uint_there 1 s p (omega arith) ∙ ap (λ (b : ℕ). value b (p + 1)) (be_one s p)

-- ### the head of an array

abbrev head_with : Codec → ℕ → ℕ → ArrayHead
head_with k b n = record { complete = b / 128; reserved_bit = reserved_in k b; unit_type = type_in k b; count = n }

module _ (k : Codec) (s : List ℕ) (p : ℕ) where
  pub array_none : length s ≤ p → array_head k s p ≡ refused 1
  unfolding array_head
  array_none h = rw (uint_short 1 s p (omega arith))

  module _ (some : p < length s) where
    first : uint 1 s p ≡ value (get_or s p 0) (p + 1)
    first = byte_read s p some

    count_short : (b : Bool) → length s < p + 1 + (if b then 0 else 2) → (if b then give 1 else uint 2) s (p + 1) ≡ refused 1
    count_short true h = absurd (omega arith)
    count_short false h = uint_short 2 s (p + 1) (omega arith)

    count_there : (b : Bool) → p + 1 + (if b then 0 else 2) ≤ length s
        → (if b then give 1 else uint 2) s (p + 1) ≡ value (if b then 1 else be s (p + 1) 2) (p + 1 + (if b then 0 else 2))
    count_there true h = ap (value 1) (omega arith)
    count_there false h = uint_there 2 s (p + 1) (omega arith)

    pub array_short : length s < p + 1 + count_len k (type_in k (get_or s p 0)) → array_head k s p ≡ refused 1
    unfolding array_head
    array_short h = rw (first, count_short (holds_one k (type_in k (get_or s p 0))) h)

    array_counted : p + 1 + count_len k (type_in k (get_or s p 0)) ≤ length s
        → array_head k s p
        ≡ value (head_with k (get_or s p 0) (if holds_one k (type_in k (get_or s p 0)) then 1 else be s (p + 1) 2))
        (p + 1 + count_len k (type_in k (get_or s p 0)))
    unfolding array_head
    array_counted h = rw (first, count_there (holds_one k (type_in k (get_or s p 0))) h)

    -- the head of an array from its fields, which were read one by one
    pub array_headed : (complete bit t len n : ℕ) → complete ≡ get_or s p 0 / 128 → bit ≡ reserved_in k (get_or s p 0) → t ≡ type_in k (get_or s p 0)
        → len ≡ count_len k t → n ≡ (if holds_one k t then 1 else be s (p + 1) 2) → p + 1 + len ≤ length s
        → value (record { complete = complete; reserved_bit = bit; unit_type = t; count = n }) (p + 1 + len) ≡ array_head k s p
    array_headed complete bit t len n c b e l g h =
        let m : len ≡ count_len k (type_in k (get_or s p 0)) = l ∙ ap (count_len k) e in
        rw (g, m, e, c, b) (sym (array_counted (omega arith)))

-- what the answer says when it is known
pub record HeadAt (k : Codec) (s : List ℕ) (p : ℕ) (h : ArrayHead) (q : ℕ) : Type 0 where
  pub read : array_head k s p ≡ value h q
  pub after : p + 1 ≤ q
  pub inside : q ≤ length s
  pub complete : h.complete ≤ 1
  pub bit : h.reserved_bit ≤ 1

module _ (k : Codec) (s : List ℕ) (p : ℕ) (r : Option (ArrayHead × ℕ)) (f : (there_of r ≡ array_head k s p) × ArrayHeadFits s p r) where
  pub head_short : r ≡ None → array_head k s p ≡ refused 1
  head_short e = sym f.0 ∙ ap there_of e

  pub head_at : (h : ArrayHead) (q : ℕ) → r ≡ Some (h, q) → HeadAt k s p h q
  head_at h q e =
      let g = subst (λ (r : Option (ArrayHead × ℕ)). (there_of r ≡ array_head k s p) × ArrayHeadFits s p r) e f in
      record { read = sym g.0; after = g.1.0; inside = g.1.1; complete = g.1.2; bit = g.1.3 }

-- ### one array

abbrev with_units : ArrayHead → List Span → Array Span
with_units h us = record { complete = h.complete; reserved_bit = h.reserved_bit; unit_type = h.unit_type; units = us }

-- an array is its head and its units
abbrev after_head : (s : List ℕ) → ArrayHead → ℕ → Parsed (Array Span)
after_head s h q = bind (times h.count (chunk 2) s q) (λ us r. value (with_units h us) r)

counted : (k : Codec) (s : List ℕ) (b : ℕ) (x : Parsed ℕ)
    → bind x (λ n r. bind (times n (chunk 2) s r) (λ us t. value (with_units (head_with k b n) us) t))
    ≡ bind (bind x (λ n r. value (head_with k b n) r)) (after_head s)
unfolding times
counted k s b (value n r) = refl
counted k s b (refused e) = refl

array_split : (k : Codec) (s : List ℕ) (p : ℕ) → record_array k s p ≡ bind (array_head k s p) (after_head s)
unfolding record_array array_head
array_split k s p = go (uint 1 s p)
  where
    go : (x : Parsed ℕ)
        → bind x (λ b q. bind ((if holds_one k (type_in k b) then give 1 else uint 2) s q)
        (λ n r. bind (times n (chunk 2) s r) (λ us t. value (with_units (head_with k b n) us) t)))
        ≡ bind (bind x (λ b q. bind ((if holds_one k (type_in k b) then give 1 else uint 2) s q) (λ n r. value (head_with k b n) r))) (after_head s)
    go (value b q) = counted k s b ((if holds_one k (type_in k b) then give 1 else uint 2) s q)
    go (refused e) = refl

-- the complete byte and what comes before the units of an array in a list
abbrev complete_of : ArrayHead → ℕ
complete_of h = h.reserved_bit * 2 + h.complete

abbrev head_bytes : ArrayHead → ℕ → List ℕ
head_bytes h rest = to_be list_width rest ++ (complete_of h ∷ h.unit_type ∷ [])

array_long : (s : List ℕ) (h : ArrayHead) (us : List Span) → length (array_in_list s (with_units h us)) ≡ 6 + length (units_in_list s us)
array_long s h us = length_array list_width (held_array s (with_units h us)) ∙ omega arith

module _ (k : Codec) (s : List ℕ) (p : ℕ) where
  pub array_refused : (e : ℕ) → array_head k s p ≡ refused e → record_array k s p ≡ refused e
  array_refused e w = array_split k s p ∙ ap (λ (x : Parsed ArrayHead). bind x (after_head s)) w

  module _ (h : ArrayHead) (q : ℕ) (w : array_head k s p ≡ value h q) where
    pub array_units : record_array k s p ≡ bind (times h.count (chunk 2) s q) (λ us r. value (with_units h us) r)
    array_units = array_split k s p ∙ ap (λ (x : Parsed ArrayHead). bind x (after_head s)) w

    -- measured
    array_measured_lem : (x : Parsed (List Span)) (m : Parsed ℕ) → m ≡ room_taken units_in_list s 0 x
        → bind m (λ room r. value (6 + room) r) ≡ room_taken array_in_list s 0 (bind x (λ us r. value (with_units h us) r))
    array_measured_lem (value us r) m e = rw e (ap (λ (n : ℕ). value n r) (let l = array_long s h us in omega arith))
    array_measured_lem (refused j) m e = rw e

    pub array_room : (m : Parsed ℕ) → m ≡ room_taken units_in_list s 0 (times h.count (chunk 2) s q)
        → bind m (λ room r. value (6 + room) r) ≡ room_taken array_in_list s 0 (record_array k s p)
    array_room m e = array_measured_lem (times h.count (chunk 2) s q) m e ∙ ap (room_taken array_in_list s 0) (sym array_units)

    -- stored
    module _ (out : List ℕ) (to : ℕ) (stores : Puts (array_in_list s) (outcome (record_array k s p)) out to) where
      units_of_lem : (x : Parsed (List Span)) → outcome (bind x (λ us r. value (with_units h us) r)) ≡ accept stores.it
          → Puts (units_in_list s) (outcome x) out (to + 6)
      units_of_lem (value us r) g =
          let u : with_units h us ≡ stores.it = cc in
          let b = ap (λ (a : Array Span). length (array_in_list s a)) u in
          let l = array_long s h us in
          let f = stores.room in
          record { it = us; found = refl; room = omega arith }
      units_of_lem (refused e) g = absurd (let z : ◌≡◌ {A = ℕ} 0 1 = cc in omega arith)

      pub stores_units : Puts (units_in_list s) (outcome (times h.count (chunk 2) s q)) out (to + 6)
      stores_units = units_of_lem (times h.count (chunk 2) s q) (sym (ap outcome array_units) ∙ stores.found)

      pub head_room : (d : List ℕ) (r : Stored) → StoredAt units_in_list s (times h.count (chunk 2) s q) out (to + 6) d r
          → (4 ≤ 4) × (to + 4 + 2 ≤ length d)
      head_room d r i =
          let k = ap length i.written ∙ length-sets out (to + 6) (stored_bytes units_in_list s (times h.count (chunk 2) s q)) in
          let f = stores_units.room in
          (omega arith, omega arith)

      stored_of : (x : Parsed (List Span)) → Puts (units_in_list s) (outcome x) out (to + 6) → (d : List ℕ) (r : Stored)
          → StoredAt units_in_list s x out (to + 6) d r
          → (e : List ℕ) → e ≡ sets d to (head_bytes h (r.to - to - 4))
          → StoredAt array_in_list s (bind x (λ us r. value (with_units h us) r)) out to e r
      unfolding encode_array
      stored_of (refused j) g d r i e v = absurd (let w = g.found in let z : ◌≡◌ {A = ℕ} 0 1 = cc in omega arith)
      stored_of (value us j) g d r i e v =
          let t = i.to in
          let n : r.to - to - 4 ≡ 2 + length (units_in_list s us) = omega arith in
          record {
            written =
                array_stored out d e to list_width (r.to - to - 4) (complete_of h) h.unit_type (to + 6) (units_in_list s us) (omega arith) n i.written v;
            from = i.from;
            to = t ∙ (let m = array_long s h us in omega arith);
          }

      pub stored_array : (d : List ℕ) (r : Stored) → StoredAt units_in_list s (times h.count (chunk 2) s q) out (to + 6) d r
          → (e : List ℕ) → e ≡ sets d to (head_bytes h (r.to - to - 4)) → StoredAt array_in_list s (record_array k s p) out to e r
      stored_array d r i e v = rw array_units (stored_of (times h.count (chunk 2) s q) stores_units d r i e v)

-- ### arrays

pub arrays_none : (s : List ℕ) → arrays_in_list s [] ≡ []
unfolding encode_arrays
arrays_none s = refl

pub arrays_more : (s : List ℕ) (a : Array Span) (xs : List (Array Span)) → arrays_in_list s (a ∷ xs) ≡ array_in_list s a ++ arrays_in_list s xs
unfolding encode_arrays
arrays_more s a xs = refl
