-- The arrays of a full record read after writing: the same arrays, lying where they were written.
use Prim.Native.Nat.{ℕ, ◌+◌, ◌/◌, ◌^◌, ◌≤◌, ◌<◌}
use native.Mathlib.Omega.{arith}
use mathlib.Core.Path.{◌≡◌, refl, sym, ap, ◌∙◌}
use mathlib.Core.Bool.{Bool, true, false}
use mathlib.Core.List.{List, [], ◌∷◌, ◌++◌, map, append_assoc}
use lib.Dec.{leb, eqb}
use lib.ListN.{length, length-append}
use lib.Seq.{get_or_at}
use borrow.Author.Tests.{leb-true, eqb-true}
use Rattle.std.specs.Prelude.{if◌then◌else◌}
use Rattle.parse.specs.Parse.{value, times, give}
use Rattle.parse.proofs.Many.{times_nil, times_step}
use Rattle.parse.proofs.General.{both_true}
use Rattle.boxes.specs.Bytes.{to_be, uint, chunk, to_chunk}
use Rattle.boxes.specs.Parts.{held}
use Rattle.boxes.specs.declared.Span.{Span}
use Rattle.boxes.proofs.Numbers.{length_to_be, be_to_be_at, be_one}
use Rattle.boxes.proofs.Fields.{uint_there, chunk_to_chunk, held_to_chunk}
use Rattle.boxes.proofs.ChunkBytes.{length_to_chunk}
use Rattle.unit_list.specs.UnitList.{Array, largest_type, encode_units, held_array, held_arrays, units_fit}
use Rattle.unit_list.proofs.Arrays.{Sound, sound_none, sound_more}
use Rattle.unit_list.proofs.Encode.{placed_units}
use Rattle.record_arrays.specs.Read.{reserved_in, type_in, holds_one, record_array}
use Rattle.record_arrays.specs.Write.{first_byte, array_bytes, arrays_bytes, first_fits, array_fits, arrays_fit}
use Rattle.record_arrays.specs.declared.Codec.{Codec}
use Rattle.record_arrays.specs.declared.Codec.TheVariants.{Vvc, Hevc}

-- one byte after others
pub byte_there : (s pre post : List ℕ) (b p : ℕ) → s ≡ pre ++ (b ∷ post) → length pre ≡ p → uint 1 s p ≡ value b (p + 1)
byte_there s pre post b p e l =
    let n = ap length e ∙ length-append pre (b ∷ post) in
    uint_there 1 s p (omega arith) ∙ ap (λ v. value v (p + 1)) (be_one s p ∙ rw e (get_or_at pre b post 0 p l))

-- a number of w bytes after others
pub number_there : (w : ℕ) (s pre post : List ℕ) (n p : ℕ) → s ≡ pre ++ (to_be w n ++ post) → length pre ≡ p → n < 256 ^ w
    → uint w s p ≡ value n (p + w)
number_there w s pre post n p e l f =
    let m = ap length e ∙ length-append pre (to_be w n ++ post) in
    let k = length-append (to_be w n) post in
    let j = length_to_be w n in
    uint_there w s p (omega arith) ∙ ap (λ v. value v (p + w)) (rw (e, ← l) (be_to_be_at pre w n post f))

-- units after others, each of which fits its length
module _ (w : ℕ) (s : List ℕ) where
  abbrev pub Below : List (List ℕ) → Type 0
  Below [] = Unit {0}
  Below (u ∷ us) = (length u < 256 ^ w) × Below us

  after_unit : (u : List ℕ) (us : List (List ℕ)) (pre post : List ℕ) → s ≡ pre ++ (encode_units w (u ∷ us) ++ post)
      → s ≡ pre ++ (to_chunk w u ++ (encode_units w us ++ post))
  unfolding encode_units
  after_unit u us pre post e = e ∙ ap (λ (x : List ℕ). pre ++ x) (append_assoc (to_chunk w u) (encode_units w us) post)

  past_unit : (u : List ℕ) (pre : List ℕ) (p : ℕ) → length pre ≡ p → length (pre ++ to_chunk w u) ≡ p + w + length u
  past_unit u pre p l = omega (arith, length-append pre (to_chunk w u), length_to_chunk w u)

  units_read_lem : (us : List (List ℕ)) (pre post : List ℕ) (p : ℕ) → s ≡ pre ++ (encode_units w us ++ post) → length pre ≡ p → Below us
      → times (length us) (chunk w) s p ≡ value (placed_units w p us) (p + length (encode_units w us))
  unfolding encode_units placed_units
  units_read_lem [] pre post p e l f = times_nil (chunk w) s p ∙ ap (value []) (omega arith)
  units_read_lem (u ∷ us) pre post p e l f =
      let g = after_unit u us pre post e in
      let c : chunk w s p ≡ value (record { start = p + w; len = length u }) (p + w + length u) =
      rw (g, ← l) (chunk_to_chunk w pre u (encode_units w us ++ post) f.0) in
      times_step (chunk w) s (length us) p (record { start = p + w; len = length u }) (p + w + length u) c
      ∙ rw (
        units_read_lem us (pre ++ to_chunk w u) post (p + w + length u) (g ∙ sym (append_assoc pre (to_chunk w u) (encode_units w us ++ post)))
            (past_unit u pre p l) f.1,
        z,
      )
    where
      z : p + w + length u + length (encode_units w us) ≡ p + length (to_chunk w u ++ encode_units w us)
      z = omega (arith, length-append (to_chunk w u) (encode_units w us), length_to_chunk w u)

  units_held : (us : List (List ℕ)) (pre post : List ℕ) (p : ℕ) → s ≡ pre ++ (encode_units w us ++ post) → length pre ≡ p → Below us
      → map (held s) (placed_units w p us) ≡ us
  unfolding placed_units
  units_held [] pre post p e l f = refl
  units_held (u ∷ us) pre post p e l f =
      let g = after_unit u us pre post e in
      let h : held s (record { start = p + w; len = length u }) ≡ u = rw (g, ← l) (held_to_chunk w pre u (encode_units w us ++ post) f.0) in
      rw (
        h,
        units_held us (pre ++ to_chunk w u) post (p + w + length u) (g ∙ sym (append_assoc pre (to_chunk w u) (encode_units w us ++ post)))
            (past_unit u pre p l) f.1,
      )

-- one array
fits_below : (us : List (List ℕ)) → units_fit us ≡ true → Below 2 [] us
unfolding units_fit
fits_below [] e = tt
fits_below (u ∷ us) e = let r = both_true _ _ e in (omega (arith, leb-true (length u) 65535 r.0), fits_below us r.1)

-- the count of an array
abbrev count_part : Codec → Array (List ℕ) → List ℕ
count_part c a = if holds_one c a.unit_type then [] else to_be 2 (length a.units)

-- the spans of an array's units when the array is written from place p on
abbrev pub placed_in_record : Codec → ℕ → Array (List ℕ) → Array Span
placed_in_record k p a = record {
  complete = a.complete;
  reserved_bit = a.reserved_bit;
  unit_type = a.unit_type;
  units = placed_units 2 (p + 1 + length (count_part k a)) a.units;
}

unfoldable pub all_placed_in_record : Codec → ℕ → List (Array (List ℕ)) → List (Array Span)
all_placed_in_record k p [] = []
all_placed_in_record k p (a ∷ xs) = placed_in_record k p a ∷ all_placed_in_record k (p + length (array_bytes k a)) xs

-- the first byte of an array that fits says what the array has
record FirstSays (k : Codec) (a : Array (List ℕ)) : Type 0 where
  complete : first_byte a / 128 ≡ a.complete
  reserved_bit : reserved_in k (first_byte a) ≡ a.reserved_bit
  unit_type : type_in k (first_byte a) ≡ a.unit_type

first_says : (k : Codec) (a : Array (List ℕ)) → a.complete ≤ 1 → a.reserved_bit ≤ 1 → a.unit_type ≤ largest_type
    → first_fits k a.reserved_bit a.unit_type ≡ true → FirstSays k a
first_says Vvc a one bit small fits =
    let f = both_true _ _ fits in
    let r = eqb-true a.reserved_bit 0 f.0 in
    let t = leb-true a.unit_type 31 f.1 in
    record { complete = omega arith; reserved_bit = omega arith; unit_type = omega arith }
first_says Hevc a one bit small fits = record { complete = omega arith; reserved_bit = omega arith; unit_type = omega arith }

module _ (k : Codec) (s : List ℕ) (a : Array (List ℕ)) (pre post : List ℕ) (p : ℕ) (e : s ≡ pre ++ (array_bytes k a ++ post)) (l : length pre ≡ p)
    (one : a.complete ≤ 1) (bit : a.reserved_bit ≤ 1) (small : a.unit_type ≤ largest_type) (fits : array_fits k a ≡ true) where
  split_first : s ≡ pre ++ (first_byte a ∷ (count_part k a ++ (encode_units 2 a.units ++ post)))
  unfolding array_bytes
  split_first = e ∙ ap (λ (x : List ℕ). pre ++ (first_byte a ∷ x)) (append_assoc (count_part k a) (encode_units 2 a.units) post)

  split_units : s ≡ (pre ++ (first_byte a ∷ count_part k a)) ++ (encode_units 2 a.units ++ post)
  split_units = split_first ∙ sym (append_assoc pre (first_byte a ∷ count_part k a) (encode_units 2 a.units ++ post))

  before_units : length (pre ++ (first_byte a ∷ count_part k a)) ≡ p + 1 + length (count_part k a)
  before_units = omega (arith, length-append pre (first_byte a ∷ count_part k a))

  all_fit : (leb (length a.units) 65535 ≡ true) × (units_fit a.units ≡ true)
      × ((if holds_one k a.unit_type then eqb (length a.units) 1 else true) ≡ true) × (first_fits k a.reserved_bit a.unit_type ≡ true)
  unfolding array_fits
  all_fit = let r = both_true _ _ fits in let q = both_true _ _ r.1 in let t = both_true _ _ q.1 in (r.0, q.0, t.0, t.1)

  says : FirstSays k a
  says = first_says k a one bit small all_fit.3

  units_there : times (length a.units) (chunk 2) s (p + 1 + length (count_part k a))
      ≡ value (placed_units 2 (p + 1 + length (count_part k a)) a.units) (p + 1 + length (count_part k a) + length (encode_units 2 a.units))
  units_there = units_read_lem 2 s a.units (pre ++ (first_byte a ∷ count_part k a)) post _ split_units before_units (fits_below a.units all_fit.1)

  -- the count, or none for VVC's types 12 and 13
  count_there : (c : Bool) → holds_one k a.unit_type ≡ c
      → (if c then give 1 else uint 2) s (p + 1) ≡ value (length a.units) (p + 1 + length (count_part k a))
  count_there true h = rw h (let n : length a.units ≡ 1 = eqb-true _ 1 (rw h at all_fit.2) in rw n (ap (value 1) (omega arith)))
  count_there false h =
      let f : s ≡ (pre ++ (first_byte a ∷ [])) ++ (to_be 2 (length a.units) ++ (encode_units 2 a.units ++ post)) =
      (rw h at split_first) ∙ sym (append_assoc pre (first_byte a ∷ []) (to_be 2 (length a.units) ++ (encode_units 2 a.units ++ post))) in
      rw h (number_there 2 s (pre ++ (first_byte a ∷ [])) (encode_units 2 a.units ++ post) (length a.units) (p + 1) f
      (omega (arith, length-append pre (first_byte a ∷ []))) (omega (arith, leb-true (length a.units) 65535 all_fit.0))
      ∙ ap (value (length a.units)) (sym (rw (length_to_be 2 (length a.units)))))

  length_array : length (array_bytes k a) ≡ 1 + length (count_part k a) + length (encode_units 2 a.units)
  unfolding array_bytes
  length_array = omega (arith, length-append (count_part k a) (encode_units 2 a.units))

  pub array_read : record_array k s p ≡ value (placed_in_record k p a) (p + length (array_bytes k a))
  unfolding record_array
  array_read =
      let z : p + 1 + length (count_part k a) + length (encode_units 2 a.units) ≡ p + length (array_bytes k a) = omega (arith, length_array) in
      rw (
        byte_there s pre (count_part k a ++ (encode_units 2 a.units ++ post)) (first_byte a) p split_first l,
        says.unit_type,
        count_there (holds_one k a.unit_type) refl,
        units_there,
        says.complete,
        says.reserved_bit,
        z,
      )

  pub array_held : held_array s (placed_in_record k p a) ≡ a
  array_held =
      ap (λ (us : List (List ℕ)). record { complete = a.complete; reserved_bit = a.reserved_bit; unit_type = a.unit_type; units = us })
      (units_held 2 s a.units (pre ++ (first_byte a ∷ count_part k a)) post (p + 1 + length (count_part k a)) split_units before_units
      (fits_below a.units all_fit.1))

-- arrays one after the other
module _ (k : Codec) (s : List ℕ) where
  next_arrays : (a : Array (List ℕ)) (xs : List (Array (List ℕ))) (pre post : List ℕ) → s ≡ pre ++ (arrays_bytes k (a ∷ xs) ++ post)
      → s ≡ pre ++ (array_bytes k a ++ (arrays_bytes k xs ++ post))
  unfolding arrays_bytes
  next_arrays a xs pre post e = e ∙ ap (λ (x : List ℕ). pre ++ x) (append_assoc (array_bytes k a) (arrays_bytes k xs) post)

  pub arrays_read : {xs : List (Array (List ℕ))} → Sound xs → (pre post : List ℕ) (p : ℕ) → s ≡ pre ++ (arrays_bytes k xs ++ post) → length pre ≡ p
      → arrays_fit k xs ≡ true → times (length xs) (record_array k) s p ≡ value (all_placed_in_record k p xs) (p + length (arrays_bytes k xs))
  unfolding arrays_bytes all_placed_in_record arrays_fit
  arrays_read sound_none pre post p e l fits = times_nil (record_array k) s p ∙ ap (value []) (omega arith)
  arrays_read (sound_more {a = a} {xs = xs} one bit small h) pre post p e l fits =
      let g = next_arrays a xs pre post e in
      let f = both_true _ _ fits in
      let m : length (pre ++ array_bytes k a) ≡ p + length (array_bytes k a) = omega (arith, length-append pre (array_bytes k a)) in
      let z : p + length (array_bytes k a) + length (arrays_bytes k xs) ≡ p + length (array_bytes k a ++ arrays_bytes k xs) =
      omega (arith, length-append (array_bytes k a) (arrays_bytes k xs)) in
      times_step (record_array k) s (length xs) p (placed_in_record k p a) (p + length (array_bytes k a))
      (array_read k s a pre (arrays_bytes k xs ++ post) p g l one bit small f.0)
      ∙ rw (
        arrays_read h (pre ++ array_bytes k a) post (p + length (array_bytes k a))
            (g ∙ sym (append_assoc pre (array_bytes k a) (arrays_bytes k xs ++ post))) m f.1,
        z,
      )

  pub arrays_held : {xs : List (Array (List ℕ))} → Sound xs → (pre post : List ℕ) (p : ℕ) → s ≡ pre ++ (arrays_bytes k xs ++ post) → length pre ≡ p
      → arrays_fit k xs ≡ true → held_arrays s (all_placed_in_record k p xs) ≡ xs
  unfolding all_placed_in_record arrays_fit
  arrays_held sound_none pre post p e l fits = refl
  arrays_held (sound_more {a = a} {xs = xs} one bit small h) pre post p e l fits =
      let g = next_arrays a xs pre post e in
      let f = both_true _ _ fits in
      let m : length (pre ++ array_bytes k a) ≡ p + length (array_bytes k a) = omega (arith, length-append pre (array_bytes k a)) in
      rw (
        array_held k s a pre (arrays_bytes k xs ++ post) p g l one bit small f.0,
        arrays_held h (pre ++ array_bytes k a) post (p + length (array_bytes k a))
            (g ∙ sym (append_assoc pre (array_bytes k a) (arrays_bytes k xs ++ post))) m f.1,
      )
