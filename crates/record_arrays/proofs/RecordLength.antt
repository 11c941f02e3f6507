-- The length of a record's arrays beside that of their list: a record written from a list that can be an input can be an input.
use Prim.Native.Nat.{ℕ, suc, ◌+◌, ◌*◌, ◌^◌, ◌≤◌}
use native.Mathlib.Omega.{arith}
use native.Mathlib.Decide.{dec_le}
use mathlib.Core.Path.{◌≡◌, refl, ap}
use mathlib.Core.Bool.{Bool, true, false}
use mathlib.Core.List.{List, [], ◌∷◌, ◌++◌}
use mathlib.Core.Logic.{◌⊎◌, ⊎_elim, inl, inr}
use lib.Dec.{leb}
use lib.ListN.{length, get_or, length-append}
use borrow.Author.Tests.{leb-true}
use Rattle.std.specs.Prelude.{if◌then◌else◌}
use Rattle.parse.specs.Outcome.{Outcome, accept, refuse, and_then}
use Rattle.parse.proofs.General.{both_true}
use Rattle.boxes.specs.Bytes.{to_be, to_chunk, AllBytes}
use Rattle.boxes.specs.declared.Span.{Span}
use Rattle.boxes.proofs.Numbers.{length_to_be}
use Rattle.boxes.proofs.ChunkBytes.{length_to_chunk}
use Rattle.unit_list.specs.UnitList.{Array, decode, units_of, held_arrays, encode_units, encode_array, encode_arrays, encode_as, encode}
use Rattle.unit_list.specs.UnitList.{in_version, units_fit}
use Rattle.unit_list.proofs.Encode.{length_array, Short, short_none, short_more}
use Rattle.unit_list.proofs.Accepted.{accepted}
use Rattle.unit_list.proofs.Decoded.{encode_decode, version_kept, short_decode}
use Rattle.record_arrays.specs.Read.{holds_one}
use Rattle.record_arrays.specs.Write.{array_bytes, arrays_bytes, array_fits, arrays_fit}
use Rattle.record_arrays.specs.declared.Codec.{Codec}

-- arrays that a list of at most 2^30 bytes has: in version 01 the list says how long they are, in version 02 each is short
abbrev pub Listed : List (Array (List ℕ)) → Type 0
Listed xs = (length (encode xs) ≤ 2 ^ 30) ⊎ Short 2 xs

pub listed : (s : List ℕ) → AllBytes s → (xs : List (Array Span)) → decode s ≡ accept xs → Listed (held_arrays s xs)
unfolding encode
listed s all xs e =
    ⊎_elim
    (λ v.
    let same : encode_as 1 (held_arrays s xs) ≡ s = rw v at (encode_decode s all xs e) in
    inl (omega (arith, ap length same, (accepted s xs e).lent)))
    (λ v. inr (rw v at (short_decode s all xs e)))
    (accepted s xs e).version

-- the list of version 01 with the arrays of a list
pub wide_is : (s : List ℕ) (xs : List (Array Span)) → decode s ≡ accept xs → (wide : List ℕ) → in_version 1 s ≡ accept wide
    → encode (held_arrays s xs) ≡ wide
unfolding encode
wide_is s xs d wide v = let w : accept (encode_as 1 (held_arrays s xs)) ≡ accept wide = rw d at v in cc

-- an accepted list whose version is 01 already is its own list of version 01; f is what is made of its arrays
pub wide_itself : {B : Type 0} (s : List ℕ) → AllBytes s → get_or s 0 0 ≡ 1 → (f : List (Array (List ℕ)) → Outcome B) (b : B)
    → and_then (decode s) (λ xs. f (held_arrays s xs)) ≡ accept b → in_version 1 s ≡ accept s
wide_itself s all v f b = go (decode s) refl
  where
    go : (o : Outcome (List (Array Span))) → decode s ≡ o → and_then o (λ xs. f (held_arrays s xs)) ≡ accept b → in_version 1 s ≡ accept s
    go (refuse n) d e = let z : ◌≡◌ {A = ℕ} 0 1 = cc in absurd (omega arith)
    go (accept xs) d e = rw v at (version_kept s all xs d)

-- units after lengths of 2 bytes compared with the same after lengths of 4
units_room : (us : List (List ℕ)) → units_fit us ≡ true
    → (length (encode_units 2 us) ≤ 65537 * length us) × (length (encode_units 4 us) ≡ length (encode_units 2 us) + 2 * length us)
unfolding units_fit encode_units
units_room [] e = (omega arith, refl)
units_room (u ∷ us) e =
    let a = both_true (leb (length u) 65535) _ e in
    let f = leb-true (length u) 65535 a.0 in
    let r = units_room us a.1 in
    let x = length-append (to_chunk 2 u) (encode_units 2 us) in
    let y = length-append (to_chunk 4 u) (encode_units 4 us) in
    let v = length_to_chunk 2 u in
    let w = length_to_chunk 4 u in
    (omega arith, omega arith)

module _ (k : Codec) where
  units_fit_lem : (a : Array (List ℕ)) → array_fits k a ≡ true → units_fit a.units ≡ true
  unfolding array_fits
  units_fit_lem a e = let f = both_true (leb (length a.units) 65535) _ e in (both_true (units_fit a.units) _ f.1).0

  -- an array in the record and in the list
  array_long : (a : Array (List ℕ)) → length (array_bytes k a) ≤ 3 + length (encode_units 2 a.units)
  unfolding array_bytes
  array_long a = go (holds_one k a.unit_type)
    where
      go : (b : Bool)
          → suc (length ((if b then [] else to_be 2 (length a.units)) ++ encode_units 2 a.units)) ≤ 3 + length (encode_units 2 a.units)
      go true = omega arith
      go false = omega (arith, length-append (to_be 2 (length a.units)) (encode_units 2 a.units), length_to_be 2 (length a.units))

  -- arrays in the record: the greatest length, and how much shorter than in the list
  pub record Room (xs : List (Array (List ℕ))) : Type 0 where
    pub most : length (arrays_bytes k xs) ≤ 3 * length xs + 65537 * length (units_of xs)
    pub less : length (arrays_bytes k xs) + 3 * length xs + 2 * length (units_of xs) ≤ length (encode_arrays 4 xs)

  pub arrays_room : (xs : List (Array (List ℕ))) → arrays_fit k xs ≡ true → Room xs
  unfolding arrays_fit arrays_bytes units_of encode_arrays
  arrays_room [] e = record { most = omega arith; less = omega arith }
  arrays_room (a ∷ xs) e =
      let f = both_true (array_fits k a) _ e in
      let r = arrays_room xs f.1 in
      let l = array_long a in
      let m = length_array 4 a in
      let u = units_room a.units (units_fit_lem a f.0) in
      let x = length-append (array_bytes k a) (arrays_bytes k xs) in
      let y = length-append (encode_array 4 a) (encode_arrays 4 xs) in
      let z = length-append a.units (units_of xs) in
      record { most = omega (arith, r.most); less = omega (arith, r.less) }

  -- arrays whose lengths have room in two bytes are short in the record, too
  short_room : {xs : List (Array (List ℕ))} → Short 2 xs → length (arrays_bytes k xs) ≤ 65536 * length xs
  unfolding arrays_bytes
  short_room short_none = omega arith
  short_room (short_more {a = a} {xs = xs} f g) =
      let r = short_room g in
      let l = array_long a in
      let x = length-append (array_bytes k a) (arrays_bytes k xs) in
      omega arith

  -- A record of a head of n bytes and at most 255 arrays, written from a list of at most 2^30 bytes, has at most 2^30 bytes. Written from version 01:
  -- from 552 units on it is no longer than the list, and with fewer it is far shorter. Written from version 02 it is far shorter.
  pub arrays_lent : (n : ℕ) (xs : List (Array (List ℕ))) → n ≤ 1104 → length xs ≤ 255 → arrays_fit k xs ≡ true → Listed xs
      → n + 1 + length (arrays_bytes k xs) ≤ 2 ^ 30
  unfolding encode
  arrays_lent n xs h f e (inr short) = omega (arith, short_room short)
  arrays_lent n xs h f e (inl l) =
      let r = arrays_room xs e in
      elim (dec_le 552 (length (units_of xs))) [
        | yes m ↦ omega (arith, r.less)
        | no m ↦ omega (arith, r.most)
      ]
