-- The claims of specs/Versions.antt.
use Prim.Native.Nat.{ℕ, ◌*◌, ◌^◌, ◌≤◌, ◌<◌}
use mathlib.Core.Path.{◌≡◌, refl, sym, ap, ◌∙◌}
use mathlib.Core.Bool.{Bool, true, false}
use mathlib.Core.List.{List, [], ◌∷◌}
use native.Mathlib.Omega.{arith}
use native.Mathlib.Decide.{dec_le}
use lib.Dec.{leb}
use lib.ListN.{length, length-append}
use borrow.Author.Tests.{le-leb, lt-leb, leb-true}
use mathlib.Core.Logic.{⊎_elim}
use Rattle.std.specs.Prelude.{if◌then◌else◌}
use Rattle.parse.specs.Outcome.{Outcome, accept, refuse, and_then}
use Rattle.parse.proofs.General.{both_true}
use Rattle.boxes.specs.Bytes.{to_chunk, AllBytes}
use Rattle.boxes.specs.declared.Span.{Span}
use Rattle.boxes.proofs.ChunkBytes.{length_to_chunk}
use Rattle.unit_list.specs.UnitList.{Array, length_width, decode, held_arrays, encode_units, encode_rest, encode_array, encode_arrays, encode_as, contents}
use Rattle.unit_list.specs.UnitList.{units_fit, lengths_fit}
use Rattle.unit_list.proofs.Encode.{length_array, Short, short_none, short_more, short_all, held_encoded, decode_encoded}
use Rattle.unit_list.proofs.Accepted.{accepted}
use Rattle.unit_list.proofs.Decoded.{encode_decode, version_kept, short_decode, sound_decode}
use Rattle.narrow.specs.Versions.{NarrowedBack, WidenedBack, VersionKept, SameArrays, SameAnswer, Lengths, Alone}

-- ### lengths of two bytes

-- units that fit in an array of a narrow list are short
units_below : (us : List (List ℕ)) → length (encode_units 2 us) ≤ 65535 → units_fit us ≡ true
unfolding units_fit encode_units
units_below [] h = refl
units_below (u ∷ us) h =
    let k = length-append (to_chunk 2 u) (encode_units 2 us) in
    let l = length_to_chunk 2 u in
    rw (le-leb (length u) 65535 (omega arith), units_below us (omega arith))

-- no length is above 65,535 exactly where every array's length has room in two bytes
short_fits : {xs : List (Array (List ℕ))} → Short 2 xs → lengths_fit 2 xs ≡ true
unfolding lengths_fit
short_fits short_none = refl
short_fits (short_more {a = a} {xs = xs} f g) =
    rw (le-leb (length (encode_rest 2 a)) 65535 (omega arith), units_below a.units (omega arith), short_fits g)

fits_short : (xs : List (Array (List ℕ))) → lengths_fit 2 xs ≡ true → Short 2 xs
unfolding lengths_fit
fits_short [] e = short_none
fits_short (a ∷ xs) e =
    let f = both_true _ (lengths_fit 2 xs) e in
    let g = both_true (leb (length (encode_rest 2 a)) 65535) (units_fit a.units) f.0 in
    let h = leb-true (length (encode_rest 2 a)) 65535 g.0 in
    short_more {a = a} {xs = xs} (omega arith) (fits_short xs f.1)

-- an array with one unit
abbrev only : ℕ → ℕ → ℕ → List ℕ → Array (List ℕ)
only c r t u = record { complete = c; reserved_bit = r; unit_type = t; units = u ∷ [] }

pub alone : Alone
unfolding lengths_fit units_fit encode_units
alone c r t u =
    let k = length-append (to_chunk 2 u) [] in
    let l = length_to_chunk 2 u in
    elim (dec_le (length u) 65531) [
      | yes h ↦
          rw (le-leb (length (encode_rest 2 (only c r t u))) 65535 (omega arith), le-leb (length u) 65535 (omega arith), le-leb (length u) 65531 h)
      | no h ↦ rw (lt-leb (length (encode_rest 2 (only c r t u))) 65535 (omega arith), lt-leb (length u) 65531 (omega arith))
    ]

-- ### lengths in both versions

-- with lengths of four bytes all is longer, and at most twice as long
units_twice : (us : List (List ℕ))
    → (length (encode_units 2 us) ≤ length (encode_units 4 us)) × (length (encode_units 4 us) ≤ 2 * length (encode_units 2 us))
unfolding encode_units
units_twice [] = (omega arith, omega arith)
units_twice (u ∷ us) =
    let r = units_twice us in
    let x = length-append (to_chunk 2 u) (encode_units 2 us) in
    let y = length-append (to_chunk 4 u) (encode_units 4 us) in
    let v = length_to_chunk 2 u in
    let w = length_to_chunk 4 u in
    (omega (arith, r.0), omega (arith, r.1))

arrays_twice : (xs : List (Array (List ℕ)))
    → (length (encode_arrays 2 xs) ≤ length (encode_arrays 4 xs)) × (length (encode_arrays 4 xs) ≤ 2 * length (encode_arrays 2 xs))
unfolding encode_arrays
arrays_twice [] = (omega arith, omega arith)
arrays_twice (a ∷ xs) =
    let r = arrays_twice xs in
    let u = units_twice a.units in
    let x = length-append (encode_array 2 a) (encode_arrays 2 xs) in
    let y = length-append (encode_array 4 a) (encode_arrays 4 xs) in
    let v = length_array 2 a in
    let w = length_array 4 a in
    (omega (arith, r.0, u.0), omega (arith, r.1, u.1))

-- ### the two conversions

-- a list that decodes
module _ (s : List ℕ) (all : AllBytes s) (ys : List (Array Span)) (d : decode s ≡ accept ys) where
  abbrev xs : List (Array (List ℕ))
  xs = held_arrays s ys

  -- its length in both versions
  list_twice : (length (encode_as 2 xs) ≤ length s) × (length (encode_as 1 xs) < 2 * length s)
  list_twice =
      let t = arrays_twice xs in
      let l = ap length (encode_decode s all ys d) in
      ⊎_elim
      (λ v. let m : length (encode_as 1 xs) ≡ length s = rw v at l in (omega (arith, t.0), omega arith))
      (λ v. let m : length (encode_as 2 xs) ≡ length s = rw v at l in (omega arith, omega (arith, t.1)))
      (accepted s ys d).version

  -- its arrays are those of a list of version v that holds them
  contents_in : (v : ℕ) → (length_width v ≡ 0 → ⊥) → Short (length_width v) xs → length (encode_as v xs) ≤ 2 ^ 30 → contents (encode_as v xs) ≡ accept xs
  contents_in v known short fits =
      rw (decode_encoded v xs short known fits (sound_decode s ys d)) (ap accept (held_encoded v xs short))

  narrow_contents : (t : List ℕ) → (if lengths_fit 2 xs then accept (encode_as 2 xs) else refuse 29) ≡ accept t
      → (contents t ≡ accept xs) × (length t ≤ length s)
  narrow_contents t e = go (lengths_fit 2 xs) refl e
    where
      go : (b : Bool) → lengths_fit 2 xs ≡ b → (if b then accept (encode_as 2 xs) else refuse 29) ≡ accept t
          → (contents t ≡ accept xs) × (length t ≤ length s)
      go false f g = absurd (let z : ◌≡◌ {A = ℕ} 0 1 = cc in omega arith)
      go true f g =
          let is : encode_as 2 xs ≡ t = cc in
          let l = list_twice.0 in
          rw (← is) (contents_in 2 (λ z. omega arith) (fits_short xs f) (omega (arith, (accepted s ys d).lent)), l)

  wide_contents : (t : List ℕ) → accept (encode_as 1 xs) ≡ accept t → (length t ≤ 2 ^ 30 → contents t ≡ accept xs) × (length t < 2 * length s)
  wide_contents t e =
      let is : encode_as 1 xs ≡ t = cc in
      rw (← is) (λ h. contents_in 1 (λ z. omega arith) (short_all 4 xs (omega arith)) h, list_twice.1)

-- what conversion says of a list that it accepts
record Converted (s : List ℕ) (t : List ℕ) : Type 0 where
  arrays : List (Array Span)
  is : decode s ≡ accept arrays

converted : (s t : List ℕ) (f : List (Array (List ℕ)) → Outcome (List ℕ)) → and_then (contents s) f ≡ accept t → Converted s t
converted s t f e = go (decode s) refl e
  where
    go : (o : Outcome (List (Array Span))) → decode s ≡ o → and_then (and_then o (λ xs. accept (held_arrays s xs))) f ≡ accept t → Converted s t
    go (refuse n) d e = absurd (let z : ◌≡◌ {A = ℕ} 0 1 = cc in omega arith)
    go (accept ys) d e = record { arrays = ys; is = d }

-- ### the claims

pub version_kept_all : VersionKept
version_kept_all s all ys d = (
  λ v. rw v at (version_kept s all ys d),
  λ v.
      let short : Short 2 (held_arrays s ys) = rw v at (short_decode s all ys d) in
      let same : encode_as 2 (held_arrays s ys) ≡ s = rw v at (encode_decode s all ys d) in
      rw (d, short_fits short, same),
)

pub same_arrays : SameArrays
same_arrays s all t = (
  λ e.
      let c = converted s t _ e in
      let f = rw c.is at e in
      (narrow_contents s all c.arrays c.is t f).0 ∙ sym (rw c.is),
  λ e h.
      let c = converted s t _ e in
      let f = rw c.is at e in
      (wide_contents s all c.arrays c.is t f).0 h ∙ sym (rw c.is),
)

pub lengths : Lengths
lengths s all t = (
  λ e.
      let c = converted s t _ e in
      let f = rw c.is at e in
      (narrow_contents s all c.arrays c.is t f).1,
  λ e.
      let c = converted s t _ e in
      let f = rw c.is at e in
      (wide_contents s all c.arrays c.is t f).1,
)

pub same_answer : SameAnswer
same_answer B f s t e = sym (by t) ∙ ap (λ (o : Outcome (List (Array (List ℕ)))). and_then o f) e ∙ by s
  where
    by : (s : List ℕ) → and_then (contents s) f ≡ and_then (decode s) (λ xs. f (held_arrays s xs))
    by s = go (decode s)
      where
        go : (o : Outcome (List (Array Span)))
            → and_then (and_then o (λ xs. accept (held_arrays s xs))) f ≡ and_then o (λ xs. f (held_arrays s xs))
        go (accept ys) = refl
        go (refuse n) = refl

pub narrowed_back : NarrowedBack
narrowed_back s all v n e =
    let c = converted s n _ e in
    ap (λ (o : Outcome (List (Array (List ℕ)))). and_then o (λ xs. accept (encode_as 1 xs))) ((same_arrays s all n).0 e)
    ∙ (version_kept_all s all c.arrays c.is).0 v

pub widened_back : WidenedBack
widened_back s all v w e h =
    let c = converted s w _ e in
    ap (λ (o : Outcome (List (Array (List ℕ)))). and_then o (λ xs. if lengths_fit 2 xs then accept (encode_as 2 xs) else refuse 29))
    ((same_arrays s all w).1 e h)
    ∙ (version_kept_all s all c.arrays c.is).1 v
