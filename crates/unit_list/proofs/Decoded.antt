-- A list encoded after decoding: where a list of bytes decodes, its arrays written again are the list itself.
use Prim.Native.Nat.{ℕ, zero, suc, ◌+◌, ◌*◌, ◌/◌, ◌%◌, ◌^◌, ◌≤◌, ◌<◌}
use mathlib.Core.Path.{◌≡◌, refl, sym, ap, ◌∙◌}
use mathlib.Core.Bool.{Bool, true, false}
use mathlib.Core.List.{List, ◌∷◌, ◌++◌, map, append_assoc}
use native.Mathlib.Omega.{arith}
use native.Mathlib.Decide.{dec_le}
use native.Mathlib.Numerals.{add-one}
use lib.Dec.{ltb}
use lib.ListN.{length, get_or, take, drop, length-append, length-drop, take-append-drop, drop_of_length-le}
use lib.Seq.{take-suc, drop-cons, drop-drop, get_or-drop, get_or-take, length-take-le}
use Rattle.std.specs.Prelude.{if◌then◌else◌}
use Rattle.parse.specs.Outcome.{accept}
use Rattle.parse.specs.Parse.{Parsed, value, refused, bind, give, refusing, many}
use Rattle.boxes.specs.Bytes.{be, to_be, uint, chunk, to_chunk, inside, AllBytes}
use Rattle.boxes.specs.Parts.{held}
use Rattle.boxes.specs.declared.Span.{Span}
use Rattle.boxes.proofs.Numbers.{be_take, be_one, be_below}
use Rattle.boxes.proofs.Fields.{uint_there, uint_short, chunk_read, chunk_advances}
use Rattle.unit_list.specs.UnitList.{Array, array, array_rest, array_with, complete_byte, largest_type, length_width, decode, held_array}
use Rattle.unit_list.specs.UnitList.{held_arrays, encode_units, encode_rest, encode_array, encode_arrays, encode_as, in_version}
use Rattle.unit_list.proofs.Arrays.{Sound, run_value, chunks_run, array_read, array_advances}
use Rattle.unit_list.proofs.Encode.{Short, short_none, short_more}
use Rattle.unit_list.proofs.Accepted.{sound_held, accepted}

-- ### what was read, taken apart

-- what was read first, and that the rest was read after it
record After {A B : Type 0} (x : Parsed A) (f : A → ℕ → Parsed B) (b : B) (r : ℕ) : Type 0 where
  given : A
  place : ℕ
  first : x ≡ value given place
  rest : f given place ≡ value b r

after : {A B : Type 0} (x : Parsed A) (f : A → ℕ → Parsed B) (b : B) (r : ℕ) → bind x f ≡ value b r → After x f b r
after (value a p) f b r e = record { given = a; place = p; first = refl; rest = e }
after (refused n) f b r e = absurd (let z : ◌≡◌ {A = ℕ} 0 1 = cc in omega arith)

-- equal answers with an array have equal fields
array_made : (c t : ℕ) (us : List Span) (r : ℕ) (x : Array Span) (q : ℕ)
    → ◌≡◌ {A = Parsed (Array Span)} (value (array_with c t us) r) (value x q)
    → (complete_byte x ≡ c) × (x.unit_type ≡ t) × (◌≡◌ {A = Parsed (List Span)} (value us r) (value x.units q))
array_made c t us r x q e =
    let y : array_with c t us ≡ x = cc in
    let z : r ≡ q = cc in
    let b : c / 2 * 2 + c % 2 ≡ c = omega arith in (
      ap (λ (y : Array Span). complete_byte y) (sym y) ∙ b,
      ap (λ (y : Array Span). y.unit_type) (sym y),
      rw z (ap (λ (y : Array Span). value y.units q) y),
    )

-- a byte that was read
record ByteRead (s : List ℕ) (p n q : ℕ) : Type 0 where
  is : n ≡ get_or s p 0
  next : q ≡ p + 1
  there : p < length s

byte_read : (s : List ℕ) (p n q : ℕ) → uint 1 s p ≡ value n q → ByteRead s p n q
byte_read s p n q e =
    elim (dec_le (p + 1) (length s)) [
      | no h ↦ absurd (let x = sym (uint_short 1 s p (omega arith)) ∙ e in let z : ◌≡◌ {A = ℕ} 0 1 = cc in omega arith)
      | yes h ↦
          (let x = sym (uint_there 1 s p h) ∙ e in
          let y : be s p 1 ≡ n = cc in
          let z : p + 1 ≡ q = cc in
          record { is = sym y ∙ be_one s p; next = sym z; there = omega arith })
    ]

-- a test that was passed
passed : (b : Bool) (n : ℕ) (s : List ℕ) (p : ℕ) (u : Unit {0}) (q : ℕ) → (if b then refusing n else give tt) s p ≡ value u q → p ≡ q
passed true n s p u q e = absurd (let z : ◌≡◌ {A = ℕ} 0 1 = cc in omega arith)
passed false n s p u q e = cc

-- an array that was read: the span of its rest, and its units in it
record ArrayTaken (w : ℕ) (s : List ℕ) (p : ℕ) (x : Array Span) (q : ℕ) : Type 0 where
  rest : Span
  last : ℕ
  chunked : chunk w s p ≡ value rest last
  two : 2 ≤ rest.len
  complete : complete_byte x ≡ get_or s rest.start 0
  unit_type : x.unit_type ≡ get_or s (rest.start + 1) 0
  units : many (chunk w) (take (rest.start + rest.len) s) (rest.start + 2) ≡ value x.units q

module _ (w : ℕ) (s : List ℕ) (p : ℕ) (x : Array Span) (q : ℕ) where
  array_taken : array w s p ≡ value x q → ArrayTaken w s p x q
  unfolding array inside array_rest
  array_taken e =
      let a = after (chunk w s p) _ x q e in
      let k = chunk_read w s p a.given a.place a.first in
      let t : List ℕ = take (a.given.start + a.given.len) s in
      let l : length t ≡ a.given.start + a.given.len = length-take-le (a.given.start + a.given.len) s (omega arith) in
      let c = after (uint 1 t a.given.start) _ x q a.rest in
      let c-is = byte_read t a.given.start c.given c.place c.first in
      let c-ok = after ((if ltb 3 c.given then refusing 21 else give tt) t c.place) _ x q c.rest in
      let c-on = passed (ltb 3 c.given) 21 t c.place c-ok.given c-ok.place c-ok.first in
      let u = after (uint 1 t c-ok.place) _ x q c-ok.rest in
      let u-is = byte_read t c-ok.place u.given u.place u.first in
      let u-ok = after ((if ltb largest_type u.given then refusing 21 else give tt) t u.place) _ x q u.rest in
      let u-on = passed (ltb largest_type u.given) 21 t u.place u-ok.given u-ok.place u-ok.first in
      let us = after (many (chunk w) t u-ok.place) _ x q u-ok.rest in
      let made = array_made c.given u.given us.given us.place x q us.rest in
      let on : c-ok.place ≡ a.given.start + 1 = omega arith in
      let units_at_lem : u-ok.place ≡ a.given.start + 2 = omega arith in
      record {
        rest = a.given;
        last = a.place;
        chunked = a.first;
        two = omega arith;
        complete = made.0 ∙ c-is.is ∙ get_or-take (a.given.start + a.given.len) s a.given.start 0 (omega arith);
        unit_type = made.1 ∙ u-is.is ∙ rw on (get_or-take (a.given.start + a.given.len) s (a.given.start + 1) 0 (omega arith));
        units = rw (← units_at_lem) (us.first ∙ made.2);
      }

-- ### what was read, written again

module _ (s : List ℕ) (all : (i : ℕ) → get_or s i 0 < 256) where
  -- the number of w bytes
  number_again : (p w : ℕ) → p + w ≤ length s → to_be w (be s p w) ≡ take w (drop p s)
  unfolding be to_be
  number_again p zero h = refl
  number_again p (suc w) h =
      let l = length-drop p s in
      let q : (be s p w * 256 + get_or s (p + w) 0) / 256 ≡ be s p w = omega (arith, all (p + w)) in
      let r : (be s p w * 256 + get_or s (p + w) 0) % 256 ≡ get_or s (p + w) 0 = omega (arith, all (p + w)) in
      rw (q, r, number_again p w (omega arith), ← get_or-drop p s w 0) (sym (take-suc (drop p s) w 0 (omega arith)))

  -- bytes that lie in s after a length of w bytes, up to place e, are as many as the length says
  rest_long : (w p e : ℕ) (u : List ℕ) → e ≡ p + w + be s p w → e ≤ length s → u ++ drop e s ≡ drop (p + w) s → length u ≡ be s p w
  rest_long w p e u n h k = omega (arith, ap length k, length-append u (drop e s), length-drop e s, length-drop (p + w) s)

  -- a length and the bytes after it, which lie in s up to place e
  chunk_again : (w p e : ℕ) (u : List ℕ) → e ≡ p + w + be s p w → e ≤ length s → u ++ drop e s ≡ drop (p + w) s → to_chunk w u ++ drop e s ≡ drop p s
  unfolding to_chunk
  chunk_again w p e u n h k =
      let l = rest_long w p e u n h k in
      append_assoc (to_be w (length u)) u (drop e s)
      ∙ rw (k, l, number_again p w (omega arith), ← drop-drop w p s) (take-append-drop w (drop p s))

  -- the bytes at a span
  held_again : (a : Span) → held s a ++ drop (a.start + a.len) s ≡ drop a.start s
  held_again a = rw (← drop-drop a.len a.start s) (take-append-drop a.len (drop a.start s))

  -- an array's complete byte and type, before its units
  headed : (c u : ℕ) (rest : List ℕ) (i : ℕ) → c ≡ get_or s i 0 → u ≡ get_or s (i + 1) 0 → i + 2 ≤ length s → rest ≡ drop (i + 2) s
      → c ∷ u ∷ rest ≡ drop i s
  headed c u rest i f g h e =
      let two : i + 2 ≡ suc (suc i) = omega arith in
      rw (f, g, e, add-one i, two, ← drop-cons s (suc i) 0 (omega arith)) (sym (drop-cons s i 0 (omega arith)))

  module _ (w : ℕ) (some : 1 ≤ w) where
    -- the units of an array that ends at e
    module _ (e : ℕ) (fits : e ≤ length s) where
      unit_again : (p : ℕ) (a : Span) (q : ℕ) (us : List Span) → chunk w (take e s) p ≡ value a q
          → encode_units w (map (held s) us) ++ drop e s ≡ drop q s → encode_units w (map (held s) (a ∷ us)) ++ drop e s ≡ drop p s
      unfolding encode_units
      unit_again p a q us c h =
          let l = length-take-le e s fits in
          let k = chunk_read w (take e s) p a q c in
          let n : be (take e s) p w ≡ be s p w = be_take s e p w (omega arith) in
          let x : a.start + a.len ≡ q = omega arith in
          let y : a.start ≡ p + w = k.start in
          append_assoc (to_chunk w (held s a)) (encode_units w (map (held s) us)) (drop e s)
          ∙ rw h (chunk_again w p q (held s a) (omega arith) (omega arith) (rw (← x, ← y) (held_again a)))

      units_again : (p : ℕ) (us : List Span) (r : ℕ) → p ≤ e → many (chunk w) (take e s) p ≡ value us r
          → encode_units w (map (held s) us) ++ drop e s ≡ drop p s
      unfolding encode_units
      units_again p us r h m =
          let l = length-take-le e s fits in
          run_value (chunk w) (take e s) (chunk_advances w (take e s) some) (λ p us r. p ≤ e → encode_units w (map (held s) us) ++ drop e s ≡ drop p s)
          (λ p g h. let z : p ≡ e = omega arith in rw z)
          (λ p a q us r c n h. unit_again p a q us c (n (let k = chunk_read w (take e s) p a q c in omega arith)))
          p us r m h

    -- an array: its length, complete byte, type and units; its length has room in w bytes
    array_again : (p : ℕ) (x : Array Span) (q : ℕ) → array w s p ≡ value x q
        → (encode_array w (held_array s x) ++ drop q s ≡ drop p s) × (length (encode_rest w (held_array s x)) < 256 ^ w)
    unfolding encode_array
    array_again p x q e =
        let t = array_taken w s p x q e in
        let k = chunk_read w s p t.rest t.last t.chunked in
        let i : ℕ = t.rest.start in
        let e : ℕ = t.rest.start + t.rest.len in
        let l = length-take-le e s (omega arith) in
        let run = chunks_run w (take e s) some (i + 2) (omega arith) x.units q t.units in
        let end : q ≡ e = run.end ∙ l in
        let us : encode_units w (map (held s) x.units) ++ drop e s ≡ drop (i + 2) s =
        units_again e (omega arith) (i + 2) x.units q (omega arith) t.units in
        let start : i ≡ p + w = k.start in
        let rest : encode_rest w (held_array s x) ++ drop e s ≡ drop (p + w) s =
        headed (complete_byte x) x.unit_type (encode_units w (map (held s) x.units) ++ drop e s) i t.complete t.unit_type (omega arith) us
        ∙ ap (λ (n : ℕ). drop n s) start in (
          rw end (chunk_again w p e (encode_rest w (held_array s x)) (omega arith) (omega arith) rest),
          omega (arith, rest_long w p e (encode_rest w (held_array s x)) (omega arith) (omega arith) rest, be_below s p w all),
        )

    -- arrays up to the end
    arrays_again : (p : ℕ) (xs : List (Array Span)) (r : ℕ) → p ≤ length s → many (array w) s p ≡ value xs r
        → (encode_arrays w (held_arrays s xs) ≡ drop p s) × Short w (held_arrays s xs)
    unfolding encode_arrays
    arrays_again p xs r h m =
        run_value (array w) s (array_advances w s some)
        (λ p xs r. p ≤ length s → (encode_arrays w (held_arrays s xs) ≡ drop p s) × Short w (held_arrays s xs))
        (λ p g h. (sym (drop_of_length-le s {i = p} g), short_none))
        (λ p x q xs r c n h.
        let a = array_again p x q c in
        let b = n (array_read w s some p x q c).fits in
        (rw b.0 a.0, short_more a.1 b.1))
        p xs r m h

-- ### the list

-- What an accepted list is: its arrays, with the bytes of their units, written in its version, with lengths that have room in it.
module _ (s : List ℕ) (all : AllBytes s) (xs : List (Array Span)) (e : decode s ≡ accept xs) where
  arrays_are : (encode_arrays (length_width (get_or s 0 0)) (held_arrays s xs) ≡ drop 1 s) × Short (length_width (get_or s 0 0)) (held_arrays s xs)
  arrays_are =
      let a = accepted s xs e in
      arrays_again s all (length_width (get_or s 0 0)) (omega (arith, a.width.0)) 1 xs a.last a.some a.read

  pub encode_decode : encode_as (get_or s 0 0) (held_arrays s xs) ≡ s
  encode_decode = rw arrays_are.0 (sym (drop-cons s 0 0 (omega (arith, (accepted s xs e).some))))

  -- so it is given back in its own version
  pub version_kept : in_version (get_or s 0 0) s ≡ accept s
  version_kept = rw e (ap accept encode_decode)

  pub short_decode : Short (length_width (get_or s 0 0)) (held_arrays s xs)
  short_decode = arrays_are.1

-- and they can be encoded: what holds of sound arrays holds of them
pub sound_decode : (s : List ℕ) (xs : List (Array Span)) → decode s ≡ accept xs → Sound (held_arrays s xs)
sound_decode s xs e = sound_held s (accepted s xs e).sound
