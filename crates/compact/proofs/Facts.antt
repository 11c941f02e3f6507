-- What is known of the units of a compact record that was read; and writing it again returns the same record.
use Prim.Native.Nat.{ℕ, zero, suc, ◌+◌, ◌*◌, ◌/◌, ◌%◌, ◌^◌, ◌≤◌, ◌<◌}
use mathlib.Core.Path.{◌≡◌, refl, sym, ap, ◌∙◌, subst}
use mathlib.Core.Bool.{true}
use mathlib.Core.List.{List, [], ◌∷◌, ◌++◌, map, append_assoc, append-nil}
use native.Mathlib.Omega.{arith}
use native.Mathlib.Decide.{dec_le}
use lib.ListN.{length, get_or, take, drop, length-map, length-take, take-append-drop, drop_of_length-le, get_or-eq_default}
use lib.Seq.{get_or-take, get_or-drop, drop-cons, drop-drop}
use borrow.Author.Tests.{le-leb, eq-eqb, ne_eqb}
use Rattle.parse.specs.Outcome.{accept, refuse}
use Rattle.parse.specs.Parse.{Parsed, value, refused, bind, times}
use Rattle.boxes.specs.Bytes.{to_be, chunk, to_chunk, AllBytes}
use Rattle.boxes.specs.Parts.{held}
use Rattle.boxes.specs.declared.Span.{Span}
use Rattle.boxes.proofs.Fields.{Chunk, chunk_read}
use Rattle.boxes.proofs.Spans.{held_long}
use Rattle.boxes.proofs.Numbers.{be_one}
use Rattle.unit_list.specs.UnitList.{units_of, encode_units}
use Rattle.unit_list.specs.Answers.{list_units}
use Rattle.unit_list.specs.inner.Written.{unit_bytes}
use Rattle.unit_list.proofs.Arrays.{sound_none, sound_more}
use Rattle.unit_list.proofs.Encode.{UnitsRead, units_encode}
use Rattle.unit_list.proofs.StoredUnits.{room_more}
use Rattle.compact.specs.Compact.{compact_record, one_array, parsed_with, parse_compact}
use Rattle.compact.specs.Compact.{all_at_most, compact_bytes, serialize_compact, config_of, compact_first_byte}
use Rattle.compact.specs.inner.Units.{record_units}
use Rattle.compact.specs.declared.CompactRead.{CompactRead}
use Rattle.compact.specs.declared.CompactVvcConfig.{CompactVvcConfig}
use Rattle.compact.proofs.OneArray.{list_long}
use Rattle.compact.proofs.RecordRead.{times_length, parse_too_long, parse_empty, parse_short, parse_over, parse_given, record_given_lem}
use Rattle.compact.proofs.RecordBytes.{bytes_given}

bytes_take : (n : ℕ) (s : List ℕ) → AllBytes s → AllBytes (take n s)
bytes_take n s h i =
    elim (dec_le n i) [
      | no k ↦ let e = get_or-take n s i 0 (omega arith) in omega (arith, h i)
      | yes k ↦ let l = length-take n s in let e = get_or-eq_default (take n s) 0 {n = i} (omega arith) in omega arith
    ]

pub bytes_held : (s : List ℕ) (a : Span) → AllBytes s → AllBytes (held s a)
bytes_held s a h = bytes_take a.len (drop a.start s) (λ i. let e = get_or-drop a.start s i 0 in omega (arith, h (a.start + i)))

-- ### units of a record

-- units read from place p up to q: their bytes, and that they lie there after their lengths
pub record UnitsFrom (s : List ℕ) (p : ℕ) (us : List Span) (q : ℕ) : Type 0 where
  pub within : q ≤ length s
  pub short : (k : ℕ) → length (get_or (map (held s) us) k []) ≤ 255
  pub bytes : (k : ℕ) → AllBytes (get_or (map (held s) us) k [])
  pub small : all_at_most 255 (map (held s) us) ≡ true
  pub room : length (unit_bytes 4 s us) ≤ 259 * length us
  pub stand : unit_bytes 1 s us ++ drop q s ≡ drop p s

module _ (s : List ℕ) (all : AllBytes s) where
  from_none : (p : ℕ) → p ≤ length s → UnitsFrom s p [] p
  unfolding all_at_most encode_units
  from_none p h = record { within = h; short = λ k. omega arith; bytes = λ k i. omega arith; small = refl; room = omega arith; stand = refl }

  -- one unit, followed by others
  module _ (p : ℕ) (a : Span) (r : ℕ) (c : Chunk 1 s p a r) (us : List Span) (q : ℕ) (rest : UnitsFrom s r us q) where
    inside : a.start + a.len ≤ length s
    inside = omega (arith, c.start, c.len, c.next, c.fits)

    long : length (held s a) ≡ a.len
    long = held_long s a inside

    first : a.len ≡ get_or s p 0
    first = c.len ∙ be_one s p

    few : length (held s a) ≤ 255
    few = let l = long in let f = first in omega (arith, all p)

    stands : unit_bytes 1 s (a ∷ us) ++ drop q s ≡ drop p s
    unfolding encode_units to_chunk to_be
    stands =
        let l = long in
        let f = first in
        let b : length (held s a) % 256 ≡ get_or s p 0 = omega (arith, all p) in
        let one : a.start ≡ suc p = omega (arith, c.start) in
        let n : r ≡ suc p + a.len = omega (arith, c.len, c.next) in
        let t : take a.len (drop (suc p) s) ++ drop (suc p + a.len) s ≡ drop (suc p) s =
        ap (λ (x : List ℕ). take a.len (drop (suc p) s) ++ x) (sym (drop-drop a.len (suc p) s)) ∙ take-append-drop a.len (drop (suc p) s) in
        rw (b, append_assoc (held s a) (unit_bytes 1 s us) (drop q s), rest.stand, n, one, t)
        (sym (drop-cons s p 0 (omega (arith, c.next, c.fits))))

    from_more : UnitsFrom s p (a ∷ us) q
    unfolding all_at_most
    from_more =
        record {
          within = rest.within;
          short = short_at;
          bytes = bytes_at_lem;
          small = rw (le-leb (length (held s a)) 255 few) rest.small;
          room = let l = room_more 4 s a inside us in let f = few in let g = long in omega (arith, rest.room);
          stand = stands;
        }
      where
        short_at : (k : ℕ) → length (get_or (map (held s) (a ∷ us)) k []) ≤ 255
        short_at zero = few
        short_at (suc k) = rest.short k

        bytes_at_lem : (k : ℕ) → AllBytes (get_or (map (held s) (a ∷ us)) k [])
        bytes_at_lem zero = bytes_held s a all
        bytes_at_lem (suc k) = rest.bytes k

  from_bind : (p : ℕ) (a : Span) (r : ℕ) (y : Parsed (List Span)) (us : List Span) (q : ℕ) → Chunk 1 s p a r
      → ((vs : List Span) (t : ℕ) → y ≡ value vs t → UnitsFrom s r vs t) → bind y (λ vs t. value (a ∷ vs) t) ≡ value us q → UnitsFrom s p us q
  from_bind p a r (refused m) us q c h e = absurd (let z : ◌≡◌ {A = ℕ} 0 1 = cc in omega arith)
  from_bind p a r (value vs t) us q c h e =
      let x : a ∷ vs ≡ us = cc in
      let y : t ≡ q = cc in
      rw (← x, ← y) (from_more p a r c vs t (h vs t refl))

  from_first : (p : ℕ) (x : Parsed Span) (R : ℕ → Parsed (List Span)) (us : List Span) (q : ℕ)
      → ((a : Span) (r : ℕ) → x ≡ value a r → Chunk 1 s p a r)
      → ((r : ℕ) → r ≤ length s → (vs : List Span) (t : ℕ) → R r ≡ value vs t → UnitsFrom s r vs t)
      → bind x (λ a r. bind (R r) (λ vs t. value (a ∷ vs) t)) ≡ value us q → UnitsFrom s p us q
  from_first p (refused m) R us q c h e = absurd (let z : ◌≡◌ {A = ℕ} 0 1 = cc in omega arith)
  from_first p (value a r) R us q c h e = from_bind p a r (R r) us q (c a r refl) (h r (c a r refl).fits) e

  pub units_from : (n p : ℕ) → p ≤ length s → (us : List Span) (q : ℕ) → times n (chunk 1) s p ≡ value us q → UnitsFrom s p us q
  unfolding times
  units_from zero p h us q e =
      let x : [] ≡ us = cc in
      let y : p ≡ q = cc in
      rw (← x, ← y) (from_none p h)
  units_from (suc n) p h us q e =
      from_first p (chunk 1 s p) (times n (chunk 1) s) us q (λ a r f. chunk_read 1 s p a r f) (λ r g vs t f. units_from n r g vs t f) e

-- ### the record

-- the parts of what reading returned
record Taken (s : List ℕ) (r : CompactRead) (list : List ℕ) : Type 0 where
  lent : length s ≤ 2 ^ 30
  some : 1 ≤ length s
  spans : List Span
  last : ℕ
  read : record_units s (get_or s 0 0 % 32 + 2) ≡ value spans last
  end : length s ≤ last
  config : r.config ≡ config_of (get_or s 0 0)
  count : r.unit_count ≡ length spans
  list_is : list ≡ one_array (map (held s) spans)

taken : (s : List ℕ) (r : CompactRead) (list : List ℕ) → parse_compact s ≡ accept (r, list) → Taken s r list
taken s r list e =
    elim (dec_le (length s) (2 ^ 30)) [
      | no h ↦ absurd (never 23 (parse_too_long s (omega arith)))
      | yes h ↦
          elim (dec_le 1 (length s)) [
            | no k ↦ absurd (never 1 (parse_empty s h (omega arith)))
            | yes k ↦ go h k (record_units s (get_or s 0 0 % 32 + 2)) refl
          ]
    ]
  where
    never : (n : ℕ) → parse_compact s ≡ refuse n → ⊥
    never n f = let z : ◌≡◌ {A = ℕ} 0 1 = cc in omega arith

    ended : length s ≤ 2 ^ 30 → 1 ≤ length s → (us : List Span) (q : ℕ) → record_units s (get_or s 0 0 % 32 + 2) ≡ value us q
        → length s ≤ q → Taken s r list
    ended h k us q f g =
        let x : parsed_with s (config_of (get_or s 0 0), us) ≡ (r, list) = cc (parse_given s h k _ refl us q f g) in
        record {
          lent = h;
          some = k;
          spans = us;
          last = q;
          read = f;
          end = g;
          config = ap (λ (y : CompactRead × List ℕ). y.0.config) (sym x);
          count = ap (λ (y : CompactRead × List ℕ). y.0.unit_count) (sym x);
          list_is = ap (λ (y : CompactRead × List ℕ). y.1) (sym x);
        }

    go : length s ≤ 2 ^ 30 → 1 ≤ length s → (x : Parsed (List Span)) → record_units s (get_or s 0 0 % 32 + 2) ≡ x → Taken s r list
    go h k (refused m) f = absurd (never m (parse_short s h k _ refl m f))
    go h k (value us q) f =
        elim (dec_le (length s) q) [
          | no g ↦ absurd (never 7 (parse_over s h k _ refl us q f (omega arith)))
          | yes g ↦ ended h k us q f g
        ]

-- What is known of a compact record C that was read as r and list: where its units lie, what they are, and that the list has them.
pub record CompactFacts (C : List ℕ) (r : CompactRead) (list : List ℕ) : Type 0 where
  pub spans : List Span
  pub whole : compact_record C 0 ≡ value (r.config, spans) (length C)
  pub units : List (List ℕ)
  pub held_units_lem : map (held C) spans ≡ units
  pub list_of : list ≡ one_array units
  pub count : r.unit_count ≡ length units
  pub two : 2 ≤ length units
  pub most : length units ≤ 33
  pub short : (k : ℕ) → length (get_or units k []) ≤ 255
  pub bytes : (k : ℕ) → AllBytes (get_or units k [])
  pub size_some : 1 ≤ r.config.length_size
  pub size_four : r.config.length_size ≤ 4
  pub lent : length C ≤ 2 ^ 30
  pub list_lent : length list ≤ 2 ^ 30
  pub read : UnitsRead list (list_units list) units
  pub written : compact_bytes r.config units ≡ accept C

-- the fields of the first byte make that byte again
first_again_lem : (b : ℕ) → b < 256 → compact_first_byte (config_of b) (b % 32 + 2) ≡ b
first_again_lem b h =
    elim (dec_le 128 b) [
      | yes k ↦ rw (eq-eqb (b / 128) 1 (omega arith)) (omega arith)
      | no k ↦ rw (ne_eqb (b / 128) 1 (λ e. omega arith)) (omega arith)
    ]

-- the units of a list of one array
units_one : (us : List (List ℕ)) → length (one_array us) ≤ 2 ^ 30 → UnitsRead (one_array us) (list_units (one_array us)) us
unfolding units_of
units_one us h =
    let u = units_encode (record { complete = 0; reserved_bit = 0; unit_type = 0; units = us } ∷ []) h
    (sound_more (omega arith) (omega arith) (omega arith) sound_none) in
    record { spans = u.spans; read = u.read; bytes = u.bytes ∙ append-nil us }

module _ (C : List ℕ) (all : AllBytes C) (r : CompactRead) (list : List ℕ) (e : parse_compact C ≡ accept (r, list)) where
  pub compact_facts : CompactFacts C r list
  compact_facts =
      let k = taken C r list e in
      let f = units_from C all (get_or C 0 0 % 32 + 2) 1 k.some k.spans k.last k.read in
      let n = times_length (chunk 1) C (get_or C 0 0 % 32 + 2) 1 k.spans k.last k.read in
      let l : length (map (held C) k.spans) ≡ get_or C 0 0 % 32 + 2 = length-map k.spans (held C) ∙ n in
      let x : k.last ≡ length C = omega (arith, f.within, k.end) in
      let long : length (one_array (map (held C) k.spans)) ≤ 2 ^ 30 = omega (arith, f.room, list_long (map (held C) k.spans)) in
      record {
        spans = k.spans;
        whole =
            record_given_lem C k.lent k.some _ refl k.spans k.last k.read k.end
            ∙ ap (λ (y : CompactVvcConfig). value (y, k.spans) k.last) (sym k.config) ∙ ap (value (r.config, k.spans)) x;
        units = map (held C) k.spans;
        held_units_lem = refl;
        list_of = k.list_is;
        count = k.count ∙ sym (length-map k.spans (held C));
        two = omega arith;
        most = omega arith;
        short = f.short;
        bytes = f.bytes;
        size_some = rw k.config (omega arith);
        size_four = rw k.config (omega arith);
        lent = k.lent;
        list_lent = rw k.list_is long;
        read =
            subst (λ (y : List ℕ). UnitsRead y (list_units y) (map (held C) k.spans)) (sym k.list_is) (units_one (map (held C) k.spans) long);
        written = again k f l x;
      }
    where
      again : (k : Taken C r list) → UnitsFrom C 1 k.spans k.last → length (map (held C) k.spans) ≡ get_or C 0 0 % 32 + 2 → k.last ≡ length C
          → compact_bytes r.config (map (held C) k.spans) ≡ accept C
      again k f l x =
          let z : drop k.last C ≡ [] = drop_of_length-le C {i = k.last} (omega arith) in
          let t : unit_bytes 1 C k.spans ≡ drop 1 C = sym (append-nil (unit_bytes 1 C k.spans))
          ∙ ap (λ (y : List ℕ). unit_bytes 1 C k.spans ++ y) (sym z) ∙ f.stand in
          rw k.config
          (bytes_given (config_of (get_or C 0 0)) (map (held C) k.spans) (omega arith) (omega arith) (omega arith) (omega arith) f.small
          ∙ rw (l, t, first_again_lem (get_or C 0 0) (all 0)) (ap accept (sym (drop-cons C 0 0 k.some))))

  -- compact write after compact read returns the same bytes
  pub write_read : serialize_compact r.config list ≡ accept C
  unfolding serialize_compact
  write_read =
      let f = compact_facts in
      let u = f.read in
      rw (u.read, u.bytes) f.written
