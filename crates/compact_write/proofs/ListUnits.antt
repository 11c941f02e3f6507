-- Laws of the units of a list that is written as a compact record: units measured, and the refusals of the record.
use Prim.Native.Nat.{ℕ, ◌+◌, ◌^◌, ◌≤◌}
use mathlib.Core.Path.{◌≡◌, refl, sym, ap, ◌∙◌}
use mathlib.Core.Bool.{Bool, true, false, not, ◌&&◌, and-true, and_assoc}
use mathlib.Core.List.{List, [], ◌∷◌, map}
use native.Mathlib.Omega.{arith}
use lib.Dec.{leb}
use lib.ListN.{length, set, length-map}
use lib.Seq.{sets}
use borrow.Author.Tests.{leb-true}
use Rattle.error.specs.Refusals.{number_of}
use Rattle.error.specs.declared.Refusal.{Refusal}
use Rattle.std.specs.Borrow.{Bor}
use Rattle.std.specs.Prelude.{if◌then◌else◌, Result, Ok, Err}
use Rattle.parse.specs.Outcome.{Outcome, accept, refuse, and_then}
use Rattle.parse.specs.inner.Walk.{more}
use Rattle.parse.specs.inner.Stores.{bytes_of}
use Rattle.boxes.specs.Parts.{held}
use Rattle.boxes.specs.Bytes.{outside}
use Rattle.boxes.specs.declared.Span.{Span}
use Rattle.boxes.proofs.PrefixSizes.{size_inside}
use Rattle.boxes.proofs.Spans.{held_long}
use Rattle.unit_list.specs.UnitList.{encode_units}
use Rattle.unit_list.specs.inner.Walk.{Fits, units_left}
use Rattle.unit_list.specs.inner.Walks.{left_of, Starts}
use Rattle.unit_list.specs.inner.Written.{unit_bytes}
use Rattle.unit_list.specs.declared.ListCursor.{ListCursor}
use Rattle.unit_list.specs.declared.ListWalk.{ListWalk}
use Rattle.unit_list.proofs.Turns.{ListTurn, walk_list, walk_units, walk_refused}
use Rattle.unit_list.proofs.StoredUnits.{room_more}
use Rattle.compact.specs.Compact.{all_at_most, compact_bytes, serialize_compact, compact_first_byte}
use Rattle.compact.specs.declared.CompactVvcConfig.{CompactVvcConfig}
use Rattle.compact_write.specs.inner.Sums.{adding_unit, adding_all, summed, no_units, record_length, compact_record_of}
use Rattle.compact_write.specs.declared.list_units.RecordSum.{RecordSum}

-- one unit added, then the others
module _ (s : List ℕ) (a : Span) (inside : a.start + a.len ≤ length s) (v : RecordSum) where
  adding_more : (us : List Span) → adding_all s (adding_unit a.len v) us ≡ adding_all s v (a ∷ us)
  unfolding all_at_most
  adding_more us =
      let l = held_long s a inside in
      let n : v.count + 1 + length us ≡ v.count + length (a ∷ us) = omega arith in
      let k : v.room + 1 + a.len + length (unit_bytes 1 s us) ≡ v.room + length (unit_bytes 1 s (a ∷ us)) =
      omega (arith, room_more 1 s a inside us) in
      rw (l, n, k, and_assoc v.fits (leb a.len 255) (all_at_most 255 (map (held s) us)))

  pub summed_more : (o : Outcome (List Span)) → summed s (adding_unit a.len v) o ≡ summed s v (more a o)
  summed_more (accept us) = ap accept (adding_more us)
  summed_more (refuse n) = refl

-- no units left
pub adding_none : (s : List ℕ) (v : RecordSum) → adding_all s v [] ≡ v
unfolding all_at_most encode_units
adding_none s v =
    let n : v.count + 0 ≡ v.count = omega arith in
    let k : v.room + 0 ≡ v.room = omega arith in
    rw (n, k, and-true v.fits)

-- the walk from c has come to `here` and its sum is v
pub record Summing (s : List ℕ) (c here : ListCursor) (v : RecordSum) : Type 0 where
  pub fits : Fits s here
  pub few : v.count + v.room ≤ here.at
  pub whole : summed s v (units_left s here) ≡ summed s no_units (units_left s c)

module _ (s : List ℕ) (c : ListCursor) where
  pub summing_start : Fits s c → Summing s c c no_units
  summing_start h = record { fits = h; few = omega arith; whole = refl }

  module _ (here : ListCursor) (v : RecordSum) (i : Summing s c here v) where
    pub summing_end : units_left s here ≡ accept [] → (accept v ≡ summed s no_units (units_left s c)) × (v.room ≤ 2 ^ 32)
    summing_end e = (
      ap accept (sym (adding_none s v)) ∙ ap (summed s v) (sym e) ∙ i.whole,
      omega (arith, i.few, i.fits.before, i.fits.within, i.fits.lent),
    )

    module _ (a : Span) (next : ListCursor) (turn : ListTurn s here a next) where
      pub summing_again : Summing s c next (adding_unit a.len v)
      summing_again =
          record {
            fits = turn.passed.fits;
            few = omega (arith, i.few, turn.ahead);
            whole = summed_more s a turn.inside v (units_left s next) ∙ ap (summed s v) (sym turn.rest) ∙ i.whole;
          }

-- what is known of a list that was measured
pub record Sum (s : List ℕ) (o : Outcome (List Span)) (v : RecordSum) : Type 0 where
  pub units : List Span
  pub found : o ≡ accept units
  pub count : v.count ≡ length units
  pub room : v.room ≡ length (unit_bytes 1 s units)
  pub fits : v.fits ≡ all_at_most 255 (map (held s) units)

pub sum_of_lem : (s : List ℕ) (o : Outcome (List Span)) (v : RecordSum) → accept v ≡ summed s no_units o → Sum s o v
sum_of_lem s (accept us) v e =
    let w : v ≡ adding_all s no_units us = cc in
    record {
      units = us;
      found = refl;
      count = ap (λ (x : RecordSum). x.count) w ∙ omega arith;
      room = ap (λ (x : RecordSum). x.room) w ∙ omega arith;
      fits = ap (λ (x : RecordSum). x.fits) w;
    }
sum_of_lem s (refuse n) v e = absurd (let z : ◌≡◌ {A = ℕ} 0 1 = cc in omega arith)

-- the first byte and then the units are the record
pub record_stored : (out d e us : List ℕ) (b k : ℕ) → b ≡ k → d ≡ set out 0 b → e ≡ sets d 1 us → e ≡ sets out 0 (k ∷ us)
record_stored out d e us b k h f g = g ∙ rw (f, h)

-- ### the record of a list that was measured

-- the tests that a record with a length has passed
pub record Long (c : CompactVvcConfig) (v : RecordSum) (n : ℕ) : Type 0 where
  pub one : 1 ≤ c.length_size
  pub four : c.length_size ≤ 4
  pub two : 2 ≤ v.count
  pub most : v.count ≤ 33
  pub long : n ≡ 1 + v.room

pub long_of : (c : CompactVvcConfig) (v : RecordSum) (n : ℕ) → accept n ≡ record_length c v → Long c v n
long_of c v n e = go (outside c.length_size) (leb 2 v.count) (leb v.count 33) v.fits refl refl refl e
  where
    go : (a l m f : Bool) → outside c.length_size ≡ a → leb 2 v.count ≡ l → leb v.count 33 ≡ m
        → accept n ≡ (if a then refuse 4 else if not (l && m) then refuse 8 else if not f then refuse 9 else accept (1 + v.room)) → Long c v n
    go true l m f x y z e = absurd (let w : ◌≡◌ {A = ℕ} 0 1 = cc in omega arith)
    go false false m f x y z e = absurd (let w : ◌≡◌ {A = ℕ} 0 1 = cc in omega arith)
    go false true false f x y z e = absurd (let w : ◌≡◌ {A = ℕ} 0 1 = cc in omega arith)
    go false true true false x y z e = absurd (let w : ◌≡◌ {A = ℕ} 0 1 = cc in omega arith)
    go false true true true x y z e =
        let s = size_inside c.length_size x in
        record { one = s.0; four = s.1; two = leb-true 2 v.count y; most = leb-true v.count 33 z; long = cc }

module _ (c : CompactVvcConfig) (s : List ℕ) (o : Outcome (List Span)) (v : RecordSum) (m : Sum s o v) where
  units_long : length (map (held s) m.units) ≡ v.count
  units_long = length-map m.units (held s) ∙ sym m.count

  -- the record is refused when its length is, and has that length
  recorded : compact_record_of c s o ≡ and_then (record_length c v) (λ n. accept (compact_first_byte c v.count ∷ bytes_of (unit_bytes 1 s) o))
  unfolding compact_bytes
  recorded =
      ap (compact_record_of c s) m.found
      ∙ rw (units_long, ← m.fits, m.found)
      (go (outside c.length_size) (not (leb 2 v.count && leb v.count 33)) (not v.fits)
      (compact_first_byte c v.count ∷ unit_bytes 1 s m.units))
    where
      go : (a b f : Bool) (bytes : List ℕ)
          → (if a then refuse 4 else if b then refuse 8 else if f then refuse 9 else accept bytes)
          ≡ and_then (if a then refuse 4 else if b then refuse 8 else if f then refuse 9 else accept (1 + v.room)) (λ n. accept bytes)
      go true b f bytes = refl
      go false true f bytes = refl
      go false false true bytes = refl
      go false false false bytes = refl

  pub record_refused : (n : ℕ) → refuse n ≡ record_length c v → compact_record_of c s o ≡ refuse n
  record_refused n e = recorded ∙ rw (← e)

  pub record_given_lem : (n : ℕ) → accept n ≡ record_length c v
      → compact_record_of c s o ≡ accept (compact_first_byte c v.count ∷ bytes_of (unit_bytes 1 s) o)
  record_given_lem n e = recorded ∙ rw (← e)

  pub record_room_lem : length (compact_first_byte c v.count ∷ bytes_of (unit_bytes 1 s) o) ≡ 1 + v.room
  record_room_lem = let l = ap (λ (x : Outcome (List Span)). length (bytes_of (unit_bytes 1 s) x)) m.found in omega (arith, m.room)

-- the whole list, from its start
module _ (c : CompactVvcConfig) (l : Bor (List ℕ)) (r : Result ListWalk Refusal) (f : Starts l r) where
  pub serialize_start : (w : ListWalk) → r ≡ Ok w → compact_record_of c w.list.now (left_of w) ≡ serialize_compact c l.now
  unfolding serialize_compact
  serialize_start w e = rw (walk_list l r f w e) (ap (compact_record_of c l.now) (walk_units l r f w e))

  pub serialize_refused : (e : Refusal) → r ≡ Err e → serialize_compact c l.now ≡ refuse (number_of e)
  unfolding serialize_compact
  serialize_refused n e = ap (compact_record_of c l.now) (sym (walk_refused l r f n e))
