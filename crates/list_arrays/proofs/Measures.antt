-- Laws of measuring: what is measured and what is left are the whole, for units and for arrays.
use Prim.Native.Nat.{ℕ, ◌+◌, ◌-◌, ◌*◌, ◌^◌, ◌≤◌, ◌<◌}
use mathlib.Core.Path.{◌≡◌, refl, sym, ap, ◌∙◌, subst}
use mathlib.Core.Bool.{Bool, true, false, ◌&&◌, and_assoc}
use mathlib.Core.List.{List, [], ◌∷◌, ◌++◌, map}
use native.Mathlib.Omega.{arith}
use lib.Dec.{leb}
use lib.ListN.{length, length-append}
use Rattle.std.specs.Prelude.{if◌then◌else◌, Option, Some, None, Result, Ok}
use Rattle.error.specs.declared.Refusal.{Refusal}
use Rattle.parse.specs.Outcome.{Outcome, accept, refuse, and_then}
use Rattle.parse.specs.inner.Walk.{more}
use Rattle.boxes.specs.Bytes.{to_be, to_chunk}
use Rattle.boxes.specs.Parts.{held}
use Rattle.boxes.specs.declared.Span.{Span}
use Rattle.boxes.proofs.Numbers.{length_to_be}
use Rattle.boxes.proofs.Spans.{held_long}
use Rattle.boxes.proofs.ChunkBytes.{length_to_chunk}
use Rattle.unit_list.specs.UnitList.{Array, array_with, encode_units, encode_rest, encode_array, encode_arrays, held_array, held_arrays}
use Rattle.unit_list.specs.UnitList.{units_fit, lengths_fit}
use Rattle.unit_list.specs.inner.Walk.{array_units_from, units_stepped, UnitStepFits, arrays_from, arrays_stepped, ArrayStepFits, TwoOrFour, Fits, Entered}
use Rattle.unit_list.specs.declared.ListCursor.{ListCursor}
use Rattle.unit_list.proofs.Arrays.{two_to_four}
use Rattle.unit_list.proofs.Encode.{length_array}
use Rattle.record_arrays.specs.Read.{holds_one}
use Rattle.record_arrays.specs.Write.{first_byte, array_bytes, arrays_bytes, array_fits, arrays_fit}
use Rattle.record_arrays.specs.inner.Counts.{count_len}
use Rattle.record_arrays.specs.declared.Codec.{Codec}
use Rattle.list_arrays.specs.inner.Measures.{unit_width, joined, nothing, unit_measure, array_by, units_measure, arrays_measure}
use Rattle.list_arrays.specs.inner.Measures.{measured_by, after_measured, array_measured, Takes, ArrayWithin}
use Rattle.list_arrays.specs.declared.Layout.{Layout}
use Rattle.list_arrays.specs.declared.Layout.TheVariants as Y
use Rattle.list_arrays.specs.declared.measure.Measure.{Measure}

and_yes : (b : Bool) → b && true ≡ b
and_yes true = refl
and_yes false = refl

same_measure : {n m k l : ℕ} {f g : Bool} → n ≡ m → k ≡ l → f ≡ g
    → ◌≡◌ {A = Measure} (record { count = n; len = k; fits = f }) (record { count = m; len = l; fits = g })
same_measure p q r = rw (p, q, r)

joined_assoc : (a b c : Measure) → joined (joined a b) c ≡ joined a (joined b c)
joined_assoc a b c = same_measure (omega arith) (omega arith) (and_assoc a.fits b.fits c.fits)

joined_nothing : (m : Measure) → joined m nothing ≡ m
joined_nothing m = same_measure (omega arith) (omega arith) (and_yes m.fits)

pub after_more : (v m : Measure) (o : Outcome Measure) → after_measured (joined v m) o ≡ after_measured v (after_measured m o)
after_more v m (accept n) = ap accept (joined_assoc v m n)
after_more v m (refuse e) = refl

pub after_end : (v : Measure) → accept v ≡ after_measured v (accept nothing)
after_end v = ap accept (sym (joined_nothing v))

-- ---- the units of an array

module _ (w : ℕ) where
  length_units : (u : List ℕ) (us : List (List ℕ)) → length (encode_units w (u ∷ us)) ≡ w + length u + length (encode_units w us)
  unfolding encode_units
  length_units u us = let l = length_to_chunk w u in length-append (to_chunk w u) (encode_units w us) ∙ omega arith

  units_none : (s : List ℕ) → units_measure w s [] ≡ nothing
  unfolding encode_units units_fit
  units_none s = refl

  units_more : (s : List ℕ) (a : Span) → a.start + a.len ≤ length s → (o : Outcome (List Span))
      → measured_by (units_measure w s) (more a o) ≡ after_measured (unit_measure w a.len) (measured_by (units_measure w s) o)
  unfolding units_fit
  units_more s a h (refuse e) = refl
  units_more s a h (accept us) =
      let l = held_long s a h in
      let k = length_units (held s a) (map (held s) us) in
      ap accept (same_measure (omega arith) (omega arith) (rw l))

-- a step inside an array
module _ (s : List ℕ) (here : ListCursor) (r : Result (Option (Span × ListCursor)) Refusal) (f : (units_stepped s r ≡ array_units_from s here) × UnitStepFits s here r) where
  pub units_end : r ≡ Ok None → array_units_from s here ≡ accept []
  units_end e = sym (sym (ap (units_stepped s) e) ∙ f.0)

  module _ (a : Span) (next : ListCursor) (e : r ≡ Ok (Some (a, next))) where
    passed : (units_stepped s (Ok (Some (a, next))) ≡ array_units_from s here) × UnitStepFits s here (Ok (Some (a, next)))
    passed = subst (λ (r : Result (Option (Span × ListCursor)) Refusal). (units_stepped s r ≡ array_units_from s here) × UnitStepFits s here r) e f

    pub units_next : array_units_from s here ≡ more a (array_units_from s next)
    units_next = sym passed.0

    -- where the unit lies, and where the walk continues
    pub record Ahead : Type 0 where
      pub fits : Fits s next
      pub inside : a.start + a.len ≤ length s
      pub on : here.at + 2 + a.len ≤ next.at
      pub end : next.end ≡ here.end
      pub room : next.at ≤ 2 ^ 30
      pub less : length s - next.at < length s - here.at

    pub ahead : Ahead
    ahead =
        let p = passed.1.0 in
        let g = p.fits in
        let w : 2 ≤ here.width = omega (arith, p.same, (two_to_four next.width g.width).0) in
        record {
          fits = g;
          inside = omega (arith, p.next, g.before, g.within);
          on = omega (arith, p.start, p.next);
          end = passed.1.1;
          room = omega (arith, g.before, g.within, g.lent);
          less = omega (arith, p.start, p.next, g.before, g.within);
        }

-- the walk from c has come to `here` and has measured v
pub record MeasuringUnits (w : ℕ) (s : List ℕ) (c here : ListCursor) (v : Measure) : Type 0 where
  pub fits : Fits s here
  pub end : here.end ≡ c.end
  pub len : 2 * c.at + v.len ≤ 2 * here.at
  pub count : c.at + v.count ≤ here.at
  pub whole : after_measured v (measured_by (units_measure w s) (array_units_from s here)) ≡ measured_by (units_measure w s) (array_units_from s c)

module _ (w : ℕ) (s : List ℕ) (c : ListCursor) where
  module _ (here : ListCursor) (v : Measure) (i : MeasuringUnits w s c here v) (r : Result (Option (Span × ListCursor)) Refusal)
      (f : (units_stepped s r ≡ array_units_from s here) × UnitStepFits s here r) where
    pub units_ended : r ≡ Ok None
        → (accept v ≡ measured_by (units_measure w s) (array_units_from s c)) × ((2 * c.at + v.len ≤ 2 * c.end) × (c.at + v.count ≤ c.end))
    units_ended e = (
      after_end v ∙ ap (λ (m : Measure). after_measured v (accept m)) (sym (units_none w s))
          ∙ ap (λ (o : Outcome (List Span)). after_measured v (measured_by (units_measure w s) o)) (sym (units_end s here r f e)) ∙ i.whole,
      (omega (arith, i.len, i.fits.before, i.end), omega (arith, i.count, i.fits.before, i.end)),
    )

    module _ (a : Span) (next : ListCursor) (e : r ≡ Ok (Some (a, next))) (small : w ≤ 4) where
      pub units_again : MeasuringUnits w s c next (joined v (unit_measure w a.len))
      units_again =
          let h = ahead s here r f a next e in
          record {
            fits = h.fits;
            end = h.end ∙ i.end;
            len = omega (arith, i.len, h.on);
            count = omega (arith, i.count, h.on);
            whole =
                after_more v (unit_measure w a.len) (measured_by (units_measure w s) (array_units_from s next))
                ∙ ap (after_measured v) (sym (units_more w s a h.inside (array_units_from s next)))
                ∙ ap (λ (o : Outcome (List Span)). after_measured v (measured_by (units_measure w s) o)) (sym (units_next s here r f a next e))
                ∙ i.whole;
          }

-- ---- arrays

count_small : (b : Bool) → (if b then 0 else 2) ≤ 2
count_small true = omega arith
count_small false = omega arith

length_record_array : (k : Codec) (a : Array (List ℕ)) → length (array_bytes k a) ≡ 1 + count_len k a.unit_type + length (encode_units 2 a.units)
unfolding array_bytes
length_record_array k a = go (holds_one k a.unit_type)
  where
    go : (b : Bool) → length (first_byte a ∷ ((if b then [] else to_be 2 (length a.units)) ++ encode_units 2 a.units))
        ≡ 1 + (if b then 0 else 2) + length (encode_units 2 a.units)
    go true = omega arith
    go false =
        let l = length-append (to_be 2 (length a.units)) (encode_units 2 a.units) in
        let m = length_to_be 2 (length a.units) in
        omega arith

arrays_none : (l : Layout) (s : List ℕ) → accept nothing ≡ measured_by (arrays_measure l s) (accept [])
unfolding arrays_bytes arrays_fit encode_arrays lengths_fit
arrays_none (Y.Record k) s = refl
arrays_none (Y.List w) s = refl

module _ (s : List ℕ) (b t : ℕ) where
  array_more : (l : Layout) (us : List Span) (xs : List (Array Span))
      → joined (array_by l b t (units_measure (unit_width l) s us)) (arrays_measure l s xs) ≡ arrays_measure l s (array_with b t us ∷ xs)
  unfolding arrays_bytes arrays_fit array_fits encode_arrays lengths_fit
  array_more (Y.Record k) us xs =
      let l = length_record_array k (held_array s (array_with b t us)) in
      let m = length-append (array_bytes k (held_array s (array_with b t us))) (arrays_bytes k (held_arrays s xs)) in
      same_measure (omega arith) (omega arith) refl
  array_more (Y.List w) us xs =
      let l = length_array w.bytes (held_array s (array_with b t us)) in
      let m = length-append (encode_array w.bytes (held_array s (array_with b t us))) (encode_arrays w.bytes (held_arrays s xs)) in
      let n : 2 + length (encode_units w.bytes (map (held s) us)) ≡ length (encode_rest w.bytes (held_array s (array_with b t us))) = omega arith in
      same_measure (omega arith) (omega arith)
      (ap (λ (k : ℕ). (leb k 65535 && units_fit (map (held s) us)) && lengths_fit w.bytes (held_arrays s xs)) n)

  arrays_more : (l : Layout) (m : Measure) (u : Outcome (List Span)) (rest : Outcome (List (Array Span)))
      → accept m ≡ measured_by (units_measure (unit_width l) s) u
      → after_measured (array_by l b t m) (measured_by (arrays_measure l s) rest)
      ≡ measured_by (arrays_measure l s) (and_then u (λ us. more (array_with b t us) rest))
  arrays_more l m (refuse n) rest e = absurd (let z : ◌≡◌ {A = ℕ} 0 1 = cc in omega arith)
  arrays_more l m (accept us) (refuse n) e = refl
  arrays_more l m (accept us) (accept xs) e =
      let y : m ≡ units_measure (unit_width l) s us = cc in
      rw y (ap accept (array_more l us xs))

-- an array takes at most eight bytes besides its units, which is twice what it takes in a list
array_room : (l : Layout) (b t : ℕ) (m : Measure) → ((array_by l b t m).count ≡ 1) × ((array_by l b t m).len ≤ 8 + m.len)
array_room (Y.Record k) b t m = let n = count_small (holds_one k t) in (refl, omega arith)
array_room (Y.List w) b t m = let h = w.small in (refl, omega arith)

-- a step over one array
module _ (s : List ℕ) (here : ListCursor) (r : Result (Option (ℕ × ListCursor)) Refusal) (f : (arrays_stepped s r ≡ arrays_from s here) × ArrayStepFits s here r) where
  pub array_end : r ≡ Ok None → arrays_from s here ≡ accept []
  array_end e = sym (sym (ap (arrays_stepped s) e) ∙ f.0)

  pub entered : (b : ℕ) (c : ListCursor) → r ≡ Ok (Some (b, c)) → (arrays_stepped s (Ok (Some (b, c))) ≡ arrays_from s here) × Entered TwoOrFour s here b c
  entered b c e = subst (λ (r : Result (Option (ℕ × ListCursor)) Refusal). (arrays_stepped s r ≡ arrays_from s here) × ArrayStepFits s here r) e f

-- what it adds to the measure
module _ (l : Layout) (s : List ℕ) (here : ListCursor) (r : Result (Option (ℕ × ListCursor)) Refusal) (f : (arrays_stepped s r ≡ arrays_from s here) × ArrayStepFits s here r) where
  pub end_measured : r ≡ Ok None → accept nothing ≡ measured_by (arrays_measure l s) (arrays_from s here)
  end_measured e = arrays_none l s ∙ ap (measured_by (arrays_measure l s)) (sym (array_end s here r f e))

  module _ (b : ℕ) (c : ListCursor) (e : r ≡ Ok (Some (b, c))) where
    step : (arrays_stepped s (Ok (Some (b, c))) ≡ arrays_from s here) × Entered TwoOrFour s here b c
    step = entered s here r f b c e

    module _ (m : Measure) (h : accept m ≡ measured_by (units_measure (unit_width l) s) (array_units_from s c))
        (w : (2 * c.at + m.len ≤ 2 * c.end) × (c.at + m.count ≤ c.end)) where
      pub array_measured_lem : array_measured l s (Ok (Some (array_by l b c.unit_type m, c))) ≡ measured_by (arrays_measure l s) (arrays_from s here)
      array_measured_lem = arrays_more s b c.unit_type l m (array_units_from s c) (arrays_from s c) h ∙ ap (measured_by (arrays_measure l s)) step.0

      pub array_takes : Takes s here (array_by l b c.unit_type m) c
      array_takes =
          let g = step.1 in
          let n = array_room l b c.unit_type m in
          record {
            one = n.0;
            len = omega (arith, n.1, w.0, g.first, (two_to_four c.width g.fits.width).0);
            on = omega (arith, g.first, g.fits.before);
            fits = g.fits;
          }

-- the walk from c has come to `here` and has measured v
pub record MeasuringArrays (l : Layout) (s : List ℕ) (c here : ListCursor) (v : Measure) : Type 0 where
  pub fits : Fits s here
  pub len : v.len ≤ 2 * here.end
  pub count : v.count ≤ here.end
  pub whole : after_measured v (measured_by (arrays_measure l s) (arrays_from s here)) ≡ measured_by (arrays_measure l s) (arrays_from s c)

module _ (l : Layout) (s : List ℕ) (c : ListCursor) where
  module _ (here : ListCursor) (v : Measure) (i : MeasuringArrays l s c here v) (r : Result (Option (Measure × ListCursor)) Refusal)
      (f : (array_measured l s r ≡ measured_by (arrays_measure l s) (arrays_from s here)) × ArrayWithin s here r) where
    module _ (m : Measure) (d : ListCursor) (e : r ≡ Ok (Some (m, d))) where
      took : (array_measured l s (Ok (Some (m, d))) ≡ measured_by (arrays_measure l s) (arrays_from s here)) × Takes s here m d
      took = subst (λ (r : Result (Option (Measure × ListCursor)) Refusal). (array_measured l s r ≡ measured_by (arrays_measure l s) (arrays_from s here)) × ArrayWithin s here r) e f

      pub arrays_again : MeasuringArrays l s c d (joined v m)
      arrays_again =
          let t = took.1 in
          record {
            fits = t.fits;
            len = omega (arith, i.len, t.len);
            count = omega (arith, i.count, t.one, t.on);
            whole = after_more v m (measured_by (arrays_measure l s) (arrays_from s d)) ∙ ap (after_measured v) took.0 ∙ i.whole;
          }
