-- Laws of storing what is found, one after the other: what is stored and what is left are the whole.
use Prim.Native.Nat.{ℕ, ◌+◌, ◌-◌, ◌*◌, ◌/◌, ◌%◌, ◌≤◌}
use mathlib.Core.Path.{◌≡◌, refl, sym, ap, ◌∙◌}
use mathlib.Core.Bool.{false}
use mathlib.Core.List.{List, [], ◌∷◌, ◌++◌}
use native.Mathlib.Omega.{arith}
use native.Mathlib.Numerals.{add-one}
use lib.ListN.{length, set, length-append, length-set}
use lib.Seq.{sets, length-sets}
use Rattle.std.specs.Prelude.{Option, Some, None, Result, Ok}
use Rattle.error.specs.declared.Refusal.{Refusal}
use Rattle.parse.specs.Outcome.{Outcome, accept, refuse, and_then}
use Rattle.parse.specs.inner.Walk.{more}
use Rattle.parse.specs.inner.Stores.{Puts, bytes_of}
use Rattle.parse.proofs.General.{sets_append}
use Rattle.parse.proofs.Stores.{puts_found, Putting, putting_never, putting_end, putting_room, putting_again}
use Rattle.boxes.specs.Bytes.{to_be, to_chunk}
use Rattle.boxes.specs.Parts.{held}
use Rattle.boxes.specs.declared.Span.{Span}
use Rattle.unit_list.specs.UnitList.{Array, array_with, largest_type, encode_array, encode_arrays, held_array}
use Rattle.unit_list.specs.inner.Walk.{array_units_from, units_stepped, UnitStepFits, arrays_from, arrays_stepped, ArrayStepFits, Fits}
use Rattle.unit_list.specs.inner.Written.{unit_bytes}
use Rattle.unit_list.specs.declared.ListCursor.{ListCursor}
use Rattle.unit_list.proofs.Encode.{length_array}
use Rattle.unit_list.proofs.StoredUnits.{Copying, copying_done, copying_room, copying_again}
use Rattle.unit_list.proofs.Written as written
use Rattle.record_arrays.specs.Read.{holds_one}
use Rattle.record_arrays.specs.Write.{array_bytes, arrays_bytes}
use Rattle.record_arrays.specs.declared.Codec.{Codec}
use Rattle.list_arrays.specs.inner.Measures.{units_measure, measured_by, count_bytes, array_in_record, array_in_list, array_laid, arrays_laid}
use Rattle.list_arrays.specs.declared.Layout.{Layout}
use Rattle.list_arrays.specs.declared.Layout.TheVariants as Y
use Rattle.list_arrays.specs.declared.measure.Measure.{Measure}
use Rattle.list_arrays.proofs.Measures.{ahead, units_next, entered}

-- ---- the units of an array

-- the walk from c has come to `here`
pub record PuttingUnits (w : ℕ) (s : List ℕ) (c : ListCursor) (out₀ : List ℕ) (to₀ : ℕ) (here : ListCursor) (out : List ℕ) (to : ℕ) : Type 0 where
  pub fits : Fits s here
  pub putting : Copying w s out₀ to₀ (array_units_from s c) (array_units_from s here) out to

module _ (w : ℕ) (s : List ℕ) (c : ListCursor) (out₀ : List ℕ) (to₀ : ℕ) where
  module _ (here : ListCursor) (out : List ℕ) (to : ℕ) (i : PuttingUnits w s c out₀ to₀ here out to) (r : Result (Option (Span × ListCursor)) Refusal)
      (f : (units_stepped s r ≡ array_units_from s here) × UnitStepFits s here r) where
    pub units_done : r ≡ Ok None
        → (to ≡ to₀ + length (bytes_of (unit_bytes w s) (array_units_from s c))) × (out ≡ sets out₀ to₀ (bytes_of (unit_bytes w s) (array_units_from s c)))
    units_done e =
        copying_done w s out₀ to₀ (array_units_from s c) (array_units_from s here) out to i.putting (sym (sym (ap (units_stepped s) e) ∙ f.0))

    module _ (a : Span) (next : ListCursor) (e : r ≡ Ok (Some (a, next))) where
      pub unit_room : (a.start + a.len ≤ length s) × (to + w + a.len ≤ length out)
      unit_room =
          let h = (ahead s here r f a next e).inside in (
            h,
            copying_room w s out₀ to₀ (array_units_from s c) (array_units_from s here) out to i.putting a h (array_units_from s next)
                (units_next s here r f a next e),
          )

      pub units_again : (d : List ℕ) → d ≡ sets out to (to_chunk w (held s a)) → PuttingUnits w s c out₀ to₀ next d (to + w + a.len)
      units_again d g =
          record {
            fits = (ahead s here r f a next e).fits;
            putting =
                copying_again w s out₀ to₀ (array_units_from s c) (array_units_from s here) out to i.putting a (ahead s here r f a next e).inside
                (array_units_from s next) (units_next s here r f a next e) d g;
          }

-- ---- one array of a record

-- a byte and two runs, stored one after the other
pub three_stored : (d : List ℕ) (to x : ℕ) (xs ys : List ℕ)
    → sets (sets (set d to x) (to + 1) xs) (to + 1 + length xs) ys ≡ sets d to (x ∷ (xs ++ ys))
three_stored d to x xs ys = rw (add-one to) (sets_append (set d to x) _ xs ys)

module _ (k : Codec) (s : List ℕ) (b t : ℕ) (us : List Span) where
  pub array_parts : array_in_record k s b t us ≡ (b % 2 * 128 + b / 2 * 64 + t) ∷ (count_bytes k s t us ++ unit_bytes 2 s us)
  unfolding array_bytes
  array_parts = refl

  pub array_long : length (array_in_record k s b t us) ≡ 1 + length (count_bytes k s t us) + length (unit_bytes 2 s us)
  array_long = ap length array_parts ∙ (let l = length-append (count_bytes k s t us) (unit_bytes 2 s us) in omega arith)

-- the count: none, or two bytes
module _ (k : Codec) (s : List ℕ) (t : ℕ) (o : Outcome (List Span)) where
  pub count_two : holds_one k t ≡ false → (m : Measure) → accept m ≡ measured_by (units_measure 2 s) o → bytes_of (count_bytes k s t) o ≡ to_be 2 m.count
  count_two e m = go o
    where
      go : (o : Outcome (List Span)) → accept m ≡ measured_by (units_measure 2 s) o → bytes_of (count_bytes k s t) o ≡ to_be 2 m.count
      go (accept us) h = let y : m ≡ units_measure 2 s us = cc in rw (e, y)
      go (refuse n) h = absurd (let z : ◌≡◌ {A = ℕ} 0 1 = cc in omega arith)

-- what the three writes of an array need and leave
module _ (k : Codec) (s : List ℕ) (b t : ℕ) (o : Outcome (List Span)) (out : List ℕ) (to : ℕ) (h : Puts (array_in_record k s b t) o out to) where
  module _ (x : ℕ) (is : x ≡ b % 2 * 128 + b / 2 * 64 + t) (d₁ : List ℕ) (e₁ : d₁ ≡ set out to x) where
    one_long : length d₁ ≡ length out
    one_long = ap length e₁ ∙ length-set out to _

    pub count_puts : Puts (count_bytes k s t) o d₁ (to + 1)
    count_puts = let l = array_long k s b t h.it in let m = one_long in record { it = h.it; found = h.found; room = omega (arith, h.room) }

    module _ (d₂ : List ℕ) (at : ℕ)
        (e₂ : (at ≡ to + 1 + length (bytes_of (count_bytes k s t) o)) × (d₂ ≡ sets d₁ (to + 1) (bytes_of (count_bytes k s t) o))) where
      two_long : length d₂ ≡ length out
      two_long = ap length e₂.1 ∙ length-sets d₁ (to + 1) (bytes_of (count_bytes k s t) o) ∙ one_long

      count_found_lem : bytes_of (count_bytes k s t) o ≡ count_bytes k s t h.it
      count_found_lem = ap (bytes_of (count_bytes k s t)) h.found

      pub units_puts : Puts (unit_bytes 2 s) o d₂ at
      units_puts =
          let l = array_long k s b t h.it in
          let n = two_long in
          let m = ap length count_found_lem in
          record { it = h.it; found = h.found; room = omega (arith, h.room, e₂.0) }

      pub array_stored : (d₃ : List ℕ) (end : ℕ) → (end ≡ at + length (bytes_of (unit_bytes 2 s) o)) × (d₃ ≡ sets d₂ at (bytes_of (unit_bytes 2 s) o))
          → (end ≡ to + length (bytes_of (array_in_record k s b t) o)) × (d₃ ≡ sets out to (bytes_of (array_in_record k s b t) o))
      array_stored d₃ end e₃ =
          let us = h.it in
          let u : bytes_of (unit_bytes 2 s) o ≡ unit_bytes 2 s us = ap (bytes_of (unit_bytes 2 s)) h.found in
          let w : bytes_of (array_in_record k s b t) o ≡ array_in_record k s b t us = ap (bytes_of (array_in_record k s b t)) h.found in
          let l = array_long k s b t us in
          let m = ap length count_found_lem in
          let n = ap length u in
          let v = ap length w in (
            omega (arith, e₂.0, e₃.0),
            e₃.1 ∙ rw (e₂.1, e₂.0, e₁, is, u, w, count_found_lem, array_parts k s b t us)
                (three_stored out to (b % 2 * 128 + b / 2 * 64 + t) (count_bytes k s t us) (unit_bytes 2 s us)),
          )

-- ---- one array of a list

module _ (w : ℕ) (s : List ℕ) (b t : ℕ) where
  list_array_long : (us : List Span) → length (array_in_list w s b t us) ≡ w + (2 + length (unit_bytes w s us))
  list_array_long us = length_array w (held_array s (array_with b t us)) ∙ omega arith

  -- what the writes of an array need and leave: its units, and then what comes before them
  module _ (o : Outcome (List Span)) (out : List ℕ) (to : ℕ) (h : Puts (array_in_list w s b t) o out to) where
    pub list_units_puts : Puts (unit_bytes w s) o out (to + w + 2)
    list_units_puts = let l = list_array_long h.it in record { it = h.it; found = h.found; room = omega (arith, h.room) }

    module _ (d₁ : List ℕ) (end : ℕ)
        (e₁ : (end ≡ to + w + 2 + length (bytes_of (unit_bytes w s) o)) × (d₁ ≡ sets out (to + w + 2) (bytes_of (unit_bytes w s) o))) where
      units_found : bytes_of (unit_bytes w s) o ≡ unit_bytes w s h.it
      units_found = ap (bytes_of (unit_bytes w s)) h.found

      pub list_head_room : to + w + 2 ≤ length d₁
      list_head_room =
          let l = list_array_long h.it in
          let m = length-sets out (to + w + 2) (bytes_of (unit_bytes w s) o) in
          omega (arith, h.room, ap length e₁.1)

      pub list_array_stored : (d₂ : List ℕ) → d₂ ≡ sets d₁ to (to_be w (end - (to + w)) ++ (b ∷ t ∷ []))
          → (end ≡ to + length (bytes_of (array_in_list w s b t) o)) × (d₂ ≡ sets out to (bytes_of (array_in_list w s b t) o))
      unfolding encode_array
      list_array_stored d₂ e₂ =
          let us = h.it in
          let l = list_array_long us in
          let u = units_found in
          let n = ap length u in
          let g : bytes_of (array_in_list w s b t) o ≡ array_in_list w s b t us = ap (bytes_of (array_in_list w s b t)) h.found in
          let m = ap length g in
          let c : b / 2 * 2 + b % 2 ≡ b = omega arith in
          let same : to_chunk w (b ∷ t ∷ bytes_of (unit_bytes w s) o) ≡ bytes_of (array_in_list w s b t) o = rw (g, u, c) in (
            omega (arith, e₁.0),
            written.array_stored out d₁ d₂ to w (end - (to + w)) b t (to + w + 2) (bytes_of (unit_bytes w s) o) refl (omega (arith, e₁.0)) e₁.1 e₂
                ∙ ap (λ (x : List ℕ). sets out to x) same,
          )

-- ---- arrays

arrays_nil : (l : Layout) (s : List ℕ) → arrays_laid l s [] ≡ []
unfolding arrays_bytes encode_arrays
arrays_nil (Y.Record k) s = refl
arrays_nil (Y.List w) s = refl

arrays_first : (l : Layout) (s : List ℕ) (b t : ℕ) (us : List Span) (xs : List (Array Span))
    → arrays_laid l s (array_with b t us ∷ xs) ≡ array_laid l s b t us ++ arrays_laid l s xs
unfolding arrays_bytes encode_arrays
arrays_first (Y.Record k) s b t us xs = refl
arrays_first (Y.List w) s b t us xs = refl

-- the walk from c₀ has come to `here`
pub record PuttingArrays (l : Layout) (s : List ℕ) (c₀ : ListCursor) (out₀ : List ℕ) (to₀ : ℕ) (here : ListCursor) (out : List ℕ) (to : ℕ)
    : Type 0 where
  pub fits : Fits s here
  pub putting : Putting (arrays_laid l s) out₀ to₀ (arrays_from s c₀) (arrays_from s here) out to

module _ (l : Layout) (s : List ℕ) (c₀ : ListCursor) (out₀ : List ℕ) (to₀ : ℕ) where
  module _ (here : ListCursor) (out : List ℕ) (to : ℕ) (i : PuttingArrays l s c₀ out₀ to₀ here out to) (r : Result (Option (ℕ × ListCursor)) Refusal)
      (f : (arrays_stepped s r ≡ arrays_from s here) × ArrayStepFits s here r) where
    pub arrays_done : r ≡ Ok None → out ≡ sets out₀ to₀ (bytes_of (arrays_laid l s) (arrays_from s c₀))
    arrays_done e =
        (putting_end (arrays_laid l s) out₀ to₀ (arrays_from s c₀) (arrays_from s here) out to i.putting (arrays_nil l s)
        (sym (sym (ap (arrays_stepped s) e) ∙ f.0))).1

    module _ (b : ℕ) (c : ListCursor) (e : r ≡ Ok (Some (b, c))) where
      -- the units of this array, since all are found
      pub record HasUnits : Type 0 where
        pub units : List Span
        pub found : array_units_from s c ≡ accept units
        pub next : arrays_from s here ≡ more (array_with b c.unit_type units) (arrays_from s c)

      has_units : HasUnits
      has_units = go (array_units_from s c) refl
        where
          go : (u : Outcome (List Span)) → array_units_from s c ≡ u → HasUnits
          go (accept us) w =
              record {
                units = us;
                found = w;
                next = sym (entered s here r f b c e).0
                    ∙ ap (λ (o : Outcome (List Span)). and_then o (λ us. more (array_with b c.unit_type us) (arrays_from s c))) w;
              }
          go (refuse n) w =
              absurd (putting_never (arrays_laid l s) out₀ to₀ (arrays_from s c₀) (arrays_from s here) out to i.putting n
              (sym (entered s here r f b c e).0
              ∙ ap (λ (o : Outcome (List Span)). and_then o (λ us. more (array_with b c.unit_type us) (arrays_from s c))) w))

      pub array_needs : (b ≤ 3) × (c.unit_type ≤ largest_type) × Fits s c × Puts (array_laid l s b c.unit_type) (array_units_from s c) out to
      array_needs =
          let g = (entered s here r f b c e).1 in
          let u = has_units in
          let a = array_with b c.unit_type u.units in (
            g.complete,
            g.unit_type,
            g.fits,
            puts_found (array_laid l s b c.unit_type) (array_units_from s c) out to u.units u.found
                (putting_room (arrays_laid l s) out₀ to₀ (arrays_from s c₀) (arrays_from s here) out to i.putting a
                (array_laid l s b c.unit_type u.units) (arrays_first l s b c.unit_type u.units) (arrays_from s c) u.next),
          )

      pub arrays_again : (next : ℕ) (d : List ℕ)
          → (next ≡ to + length (bytes_of (array_laid l s b c.unit_type) (array_units_from s c)))
          × (d ≡ sets out to (bytes_of (array_laid l s b c.unit_type) (array_units_from s c)))
          → PuttingArrays l s c₀ out₀ to₀ c d next
      arrays_again next d h =
          let g = (entered s here r f b c e).1 in
          let u = has_units in
          let a = array_with b c.unit_type u.units in
          let w : bytes_of (array_laid l s b c.unit_type) (array_units_from s c) ≡ array_laid l s b c.unit_type u.units =
          ap (bytes_of (array_laid l s b c.unit_type)) u.found in
          record {
            fits = g.fits;
            putting = putting_again (arrays_laid l s) out₀ to₀ (arrays_from s c₀) (arrays_from s here) out to i.putting a
                (array_laid l s b c.unit_type u.units) (arrays_first l s b c.unit_type u.units) (arrays_from s c) u.next d
                (h.1 ∙ ap (λ (x : List ℕ). sets out to x) w) next (h.0 ∙ ap (λ (x : List ℕ). to + length x) w);
          }
