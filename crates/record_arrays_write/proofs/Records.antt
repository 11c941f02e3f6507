-- Laws of a record with any head: its answers in the order of their tests, and its parts stored.
use Prim.Native.Nat.{ℕ, ◌+◌, ◌≤◌}
use mathlib.Core.Path.{◌≡◌, refl, sym, ap, subst, ◌∙◌}
use mathlib.Core.Bool.{Bool, true, false, ◌&&◌}
use mathlib.Core.List.{List, [], ◌∷◌, ◌++◌, append_assoc}
use native.Mathlib.Omega.{arith}
use lib.Dec.{leb}
use lib.ListN.{length, set, replicate, length-append, length-replicate}
use lib.Seq.{sets, length-sets}
use borrow.Author.Tests.{leb-true}
use Rattle.error.specs.Refusals.{number_of}
use Rattle.error.specs.declared.Refusal.{Refusal}
use Rattle.error.specs.declared.Refusal.TheVariants.{FieldTooWide}
use Rattle.std.specs.Prelude.{if◌then◌else◌, Result, Ok, Err}
use Rattle.parse.specs.Answers.{answer_of}
use Rattle.parse.specs.Outcome.{Outcome, accept, refuse, and_then, lent_output, counted}
use Rattle.parse.specs.inner.Stores.{bytes_of}
use Rattle.parse.proofs.General.{both_true, sets_then, sets_before}
use Rattle.parse.proofs.Output.{written_fits}
use Rattle.boxes.specs.Walk.{count_found}
use Rattle.boxes.specs.declared.Span.{Span}
use Rattle.unit_list.specs.UnitList.{Array, decode, held_arrays}
use Rattle.unit_list.specs.inner.Walk.{arrays_from}
use Rattle.unit_list.specs.declared.ListWalk.{ListWalk}
use Rattle.record_arrays.specs.Write.{arrays_bytes, arrays_fit}
use Rattle.record_arrays.specs.declared.Codec.{Codec}
use Rattle.list_arrays.specs.inner.Measures.{arrays_measure, measured_by, ArraysWithin, arrays_laid}
use Rattle.list_arrays.specs.declared.Layout.TheVariants.{Record}
use Rattle.record_arrays_write.specs.inner.Record.{record_of, record_in, HeadLen, HeadIs, Laid, Writable, sized, SizeOf, Sizes}
use Rattle.record_arrays_write.specs.inner.Record.{Stored, PutAfter, PutsRecord}
use Rattle.list_arrays.specs.declared.measure.Measure.{Measure}
use Rattle.record_arrays_write.specs.declared.record.RecordLayout.{RecordLayout}

module _ (k : Codec) (s : List ℕ) where
  -- what is known of the arrays when they are measured
  record Known (o : Outcome (List (Array Span))) (m : Measure) : Type 0 where
    arrays : List (Array Span)
    found : o ≡ accept arrays
    is : m ≡ arrays_measure (Record k) s arrays

  known : (o : Outcome (List (Array Span))) (m : Measure) → accept m ≡ measured_by (arrays_measure (Record k) s) o → Known o m
  known (accept xs) m e = record { arrays = xs; found = refl; is = cc }
  known (refuse n) m e = absurd (let z : ◌≡◌ {A = ℕ} 0 1 = cc in omega arith)

  fits_by : (o : Outcome (List (Array Span))) (m : Measure) (a : Known o m)
      → leb m.count 255 && m.fits ≡ leb (length (held_arrays s a.arrays)) 255 && arrays_fit k (held_arrays s a.arrays)
  fits_by o m a = rw a.is

  -- ### the tests when the arrays that are left of a walk are measured

  module _ (walk : ListWalk) (same : walk.list.now ≡ s) (r : Result Measure Refusal)
      (f : (answer_of r ≡ measured_by (arrays_measure (Record k) s) (arrays_from s walk.cursor)) × ArraysWithin s r) where
    unmeasured : (o : Outcome (List (Array Span))) (n : ℕ) → refuse n ≡ measured_by (arrays_measure (Record k) s) o → o ≡ refuse n
    unmeasured (accept xs) n e = absurd (let z : ◌≡◌ {A = ℕ} 0 1 = cc in omega arith)
    unmeasured (refuse m) n e = let z : m ≡ n = cc in ap refuse z

    -- arrays that are refused are so before the head
    pub arrays_refused : (e : Refusal) → r ≡ Err e → (h : Outcome (List ℕ)) → record_in k h s (arrays_from s walk.cursor) ≡ refuse (number_of e)
    arrays_refused e w h = ap (record_in k h s) (unmeasured (arrays_from s walk.cursor) (number_of e) (sym (ap answer_of w) ∙ f.0))

    module _ (m : Measure) (e : r ≡ Ok m) where
      a : Known (arrays_from s walk.cursor) m
      a = known (arrays_from s walk.cursor) m (sym (ap answer_of e) ∙ f.0)

      abbrev xs : List (Array (List ℕ))
      xs = held_arrays s a.arrays

      record_given_lem : (h : Outcome (List ℕ)) (b : List ℕ) → h ≡ accept b → leb m.count 255 && m.fits ≡ true
          → record_in k h s (arrays_from s walk.cursor) ≡ accept (b ++ (length xs ∷ []) ++ arrays_bytes k xs)
      record_given_lem h b e t = rw (a.found, e, sym (fits_by (arrays_from s walk.cursor) m a) ∙ t)

      record_wide : (h : Outcome (List ℕ)) (b : List ℕ) → h ≡ accept b → leb m.count 255 && m.fits ≡ false
          → record_in k h s (arrays_from s walk.cursor) ≡ refuse 22
      record_wide h b e t = rw (a.found, e, sym (fits_by (arrays_from s walk.cursor) m a) ∙ t)

      module _ (h : Outcome (List ℕ)) (n : ℕ) (w : HeadLen h n) where
        abbrev layout : RecordLayout
        layout = record { head_len = n; arrays = walk; count = m.count; len = n + 1 + m.len }

        laid : leb m.count 255 && m.fits ≡ true → Laid k s layout
        laid t = record {
          same = same;
          found = a.arrays;
          is = a.found;
          number = ap (λ (x : Measure). x.count) a.is;
          few = leb-true m.count 255 (both_true (leb m.count 255) m.fits t).0;
          long = ap (λ (x : Measure). n + 1 + x.len) a.is;
        }

        sized_by : (t : Bool) → leb m.count 255 && m.fits ≡ t
            → SizeOf k s h (record_in k h s (arrays_from s walk.cursor)) (if t then Ok layout else Err FieldTooWide)
        unfolding laid
        sized_by true t = record { laid = laid t; head = w; bytes = record_given_lem h w.bytes w.is t }
        sized_by false t = record_wide h w.bytes w.is t

        pub record_sized : SizeOf k s h (record_in k h s (arrays_from s walk.cursor)) (sized n walk m)
        record_sized = sized_by (leb m.count 255 && m.fits) refl

-- ### the parts in an output

module _ (k : Codec) (s : List ℕ) (l : RecordLayout) (out : List ℕ) where
  -- the bytes of a record with this layout
  abbrev whole : (h o : Outcome (List ℕ)) → Writable k s h o l → List ℕ
  whole h o w =
      w.head.bytes ++ (length (held_arrays s w.laid.found) ∷ []) ++ arrays_bytes k (held_arrays s w.laid.found)

  length_record : (h o : Outcome (List ℕ)) (w : Writable k s h o l) → l.len ≡ length (whole h o w)
  length_record h o w =
      let b = w.head.bytes in
      let ys = held_arrays s w.laid.found in
      omega (arith, w.laid.long, w.head.long, length-append b (length ys ∷ []), length-append (b ++ (length ys ∷ [])) (arrays_bytes k ys))

  module _ (room : l.len ≤ length out) (d₁ : List ℕ) (e₁ : d₁ ≡ set out l.head_len l.count) where
    module _ (d₂ : List ℕ) (e₂ : d₂ ≡ sets d₁ (l.head_len + 1) (bytes_of (arrays_laid (Record k) s) (arrays_from s l.arrays.cursor)))
        (h o : Outcome (List ℕ))
        (w : Writable k s h o l) where
      abbrev b : List ℕ
      b = w.head.bytes

      abbrev ys : List (Array (List ℕ))
      ys = held_arrays s w.laid.found

      abbrev after : List ℕ
      after = (length ys ∷ []) ++ arrays_bytes k ys

      -- the number of arrays and the arrays
      after_stored : d₂ ≡ sets out l.head_len after
      after_stored =
          let g : bytes_of (arrays_laid (Record k) s) (arrays_from s l.arrays.cursor) ≡ arrays_bytes k ys =
          ap (bytes_of (arrays_laid (Record k) s)) w.laid.is in
          e₂ ∙ rw (g, e₁, w.laid.number) (sets_then out l.head_len (l.head_len + 1) (length ys ∷ []) (arrays_bytes k ys) (omega arith))

      -- the head stored before them
      whole_stored : sets d₂ 0 b ≡ sets out 0 (whole h o w)
      whole_stored =
          ap (λ (d : List ℕ). sets d 0 b) after_stored
          ∙ sets_before out 0 l.head_len b after (omega (arith, w.head.long))
          ∙ sets_then out 0 l.head_len b after (omega (arith, w.head.long))
          ∙ ap (sets out 0) (sym (append_assoc b (length ys ∷ []) (arrays_bytes k ys)))

      pub record_stored : Stored h o out l.len d₂
      record_stored = record {
        bytes = b;
        is = w.head.is;
        room =
            omega (arith, ap length after_stored, length-sets out l.head_len after, w.laid.long, w.head.long);
        whole = written_fits o out (whole h o w) w.bytes l.len (sets d₂ 0 b) (length_record h o w) room whole_stored;
      }

-- ### the answer when it is known

-- there is a head of every size
record SomeHead (n : Result ℕ Refusal) : Type 0 where
  head : Outcome (List ℕ)
  is : HeadIs head n

some_head : (n : Result ℕ Refusal) → SomeHead n
some_head (Ok n) = record { head = accept (replicate n 0); is = record { bytes = replicate n 0; is = refl; long = sym (length-replicate n 0) } }
some_head (Err e) = record { head = refuse (number_of e); is = refl }

-- a layout that was returned is that of the arrays
pub sizes_laid : (k : Codec) (s : List ℕ) (n : Result ℕ Refusal) (o : Outcome (List (Array Span))) (l : RecordLayout) → Sizes k s n o (Ok l) → Laid k s l
sizes_laid k s n o l f = (f (some_head n).head (some_head n).is).laid

module _ (k : Codec) (s : List ℕ) (h o : Outcome (List ℕ)) (r : Result RecordLayout Refusal) (f : SizeOf k s h o r) where
  pub size_refused : (x : Refusal) → r ≡ Err x → o ≡ refuse (number_of x)
  size_refused x w = subst (SizeOf k s h o) w f

  pub size_counted : (l : RecordLayout) → r ≡ Ok l → accept l.len ≡ count_found o
  size_counted l w = let b = subst (SizeOf k s h o) w f in ap accept (length_record k s l [] h o b) ∙ ap count_found (sym b.bytes)

module _ (k : Codec) (s : List ℕ) (n : Result ℕ Refusal) (d : List ℕ) (r : Result ℕ Refusal) (d' : List ℕ) (f : PutsRecord k s n d r d') (h o : Outcome (List ℕ))
    (is : HeadIs h n) (e : record_in k h s (decode s) ≡ o) where
  put_after : PutAfter h o d r d'
  put_after = subst (λ (x : Outcome (List ℕ)). PutAfter h x d r d') e (f h is)

  pub put_refused : (x : Refusal) → r ≡ Err x → ◌≡◌ {A = Outcome ℕ × List ℕ} (refuse (number_of x), d') (lent_output (counted o) d)
  put_refused x w = subst (λ (y : Result ℕ Refusal). PutAfter h o d y d') w put_after

  -- the head b of such a record fits, the output has room for it, and with it the output is whole
  pub put_stored : (fits : Bool) (b : List ℕ) → ((x : List ℕ) → h ≡ accept x → (fits ≡ true) × (x ≡ b)) → (i : ℕ) → r ≡ Ok i
      → (fits ≡ true) × (length b ≤ length d') × (◌≡◌ {A = Outcome ℕ × List ℕ} (accept i, sets d' 0 b) (lent_output (counted o) d))
  put_stored fits b given i w =
      let t = subst (λ (y : Result ℕ Refusal). PutAfter h o d y d') w put_after in
      let g = given t.bytes t.is in
      (g.0, omega (arith, t.room, ap length g.1), rw (sym g.1) t.whole)

-- ### a record that is written in this way

-- what is made of arrays is their record, so it is that of arrays found in a list
pub record_found : (k : Codec) (h : Outcome (List ℕ)) (s : List ℕ) (f : List (Array (List ℕ)) → Outcome (List ℕ))
    → ((xs : List (Array (List ℕ))) → f xs ≡ record_of k h xs) → (o : Outcome (List (Array Span)))
    → record_in k h s o ≡ and_then o (λ xs. f (held_arrays s xs))
record_found k h s f e (accept xs) = sym (e (held_arrays s xs))
record_found k h s f e (refuse n) = refl
