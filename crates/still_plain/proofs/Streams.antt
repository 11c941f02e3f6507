-- The stream of the units of a list and of the unit of the stored bytes, measured without an item.
use Prim.Native.Nat.{ℕ, ◌+◌, ◌^◌, ◌≤◌}
use native.Mathlib.Omega.{arith}
use mathlib.Core.Path.{◌≡◌, sym, ap, ◌∙◌, subst}
use Rattle.std.specs.Prelude.{None, Result, Ok, Err}
use Rattle.error.specs.declared.Refusal.{Refusal}
use Rattle.parse.specs.Answers.{answer_of}
use mathlib.Core.List.{List, [], ◌++◌, map, append-nil}
use lib.ListN.{length, length-append, length-map}
use borrow.Author.Tests.{ne_eqb, le-ltb}
use Rattle.error.specs.Refusals.{number_of}
use Rattle.parse.specs.Outcome.{Outcome, accept, refuse, and_then}
use Rattle.parse.specs.Parse.{many, many_up_to}
use Rattle.parse.proofs.Lent.{lent_within}
use Rattle.boxes.specs.Bytes.{to_chunk}
use Rattle.boxes.specs.Parts.{held}
use Rattle.boxes.specs.Walk.{count_found}
use Rattle.split.specs.Item.{item_units, split_item}
use Rattle.annex_b.specs.Stream.{code_bytes, annex_b}
use Rattle.compact.specs.ItemData.{still_unit}
use Rattle.access_unit.specs.declared.Source.TheVariants.{OfList}
use Rattle.access_unit.specs.AccessUnit.{leading, following, kept, held_in, code_of_type, code_of}
use Rattle.access_unit.specs.inner.Gathered.{Gathered, gather, in_order, coded, gathered_bytes}
use Rattle.access_unit_sizes.specs.inner.Sizes.{sizes_of}
use Rattle.access_unit.specs.declared.StartCodes.{StartCodes}
use Rattle.access_unit_sizes.specs.declared.sizes.Sizes.{Sizes}
use Rattle.access_unit_sizes.proofs.Gathering.{Known, known_small}
use Rattle.access_unit.proofs.Order.{held_list}
use Rattle.access_unit.proofs.Streams.{stream_last}
use Rattle.still.specs.inner.Steps.{Plain, units_stream, plain_stream}
use Rattle.still_plain.specs.inner.Plain.{Listed, ItemLong, PlainSizes}

-- the empty item has no unit
split_empty : (size : ℕ) → 1 ≤ size → size ≤ 4 → split_item size [] ≡ accept []
unfolding split_item item_units many many_up_to
split_empty size a b = rw (ne_eqb size 0 (λ e. omega arith), le-ltb 4 size b)

module _ (codes : StartCodes) (size : ℕ) (list : List ℕ) (p : Plain size list) where
  abbrev parts : Gathered
  parts = record { units = p.units; kept = [] }

  gathers : gather size None list [] ≡ accept parts
  unfolding gather kept
  gathers =
      let n = p.some in
      rw (p.listed, split_empty size p.low p.high, ne_eqb (length p.units + 0) 0 (λ e. omega arith))

  -- what measuring returns
  abbrev measured : Outcome Gathered → Outcome Sizes
  measured o = and_then o (λ g. accept (sizes_of codes list [] g))

  pub listed_at : (v : Sizes) → accept v ≡ measured (gather size None list []) → Listed codes size list v
  listed_at v e =
      let f : accept v ≡ accept (sizes_of codes list [] parts) = e ∙ ap measured gathers in
      record { units = p.units; some = p.some; listed = p.listed; gathered = gathers; sized = cc }

  pub never_refused : (n : ℕ) → refuse n ≡ measured (gather size None list []) → ⊥
  never_refused n e =
      let f : refuse n ≡ accept (sizes_of codes list [] parts) = e ∙ ap measured gathers in
      let z : ◌≡◌ {A = ℕ} 0 1 = cc in
      omega arith

-- an item of n bytes that is not too long: the stream is that of the units measured
module _ (codes : StartCodes) (size : ℕ) (list S : List ℕ) (n : ℕ) (long : ItemLong size S n) where
  pub plain_measured : Plain size list → n ≤ 2 ^ 30 → (r : Result Sizes Refusal)
      → answer_of r ≡ and_then (gather size None list []) (λ g. accept (sizes_of codes list [] g)) → PlainSizes codes size list S r
  plain_measured p h (Ok v) e = (listed_at codes size list p v e, lent_within (to_chunk size (still_unit S)) _ (omega arith))
  plain_measured p h (Err x) e = absurd (never_refused codes size list p (number_of x) e)

-- what the sizes of the list say when the answer is known
module _ (codes : StartCodes) (size : ℕ) (list S : List ℕ) (r : Result Sizes Refusal) (f : PlainSizes codes size list S r) where
  pub sized_listed : (v : Sizes) → r ≡ Ok v → Listed codes size list v × (plain_stream codes size list S ≡ units_stream codes list S)
  sized_listed v e = subst (PlainSizes codes size list S) e f

module _ (codes : StartCodes) (size : ℕ) (list : List ℕ) (v : Sizes) (k : Listed codes size list v) where
  pub known : Known codes size None list [] v
  known = record { parts = record { units = k.units; kept = [] }; found = k.gathered; sized = k.sized }

  pub listed_small : v.len ≤ 2 ^ 35
  listed_small = (known_small codes size None list [] v known).bytes

  -- the stream of the list
  abbrev pub front : List ℕ
  front = annex_b (code_of codes) (map (held list) k.units)

  front_bytes_lem : gathered_bytes codes list [] (accept (record { units = k.units; kept = [] })) ≡ front
  unfolding in_order leading following
  front_bytes_lem = ap (annex_b (code_of codes)) (ap (map (held_in list [])) (append-nil (map OfList k.units)) ∙ held_list list [] k.units)

  pub front_found : gathered_bytes codes list [] (gather size None list []) ≡ front
  front_found = ap (gathered_bytes codes list []) k.gathered ∙ front_bytes_lem

  pub front_long : v.len ≡ length front
  front_long = ap (λ (w : Sizes). w.len) k.sized ∙ ap length front_bytes_lem

  module _ (S : List ℕ) where
    abbrev pub stream_bytes : List ℕ
    stream_bytes = front ++ coded codes (still_unit S)

    pub stream_given : units_stream codes list S ≡ accept stream_bytes
    stream_given = rw k.listed (ap accept (stream_last codes (map (held list) k.units) (still_unit S)
        (omega (arith, k.some, length-map k.units (held list)))))

    pub stream_long : length stream_bytes ≡ v.len + length (code_bytes (code_of_type codes 8)) + 2 + length S
    stream_long = omega (
      arith,
      length-append front (coded codes (still_unit S)),
      front_long,
      length-append (code_bytes (code_of_type codes 8)) (still_unit S),
    )

    -- the length of the stream
    pub stream_counted : plain_stream codes size list S ≡ units_stream codes list S
        → (n : ℕ) → n ≡ v.len + length (code_bytes (code_of_type codes 8)) + 2 + length S → accept n ≡ count_found (plain_stream codes size list S)
    stream_counted e n h = ap accept (h ∙ sym stream_long) ∙ ap count_found (sym (e ∙ stream_given))
