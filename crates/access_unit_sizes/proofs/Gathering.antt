-- Laws of the units that are gathered: from the sums over list and item, in their order, and bounds of the sums.
use Prim.Native.Nat.{ℕ, suc, ◌+◌, ◌^◌, ◌≤◌, ◌<◌}
use mathlib.Core.Path.{◌≡◌, refl, sym, ap, ◌∙◌}
use mathlib.Core.Bool.{Bool, true, false, ◌||◌}
use mathlib.Core.List.{List, [], ◌∷◌, map}
use native.Mathlib.Omega.{arith}
use native.Mathlib.Decide.{dec_le}
use lib.Dec.{eqb, ltb}
use lib.ListN.{length, drop, length-take, length-map}
use borrow.Author.Tests.{le-leb, lt-leb}
use Rattle.std.specs.Prelude.{if◌then◌else◌, Option}
use Rattle.parse.specs.Outcome.{Outcome, accept, refuse, and_then}
use Rattle.boxes.specs.Parts.{held}
use Rattle.boxes.specs.Bytes.{outside}
use Rattle.boxes.specs.declared.Span.{Span}
use Rattle.boxes.proofs.Spans.{span_lengths}
use Rattle.unit_list.specs.UnitList.{Array, decode, units_of}
use Rattle.unit_list.specs.Answers.{list_units}
use Rattle.unit_list.proofs.Accepted.{accepted}
use Rattle.split.specs.Item.{split_item}
use Rattle.split.specs.inner.Walk.{item_units_from}
use Rattle.split.proofs.Items.{split_sound, split_lent, split_apart, items_outside, items_left}
use Rattle.split.proofs.Spans.{apart_sum}
use Rattle.access_unit.specs.AccessUnit.{keeps, leading, kept}
use Rattle.access_unit.specs.inner.Gathered.{kept_left, Gathered, some_gathered, gather, zero_byte_of, gathered_units, gathered_bytes, lengths}
use Rattle.access_unit_sizes.specs.inner.Sizes.{sum_of, item_sum, list_sum, SmallSum, sizes_of, zero_of, len_of, both_sums, sizes_with}
use Rattle.access_unit.specs.declared.StartCodes.{StartCodes}
use Rattle.access_unit.specs.declared.StartCodes.TheVariants.{Four, Short}
use Rattle.access_unit_sizes.specs.declared.sizes.UnitSum.{UnitSum}
use Rattle.access_unit_sizes.specs.declared.sizes.Sizes.{Sizes}
use Rattle.access_unit.proofs.Streams.{saved_few, zero_small}
use Rattle.access_unit_sizes.proofs.Parts.{zero_parts, stream_size}

-- ### bounds of the sums

lengths_le : (s : List ℕ) (us : List Span) → lengths (map (held s) us) ≤ span_lengths us
unfolding lengths
lengths_le s [] = omega arith
lengths_le s (a ∷ us) = let h = lengths_le s us in let l = length-take a.len (drop a.start s) in omega arith

kept_fewer : (item : List ℕ) (target : Option ℕ) (xs : List Span)
    → length (kept item target xs) + span_lengths (kept item target xs) ≤ length xs + span_lengths xs
unfolding kept
kept_fewer item target [] = omega arith
kept_fewer item target (a ∷ xs) = go (keeps target (held item a)) (kept_fewer item target xs)
  where
    go : (b : Bool) → length (kept item target xs) + span_lengths (kept item target xs) ≤ length xs + span_lengths xs
        → length (if b then a ∷ kept item target xs else kept item target xs) + span_lengths
        (if b then a ∷ kept item target xs else kept item target xs)
        ≤ suc (length xs) + (a.len + span_lengths xs)
    go true h = omega arith
    go false h = omega arith

pub list_few : (list : List ℕ) (us : List Span) → list_units list ≡ accept us → length us + lengths (map (held list) us) ≤ 2 ^ 30
list_few list us e = go (decode list) refl e
  where
    go : (o : Outcome (List (Array Span))) → decode list ≡ o → and_then o (λ xs. accept (units_of xs)) ≡ accept us
        → length us + lengths (map (held list) us) ≤ 2 ^ 30
    go (refuse n) d f = absurd (let z : ◌≡◌ {A = ℕ} 0 1 = cc in omega arith)
    go (accept xs) d f =
        let y : units_of xs ≡ us = cc in
        let w = accepted list xs d in
        let l = lengths_le list (units_of xs) in
        rw (← y) (omega (arith, w.together, w.lent))

item_few : (size : ℕ) (target : Option ℕ) (item : List ℕ) (split : List Span) → split_item size item ≡ accept split
    → length (kept item target split) + lengths (map (held item) (kept item target split)) ≤ length item
item_few size target item split e =
    let a = apart_sum (split_apart size item split e) in
    let k = kept_fewer item target split in
    let l = lengths_le item (kept item target split) in
    omega arith

-- ### measured

-- a sum over few units is small
sum_small : (s : List ℕ) (us : List Span) (lead : ℕ) → length us + lengths (map (held s) us) ≤ 2 ^ 30 → SmallSum (sum_of s us lead)
sum_small s us lead h = (h, omega (arith, saved_few (map (held s) us), length-map us (held s)), zero_small Short (map (held s) us))

-- the units of the item, kept and summed, with those of the list
module _ (codes : StartCodes) (size : ℕ) (target : Option ℕ) (item : List ℕ) (v : UnitSum) (lent : length item ≤ 2 ^ 30) where
  pub sizes_outside : outside size ≡ true → refuse 4 ≡ sizes_with codes size target item v
  sizes_outside h = sym (rw (split_lent size item lent ∙ items_outside size item h))

  pub sizes_left : 0 < size → size ≤ 4 → (o : Outcome UnitSum) → o ≡ and_then (kept_left size target item 0) (λ ks. accept (item_sum item ks))
      → and_then o (both_sums codes v) ≡ sizes_with codes size target item v
  unfolding kept_left
  sizes_left some four o e = rw (e, split_lent size item lent ∙ items_left size item some four) (go (item_units_from size item 0))
    where
      go : (x : Outcome (List Span))
          → and_then (and_then (and_then x (λ xs. accept (kept item target xs))) (λ ks. accept (item_sum item ks))) (both_sums codes v)
          ≡ and_then x (λ split. both_sums codes v (item_sum item (kept item target split)))
      go (accept xs) = refl
      go (refuse n) = refl

  pub item_sum_small : 0 < size → size ≤ 4 → (w : UnitSum) → accept w ≡ and_then (kept_left size target item 0) (λ ks. accept (item_sum item ks))
      → SmallSum w
  unfolding kept_left
  item_sum_small some four w e = go (item_units_from size item 0) (split_lent size item lent ∙ items_left size item some four) e
    where
      go : (o : Outcome (List Span)) → split_item size item ≡ o
          → accept w ≡ and_then (and_then o (λ xs. accept (kept item target xs))) (λ ks. accept (item_sum item ks)) → SmallSum w
      go (refuse n) s f = absurd (let z : ◌≡◌ {A = ℕ} 0 1 = cc in omega arith)
      go (accept xs) s f =
          let x : item_sum item (kept item target xs) ≡ w = cc in
          let k = item_few size target item xs s in
          rw (← x) (sum_small item (kept item target xs) (length (leading item (kept item target xs))) (omega arith))

-- what is added for the first unit, and what is taken off
pub zero_few : (codes : StartCodes) (v w : UnitSum) → SmallSum v → SmallSum w → zero_of codes v w ≤ 1
zero_few Four v w x y = omega arith
zero_few Short v w x y = go (ltb 0 w.lead || eqb v.count 0)
  where
    go : (b : Bool) → (if b then w.zero_byte else v.zero_byte) ≤ 1
    go true = y.2
    go false = x.2

pub gather_too_long : (size : ℕ) (target : Option ℕ) (list item : List ℕ) → 2 ^ 30 < length item → gather size target list item ≡ refuse 23
unfolding gather
gather_too_long size target list item h = rw (lt-leb (length item) (2 ^ 30) h)

module _ (codes : StartCodes) (size : ℕ) (target : Option ℕ) (list item : List ℕ) (lent : length item ≤ 2 ^ 30) where
  pub gather_list : (n : ℕ) → refuse n ≡ and_then (list_units list) (λ us. accept (list_sum list us)) → gather size target list item ≡ refuse n
  unfolding gather
  gather_list n e = rw (le-leb (length item) (2 ^ 30) lent) (go (list_units list) e)
    where
      go : (o : Outcome (List Span)) → refuse n ≡ and_then o (λ us. accept (list_sum list us))
          → and_then o (λ us. and_then (split_item size item) (λ split. some_gathered (record { units = us; kept = kept item target split }))) ≡ refuse n
      go (accept us) e = absurd (let z : ◌≡◌ {A = ℕ} 0 1 = cc in omega arith)
      go (refuse m) e = let z : m ≡ n = cc in ap refuse z

  -- a list that was summed: its units, and what follows for the item
  pub record Listed (v : UnitSum) : Type 0 where
    pub small : SmallSum v
    pub whole : sizes_with codes size target item v ≡ and_then (gather size target list item) (λ g. accept (sizes_of codes list item g))

  both : (us : List Span) (o : Outcome (List Span))
      → and_then o (λ split. both_sums codes (list_sum list us) (item_sum item (kept item target split)))
      ≡ and_then (and_then o (λ split. some_gathered (record { units = us; kept = kept item target split }))) (λ g. accept (sizes_of codes list item g))
  both us (refuse n) = refl
  both us (accept split) =
      let g : Gathered = record { units = us; kept = kept item target split } in
      go g (eqb (length us + length (kept item target split)) 0) (zero_parts list item codes g) (stream_size list item codes g)
    where
      go : (g : Gathered) (b : Bool) → let v = list_sum list g.units in let w = item_sum item g.kept in
          zero_byte_of codes (gathered_units list item g) ≡ zero_of codes v w
          → length (gathered_bytes codes list item (accept g)) ≡ len_of codes v w
          → ◌≡◌ {A = Outcome Sizes}
          (if b then refuse 19 else accept (record {
            listed = length g.units;
            kept = length g.kept;
            lead = length (leading item g.kept);
            zero_byte = zero_of codes v w;
            len = len_of codes v w;
          }))
          (and_then (if b then refuse 19 else accept g) (λ g. accept (sizes_of codes list item g)))
      go g true z l = refl
      go g false z l = rw (z, l)

  pub gather_listed : (v : UnitSum) → accept v ≡ and_then (list_units list) (λ us. accept (list_sum list us)) → Listed v
  unfolding gather
  gather_listed v e = go (list_units list) refl e
    where
      is : (us : List Span) → list_units list ≡ accept us
          → sizes_with codes size target item (list_sum list us)
          ≡ and_then (gather size target list item) (λ g. accept (sizes_of codes list item g))
      is us l = rw (le-leb (length item) (2 ^ 30) lent, l) (both us (split_item size item))

      go : (o : Outcome (List Span)) → list_units list ≡ o → accept v ≡ and_then o (λ us. accept (list_sum list us)) → Listed v
      go (refuse n) l f = absurd (let z : ◌≡◌ {A = ℕ} 0 1 = cc in omega arith)
      go (accept us) l f =
          let x : list_sum list us ≡ v = cc in
          rw (← x) (record { small = sum_small list us 0 (list_few list us l); whole = is us l })

-- ### what was gathered

pub record From (size : ℕ) (target : Option ℕ) (list item : List ℕ) (g : Gathered) : Type 0 where
  pub lent : length item ≤ 2 ^ 30
  pub some : 1 ≤ size
  pub four : size ≤ 4
  pub listed : list_units list ≡ accept g.units
  pub found : kept_left size target item 0 ≡ accept g.kept
  pub list_sum_lem : length g.units + lengths (map (held list) g.units) ≤ 2 ^ 30
  pub item_sum_lem : length g.kept + lengths (map (held item) g.kept) ≤ 2 ^ 30

module _ (size : ℕ) (target : Option ℕ) (list item : List ℕ) (g : Gathered) where
  gathered_from : (us split : List Span) → length item ≤ 2 ^ 30 → list_units list ≡ accept us → split_item size item ≡ accept split
      → some_gathered (record { units = us; kept = kept item target split }) ≡ accept g → From size target list item g
  unfolding kept_left
  gathered_from us split lent l s e =
      let w = split_sound size item (length split) (rw s) in
      let k = item_few size target item split s in
      let y : record { units = us; kept = kept item target split } ≡ g = go (eqb (length us + length (kept item target split)) 0) e in
      rw (← y) (record {
        lent = lent;
        some = w.some;
        four = w.four;
        listed = l;
        found = rw (sym w.whole ∙ s);
        list_sum_lem = list_few list us l;
        item_sum_lem = omega arith;
      })
    where
      go : (b : Bool) → ◌≡◌ {A = Outcome Gathered} (if b then refuse 19 else accept (record { units = us; kept = kept item target split })) (accept g)
          → record { units = us; kept = kept item target split } ≡ g
      go true e = absurd (let z : ◌≡◌ {A = ℕ} 0 1 = cc in omega arith)
      go false e = cc

  pub gathered : gather size target list item ≡ accept g → From size target list item g
  unfolding gather
  gathered e =
      elim (dec_le (length item) (2 ^ 30)) [
        | no h ↦ absurd (let w = gather_too_long size target list item (omega arith) in let z : ◌≡◌ {A = ℕ} 0 1 = cc in omega arith)
        | yes h ↦ go h (list_units list) refl (split_item size item) refl (rw (le-leb (length item) (2 ^ 30) h) at e)
      ]
    where
      go : length item ≤ 2 ^ 30 → (o : Outcome (List Span)) → list_units list ≡ o → (x : Outcome (List Span)) → split_item size item ≡ x
          → and_then o (λ us. and_then x (λ split. some_gathered (record { units = us; kept = kept item target split }))) ≡ accept g
          → From size target list item g
      go h (refuse n) l x s f = absurd (let z : ◌≡◌ {A = ℕ} 0 1 = cc in omega arith)
      go h (accept us) l (refuse n) s f = absurd (let z : ◌≡◌ {A = ℕ} 0 1 = cc in omega arith)
      go h (accept us) l (accept split) s f = gathered_from us split h l s f

-- an access unit that was measured: its units
pub record Known (codes : StartCodes) (size : ℕ) (target : Option ℕ) (list item : List ℕ) (v : Sizes) : Type 0 where
  pub parts : Gathered
  pub found : gather size target list item ≡ accept parts
  pub sized : v ≡ sizes_of codes list item parts

module _ (codes : StartCodes) (size : ℕ) (target : Option ℕ) (list item : List ℕ) where
  pub known : (v : Sizes) → accept v ≡ and_then (gather size target list item) (λ g. accept (sizes_of codes list item g))
      → Known codes size target list item v
  known v e = go (gather size target list item) refl e
    where
      go : (o : Outcome Gathered) → gather size target list item ≡ o → accept v ≡ and_then o (λ g. accept (sizes_of codes list item g))
          → Known codes size target list item v
      go (accept g) f e = record { parts = g; found = f; sized = cc }
      go (refuse n) f e = absurd (let z : ◌≡◌ {A = ℕ} 0 1 = cc in omega arith)

  pub unknown : (n : ℕ) → refuse n ≡ and_then (gather size target list item) (λ g. accept (sizes_of codes list item g))
      → gather size target list item ≡ refuse n
  unknown n e = go (gather size target list item) e
    where
      go : (o : Outcome Gathered) → refuse n ≡ and_then o (λ g. accept (sizes_of codes list item g)) → o ≡ refuse n
      go (accept g) e = absurd (let z : ◌≡◌ {A = ℕ} 0 1 = cc in omega arith)
      go (refuse m) e = let z : m ≡ n = cc in ap refuse z

  -- the sums are small
  pub record Small (v : Sizes) : Type 0 where
    pub units : v.listed + v.kept ≤ 2 ^ 31
    pub bytes : v.len ≤ 2 ^ 35

  pub known_small : (v : Sizes) → Known codes size target list item v → Small v
  known_small v n =
      let g = n.parts in
      let f = gathered size target list item g n.found in
      let v = list_sum list g.units in
      let w = item_sum item g.kept in
      let x = sum_small list g.units 0 f.list_sum_lem in
      let y = sum_small item g.kept (length (leading item g.kept)) f.item_sum_lem in
      let l : length (gathered_bytes codes list item (accept g)) ≤ 2 ^ 35 =
      omega (arith, stream_size list item codes g, zero_few codes v w x y, f.list_sum_lem, f.item_sum_lem) in
      rw n.sized (record { units = omega (arith, f.list_sum_lem, f.item_sum_lem); bytes = l })
