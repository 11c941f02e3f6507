-- Laws of the sums of a walk: one unit added, and bounds of the sums.
use Prim.Native.Nat.{ℕ, suc, ◌+◌, ◌^◌, ◌≤◌, ◌<◌}
use mathlib.Core.Path.{◌≡◌, refl, sym, ap, ◌∙◌}
use mathlib.Core.Bool.{Bool, true, false, ◌&&◌}
use mathlib.Core.List.{List, [], ◌∷◌, ◌++◌, map, map-append}
use native.Mathlib.Omega.{arith}
use native.Mathlib.Decide.{dec_le}
use lib.Dec.{eqb}
use lib.ListN.{length, length-append}
use borrow.Author.Tests.{eq-eqb, ne_eqb}
use Rattle.std.specs.Prelude.{if◌then◌else◌, Option}
use Rattle.parse.specs.Outcome.{Outcome, accept, refuse, and_then}
use Rattle.parse.specs.inner.Walk.{more}
use Rattle.boxes.specs.Parts.{held}
use Rattle.boxes.specs.declared.Span.{Span}
use Rattle.boxes.proofs.Walk.{after, after_nil, done_more, done_end, done_refused}
use Rattle.boxes.proofs.Spans.{held_long}
use Rattle.split.proofs.Items.{Turn}
use Rattle.annex_b.specs.RoundTrip.{threes}
use Rattle.access_unit.specs.AccessUnit.{keeps, may_lead, leading}
use Rattle.access_unit.specs.inner.Gathered.{kept_left, later_code, zero_byte_of, lengths, saved, saved_in}
use Rattle.access_unit_sizes.specs.inner.Sizes.{adding}
use Rattle.access_unit_sizes.specs.inner.Sizes.{adding_unit, RoomFor, adding_kept, item_sum, list_sum}
use Rattle.access_unit.specs.declared.StartCodes.TheVariants.{Short}
use Rattle.access_unit_sizes.specs.declared.sizes.UnitSum.{UnitSum}
use Rattle.access_unit.proofs.KeptUnits.{over_kept, over_dropped, leading_le}
use Rattle.access_unit.proofs.Streams.{code_saves, saved_append, zero_short, lengths_append}

-- ### one unit added

module _ (s : List ℕ) (done : List Span) (a : Span) where
  lengths_last : a.start + a.len ≤ length s → lengths (map (held s) (done ++ (a ∷ []))) ≡ lengths (map (held s) done) + a.len
  unfolding lengths
  lengths_last inside =
      let l = held_long s a inside in
      let e = lengths_append (map (held s) done) (held s a ∷ []) in
      ap lengths (map-append (held s) done (a ∷ [])) ∙ omega arith

  saved_last : saved_in (map (held s) (done ++ (a ∷ []))) ≡ saved_in (map (held s) done) + saved (held s a)
  unfolding threes
  saved_last =
      let e = saved_append (map (held s) done) (held s a ∷ []) in
      ap saved_in (map-append (held s) done (a ∷ [])) ∙ omega arith

  zero_last : zero_byte_of Short (map (held s) (done ++ (a ∷ [])))
      ≡ (if eqb (length done) 0 then saved (held s a) else zero_byte_of Short (map (held s) done))
  zero_last = go done
    where
      go : (xs : List Span) → zero_byte_of Short (map (held s) (xs ++ (a ∷ [])))
          ≡ (if eqb (length xs) 0 then saved (held s a) else zero_byte_of Short (map (held s) xs))
      go [] = zero_short (held s a) []
      go (x ∷ xs) = rw (ne_eqb (suc (length xs)) 0 (λ e. omega arith))

  count_last : length (done ++ (a ∷ [])) ≡ length done + 1
  count_last = length-append done (a ∷ [])

module _ (item : List ℕ) (a : Span) where
  -- all units before it lead
  lead_all : (done : List Span) → length (leading item done) ≡ length done
      → length (leading item (done ++ (a ∷ []))) ≡ (if may_lead (held item a) then length done + 1 else length done)
  unfolding leading
  lead_all [] e = go (may_lead (held item a))
    where
      go : (m : Bool) → length (if m then a ∷ [] else []) ≡ (if m then 0 + 1 else 0)
      go true = refl
      go false = refl
  lead_all (x ∷ done) e = go (may_lead (held item x)) e (may_lead (held item a)) (lead_all done)
    where
      go : (b : Bool) → length (if b then x ∷ leading item done else []) ≡ suc (length done) → (m : Bool)
          → (length (leading item done) ≡ length done → length (leading item (done ++ (a ∷ []))) ≡ (if m then length done + 1 else length done))
          → length (if b then x ∷ leading item (done ++ (a ∷ [])) else []) ≡ (if m then suc (length done) + 1 else suc (length done))
      go true e true h = let w = h (omega arith) in omega arith
      go true e false h = let w = h (omega arith) in omega arith
      go false e m h = absurd (omega arith)

  -- a unit before it does not lead
  lead_some : (done : List Span) → length (leading item done) < length done → length (leading item (done ++ (a ∷ []))) ≡ length (leading item done)
  unfolding leading
  lead_some [] e = absurd (omega arith)
  lead_some (x ∷ done) e = go (may_lead (held item x)) e (lead_some done)
    where
      go : (b : Bool) → length (if b then x ∷ leading item done else []) < suc (length done)
          → (length (leading item done) < length done → length (leading item (done ++ (a ∷ []))) ≡ length (leading item done))
          → length (if b then x ∷ leading item (done ++ (a ∷ [])) else []) ≡ length (if b then x ∷ leading item done else [])
      go true e h = let w = h (omega arith) in omega arith
      go false e h = refl

lead_last : (item : List ℕ) (done : List Span) (a : Span)
    → (if may_lead (held item a) && eqb (length (leading item done)) (length done) then length done + 1 else length (leading item done))
    ≡ length (leading item (done ++ (a ∷ [])))
lead_last item done a =
    let l = leading_le item done in
    elim (dec_le (length done) (length (leading item done))) [
      | yes h ↦ let e : length (leading item done) ≡ length done = omega arith in all e (may_lead (held item a)) (lead_all item a done e)
      | no h ↦ rw (ne_eqb (length (leading item done)) (length done) (λ e. omega arith), lead_some item a done (omega arith))
          (some (may_lead (held item a)))
    ]
  where
    all : length (leading item done) ≡ length done
        → (m : Bool) → length (leading item (done ++ (a ∷ []))) ≡ (if m then length done + 1 else length done)
        → (if m && eqb (length (leading item done)) (length done) then length done + 1 else length (leading item done))
        ≡ length (leading item (done ++ (a ∷ [])))
    all e true h = rw (eq-eqb (length (leading item done)) (length done) e) (sym h)
    all e false h = e ∙ sym h

    some : (m : Bool) → (if m && false then length done + 1 else length (leading item done)) ≡ length (leading item done)
    some true = refl
    some false = refl

module _ (s : List ℕ) (done : List Span) (a : Span) (inside : a.start + a.len ≤ length s) where
  pub item_sum_more : adding_unit (may_lead (held s a)) (held s a) a.len (item_sum s done) ≡ item_sum s (done ++ (a ∷ []))
  item_sum_more = rw (lengths_last s done a inside, saved_last s done a, zero_last s done a, count_last s done a, lead_last s done a)

  pub list_sum_more : adding_unit false (held s a) a.len (list_sum s done) ≡ list_sum s (done ++ (a ∷ []))
  list_sum_more = rw (lengths_last s done a inside, saved_last s done a, zero_last s done a, count_last s done a)

-- ### a walk that sums: f returns the sum over the units passed

pub record Summing (f : List Span → UnitSum) (whole left : Outcome (List Span)) (sum : UnitSum) (at : ℕ) : Type 0 where
  pub done : List Span
  pub joined : after done left ≡ whole
  pub summed : sum ≡ f done
  pub few : sum.count + sum.lengths ≤ at
  pub fewer : sum.saved ≤ sum.count

abbrev pub no_units : UnitSum
no_units = record { count = 0; lead = 0; lengths = 0; saved = 0; zero_byte = 0 }

module _ (f : List Span → UnitSum) (whole : Outcome (List Span)) where
  pub summing_start : (at : ℕ) → no_units ≡ f [] → Summing f whole whole no_units at
  summing_start at e = record { done = []; joined = after_nil whole; summed = e; few = omega arith; fewer = omega arith }

  module _ (left : Outcome (List Span)) (sum : UnitSum) (at : ℕ) (i : Summing f whole left sum at) where
    pub summing_small : (len : ℕ) → at + len < 2 ^ 32 → RoomFor len sum
    summing_small len small = (omega (arith, i.few), omega (arith, i.few, i.fewer), omega (arith, i.few))

    pub summing_more : (leads : Bool) (saves : ℕ) → saves ≤ 1 → (a : Span)
        → ((done : List Span) → adding leads saves a.len (f done) ≡ f (done ++ (a ∷ [])))
        → (rest : Outcome (List Span)) → left ≡ more a rest
        → (next : ℕ) → at + a.len < next → Summing f whole rest (adding leads saves a.len sum) next
    summing_more leads saves one a h rest e next further =
        record {
          done = i.done ++ (a ∷ []);
          joined = done_more i.done left whole i.joined a rest e;
          summed = ap (adding leads saves a.len) i.summed ∙ h i.done;
          few = omega (arith, i.few);
          fewer = omega (arith, i.fewer);
        }

    -- a unit that is not counted
    pub summing_on : (rest : Outcome (List Span)) → left ≡ rest → (next : ℕ) → at ≤ next → Summing f whole rest sum next
    summing_on rest e next further = record {
      done = i.done;
      joined = ap (after i.done) (sym e) ∙ i.joined;
      summed = i.summed;
      few = omega (arith, i.few);
      fewer = i.fewer;
    }

    pub summing_end : left ≡ accept [] → accept sum ≡ and_then whole (λ us. accept (f us))
    summing_end e =
        ap accept i.summed ∙ ap (λ (o : Outcome (List Span)). and_then o (λ us. accept (f us))) (done_end i.done left whole i.joined e)

    pub summing_refused : (n : ℕ) → left ≡ refuse n → refuse n ≡ and_then whole (λ us. accept (f us))
    summing_refused n e = ap (λ (o : Outcome (List Span)). and_then o (λ us. accept (f us))) (done_refused i.done left whole i.joined n e)

-- one unit of the item added, kept or dropped
module _ (size : ℕ) (target : Option ℕ) (item : List ℕ) (whole : Outcome (List Span)) (p : ℕ) (a : Span) (next : ℕ)
    (t : Turn size item p a next) where
  pub summing_kept : (sum : UnitSum) → Summing (item_sum item) whole (kept_left size target item p) sum p
      → Summing (item_sum item) whole (kept_left size target item next) (adding_kept target item a sum) next
  summing_kept sum i = go (keeps target (held item a)) refl
    where
      inside : a.start + a.len ≤ length item
      inside = omega (arith, t.here.after, t.here.inside)

      go : (b : Bool) → keeps target (held item a) ≡ b
          → Summing (item_sum item) whole (kept_left size target item next)
          (if b then adding_unit (may_lead (held item a)) (held item a) a.len sum else sum) next
      go true e =
          summing_more (item_sum item) whole (kept_left size target item p) sum p i (may_lead (held item a)) _
          (code_saves (later_code Short (held item a))).1 a (λ done. item_sum_more item done a inside)
          (kept_left size target item next) (over_kept size target item p a next t.rest e) next (omega (arith, t.here.ahead, t.here.after))
      go false e =
          summing_on (item_sum item) whole (kept_left size target item p) sum p i (kept_left size target item next)
          (over_dropped size target item p a next t.rest e) next (omega (arith, t.here.ahead, t.here.after))

pub item_sum_none : (item : List ℕ) → no_units ≡ item_sum item []
unfolding leading lengths threes
item_sum_none item = refl

pub list_sum_none : (list : List ℕ) → no_units ≡ list_sum list []
unfolding lengths threes
list_sum_none list = refl
