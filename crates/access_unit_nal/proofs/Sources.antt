-- Unit k of an access unit that was measured: a leading unit, one of the list, one after it, or past the last.
use Prim.Native.Nat.{ℕ, zero, suc, ◌+◌, ◌-◌, ◌≤◌, ◌<◌}
use mathlib.Core.Path.{◌≡◌, refl, sym, ap, ◌∙◌}
use mathlib.Core.List.{List, [], ◌∷◌, ◌++◌, map}
use Rattle.std.specs.Prelude.{Option, None, Some, Result, Ok, Err}
use Rattle.error.specs.Refusals.{number_of}
use Rattle.error.specs.declared.Refusal.{Refusal}
use Rattle.parse.specs.Answers.{answer_of}
use mathlib.Core.Logic.{⊎_elim}
use native.Mathlib.Omega.{arith}
use lib.ListN.{length, get_or, length-append, length-map, get_or-append}
use lib.Seq.{get_or-append-add}
use Rattle.parse.specs.Outcome.{Outcome, accept, refuse}
use Rattle.boxes.specs.Parts.{nowhere}
use Rattle.boxes.specs.Walk.{found}
use Rattle.boxes.specs.Places.{nth, nth_found}
use Rattle.boxes.specs.declared.Span.{Span}
use Rattle.boxes.proofs.Places.{nth_there, place_past}
use Rattle.unit_list.specs.Answers.{list_units}
use Rattle.access_unit.specs.declared.Source.{Source}
use Rattle.access_unit.specs.declared.Source.TheVariants.{OfList, OfItem}
use Rattle.access_unit.specs.AccessUnit.{leading, following}
use Rattle.access_unit.specs.inner.Gathered.{Gathered, in_order, sources, Walks, kept_left}
use Rattle.access_unit_sizes.specs.declared.sizes.Sizes.{Sizes}
use Rattle.access_unit.proofs.KeptUnits.{leads_and_follows}
use Rattle.access_unit.proofs.KeptUnits.{leading_le}
use Rattle.access_unit.specs.declared.StartCodes.TheVariants.{Four}
use Rattle.access_unit_sizes.proofs.Gathering.{From, gathered, Known}
use Rattle.access_unit.proofs.Order.{order_length}
use Rattle.access_unit_nal.specs.inner.Kept.{HasKept, KeptNumber}

get_d_mapped : (f : Span → Source) (us : List Span) (k : ℕ) (d : Source) → k < length us → get_or (map f us) k d ≡ f (get_or us k nowhere)
get_d_mapped f [] k d h = absurd (omega arith)
get_d_mapped f (a ∷ us) zero d h = refl
get_d_mapped f (a ∷ us) (suc k) d h = get_d_mapped f us k d (omega arith)

module _ (item : List ℕ) (g : Gathered) (k : ℕ) where
  kept_length : length (leading item g.kept) + length (following item g.kept) ≡ length g.kept
  kept_length = sym (length-append (leading item g.kept) (following item g.kept)) ∙ ap length (leads_and_follows item g.kept)

  -- a leading unit, one of the list, one after it, and past the last
  pub source_leading : k < length (leading item g.kept) → OfItem (get_or g.kept k nowhere) ≡ get_or (in_order item g) k (OfList nowhere)
  unfolding in_order
  source_leading h =
      let l = length-map (leading item g.kept) OfItem in
      let e : get_or g.kept k nowhere ≡ get_or (leading item g.kept) k nowhere =
      ap (λ (us : List Span). get_or us k nowhere) (sym (leads_and_follows item g.kept))
      ∙ get_or-append (leading item g.kept) (following item g.kept) nowhere k h in
      sym (
      get_or-append (map OfItem (leading item g.kept)) (map OfList g.units ++ map OfItem (following item g.kept))
      (OfList nowhere) k (omega arith)
      ∙ get_d_mapped OfItem (leading item g.kept) k (OfList nowhere) h
      ∙ ap OfItem (sym e))

  module _ (after : length (leading item g.kept) ≤ k) where
    past_leading : get_or (in_order item g) k (OfList nowhere)
        ≡ get_or (map OfList g.units ++ map OfItem (following item g.kept)) (k - length (leading item g.kept)) (OfList nowhere)
    unfolding in_order
    past_leading =
        let l = length-map (leading item g.kept) OfItem in
        let e : k ≡ length (map OfItem (leading item g.kept)) + (k - length (leading item g.kept)) = omega arith in
        ap (λ (n : ℕ).
        get_or (map OfItem (leading item g.kept) ++ (map OfList g.units ++ map OfItem (following item g.kept))) n (OfList nowhere)) e
        ∙ get_or-append-add (map OfItem (leading item g.kept)) (map OfList g.units ++ map OfItem (following item g.kept))
        (k - length (leading item g.kept)) (OfList nowhere)

    pub source_listed : k - length (leading item g.kept) < length g.units
        → OfList (get_or g.units (k - length (leading item g.kept)) nowhere) ≡ get_or (in_order item g) k (OfList nowhere)
    source_listed h =
        let l = length-map g.units OfList in
        sym (
        past_leading
        ∙ get_or-append (map OfList g.units) (map OfItem (following item g.kept)) (OfList nowhere)
        (k - length (leading item g.kept)) (omega arith)
        ∙ get_d_mapped OfList g.units (k - length (leading item g.kept)) (OfList nowhere) h)

    pub source_following : length g.units ≤ k - length (leading item g.kept) → k - length g.units < length g.kept
        → OfItem (get_or g.kept (k - length g.units) nowhere) ≡ get_or (in_order item g) k (OfList nowhere)
    source_following h i =
        let n = length g.units in
        let m = length (leading item g.kept) in
        let j = k - m - n in
        let x = kept_length in
        let l = length-map g.units OfList in
        let e : k - m ≡ length (map OfList g.units) + j = omega arith in
        let f : k - n ≡ m + j = omega arith in
        let a : get_or g.kept (k - n) nowhere ≡ get_or (following item g.kept) j nowhere =
        ap (λ (us : List Span). get_or us (k - n) nowhere) (sym (leads_and_follows item g.kept))
        ∙ ap (λ (i : ℕ). get_or (leading item g.kept ++ following item g.kept) i nowhere) f
        ∙ get_or-append-add (leading item g.kept) (following item g.kept) j nowhere in
        sym (
        past_leading
        ∙ ap (λ (i : ℕ). get_or (map OfList g.units ++ map OfItem (following item g.kept)) i (OfList nowhere)) e
        ∙ get_or-append-add (map OfList g.units) (map OfItem (following item g.kept)) j (OfList nowhere)
        ∙ get_d_mapped OfItem (following item g.kept) j (OfList nowhere) (omega arith)
        ∙ ap OfItem (sym a))

-- ### from what was measured

module _ (size : ℕ) (target : Option ℕ) (list item : List ℕ) (k : ℕ) where
  -- where unit k of the access unit lies
  abbrev unit_place : Outcome (Option Source)
  unit_place = nth_found (sources size target list item) k

  module _ (v : Sizes) (n : Known Four size target list item v) (s : ℕ) (same : s ≡ size) where
    made : From size target list item n.parts
    made = gathered size target list item n.parts n.found

    found_all : kept_left s target item 0 ≡ accept n.parts.kept
    found_all = rw same made.found

    all_of : v.listed + v.kept ≡ length (in_order item n.parts)
    all_of = ap (λ (w : Sizes). w.listed + w.kept) n.sized ∙ sym (order_length item n.parts)

    in_order_lem : k < v.listed + v.kept → (x : Source) → x ≡ get_or (in_order item n.parts) k (OfList nowhere)
        → accept (Some x) ≡ unit_place
    in_order_lem h x e = let l = all_of in rw (n.found, e) (ap accept (nth_there (OfList nowhere) (in_order item n.parts) k (omega arith)))

    lead_of : v.lead ≡ length (leading item n.parts.kept)
    lead_of = ap (λ (w : Sizes). w.lead) n.sized

    kept_of : v.kept ≡ length n.parts.kept
    kept_of = ap (λ (w : Sizes). w.kept) n.sized

    listed_of : v.listed ≡ length n.parts.units
    listed_of = ap (λ (w : Sizes). w.listed) n.sized

    pub lead_kept : v.lead ≤ v.kept
    lead_kept = let l = leading_le item n.parts.kept in let x = lead_of in let y = kept_of in omega arith

    pub has_kept : (j : ℕ) → j < v.kept → Walks s item 0 × HasKept s target item j
    has_kept j h =
        let y = kept_of in (
          rw same (record { some = made.some; four = made.four; within = omega arith; lent = made.lent }),
          record { units = n.parts.kept; found = found_all; within = omega arith },
        )

    pub at_leading : k < v.lead → (a : Span) → a ≡ found (kept_left s target item 0) k → accept (Some (OfItem a)) ≡ unit_place
    at_leading h a e =
        let x = lead_of in
        let l = lead_kept in
        in_order_lem (omega arith) (OfItem a)
        (ap OfItem (e ∙ ap (λ (o : Outcome (List Span)). found o k) found_all) ∙ source_leading item n.parts k (omega arith))

    module _ (after : v.lead ≤ k) where
      at_listed : k - v.lead < v.listed → (a : Span) → a ≡ get_or n.parts.units (k - v.lead) nowhere → accept (Some (OfList a)) ≡ unit_place
      at_listed h a e =
          let x = lead_of in
          let y = listed_of in
          let l = lead_kept in
          let j : k - v.lead ≡ k - length (leading item n.parts.kept) = omega arith in
          in_order_lem (omega arith) (OfList a)
          (ap OfList (e ∙ ap (λ (i : ℕ). get_or n.parts.units i nowhere) j) ∙ source_listed item n.parts k (omega arith) (omega arith))

      -- the answer for that unit of the list, as the answer for unit k
      pub listed_answer : k - v.lead < v.listed → (r : Result (Option Span) Refusal) → answer_of r ≡ nth_found (list_units list) (k - v.lead)
          → (a : Span) → r ≡ Ok (Some a) → accept (Some (OfList a)) ≡ unit_place
      listed_answer h r said a e =
          let y = listed_of in
          let w : accept (Some a) ≡ accept (nth n.parts.units (k - v.lead)) =
          ap answer_of (sym e) ∙ said ∙ ap (λ (o : Outcome (List Span)). nth_found o (k - v.lead)) made.listed in
          let t = nth_there nowhere n.parts.units (k - v.lead) (omega arith) in
          let z : Some a ≡ Some (get_or n.parts.units (k - v.lead) nowhere) = cc in
          at_listed h a cc

      pub listed_none : k - v.lead < v.listed → (r : Result (Option Span) Refusal) → answer_of r ≡ nth_found (list_units list) (k - v.lead)
          → r ≡ Ok None → ⊥
      listed_none h r said e =
          let y = listed_of in
          let w : accept None ≡ accept (nth n.parts.units (k - v.lead)) =
          ap answer_of (sym e) ∙ said ∙ ap (λ (o : Outcome (List Span)). nth_found o (k - v.lead)) made.listed in
          let t = nth_there nowhere n.parts.units (k - v.lead) (omega arith) in
          let z : ◌≡◌ {A = ℕ} 0 1 = cc in omega arith

      pub listed_refused : (r : Result (Option Span) Refusal) → answer_of r ≡ nth_found (list_units list) (k - v.lead)
          → (x : Refusal) → r ≡ Err x → ⊥
      listed_refused r said x e =
          let w : refuse (number_of x) ≡ accept (nth n.parts.units (k - v.lead)) =
          ap answer_of (sym e) ∙ said ∙ ap (λ (o : Outcome (List Span)). nth_found o (k - v.lead)) made.listed in
          let z : ◌≡◌ {A = ℕ} 0 1 = cc in omega arith

      module _ (past : v.listed ≤ k - v.lead) where
        pub at_following : k - v.listed < v.kept → (a : Span) → a ≡ found (kept_left s target item 0) (k - v.listed)
            → accept (Some (OfItem a)) ≡ unit_place
        at_following h a e =
            let x = lead_of in
            let y = listed_of in
            let z = kept_of in
            let j : k - v.listed ≡ k - length n.parts.units = omega arith in
            in_order_lem (omega arith) (OfItem a) (
            ap OfItem (
            e
            ∙ ap (λ (o : Outcome (List Span)). found o (k - v.listed)) found_all
            ∙ ap (λ (i : ℕ). get_or n.parts.kept i nowhere) j)
            ∙ source_following item n.parts k (omega arith) (omega arith) (omega arith))

        pub at_past : v.kept ≤ k - v.listed → accept None ≡ unit_place
        at_past h =
            let l = lead_kept in
            place_past (sources size target list item) k (v.listed + v.kept) (rw (n.found, ← all_of)) (omega arith)

    -- kept unit j is unit k
    pub record KeptAt (j : ℕ) : Type 0 where
      pub within : j < v.kept
      pub is : (a : Span) → a ≡ found (kept_left s target item 0) j → accept (Some (OfItem a)) ≡ unit_place

    pub kept_number : (j : ℕ) → KeptNumber v k j → KeptAt j
    kept_number j =
        ⊎_elim (λ h. let l = lead_kept in rw h.1 (record { within = omega (arith, l, h.0); is = at_leading h.0 }))
        (λ h. record { within = h.3; is = λ a e. at_following h.0 h.1 (rw h.2 at h.3) a (rw h.2 at e) })
