-- For an item of one unit that is neither AUD nor OPI, the access unit and its stream are the units of the list and that unit.
use Prim.Native.Nat.{ℕ}
use mathlib.Core.Path.{◌≡◌, refl, ap}
use mathlib.Core.Bool.{true, false}
use mathlib.Core.List.{List, [], ◌∷◌, ◌++◌, map, map-append}
use Rattle.std.specs.Prelude.{Option}
use lib.ListN.{length}
use borrow.Author.Tests.{le-leb, ne_eqb}
use Rattle.parse.specs.Outcome.{accept}
use Rattle.boxes.specs.Parts.{held}
use Rattle.boxes.specs.Walk.{count_found}
use Rattle.boxes.specs.declared.Span.{Span}
use Rattle.nal.specs.Header.{type_or31}
use Rattle.nal.proofs.UnitKinds.{aud_of, record_of_lem}
use Rattle.unit_list.specs.Answers.{list_units}
use Rattle.split.specs.Item.{split_item}
use Rattle.annex_b.specs.Stream.{annex_b}
use Rattle.split.proofs.Items.{split_sound}
use Rattle.full.specs.declared.VvcConfig.{VvcConfig}
use Rattle.access_unit.specs.declared.Source.{Source}
use Rattle.access_unit.specs.declared.Source.TheVariants.{OfList, OfItem}
use Rattle.access_unit.specs.AccessUnit.{target_of, keeps, may_lead, leading, following, kept}
use Rattle.access_unit.specs.AccessUnit.{arranged, not_empty, access_unit, held_in, code_of, assemble}
use Rattle.access_unit.specs.declared.StartCodes.{StartCodes}
use Rattle.access_unit.proofs.Order.{held_list}

module _ (h : VvcConfig) (list item : List ℕ) (tols : Option ℕ) (xs : List Span) (a : Span) (u : List ℕ) (listed : list_units list ≡ accept xs)
    (split : split_item h.length_size item ≡ accept (a ∷ [])) (is : held item a ≡ u) (no-aud : type_or31 u ≡ 20 → ⊥)
    (no-opi : type_or31 u ≡ 12 → ⊥) where
  leads_not : may_lead (held item a) ≡ false
  unfolding may_lead
  leads_not = rw (is, aud_of (type_or31 u), record_of_lem 12 (type_or31 u) refl, ne_eqb (type_or31 u) 20 no-aud, ne_eqb (type_or31 u) 12 no-opi)

  is_kept : keeps (target_of h tols) (held item a) ≡ true
  unfolding keeps
  is_kept = rw (is, record_of_lem 12 (type_or31 u) refl, ne_eqb (type_or31 u) 12 no-opi)

  one_arranged : arranged item (target_of h tols) xs (a ∷ []) ≡ map OfList xs ++ (OfItem a ∷ [])
  unfolding arranged leading following kept
  one_arranged = rw (leads_not, is_kept)

  some_units : (us : List Source) → not_empty (us ++ (OfItem a ∷ [])) ≡ accept (us ++ (OfItem a ∷ []))
  some_units [] = refl
  some_units (x ∷ us) = refl

  pub one_unit : access_unit h list item tols ≡ accept (map OfList xs ++ (OfItem a ∷ []))
  unfolding access_unit
  one_unit =
      let w = split_sound h.length_size item (length (a ∷ [])) (ap count_found split) in
      rw (le-leb _ _ w.lent, listed, split, one_arranged) (some_units (map OfList xs))

  pub one_assembled : (codes : StartCodes) → assemble codes h list item tols ≡ accept (annex_b (code_of codes) (map (held list) xs ++ (u ∷ [])))
  unfolding assemble
  one_assembled codes = rw (one_unit, map-append (held_in list item) (map OfList xs) (OfItem a ∷ []), held_list list item xs, is)
