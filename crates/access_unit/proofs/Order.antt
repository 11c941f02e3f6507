-- Laws of the order of an access unit: its definition from what was gathered, and its stream in three parts.
use Prim.Native.Nat.{ℕ, ◌+◌, ◌^◌}
use mathlib.Core.Path.{◌≡◌, refl, sym, ap, ◌∙◌}
use mathlib.Core.Bool.{Bool, true, false}
use mathlib.Core.List.{List, [], ◌∷◌, ◌++◌, map, map-append}
use native.Mathlib.Omega.{arith}
use native.Mathlib.Decide.{dec_le}
use lib.Dec.{eqb}
use lib.ListN.{length, length-append, length-map}
use borrow.Author.Tests.{eq-eqb, ne_eqb, le-leb, lt-leb}
use Rattle.std.specs.Prelude.{if◌then◌else◌, Option}
use Rattle.parse.specs.Outcome.{Outcome, accept, refuse, and_then}
use Rattle.boxes.specs.Bytes.{to_be}
use Rattle.boxes.specs.Parts.{held}
use Rattle.boxes.specs.declared.Span.{Span}
use Rattle.unit_list.specs.Answers.{list_units}
use Rattle.split.specs.Item.{split_item}
use Rattle.annex_b.specs.Stream.{annex_b}
use Rattle.full.specs.declared.VvcConfig.{VvcConfig}
use Rattle.access_unit.specs.declared.Source.{Source}
use Rattle.access_unit.specs.declared.Source.TheVariants.{OfList, OfItem}
use Rattle.access_unit.specs.AccessUnit.{target_of, leading, following, kept}
use Rattle.access_unit.specs.AccessUnit.{arranged, not_empty, access_unit, held_in, code_of, assemble}
use Rattle.access_unit.specs.inner.Gathered.{Gathered, some_gathered, gather, in_order, sources, later_code, bytes_at, zero_byte_of}
use Rattle.access_unit.specs.inner.Gathered.{gathered_units, gathered_bytes}
use Rattle.access_unit.specs.declared.StartCodes.{StartCodes}
use Rattle.access_unit.proofs.KeptUnits.{leads_and_follows, kept_leading, kept_following}
use Rattle.access_unit.proofs.Streams.{stream_append, zero_first}

-- ### the definition

module _ (item : List ℕ) (g : Gathered) where
  pub order_length : length (in_order item g) ≡ length g.units + length g.kept
  unfolding in_order
  order_length =
      let a = ap length (leads_and_follows item g.kept) in
      let b = length-append (leading item g.kept) (following item g.kept) in
      let c = length-append (map OfItem (leading item g.kept)) (map OfList g.units ++ map OfItem (following item g.kept)) in
      let d = length-append (map OfList g.units) (map OfItem (following item g.kept)) in
      let x = length-map (leading item g.kept) OfItem in
      let y = length-map g.units OfList in
      let z = length-map (following item g.kept) OfItem in
      omega arith

not_empty_lem : (n : ℕ) (us : List Source) → length us ≡ n → not_empty us ≡ (if eqb n 0 then refuse 19 else accept us)
not_empty_lem n [] e = rw (eq-eqb n 0 (sym e))
not_empty_lem n (u ∷ us) e = rw (ne_eqb n 0 (λ z. omega arith))

order_arranged : (item : List ℕ) (target : Option ℕ) (us split : List Span)
    → arranged item target us split ≡ in_order item (record { units = us; kept = kept item target split })
unfolding arranged in_order
order_arranged item target us split = rw (kept_leading item target split, kept_following item target split)

-- the access unit is what was gathered, in order
pub access_unit_sources : (h : VvcConfig) (list item : List ℕ) (tols : Option ℕ)
    → sources h.length_size (target_of h tols) list item ≡ access_unit h list item tols
unfolding access_unit gather
access_unit_sources h list item tols =
    elim (dec_le (length item) (2 ^ 30)) [
      | no k ↦ rw (lt-leb (length item) (2 ^ 30) (omega arith))
      | yes k ↦ rw (le-leb (length item) (2 ^ 30) k) (go (target_of h tols) (list_units list) (split_item h.length_size item))
    ]
  where
    last : (g : Gathered) (us : List Source) (b : Bool) → in_order item g ≡ us
        → and_then (if b then refuse 19 else accept g) (λ g. accept (in_order item g)) ≡ (if b then refuse 19 else accept us)
    last g us true e = refl
    last g us false e = ap accept e

    go : (target : Option ℕ) (o x : Outcome (List Span))
        → and_then (and_then o (λ us. and_then x (λ split. some_gathered (record { units = us; kept = kept item target split }))))
        (λ g. accept (in_order item g))
        ≡ and_then o (λ us. and_then x (λ split. not_empty (arranged item target us split)))
    go target (refuse n) x = refl
    go target (accept us) (refuse n) = refl
    go target (accept us) (accept split) =
        let g : Gathered = record { units = us; kept = kept item target split } in
        let e = order_arranged item target us split in
        last g (arranged item target us split) (eqb (length us + length (kept item target split)) 0) (sym e)
        ∙ sym (not_empty_lem (length us + length (kept item target split)) (arranged item target us split) (ap length e ∙ order_length item g))

pub assemble_gathered : (codes : StartCodes) (h : VvcConfig) (list item : List ℕ) (tols : Option ℕ) → assemble codes h list item tols
    ≡ and_then (gather h.length_size (target_of h tols) list item) (λ g. accept (gathered_bytes codes list item (accept g)))
unfolding assemble
assemble_gathered codes h list item tols =
    rw (← access_unit_sources h list item tols) (go (gather h.length_size (target_of h tols) list item))
  where
    go : (o : Outcome Gathered)
        → and_then (and_then o (λ g. accept (in_order item g))) (λ us. accept (annex_b (code_of codes) (map (held_in list item) us)))
        ≡ and_then o (λ g. accept (gathered_bytes codes list item (accept g)))
    go (accept g) = refl
    go (refuse n) = refl

-- ### the stream

module _ (list item : List ℕ) where
  pub held_list : (us : List Span) → map (held_in list item) (map OfList us) ≡ map (held list) us
  held_list [] = refl
  held_list (a ∷ us) = ap (λ (l : List (List ℕ)). held list a ∷ l) (held_list us)

  pub held_item : (us : List Span) → map (held_in list item) (map OfItem us) ≡ map (held item) us
  held_item [] = refl
  held_item (a ∷ us) = ap (λ (l : List (List ℕ)). held item a ∷ l) (held_item us)

  -- the leading units, the list's units, the remaining units
  pub units_parts : (g : Gathered) → gathered_units list item g
      ≡ map (held item) (leading item g.kept) ++ (map (held list) g.units ++ map (held item) (following item g.kept))
  unfolding in_order
  units_parts g = rw (
    map-append (held_in list item) (map OfItem (leading item g.kept)) (map OfList g.units ++ map OfItem (following item g.kept)),
    map-append (held_in list item) (map OfList g.units) (map OfItem (following item g.kept)),
    held_item (leading item g.kept),
    held_list g.units,
    held_item (following item g.kept),
  )

  module _ (codes : StartCodes) (g : Gathered) where
    abbrev bytes : List (List ℕ) → List ℕ
    bytes us = annex_b (λ k. later_code codes) us

    -- the zero byte of the first unit, and the same parts of the stream
    pub stream_parts : gathered_bytes codes list item (accept g)
        ≡ to_be (zero_byte_of codes (gathered_units list item g)) 0
        ++ (bytes_at codes item (leading item g.kept) ++ (bytes_at codes list g.units ++ bytes_at codes item (following item g.kept)))
    stream_parts =
        let a = map (held item) (leading item g.kept) in
        let b = map (held list) g.units in
        let c = map (held item) (following item g.kept) in
        zero_first codes (gathered_units list item g)
        ∙ ap (λ (l : List ℕ). to_be (zero_byte_of codes (gathered_units list item g)) 0 ++ l)
        (ap bytes (units_parts g) ∙ stream_append (later_code codes) a (b ++ c)
        ∙ ap (λ (l : List ℕ). bytes a ++ l) (stream_append (later_code codes) b c))
