-- The zero byte and the length of an access unit's stream, from the sums over the list and the item.
use Prim.Native.Nat.{ℕ, suc, ◌+◌}
use mathlib.Core.Path.{◌≡◌, refl, sym, ap, ◌∙◌}
use mathlib.Core.Bool.{◌||◌}
use mathlib.Core.List.{List, [], ◌∷◌, ◌++◌, map, map-append}
use native.Mathlib.Omega.{arith}
use lib.Dec.{eqb, ltb}
use lib.ListN.{length, length-append, length-map}
use borrow.Author.Tests.{ne_eqb, lt-ltb}
use Rattle.std.specs.Prelude.{if◌then◌else◌}
use Rattle.parse.specs.Outcome.{accept}
use Rattle.boxes.specs.Bytes.{to_be}
use Rattle.boxes.specs.Parts.{held}
use Rattle.boxes.specs.declared.Span.{Span}
use Rattle.boxes.proofs.Numbers.{length_to_be}
use Rattle.annex_b.specs.Stream.{annex_b}
use Rattle.annex_b.specs.RoundTrip.{threes}
use Rattle.access_unit.specs.AccessUnit.{leading, following}
use Rattle.access_unit.specs.inner.Gathered.{Gathered, later_code, bytes_at, zero_byte_of}
use Rattle.access_unit.specs.inner.Gathered.{gathered_units, gathered_bytes}
use Rattle.access_unit_sizes.specs.inner.Sizes.{item_sum, list_sum, zero_of, saved_of, len_of}
use Rattle.access_unit.specs.declared.StartCodes.{StartCodes}
use Rattle.access_unit.specs.declared.StartCodes.TheVariants.{Four, Short}
use Rattle.access_unit.proofs.KeptUnits.{leads_and_follows}
use Rattle.access_unit.proofs.Order.{units_parts, stream_parts}
use Rattle.access_unit.proofs.Streams.{later_length, four_none, stream_append, zero_four}

module _ (list item : List ℕ) (codes : StartCodes) (g : Gathered) where
  -- the zero byte, from the sums over the list and the item
  pub zero_parts : zero_byte_of codes (gathered_units list item g) ≡ zero_of codes (list_sum list g.units) (item_sum item g.kept)
  zero_parts = choice codes
    where
      go : (l f ks : List Span) → l ++ f ≡ ks → (us : List Span)
          → zero_byte_of Short (map (held item) l ++ (map (held list) us ++ map (held item) f))
          ≡ (if ltb 0 (length l) || eqb (length us) 0 then zero_byte_of Short (map (held item) ks) else zero_byte_of Short (map (held list) us))
      go (a ∷ l) f ks e us = rw (← e, lt-ltb 0 (suc (length l)) (omega arith))
      go [] f ks e [] = rw (← e)
      go [] f ks e (u ∷ us) = rw (ne_eqb (suc (length us)) 0 (λ z. omega arith))

      choice : (c : StartCodes) → zero_byte_of c (gathered_units list item g) ≡ zero_of c (list_sum list g.units) (item_sum item g.kept)
      choice Four = zero_four (gathered_units list item g)
      choice Short =
          ap (zero_byte_of Short) (units_parts list item g)
          ∙ go (leading item g.kept) (following item g.kept) g.kept (leads_and_follows item g.kept) g.units

  -- the stream's length, from those sums
  pub stream_size : length (gathered_bytes codes list item (accept g)) ≡ len_of codes (list_sum list g.units) (item_sum item g.kept)
  stream_size =
      let lead = leading item g.kept in
      let rest = following item g.kept in
      let z = zero_byte_of codes (gathered_units list item g) in
      let k : bytes_at codes item g.kept ≡ bytes_at codes item lead ++ bytes_at codes item rest =
      ap (bytes_at codes item) (sym (leads_and_follows item g.kept)) ∙ ap (annex_b (λ k. later_code codes)) (map-append (held item) lead rest)
      ∙ stream_append (later_code codes) (map (held item) lead) (map (held item) rest) in
      omega (
        arith,
        ap length (stream_parts list item codes g),
        length-append (to_be z 0) (bytes_at codes item lead ++ (bytes_at codes list g.units ++ bytes_at codes item rest)),
        length_to_be z 0,
        zero_parts,
        length-append (bytes_at codes item lead) (bytes_at codes list g.units ++ bytes_at codes item rest),
        length-append (bytes_at codes list g.units) (bytes_at codes item rest),
        ap length k,
        length-append (bytes_at codes item lead) (bytes_at codes item rest),
        later_length codes (map (held list) g.units),
        later_length codes (map (held item) g.kept),
        length-map g.units (held list),
        length-map g.kept (held item),
        saved_parts codes,
      )
    where
      saved_parts : (c : StartCodes)
          → threes (λ k. later_code c) (map (held list) g.units) + threes (λ k. later_code c) (map (held item) g.kept)
          ≡ saved_of c (list_sum list g.units) (item_sum item g.kept)
      saved_parts Four = omega (arith, four_none (map (held list) g.units), four_none (map (held item) g.kept))
      saved_parts Short = refl
