-- The stream of an access unit that was measured, stored in three parts.
use Prim.Native.Nat.{ℕ, ◌+◌, ◌-◌, ◌≤◌}
use mathlib.Core.Path.{◌≡◌, refl, sym, ap, ◌∙◌}
use mathlib.Core.List.{List, ◌++◌}
use Rattle.std.specs.Prelude.{Option}
use native.Mathlib.Omega.{arith}
use lib.ListN.{length, take, drop, length-append}
use lib.Seq.{sets, take_all, length-sets}
use Rattle.parse.specs.Outcome.{Outcome, accept, refuse}
use Rattle.parse.specs.inner.Stores.{bytes_of, Puts}
use Rattle.parse.proofs.General.{sets_then}
use Rattle.boxes.specs.Bytes.{to_be}
use Rattle.boxes.proofs.Numbers.{length_to_be}
use Rattle.unit_list.specs.Answers.{list_units}
use Rattle.unit_list.specs.inner.Walk.{units_left}
use Rattle.unit_list.specs.declared.ListCursor.{ListCursor}
use Rattle.access_unit.specs.AccessUnit.{leading, following}
use Rattle.access_unit.specs.inner.Gathered.{Walks, kept_left, Gathered, gather, bytes_at, zero_byte_of, gathered_units, gathered_bytes}
use Rattle.access_unit.specs.declared.StartCodes.{StartCodes}
use Rattle.access_unit_sizes.specs.declared.sizes.Sizes.{Sizes}
use Rattle.access_unit.proofs.Streams.{zero_small}
use Rattle.access_unit.proofs.KeptUnits.{leads_and_follows, leading_take, following_drop}
use Rattle.access_unit.proofs.KeptUnits.{leading_le}
use Rattle.access_unit_sizes.proofs.Gathering.{From, gathered}
use Rattle.access_unit.proofs.Order.{stream_parts}
use Rattle.access_unit_annex_b.specs.inner.Stream.{first_units, PutsFirst, FirstPut, PutsStream}
use Rattle.access_unit_annex_b.specs.declared.stream.Places.{Places}

-- its list has units
pub puts_listable : (codes : StartCodes) (size : ℕ) (target : Option ℕ) (list item : List ℕ) (v : Sizes) (out : List ℕ)
    → PutsStream codes size target list item v out → (n : ℕ) → refuse n ≡ list_units list → ⊥
puts_listable codes size target list item v out p n e =
    let f = (gathered size target list item p.parts p.found).listed in
    let z : ◌≡◌ {A = ℕ} 0 1 = cc in
    omega arith

module _ (codes : StartCodes) (size : ℕ) (target : Option ℕ) (list item : List ℕ) (v : Sizes) (out : List ℕ)
    (p : PutsStream codes size target list item v out) (s : ℕ) (same : s ≡ size) where
  from : From size target list item p.parts
  from = gathered size target list item p.parts p.found

  all_kept : kept_left s target item 0 ≡ accept p.parts.kept
  all_kept = rw same from.found

  lead_is : v.lead ≡ length (leading item p.parts.kept)
  lead_is = ap (λ (w : Sizes). w.lead) p.sized

  kept_is : v.kept ≡ length p.parts.kept
  kept_is = ap (λ (w : Sizes). w.kept) p.sized

  first_is : take v.lead p.parts.kept ≡ leading item p.parts.kept
  first_is = rw lead_is (leading_take item p.parts.kept)

  rest_is : drop v.lead p.parts.kept ≡ following item p.parts.kept
  rest_is = rw lead_is (following_drop item p.parts.kept)

  -- the zero byte of the first unit, and the three parts after it
  abbrev zero : ℕ
  zero = v.zero_byte

  abbrev A : List ℕ
  A = bytes_at codes item (leading item p.parts.kept)

  abbrev B : List ℕ
  B = bytes_at codes list p.parts.units

  abbrev C : List ℕ
  C = bytes_at codes item (following item p.parts.kept)

  zero_is : zero ≡ zero_byte_of codes (gathered_units list item p.parts)
  zero_is = ap (λ (w : Sizes). w.zero_byte) p.sized

  stream_is : gathered_bytes codes list item (accept p.parts) ≡ to_be zero 0 ++ (A ++ (B ++ C))
  stream_is = stream_parts list item codes p.parts ∙ ap (λ (n : ℕ). to_be n 0 ++ (A ++ (B ++ C))) (sym zero_is)

  parts_long : zero + (length A + (length B + length C)) ≤ length out
  parts_long = omega (
    arith,
    p.room,
    ap length stream_is,
    length-append (to_be zero 0) (A ++ (B ++ C)),
    length_to_be zero 0,
    length-append A (B ++ C),
    length-append B C,
  )

  walks : (q : ℕ) → q ≤ length item → Walks s item q
  walks q h = rw same (record { some = from.some; four = from.four; within = h; lent = from.lent })

  pub lead_le : v.lead ≤ v.kept
  lead_le = let l = leading_le item p.parts.kept in let x = lead_is in let y = kept_is in omega arith

  pub puts_zero : (zero ≤ 4) × (0 + zero ≤ length out)
  puts_zero = (omega (arith, zero_is, zero_small codes (gathered_units list item p.parts)), omega (arith, parts_long))

  module _ (zeroed : List ℕ) (z : zeroed ≡ sets out 0 (to_be zero 0)) where
    zeroed_long : length zeroed ≡ length out
    zeroed_long = ap length z ∙ length-sets out 0 (to_be zero 0)

    pub puts_leading : PutsFirst codes s target item 0 v.lead zeroed zero
    puts_leading =
        let l = leading_le item p.parts.kept in
        let x = lead_is in
        let h = parts_long in
        let e = zeroed_long in
        record { walks = walks 0 (omega arith); units = p.parts.kept; found = all_kept; enough = omega arith; room = rw first_is (omega arith) }

    module _ (r : Places) (led : List ℕ) (f : FirstPut codes s target item 0 v.lead zeroed zero r led) where
      led_found : bytes_of (bytes_at codes item) (first_units v.lead (kept_left s target item 0)) ≡ A
      led_found = rw (all_kept, first_is)

      led_out : r.out ≡ zero + length A
      led_out = omega (arith, f.ends, ap length led_found)

      led_stored : led ≡ sets zeroed zero A
      led_stored = f.stored ∙ ap (sets zeroed zero) led_found

      led_long : length led ≡ length out
      led_long = ap length led_stored ∙ length-sets zeroed zero A ∙ zeroed_long

      module _ (c : ListCursor) (units : units_left list c ≡ list_units list) where
        listed : units_left list c ≡ accept p.parts.units
        listed = units ∙ from.listed

        pub puts_listed : Puts (bytes_at codes list) (units_left list c) led r.out
        puts_listed = record { it = p.parts.units; found = listed; room = omega (arith, led_out, led_long, parts_long) }

        module _ (b : ℕ) (both : List ℕ) (h : (b ≡ r.out + length (bytes_of (bytes_at codes list) (units_left list c)))
            × (both ≡ sets led r.out (bytes_of (bytes_at codes list) (units_left list c)))) where
          both_out : b ≡ zero + length A + length B
          both_out =
              let e : bytes_of (bytes_at codes list) (units_left list c) ≡ B = rw listed in
              omega (arith, h.0, ap length e, led_out)

          both_stored : both ≡ sets led (zero + length A) B
          both_stored = h.1 ∙ rw (listed, led_out)

          both_long : length both ≡ length out
          both_long = ap length both_stored ∙ length-sets led (zero + length A) B ∙ led_long

          left : kept_left s target item r.item ≡ accept (following item p.parts.kept)
          left = f.next ∙ rw (all_kept, rest_is)

          rest_count : length (following item p.parts.kept) ≡ v.kept - v.lead
          rest_count = omega (
            arith,
            lead_is,
            kept_is,
            ap length (leads_and_follows item p.parts.kept),
            length-append (leading item p.parts.kept) (following item p.parts.kept),
          )

          rest_all : take (v.kept - v.lead) (following item p.parts.kept) ≡ following item p.parts.kept
          rest_all = take_all (v.kept - v.lead) (following item p.parts.kept) (omega (arith, rest_count))

          pub puts_following : PutsFirst codes s target item r.item (v.kept - v.lead) both b
          puts_following = record {
            walks = walks r.item f.within;
            units = following item p.parts.kept;
            found = left;
            enough = omega (arith, rest_count);
            room = rw rest_all (omega (arith, both_long, both_out, parts_long));
          }

          pub put_whole : (q : Places) (after : List ℕ) → FirstPut codes s target item r.item (v.kept - v.lead) both b q after
              → after ≡ sets out 0 (gathered_bytes codes list item (gather size target list item))
          put_whole q after w =
              let x : bytes_of (bytes_at codes item) (first_units (v.kept - v.lead) (kept_left s target item r.item)) ≡ C = rw (left, rest_all) in
              w.stored
              ∙ rw (x, both_out, both_stored, led_stored) (joined (to_be zero 0) A B C (length_to_be zero 0) z)
              ∙ ap (sets out 0) (sym stream_is)
              ∙ ap (λ (o : Outcome Gathered). sets out 0 (gathered_bytes codes list item o)) (sym p.found)
            where
              joined : (Z A B C : List ℕ) → length Z ≡ zero → zeroed ≡ sets out 0 Z
                  → sets (sets (sets zeroed zero A) (zero + length A) B) (zero + length A + length B) C ≡ sets out 0 (Z ++ (A ++ (B ++ C)))
              joined Z A B C l e =
                  sets_then (sets zeroed zero A) (zero + length A) (zero + length A + length B) B C refl
                  ∙ sets_then zeroed zero (zero + length A) A (B ++ C) refl
                  ∙ ap (λ (d : List ℕ). sets d zero (A ++ (B ++ C))) e
                  ∙ sets_then out 0 zero Z (A ++ (B ++ C)) (omega arith)
