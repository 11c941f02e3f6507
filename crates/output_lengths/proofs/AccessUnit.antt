-- `vvcc_access_unit`: the scratch and the output that suffice; with such a scratch the stream does not depend on it.
use Prim.Native.Nat.{ℕ, ◌*◌, ◌≤◌}
use mathlib.Core.Path.{◌≡◌, refl, sym, ap, ◌∙◌}
use mathlib.Core.Bool.{Bool, true, false}
use mathlib.Core.List.{List, map}
use native.Mathlib.Omega.{arith}
use lib.Dec.{leb, eqb}
use lib.ListN.{length}
use borrow.Author.Tests.{le-leb, eqb-true}
use Rattle.std.specs.Prelude.{if◌then◌else◌, Option}
use Rattle.parse.specs.Outcome.{Outcome, accept, refuse, and_then}
use Rattle.boxes.specs.Parts.{held}
use Rattle.boxes.specs.Bytes.{AllBytes}
use Rattle.boxes.specs.declared.Span.{Span}
use Rattle.unit_list.specs.UnitList.{encode, units_of, held_arrays}
use Rattle.unit_list.specs.Answers.{list_units}
use Rattle.unit_list.proofs.Units.{units_held}
use Rattle.unit_list.proofs.Accepted.{sound_held}
use Rattle.full.specs.Read.{FullParsed, parse_full}
use Rattle.access_unit.specs.AccessUnit.{assemble}
use Rattle.access_unit.specs.declared.StartCodes.{StartCodes}
use Rattle.vvcc_records.specs.Records.{read_beside, stream_beside}
use Rattle.expand.proofs.Accepted.{then_accept}
use Rattle.output_lengths.specs.Lengths.{prefix_size, scratch_room, stream_room_with, stream_room, Suffices}
use Rattle.output_lengths.proofs.FullRecord.{full_read}
use Rattle.output_lengths.proofs.Refusals.{beside_not_short}
use Rattle.output_lengths.proofs.Outputs.{suffices, lent_accepted}
use Rattle.output_lengths.proofs.Assembled.{streamed, held_room, encoded_units, assembled_parts}

module _ (codes : StartCodes) (rec item : List ℕ) where
  read_beside_lem : (r : FullParsed) (list : List ℕ) → read_beside rec item ≡ accept (r, list) → parse_full rec ≡ accept (r, list)
  unfolding read_beside
  read_beside_lem r list e = (lent_accepted item (parse_full rec) (r, list) e).1

  -- ### the scratch
  module _ (scratch : List ℕ) (tols : Option ℕ) (enough : scratch_room rec ≤ length scratch) where
    pub scratch_enough : stream_beside codes rec item tols scratch ≡ and_then (read_beside rec item) (λ r. assemble codes r.0.head r.1 item tols)
    unfolding stream_beside
    scratch_enough = go (read_beside rec item) refl
      where
        go : (o : Outcome (FullParsed × List ℕ)) → read_beside rec item ≡ o
            → and_then o (λ r. if leb (length r.1) (length scratch) then assemble codes r.0.head r.1 item tols else refuse 20)
            ≡ and_then o (λ r. assemble codes r.0.head r.1 item tols)
        go (accept (r, list)) e =
            let f = full_read rec r list (read_beside_lem r list e) in
            let l = ap length f.is in
            rw (le-leb (length list) (length scratch) (omega (arith, f.fits.few)))
        go (refuse n) e = refl

  -- ### the output
  module _ (bytes : AllBytes rec) (tols : Option ℕ) where
    -- the units of the record take at most twice the record
    listed_long : (r : FullParsed) (list : List ℕ) → parse_full rec ≡ accept (r, list) → (us : List Span) → list_units list ≡ accept us
        → streamed (map (held list) us) ≤ 2 * length rec
    listed_long r list e us u =
        let f = full_read rec r list e in
        let ys = held_arrays rec f.arrays in
        let g : map (held (encode ys)) us ≡ units_of ys = encoded_units ys (sound_held rec (f.fits.sound bytes)) us
        (sym (ap list_units f.is) ∙ u) in
        let m : streamed (map (held list) us) ≡ streamed (map (held rec) (units_of f.arrays)) =
        ap (λ (l : List ℕ). streamed (map (held l) us)) f.is ∙ ap streamed (g ∙ sym (units_held rec f.arrays)) in
        omega (arith, held_room rec (units_of f.arrays), f.fits.streamed)

    assembled_long : (r : FullParsed) (list b : List ℕ) → parse_full rec ≡ accept (r, list) → assemble codes r.head list item tols ≡ accept b
        → length b ≤ stream_room rec item
    assembled_long r list b e a = go (eqb (prefix_size rec) 4) refl
      where
        go : (c : Bool) → eqb (prefix_size rec) 4 ≡ c → length b ≤ stream_room_with c rec item
        go true f =
            let p = assembled_parts codes r.head list item tols b a in
            let s = p.same ((full_read rec r list e).fits.size ∙ eqb-true (prefix_size rec) 4 f) in
            omega (arith, listed_long r list e p.units p.listed)
        go false f =
            let p = assembled_parts codes r.head list item tols b a in
            omega (arith, p.most, listed_long r list e p.units p.listed)

    fitted : (c : Bool) (o : Outcome (List ℕ)) (b : List ℕ) → (if c then o else refuse 20) ≡ accept b → o ≡ accept b
    fitted true o b e = e
    fitted false o b e = let z : ◌≡◌ {A = ℕ} 0 1 = cc in absurd (omega arith)

    -- the bound of the stream holds for every scratch, and with enough scratch there is no 20
    module _ (scratch : List ℕ) where
      pub stream_long : (b : List ℕ) → stream_beside codes rec item tols scratch ≡ accept b → length b ≤ stream_room rec item
      unfolding stream_beside
      stream_long b e =
          let x = then_accept (read_beside rec item) _ b e in
          let r = x.0.0 in
          let list = x.0.1 in
          assembled_long r list b (read_beside_lem r list x.1)
          (fitted (leb (length list) (length scratch)) (assemble codes r.head list item tols) b x.2)

      pub stream_suffices : scratch_room rec ≤ length scratch → Suffices (stream_room rec item) (stream_beside codes rec item tols scratch)
      stream_suffices enough = suffices (stream_room rec item) (stream_beside codes rec item tols scratch)
          (rw (scratch_enough scratch tols enough) (beside_not_short codes rec item tols)) stream_long
