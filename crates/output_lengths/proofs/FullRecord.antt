-- Bounds for a full record: its unit list is at most four times as long, and the stream of its units at most twice.
use Prim.Native.Nat.{ℕ, zero, suc, ◌+◌, ◌*◌, ◌/◌, ◌%◌, ◌≤◌}
use mathlib.Core.Path.{◌≡◌, refl, subst}
use mathlib.Core.Bool.{Bool, true, false}
use mathlib.Core.List.{List, [], ◌∷◌, map}
use native.Mathlib.Omega.{arith}
use lib.Dec.{eqb}
use lib.ListN.{length, drop, length-append, length-take}
use Rattle.std.specs.Prelude.{if◌then◌else◌}
use Rattle.parse.specs.Outcome.{accept}
use Rattle.parse.specs.Parse.{give, refuse_if, times}
use Rattle.boxes.specs.Bytes.{uint, chunk, to_chunk, AllBytes}
use Rattle.boxes.specs.Parts.{held}
use Rattle.boxes.specs.declared.Span.{Span}
use Rattle.boxes.proofs.Fields.{chunk_read}
use Rattle.boxes.proofs.Numbers.{be_one}
use Rattle.unit_list.specs.UnitList.{Array, largest_type, units_of, encode_units, encode_array, encode_arrays, encode, held_array, held_arrays}
use Rattle.unit_list.proofs.Arrays.{Sound, sound_none, sound_more, room, room_append}
use Rattle.bit_reader.specs.Bits.{is_set}
use Rattle.ptl_record.specs.Read.{vvc_ptl_record}
use Rattle.record_arrays.specs.Read.{holds_one, record_array}
use Rattle.record_arrays.specs.declared.Codec.TheVariants.{Vvc}
use Rattle.full.specs.Read.{FullParsed, plain_head, head_with_ptl, vvc_head, vvc_record, parse_full}
use Rattle.full.specs.declared.VvcConfig.{VvcConfig}
use Rattle.full.proofs.Parsed.{read_as}
use Rattle.output_lengths.specs.Lengths.{prefix_size, scratch_room}
use Rattle.boxes.proofs.Gives.{gives_uint}
use Rattle.boxes.proofs.ChunkBytes.{length_to_chunk}
use Rattle.parse.proofs.Gives.{Gives, gives_value, gives_any, gives_bind}

module _ (s : List ℕ) where
  -- ### units: four bytes of a list or stream for two of the record, and the unit itself
  record UnitsFit (p n : ℕ) (us : List Span) (q : ℕ) : Type 0 where
    few : 2 * p + room 4 us ≤ 2 * q
    along : p + 2 * n ≤ q
    inside : q ≤ length s

  gives_units : (n p : ℕ) → p ≤ length s → Gives (times n (chunk 2) s p) (UnitsFit p n)
  unfolding times room
  gives_units zero p h = gives_value [] p (record { few = omega arith; along = omega arith; inside = h })
  gives_units (suc n) p h =
      gives_bind (chunk 2 s p) _ (record { at = λ a q e. chunk_read 2 s p a q e }) (λ a q c.
      gives_bind (times n (chunk 2) s q) _ (gives_units n q c.fits) (λ us r v.
      gives_value (a ∷ us) r (record { few = omega (arith, c.len, c.next, v.few); along = omega (arith, c.next, v.along); inside = v.inside })))

  encoded_room : (us : List Span) → length (encode_units 4 (map (held s) us)) ≤ room 4 us
  unfolding encode_units room
  encoded_room [] = omega arith
  encoded_room (a ∷ us) =
      let l = length-append (to_chunk 4 (held s a)) (encode_units 4 (map (held s) us)) in
      omega (arith, length_to_chunk 4 (held s a), length-take a.len (drop a.start s), encoded_room us)

  -- ### arrays: six bytes before the units of a list for at least three of the record
  record CountFits (p n q : ℕ) : Type 0 where
    after : p ≤ q
    some : p + 2 ≤ q + 2 * n
    inside : q ≤ length s

  gives_count : (t : Bool) (p : ℕ) → p ≤ length s → Gives ((if t then give 1 else uint 2) s p) (CountFits p)
  gives_count true p h = gives_value 1 p (record { after = omega arith; some = omega arith; inside = h })
  gives_count false p h = record {
    at = λ n q e. let g = (gives_uint s 2 p).at n q e in record { after = omega (arith, g.next); some = omega (arith, g.next); inside = g.inside };
  }

  record ArrayFits (p : ℕ) (a : Array Span) (q : ℕ) : Type 0 where
    few : 4 * p + length (encode_array 4 (held_array s a)) ≤ 4 * q
    streamed : 2 * p + room 4 a.units ≤ 2 * q
    one : AllBytes s → a.complete ≤ 1
    bit : a.reserved_bit ≤ 1
    small : a.unit_type ≤ largest_type
    inside : q ≤ length s

  gives_array : (p : ℕ) → Gives (record_array Vvc s p) (ArrayFits p)
  unfolding record_array encode_array
  gives_array p =
      gives_bind (uint 1 s p) _ (gives_uint s 1 p) (λ b q u.
      gives_bind ((if holds_one Vvc (b % 32) then give 1 else uint 2) s q) _ (gives_count (holds_one Vvc (b % 32)) q u.inside) (λ n r c.
      gives_bind (times n (chunk 2) s r) _ (gives_units n r c.inside) (λ us z v.
      let l = length_to_chunk 4 ((0 * 2 + b / 128) ∷ b % 32 ∷ encode_units 4 (map (held s) us)) in
      gives_value _ z (record {
        few = omega (arith, encoded_room us, u.next, c.after, c.some, v.few, v.along);
        streamed = omega (arith, u.next, c.after, v.few);
        one = λ all. omega (arith, u.is, be_one s p, all p);
        bit = omega arith;
        small = omega arith;
        inside = v.inside;
      }))))

  record ArraysFit (p : ℕ) (xs : List (Array Span)) (q : ℕ) : Type 0 where
    few : 4 * p + length (encode_arrays 4 (held_arrays s xs)) ≤ 4 * q
    streamed : 2 * p + room 4 (units_of xs) ≤ 2 * q
    sound : AllBytes s → Sound xs
    inside : q ≤ length s

  gives_arrays : (n p : ℕ) → p ≤ length s → Gives (times n (record_array Vvc) s p) (ArraysFit p)
  unfolding times encode_arrays units_of room
  gives_arrays zero p h = gives_value [] p (record { few = omega arith; streamed = omega arith; sound = λ all. sound_none; inside = h })
  gives_arrays (suc n) p h =
      gives_bind (record_array Vvc s p) _ (gives_array p) (λ a q u.
      gives_bind (times n (record_array Vvc) s q) _ (gives_arrays n q u.inside) (λ xs r v.
      let l = length-append (encode_array 4 (held_array s a)) (encode_arrays 4 (held_arrays s xs)) in
      gives_value (a ∷ xs) r (record {
        few = omega (arith, u.few, v.few);
        streamed = omega (arith, room_append 4 a.units (units_of xs), u.streamed, v.streamed);
        sound = λ all. sound_more (u.one all) u.bit u.small (v.sound all);
        inside = v.inside;
      })))

  -- ### the head's prefix size
  gives_with_ptl : (size p : ℕ) → Gives (head_with_ptl size s p) (λ h q. h.length_size ≡ size)
  unfolding head_with_ptl
  gives_with_ptl size p =
      gives_bind (uint 2 s p) _ (gives_any _) (λ w q _.
      gives_bind (uint 1 s q) _ (gives_any _) (λ d r _.
      gives_bind (vvc_ptl_record (w / 16 % 8) s r) _ (gives_any _) (λ ptl t _.
      gives_bind (uint 2 s t) _ (gives_any _) (λ width x _.
      gives_bind (uint 2 s x) _ (gives_any _) (λ height y _.
      gives_bind (uint 2 s y) _ (gives_any _) (λ rate z _.
      gives_value _ z refl))))))

  gives_head : Gives (vvc_head s 0) (λ h q. h.length_size ≡ prefix_size s)
  unfolding vvc_head
  gives_head =
      gives_bind (uint 1 s 0) _ (gives_uint s 1 0) (λ b q u.
      let sized : b / 2 % 4 + 1 ≡ prefix_size s = omega (arith, u.is, be_one s 0) in
      gives_bind (refuse_if (eqb (b / 2 % 4) 2) 3 s q) _ (gives_any _) (λ _ r _.
      subst
      (λ n. Gives ((if is_set (b % 2) then head_with_ptl (b / 2 % 4 + 1) else give (plain_head (b / 2 % 4 + 1))) s r) (λ h t. h.length_size ≡ n)) sized
      (go (is_set (b % 2)) (b / 2 % 4 + 1) r)))
    where
      go : (t : Bool) (n r : ℕ) → Gives ((if t then head_with_ptl n else give (plain_head n)) s r) (λ h q. h.length_size ≡ n)
      go true n r = gives_with_ptl n r
      go false n r = gives_value _ r refl

  -- ### the record: its arrays follow at least one byte
  pub record RecordFits (h : VvcConfig) (xs : List (Array Span)) : Type 0 where
    pub size : h.length_size ≡ prefix_size s
    pub few : length (encode (held_arrays s xs)) ≤ scratch_room s
    pub streamed : room 4 (units_of xs) ≤ 2 * length s
    pub sound : AllBytes s → Sound xs

  gives_record : Gives (vvc_record s 0) (λ r q. RecordFits r.0 r.1)
  unfolding vvc_record encode
  gives_record =
      gives_bind (vvc_head s 0) _ gives_head (λ h p g.
      gives_bind (uint 1 s p) _ (gives_uint s 1 p) (λ n q u.
      gives_bind (times n (record_array Vvc) s q) _ (gives_arrays n q u.inside) (λ xs r v.
      gives_value (h, xs) r (record {
        size = g;
        few = omega (arith, u.next, v.few, v.inside);
        streamed = omega (arith, v.streamed, v.inside);
        sound = v.sound;
      }))))

  -- what was read of an accepted record
  pub record Read (r : FullParsed) (list : List ℕ) : Type 0 where
    pub arrays : List (Array Span)
    pub is : list ≡ encode (held_arrays s arrays)
    pub fits : RecordFits r.head arrays

  pub full_read : (r : FullParsed) (list : List ℕ) → parse_full s ≡ accept (r, list) → Read r list
  full_read r list e =
      let a = read_as s r list e in
      record { arrays = a.arrays; is = a.same; fits = gives_record.at _ _ a.reads }
