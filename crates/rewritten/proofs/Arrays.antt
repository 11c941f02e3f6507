-- The arrays of a full record that were read, written again: units, one array, arrays one after another. The record is VVC's or HEVC's.
use Prim.Native.Nat.{ℕ, zero, suc, ◌+◌, ◌*◌, ◌/◌, ◌%◌, ◌^◌, ◌≤◌, ◌<◌}
use mathlib.Core.Path.{◌≡◌, refl, ap, ◌∙◌, subst}
use mathlib.Core.Bool.{Bool, true, false}
use mathlib.Core.List.{List, [], ◌∷◌, ◌++◌, map}
use native.Mathlib.Nat.{mul-mod_right}
use native.Mathlib.Omega.{arith}
use lib.Dec.{eqb}
use lib.ListN.{length, get_or, length-append, length-map}
use borrow.Author.Tests.{le-leb, eq-eqb, eqb-true}
use Rattle.std.specs.Prelude.{if◌then◌else◌}
use Rattle.parse.specs.Parse.{value, Parser, ◌>>=◌, ◌>>◌, give, times}
use Rattle.parse.proofs.Gives.{Gives, gives_value, gives_bind, with_read}
use Rattle.parse.proofs.Many.{times_step}
use Rattle.boxes.specs.Bytes.{be, to_be, uint, chunk, to_chunk, AllBytes}
use Rattle.boxes.specs.Parts.{held}
use Rattle.boxes.specs.declared.Span.{Span}
use Rattle.boxes.proofs.Fields.{chunk_read}
use Rattle.boxes.proofs.Gives.{gives_uint}
use Rattle.boxes.proofs.Numbers.{be_one, be_below, length_to_be}
use Rattle.boxes.proofs.Spans.{held_long}
use Rattle.boxes.proofs.ChunkBytes.{length_to_chunk}
use Rattle.unit_list.specs.UnitList.{Array, largest_type, encode_units, held_array, held_arrays, units_fit}
use Rattle.unit_list.proofs.Arrays.{Sound, sound_none, sound_more}
use Rattle.ptl_record.proofs.Standing.{Stands}
use Rattle.record_arrays.specs.Read.{reserved_in, type_in, holds_one, record_array}
use Rattle.record_arrays.specs.Write.{array_bytes, arrays_bytes, first_fits, array_fits, arrays_fit}
use Rattle.record_arrays.specs.declared.Codec.{Codec}
use Rattle.record_arrays.specs.declared.Codec.TheVariants.{Vvc, Hevc}
use Rattle.full.specs.Rules.{array_reserved, peek, array_byte, all}
use Rattle.rewritten.proofs.Parts.{Rewrites, stands_none, stands_join, stands_part, stands_number}
use Rattle.rewritten.proofs.Parts.{rewrites_same, rewrites_byte, rewrites_append, rewrites_then}

-- an array's first byte is written as it was: HEVC's always, VVC's exactly when its reserved bits are 0
abbrev pub first_kept : Codec → ℕ → Bool
first_kept Vvc b = array_reserved b
first_kept Hevc b = true

-- the byte that an array begins with; the array is read to its end
unfoldable pub start_byte : Codec → Parser ℕ
start_byte k = do
  b ← peek
  record_array k
  give b

-- VVC's is that of strict reading
pub starts_vvc : (n : ℕ) (s : List ℕ) (p : ℕ) → times n (start_byte Vvc) s p ≡ times n array_byte s p
unfolding start_byte array_byte
starts_vvc n s p = refl

-- every byte that an HEVC record's array begins with is written as it was
pub all_hevc : (bs : List ℕ) → all (first_kept Hevc) bs ≡ true
unfolding all
all_hevc [] = refl
all_hevc (b ∷ bs) = all_hevc bs

-- arrays that were read of s from place p to q
pub record ArraysAgain (k : Codec) (s : List ℕ) (n p : ℕ) (xs : List (Array Span)) (q : ℕ) : Type 0 where
  pub starts : List ℕ  -- the bytes that the arrays begin with
  pub read : times n (start_byte k) s p ≡ value starts q
  pub counted : length (held_arrays s xs) ≡ n
  pub fits : arrays_fit k (held_arrays s xs) ≡ true
  pub sound : Sound xs
  pub next : q ≡ p + length (arrays_bytes k (held_arrays s xs))
  pub same : Rewrites s p (arrays_bytes k (held_arrays s xs)) (all (first_kept k) starts)

module _ (k : Codec) (s : List ℕ) where
  module _ (are_bytes : AllBytes s) where
    -- ---- units

    -- a chunk that was read: its bytes fit a length of w bytes, and lie with it at p
    record ChunkAgain (w p : ℕ) (a : Span) (q : ℕ) : Type 0 where
      fits : length (held s a) < 256 ^ w
      next : q ≡ p + length (to_chunk w (held s a))
      same : Stands s p (to_chunk w (held s a))

    -- what is read by `chunk` is such a chunk
    chunk_again : (w p : ℕ) → Gives (chunk w s p) (ChunkAgain w p)
    unfolding to_chunk
    chunk_again w p = record { at = go }
      where
        go : (a : Span) (q : ℕ) → chunk w s p ≡ value a q → ChunkAgain w p a q
        go a q e =
            let c = chunk_read w s p a q e in
            let i : a.start + a.len ≤ length s = omega (arith, c) in
            let n : length (held s a) ≡ be s p w = held_long s a i ∙ c.len in
            let t = subst (λ (i : ℕ). Stands s i (held s a)) c.start (stands_part s a.start a.len i) in
            record {
              fits = rw n (be_below s p w are_bytes);
              next = omega (arith, length_to_chunk w (held s a), c);
              same = stands_join s p (to_be w (length (held s a))) (held s a) (rw n (stands_number s are_bytes w p (omega (arith, c))))
                  (rw (length_to_be w (length (held s a))) t);
            }

    -- n units that were read: each fits, and they lie one after another at p
    record UnitsAgain (n p : ℕ) (us : List Span) (q : ℕ) : Type 0 where
      counted : length us ≡ n
      fits : units_fit (map (held s) us) ≡ true
      next : q ≡ p + length (encode_units 2 (map (held s) us))
      same : Stands s p (encode_units 2 (map (held s) us))

    -- what is read by n `chunk`s of width 2 are such units
    units_again : (n p : ℕ) → p ≤ length s → Gives (times n (chunk 2) s p) (UnitsAgain n p)
    unfolding times encode_units units_fit
    units_again zero p h = gives_value [] p (record { counted = refl; fits = refl; next = omega arith; same = stands_none s p h })
    units_again (suc n) p h =
        gives_bind (chunk 2 s p) _ (chunk_again 2 p) (λ a q c.
        let r : q ≤ length s = omega (arith, c.next, c.same.room) in
        gives_bind (times n (chunk 2) s q) _ (units_again n q r) (λ us z v.
        let l = length-append (to_chunk 2 (held s a)) (encode_units 2 (map (held s) us)) in
        gives_value (a ∷ us) z (record {
          counted = ap suc v.counted;
          fits = rw (le-leb (length (held s a)) 65535 (omega (arith, c.fits))) v.fits;
          next = omega (arith, c.next, v.next);
          same = stands_join s p (to_chunk 2 (held s a)) (encode_units 2 (map (held s) us)) c.same (rw c.next at v.same);
        })))

    -- ---- one array

    -- the bytes of the number of units n: none where c holds
    abbrev count_bytes : Bool → ℕ → List ℕ
    count_bytes c n = if c then [] else to_be 2 n

    -- a number of units that was read, or that is 1 where c holds
    record CountAgain (c : Bool) (p n q : ℕ) : Type 0 where
      few : n ≤ 65535
      one : (if c then eqb n 1 else true) ≡ true
      next : q ≡ p + length (count_bytes c n)
      same : Stands s p (count_bytes c n)

    -- what is read as the number of units is such a number
    count_again : (c : Bool) (p : ℕ) → p ≤ length s → Gives ((if c then give 1 else uint 2) s p) (CountAgain c p)
    count_again true p h = gives_value 1 p (record { few = omega arith; one = refl; next = omega arith; same = stands_none s p h })
    count_again false p h = record { at = go }
      where
        go : (n q : ℕ) → uint 2 s p ≡ value n q → CountAgain false p n q
        go n q e =
            let u = (gives_uint s 2 p).at n q e in
            record {
              few = omega (arith, u.is, be_below s p 2 are_bytes);
              one = refl;
              next = omega (arith, u.next, length_to_be 2 n);
              same = rw u.is (stands_number s are_bytes 2 p (omega (arith, u.next, u.inside)));
            }

    -- the first byte that is written for an array that begins with b
    abbrev first_again : ℕ → ℕ
    first_again b = b / 128 * 128 + reserved_in k b * 64 + type_in k b

    -- it is b exactly when `first_kept` holds
    first_kept_lem : (k : Codec) (b : ℕ) → b < 256
        → (first_kept k b ≡ true → b ≡ b / 128 * 128 + reserved_in k b * 64 + type_in k b)
        × (b ≡ b / 128 * 128 + reserved_in k b * 64 + type_in k b → first_kept k b ≡ true)
    first_kept_lem Vvc b h = (
      λ e. let z = eqb-true (b / 32 % 4) 0 e in omega arith,
      λ e. let q : b / 32 ≡ 4 * (b / 128) = omega arith in eq-eqb (b / 32 % 4) 0 (rw q (mul-mod_right 4 _)),
    )
    first_kept_lem Hevc b h = (λ e. omega arith, λ e. refl)

    first_again_lem : (p : ℕ) → p < length s → Rewrites s p (first_again (get_or s p 0) ∷ []) (first_kept k (get_or s p 0))
    first_again_lem p h = let f = first_kept_lem k (get_or s p 0) (are_bytes p) in rewrites_byte s p _ _ h f.0 f.1

    -- the fields of a first byte fit it
    first_fits_lem : (k : Codec) (b : ℕ) → (first_fits k (reserved_in k b) (type_in k b) ≡ true) × (reserved_in k b ≤ 1) × (type_in k b ≤ largest_type)
    first_fits_lem Vvc b = (le-leb (b % 32) 31 (omega arith), omega arith, omega arith)
    first_fits_lem Hevc b = (refl, omega arith, omega arith)

    -- an array that was read of s from place p to q
    record ArrayAgain (p : ℕ) (a : Array Span) (q : ℕ) : Type 0 where
      one : a.complete ≤ 1
      bit : a.reserved_bit ≤ 1
      small : a.unit_type ≤ largest_type
      fits : array_fits k (held_array s a) ≡ true
      next : q ≡ p + length (array_bytes k (held_array s a))
      same : Rewrites s p (array_bytes k (held_array s a)) (first_kept k (get_or s p 0))

    -- an array of the byte at p, a number of units and units
    module _ (p q n r : ℕ) (us : List Span) (z : ℕ) (h : p < length s) (after : q ≡ p + 1) where
      abbrev array_of : Array Span
      array_of = record { complete = get_or s p 0 / 128; reserved_bit = reserved_in k (get_or s p 0); unit_type = type_in k (get_or s p 0); units = us }

      abbrev first_part : List ℕ
      first_part = first_again (get_or s p 0) ∷ []

      -- its bytes, one part after another
      parts_again : (c : Bool) → CountAgain c q n r → UnitsAgain n r us z
          → Rewrites s p (first_part ++ count_bytes c n ++ encode_units 2 (map (held s) us)) (first_kept k (get_or s p 0))
      parts_again c d v =
          let l = length-append first_part (count_bytes c n) in
          let m : r ≡ p + length (first_part ++ count_bytes c n) = omega (arith, d.next) in
          rewrites_then s p (first_part ++ count_bytes c n) (encode_units 2 (map (held s) us)) _
          (rewrites_then s p first_part (count_bytes c n) _ (first_again_lem p h) (rw after at d.same)) (rw m at v.same)

      -- it is such an array
      array_made : CountAgain (holds_one k (type_in k (get_or s p 0))) q n r → UnitsAgain n r us z → ArrayAgain p array_of z
      unfolding array_bytes array_fits
      array_made d v =
          let m : length (map (held s) us) ≡ n = length-map us (held s) ∙ v.counted in
          let f = first_fits_lem k (get_or s p 0) in
          record {
            one = omega (arith, are_bytes p);
            bit = f.1;
            small = f.2;
            fits = rw (m, le-leb n 65535 d.few, v.fits, d.one) f.0;
            next =
                rw m (omega (
                  arith,
                  d.next,
                  v.next,
                  length-append (count_bytes (holds_one k (type_in k (get_or s p 0))) n) (encode_units 2 (map (held s) us)),
                ));
            same = rw m (parts_again (holds_one k (type_in k (get_or s p 0))) d v);
          }

    -- what is read by `record_array` is such an array
    array_again : (p : ℕ) → Gives (record_array k s p) (ArrayAgain p)
    unfolding record_array
    array_again p =
        gives_bind (uint 1 s p) _ (gives_uint s 1 p) (λ b q u.
        let e : b ≡ get_or s p 0 = u.is ∙ be_one s p in
        rw e (gives_bind ((if holds_one k (type_in k (get_or s p 0)) then give 1 else uint 2) s q) _
        (count_again (holds_one k (type_in k (get_or s p 0))) q u.inside) (λ n r c.
        gives_bind (times n (chunk 2) s r) _ (units_again n r (omega (arith, c.next, c.same.room))) (λ us z v.
        gives_value _ z (array_made p q n r us z (omega (arith, u.next, u.inside)) u.next c v)))))

    -- ---- arrays

    -- the byte that an array begins with, where the array is read
    array_byte_lem : (p : ℕ) (a : Array Span) (q : ℕ) → record_array k s p ≡ value a q → start_byte k s p ≡ value (get_or s p 0) q
    unfolding start_byte
    array_byte_lem p a q e = rw e

    -- no arrays
    none_again : (p : ℕ) → p ≤ length s → ArraysAgain k s 0 p [] p
    unfolding times all arrays_bytes arrays_fit
    none_again p h = record {
      starts = [];
      read = refl;
      counted = refl;
      fits = refl;
      sound = sound_none;
      next = omega arith;
      same = rewrites_same s p [] (stands_none s p h);
    }

    -- an array before others
    more_again : (n p : ℕ) (a : Array Span) (q : ℕ) (xs : List (Array Span)) (r : ℕ) → record_array k s p ≡ value a q → ArrayAgain p a q
        → ArraysAgain k s n q xs r → ArraysAgain k s (suc n) p (a ∷ xs) r
    unfolding all arrays_bytes arrays_fit
    more_again n p a q xs r e w v =
        let l = length-append (array_bytes k (held_array s a)) (arrays_bytes k (held_arrays s xs)) in
        record {
          starts = get_or s p 0 ∷ v.starts;
          read = times_step (start_byte k) s n p (get_or s p 0) q (array_byte_lem p a q e) ∙ rw v.read;
          counted = ap suc v.counted;
          fits = rw w.fits v.fits;
          sound = sound_more w.one w.bit w.small v.sound;
          next = omega (arith, w.next, v.next);
          same = rewrites_append s p (array_bytes k (held_array s a)) (arrays_bytes k (held_arrays s xs)) _ _ w.same (rw w.next at v.same);
        }

-- n arrays that are read from place p on, written again
pub arrays_again : (k : Codec) (s : List ℕ) → AllBytes s → (n p : ℕ) → p ≤ length s → Gives (times n (record_array k) s p) (ArraysAgain k s n p)
unfolding times
arrays_again k s are_bytes zero p h = gives_value [] p (none_again k s are_bytes p h)
arrays_again k s are_bytes (suc n) p h =
    gives_bind (record_array k s p) _ (with_read _ (array_again k s are_bytes p)) (λ a q b.
    gives_bind (times n (record_array k) s q) _ (arrays_again k s are_bytes n q (omega (arith, b.1.next, b.1.same.room))) (λ xs r v.
    gives_value (a ∷ xs) r (more_again k s are_bytes n p a q xs r b.0 b.1 v)))
