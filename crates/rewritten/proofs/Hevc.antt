-- An HEVC record that was read, written again: the claim of specs/Hevc.antt.
use Prim.Native.Nat.{ℕ, ◌+◌, ◌-◌, ◌^◌, ◌≤◌, ◌<◌}
use mathlib.Core.Path.{◌≡◌, sym, ap, ◌∙◌}
use mathlib.Core.Bool.{true}
use mathlib.Core.List.{List, [], ◌∷◌, ◌++◌}
use native.Mathlib.Omega.{arith}
use native.Mathlib.Decide.{dec_le}
use lib.ListN.{length, get_or, take, length-append, get_or-append}
use lib.Seq.{get_or-append-add}
use borrow.Author.Tests.{le-leb}
use Rattle.parse.specs.Outcome.{accept}
use Rattle.parse.specs.Parse.{times}
use Rattle.parse.proofs.Gives.{Gives, gives_value, gives_bind}
use Rattle.boxes.specs.Bytes.{uint, AllBytes}
use Rattle.boxes.specs.declared.Span.{Span}
use Rattle.boxes.proofs.Gives.{NumberFits, gives_uint}
use Rattle.boxes.proofs.Numbers.{be_one}
use Rattle.unit_list.specs.UnitList.{Array, encode, held_arrays}
use Rattle.unit_list.proofs.Accepted.{sound_held}
use Rattle.unit_list.proofs.Arrays.{Sound}
use Rattle.unit_list.proofs.Encode.{held_encode, decode_encode}
use Rattle.ptl_record.proofs.Standing.{Stands}
use Rattle.record_arrays.specs.Read.{record_array}
use Rattle.record_arrays.specs.Write.{arrays_bytes}
use Rattle.record_arrays.specs.declared.Codec.TheVariants.{Hevc}
use Rattle.record_arrays.proofs.Parsed.{ReadAs, read_as}
use Rattle.record_arrays.proofs.RecordRead.{from_head, length_headed}
use Rattle.hvcc.specs.Read.{HevcParsed, hevc_head, hevc_record, parse_hevc}
use Rattle.hvcc.specs.Write.{hevc_head_bytes, hevc_bytes, hevc_fits, write_hevc, serialize_hevc}
use Rattle.hvcc.specs.declared.HevcConfig.{HevcConfig}
use Rattle.hvcc.proofs.HeadRoundTrip.{length_head}
use Rattle.rewritten.specs.Hevc.{standard_byte, head_standard, HevcRewritten, HevcReadRewritten}
use Rattle.rewritten.proofs.Parts.{stands_byte, stands_join, front_taken, taken_front}
use Rattle.rewritten.proofs.Arrays.{all_hevc, ArraysAgain, arrays_again}
use Rattle.rewritten.proofs.HevcHead.{standard_free, standard_kept, standard_only, HeadAgain, head_again}

-- ---- the record

-- a record that was read of s with the head h and the arrays xs
record RecordAgain (s : List ℕ) (h : HevcConfig) (xs : List (Array Span)) (q : ℕ) : Type 0 where
  fits : hevc_fits h (held_arrays s xs) ≡ true
  sound : Sound xs
  head : HeadAgain s h 22
  long : length (hevc_bytes h (held_arrays s xs)) ≡ q
  room : q ≤ length s
  rest : Stands s 22 (length (held_arrays s xs) ∷ arrays_bytes Hevc (held_arrays s xs))  -- what follows the head

-- a head, the number of arrays and arrays that were read are such a record
record_made : (s : List ℕ) → AllBytes s → (h : HevcConfig) (p n q : ℕ) (xs : List (Array Span)) (r : ℕ)
    → HeadAgain s h p → NumberFits s 1 p n q → ArraysAgain Hevc s n q xs r → RecordAgain s h xs r
unfolding hevc_fits hevc_bytes
record_made s are_bytes h p n q xs r a u v =
    let ys = held_arrays s xs in
    let k : p ≡ 22 = a.next in
    let b : get_or s 22 0 ≡ length ys = ap (λ (i : ℕ). get_or s i 0) (sym k) ∙ sym (be_one s p) ∙ sym u.is ∙ sym v.counted in
    let st : Stands s 22 (length ys ∷ []) = stands_byte s 22 (length ys) (omega (arith, u.next, u.inside)) b in
    let m : q ≡ 23 = omega (arith, u.next) in
    let l = length_headed Hevc (hevc_head_bytes h) ys in
    record {
      fits = rw (a.fits, le-leb (length ys) 255 (omega (arith, are_bytes 22))) v.fits;
      sound = v.sound;
      head = rw k at a;
      long = omega (arith, l, length_head h, v.next);
      room = omega (arith, v.next, v.same.room);
      rest = stands_join s 22 (length ys ∷ []) (arrays_bytes Hevc ys) st (rw m at (v.same.kept (all_hevc v.starts)));
    }

-- what is read by `hevc_record` is such a record
record_again : (s : List ℕ) → AllBytes s → Gives (hevc_record s 0) (λ r q. RecordAgain s r.0 r.1 q)
unfolding hevc_record
record_again s are_bytes =
    gives_bind (hevc_head s 0) _ (head_again s are_bytes) (λ h p a.
    gives_bind (uint 1 s p) _ (gives_uint s 1 p) (λ n q u.
    gives_bind (times n (record_array Hevc) s q) _ (arrays_again Hevc s are_bytes n q u.inside) (λ xs r v.
    gives_value (h, xs) r (record_made s are_bytes h p n q xs r a u v))))

-- ---- the claim

-- `serialize` writes a head and the list of arrays that fit
serialize_accepts : (h : HevcConfig) (xs : List (Array (List ℕ))) → hevc_fits h xs ≡ true → Sound xs → length (encode xs) ≤ 2 ^ 30
    → serialize_hevc h (encode xs) ≡ accept (hevc_bytes h xs)
unfolding serialize_hevc write_hevc
serialize_accepts h xs f sound l = rw (decode_encode xs l sound, held_encode xs l, f)

-- the bytes that are written for such a record
module _ (s : List ℕ) (are_bytes : AllBytes s) (h : HevcConfig) (xs : List (Array Span)) (q : ℕ) (a : RecordAgain s h xs q) where
  abbrev again : List ℕ
  again = hevc_bytes h (held_arrays s xs)

  -- the head, then what follows it
  parts : again ≡ hevc_head_bytes h ++ (length (held_arrays s xs) ∷ arrays_bytes Hevc (held_arrays s xs))
  unfolding hevc_bytes
  parts = from_head Hevc (hevc_head_bytes h) (held_arrays s xs)

  again_long : 22 + length (length (held_arrays s xs) ∷ arrays_bytes Hevc (held_arrays s xs)) ≡ q
  again_long =
      omega (
        arith,
        ap length parts,
        a.long,
        length_head h,
        length-append (hevc_head_bytes h) (length (held_arrays s xs) ∷ arrays_bytes Hevc (held_arrays s xs)),
      )

  -- each is the one that was read, with the head's reserved bits set
  each_again : (i : ℕ) → i < q → get_or again i 0 ≡ standard_byte i (get_or s i 0)
  each_again i j =
      let l = length_head h in
      let rest = length (held_arrays s xs) ∷ arrays_bytes Hevc (held_arrays s xs) in
      elim (dec_le 22 i) [
        | no n ↦ ap (λ (b : List ℕ). get_or b i 0) parts ∙ get_or-append (hevc_head_bytes h) rest 0 i (omega arith) ∙ a.head.each i (omega arith)
        | yes n ↦
            (let e : i ≡ length (hevc_head_bytes h) + (i - 22) = omega arith in
            let o : 22 + (i - 22) ≡ i = omega arith in
            ap (λ (b : List ℕ). get_or b i 0) parts
            ∙ ap (λ (k : ℕ). get_or (hevc_head_bytes h ++ rest) k 0) e
            ∙ get_or-append-add (hevc_head_bytes h) rest (i - 22) 0
            ∙ sym (a.rest.same (i - 22) (omega (arith, again_long)))
            ∙ ap (λ (k : ℕ). get_or s k 0) o
            ∙ sym (standard_free i (get_or s i 0) (λ x y. omega arith)))
      ]

  -- they lie at the front of s where the head's reserved bits are the standard's
  standing : head_standard s ≡ true → Stands s 0 again
  standing e = record {
    room = omega (arith, a.long, a.room);
    same = λ k j. let z : 0 + k ≡ k = omega arith in
        rw z (sym (standard_kept s are_bytes e k) ∙ sym (each_again k (omega (arith, a.long, j))));
  }

  kept_front : head_standard s ≡ true → again ≡ take q s
  kept_front e = front_taken s again q a.long (standing e)

  -- and only there
  front_kept : again ≡ take q s → head_standard s ≡ true
  front_kept e =
      let st = taken_front s again q a.long (omega (arith, a.long, a.room)) e in
      standard_only s are_bytes (λ i j.
      let z : 0 + i ≡ i = omega arith in
      sym (each_again i (omega (arith, again_long))) ∙ sym (st.same i (omega (arith, again_long, a.long))) ∙ ap (λ (k : ℕ). get_or s k 0) z)

-- a record that was read as r and a list
rewritten : (s : List ℕ) → AllBytes s → (r : HevcParsed) (list : List ℕ) → length list ≤ 2 ^ 30 → (f : ReadAs hevc_record s r list)
    → RecordAgain s r.head f.arrays r.consumed → HevcRewritten s r list
rewritten s are_bytes r list l f a =
    record {
      bytes = hevc_bytes r.head (held_arrays s f.arrays);
      written = written;
      long = a.long;
      writes = λ out h. rw (written, le-leb (length (hevc_bytes r.head (held_arrays s f.arrays))) (length out) h, a.long);
      each = each_again s are_bytes r.head f.arrays r.consumed a;
      kept = kept_front s are_bytes r.head f.arrays r.consumed a;
      only = front_kept s are_bytes r.head f.arrays r.consumed a;
    }
  where
    written : serialize_hevc r.head list ≡ accept (hevc_bytes r.head (held_arrays s f.arrays))
    written = rw f.same (serialize_accepts r.head (held_arrays s f.arrays) a.fits (sound_held s a.sound) (rw f.same at l))

-- every record that is read
pub hevc_rewritten : HevcReadRewritten
unfolding parse_hevc
hevc_rewritten s are_bytes r list e l =
    let f = read_as hevc_record s r list e in
    rewritten s are_bytes r list l f ((record_again s are_bytes).at _ _ f.reads)
