-- A full record that was read, written again: the claims of specs/Rewritten.antt.
use Prim.Native.Nat.{ℕ, ◌+◌, ◌^◌, ◌≤◌}
use mathlib.Core.Path.{◌≡◌, refl, sym, ◌∙◌}
use mathlib.Core.Bool.{Bool, true, false}
use mathlib.Core.List.{List, [], ◌∷◌, ◌++◌}
use native.Mathlib.Omega.{arith}
use lib.Dec.{eqb}
use lib.ListN.{length, get_or, take, length-append}
use borrow.Author.Tests.{le-leb}
use Rattle.parse.specs.Outcome.{accept, refuse}
use Rattle.parse.specs.Parse.{value, times}
use Rattle.parse.proofs.Gives.{Gives, gives_value, gives_bind, with_read}
use Rattle.boxes.specs.Bytes.{uint, AllBytes}
use Rattle.boxes.specs.declared.Span.{Span}
use Rattle.boxes.proofs.Gives.{NumberFits, gives_uint}
use Rattle.boxes.proofs.Numbers.{be_one}
use Rattle.unit_list.specs.UnitList.{Array, encode, held_arrays}
use Rattle.unit_list.proofs.Accepted.{sound_held}
use Rattle.unit_list.proofs.Arrays.{Sound}
use Rattle.unit_list.proofs.Encode.{held_encode, decode_encode}
use Rattle.ptl_record.proofs.Standing.{Stands}
use Rattle.record_arrays.specs.Read.{record_array}
use Rattle.record_arrays.specs.Write.{arrays_bytes}
use Rattle.record_arrays.specs.declared.Codec.TheVariants.{Vvc}
use Rattle.full.specs.Read.{FullParsed, vvc_head, vvc_record, parse_full}
use Rattle.full.specs.Write.{head_bytes, full_bytes, record_fits, write_full, serialize_full}
use Rattle.full.specs.Rules.{array_byte, record_array_bytes, reserved_kept, types_kept}
use Rattle.full.specs.Strict.{parse_strict}
use Rattle.full.specs.declared.VvcConfig.{VvcConfig}
use Rattle.full.proofs.Parsed.{ReadAs, read_as}
use Rattle.full.proofs.Ruled.{ruled, strict_ruled, kept_passes, ruled_accepted, strict_full}
use Rattle.rewritten.specs.Rewritten.{Rewritten, ReadRewritten, StrictRewritten}
use Rattle.rewritten.proofs.Parts.{Rewrites, stands_byte, front_taken, taken_front, rewrites_append, rewrites_then}
use Rattle.rewritten.proofs.Head.{HeadAgain, head_again}
use Rattle.rewritten.proofs.Arrays.{starts_vvc, ArraysAgain, arrays_again}

-- ---- the record

-- a record that was read of s with the head h and the arrays xs
record RecordAgain (s : List ℕ) (h : VvcConfig) (xs : List (Array Span)) (q : ℕ) : Type 0 where
  starts : List ℕ  -- the bytes that the arrays begin with
  read : record_array_bytes s 0 ≡ value starts q
  size : eqb h.length_size 3 ≡ false
  fits : record_fits h (held_arrays s xs) ≡ true
  sound : Sound xs
  long : length (full_bytes h (held_arrays s xs)) ≡ q
  same : Rewrites s 0 (full_bytes h (held_arrays s xs)) (reserved_kept s h starts)

-- the bytes that arrays begin with, read after the head and the number of arrays
starts_read : (s : List ℕ) (h : VvcConfig) (p n q : ℕ) (starts : List ℕ) (r : ℕ) → vvc_head s 0 ≡ value h p → uint 1 s p ≡ value n q
    → times n array_byte s q ≡ value starts r → record_array_bytes s 0 ≡ value starts r
unfolding record_array_bytes
starts_read s h p n q starts r e f g = rw (e, f, g)

-- a head, the number of arrays and arrays that were read are such a record
record_made : (s : List ℕ) → AllBytes s → (h : VvcConfig) (p n q : ℕ) (xs : List (Array Span)) (r : ℕ)
    → vvc_head s 0 ≡ value h p → uint 1 s p ≡ value n q → HeadAgain s h p → NumberFits s 1 p n q → ArraysAgain Vvc s n q xs r → RecordAgain s h xs r
unfolding record_fits full_bytes
record_made s are_bytes h p n q xs r e f a u v =
    let c = v.counted in
    let b : get_or s p 0 ≡ length (held_arrays s xs) = sym (be_one s p) ∙ sym u.is ∙ sym c in
    let k : p ≡ 0 + length (head_bytes h) = omega (arith, a.next) in
    let l = length-append (head_bytes h) (length (held_arrays s xs) ∷ []) in
    let m : q ≡ 0 + length (head_bytes h ++ (length (held_arrays s xs) ∷ [])) = omega (arith, u.next) in
    let d : Stands s p (length (held_arrays s xs) ∷ []) = stands_byte s p _ (omega (arith, u.next, u.inside)) b in
    record {
      starts = v.starts;
      read = starts_read s h p n q v.starts r e f (sym (starts_vvc n s q) ∙ v.read);
      size = a.size;
      fits = rw (a.fits, le-leb (length (held_arrays s xs)) 255 (omega (arith, are_bytes p))) v.fits;
      sound = v.sound;
      long = length-append (head_bytes h ++ (length (held_arrays s xs) ∷ [])) (arrays_bytes Vvc (held_arrays s xs)) ∙ omega (arith, v.next);
      same = rewrites_append s 0 (head_bytes h ++ (length (held_arrays s xs) ∷ [])) (arrays_bytes Vvc (held_arrays s xs)) _ _
          (rewrites_then s 0 (head_bytes h) (length (held_arrays s xs) ∷ []) _ a.same (rw k at d)) (rw m at v.same);
    }

-- what is read by `vvc_record` is such a record
record_again : (s : List ℕ) → AllBytes s → Gives (vvc_record s 0) (λ r q. RecordAgain s r.0 r.1 q)
unfolding vvc_record
record_again s are_bytes =
    gives_bind (vvc_head s 0) _ (with_read _ (head_again s are_bytes)) (λ h p a.
    gives_bind (uint 1 s p) _ (with_read _ (gives_uint s 1 p)) (λ n q u.
    gives_bind (times n (record_array Vvc) s q) _ (arrays_again Vvc s are_bytes n q u.1.inside) (λ xs r v.
    gives_value (h, xs) r (record_made s are_bytes h p n q xs r a.0 u.0 a.1 u.1 v))))

-- ---- what was read, and what is written for it

-- a head and arrays that fit are written
write_accepts : (h : VvcConfig) (xs : List (Array (List ℕ))) → eqb h.length_size 3 ≡ false → record_fits h xs ≡ true
    → write_full h xs ≡ accept (full_bytes h xs)
unfolding write_full
write_accepts h xs e f = rw (e, f)

-- `serialize` writes a head and the list of such arrays
serialize_accepts : (h : VvcConfig) (xs : List (Array (List ℕ))) → eqb h.length_size 3 ≡ false → record_fits h xs ≡ true → Sound xs
    → length (encode xs) ≤ 2 ^ 30 → serialize_full h (encode xs) ≡ accept (full_bytes h xs)
unfolding serialize_full
serialize_accepts h xs e f sound l = rw (decode_encode xs l sound, held_encode xs l) (write_accepts h xs e f)

-- ---- the claims

-- a record that was read as r and a list
module _ (s : List ℕ) (r : FullParsed) (list : List ℕ) (accepted : parse_full s ≡ accept (r, list)) (lent : length list ≤ 2 ^ 30)
    (f : ReadAs s r list) (a : RecordAgain s r.head f.arrays r.consumed) where
  -- the bytes that are written
  abbrev again : List ℕ
  again = full_bytes r.head (held_arrays s f.arrays)

  -- they are written for the head and the list
  serialized : serialize_full r.head list ≡ accept again
  serialized =
      rw f.same (serialize_accepts r.head (held_arrays s f.arrays) a.size a.fits (sound_held s a.sound) (rw f.same at lent))

  -- what strict reading returns
  ruled_here : parse_strict s ≡ ruled (reserved_kept s r.head a.starts) (types_kept a.starts) (r, list)
  ruled_here = strict_ruled s r list a.starts r.consumed accepted a.read

  -- with the reserved bits kept they are what was consumed
  kept_front : reserved_kept s r.head a.starts ≡ true → again ≡ take r.consumed s
  kept_front e = front_taken s again r.consumed a.long (a.same.kept e)

  -- where they are what was consumed the reserved bits are kept
  front_kept : again ≡ take r.consumed s → reserved_kept s r.head a.starts ≡ true
  front_kept e = a.same.only (taken_front s again r.consumed a.long a.same.room e)

  -- where they are not, strict reading returns 25
  not_front : (again ≡ take r.consumed s → ⊥) → parse_strict s ≡ refuse 25
  not_front n = go (reserved_kept s r.head a.starts) refl
    where
      go : (t : Bool) → reserved_kept s r.head a.starts ≡ t → parse_strict s ≡ refuse 25
      go true e = absurd (n (kept_front e))
      go false e = ruled_here ∙ rw e

  -- the claim for this record
  rewritten : Rewritten s r list
  rewritten = record {
    bytes = again;
    written = serialized;
    long = a.long;
    starts = a.starts;
    read = a.read;
    kept = kept_front;
    only = front_kept;
    told = not_front;
    meant = λ e w. kept_passes (types_kept a.starts) (r, list) (rw (front_kept w) at (sym ruled_here ∙ e));
  }

-- every record that the ordinary reader accepts
pub read_rewritten : ReadRewritten
read_rewritten s are_bytes r list e l = let f = read_as s r list e in rewritten s r list e l f ((record_again s are_bytes).at _ _ f.reads)

-- the reserved bits of a record that strict reading accepts are kept
strict_kept : (s : List ℕ) (r : FullParsed) (list : List ℕ) → parse_strict s ≡ accept (r, list) → (w : Rewritten s r list)
    → reserved_kept s r.head w.starts ≡ true
strict_kept s r list e w =
    let g = strict_ruled s r list w.starts r.consumed (strict_full s r list e) w.read in
    (ruled_accepted (reserved_kept s r.head w.starts) (types_kept w.starts) (r, list) (r, list) (sym g ∙ e)).0

-- a record that strict reading accepts is written as it was, to an output that is long enough
pub strict_rewritten : StrictRewritten
strict_rewritten s are_bytes r list e l out h =
    let w = read_rewritten s are_bytes r list (strict_full s r list e) l in
    let k = w.kept (strict_kept s r list e w) in
    rw (← k, w.written, w.long, le-leb r.consumed (length out) h)
