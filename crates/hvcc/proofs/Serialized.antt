-- An HEVC record read after `serialize` wrote it: the claims of specs/RoundTrip.antt.
use Prim.Native.Nat.{ℕ, ◌^◌, ◌≤◌}
use native.Mathlib.Omega.{arith}
use mathlib.Core.Path.{◌≡◌, refl, sym, ap, ◌∙◌}
use mathlib.Core.Bool.{Bool, true, false}
use mathlib.Core.List.{List, ◌∷◌}
use lib.Dec.{leb}
use lib.ListN.{length}
use borrow.Author.Tests.{leb-true, le-leb}
use Rattle.std.specs.Prelude.{if◌then◌else◌}
use Rattle.parse.specs.Outcome.{Outcome, accept, refuse, and_then}
use Rattle.parse.specs.Parse.{value}
use Rattle.parse.proofs.General.{both_true}
use Rattle.boxes.specs.declared.Span.{Span}
use Rattle.unit_list.specs.UnitList.{Array, decode, held_arrays, encode}
use Rattle.unit_list.proofs.Arrays.{Sound}
use Rattle.unit_list.proofs.Decoded.{sound_decode}
use Rattle.record_arrays.specs.Write.{arrays_bytes, arrays_fit}
use Rattle.record_arrays.specs.declared.Codec.TheVariants.{Hevc}
use Rattle.record_arrays.proofs.RecordLength.{Listed, listed, wide_is, wide_itself}
use Rattle.record_arrays.proofs.RecordRead.{headed_bytes, from_head, headed_lent, headed_read, headed_held}
use Rattle.hvcc.specs.Read.{hevc_head, hevc_record, parse_hevc}
use Rattle.hvcc.specs.Write.{hevc_head_bytes, hevc_head_fits, hevc_bytes, hevc_fits, write_hevc, serialize_hevc}
use Rattle.hvcc.specs.RoundTrip.{Typed, HevcReadAfterSerialize, HevcReadAfterSerialize01}
use Rattle.hvcc.specs.declared.HevcConfig.{HevcConfig}
use Rattle.hvcc.proofs.HeadRoundTrip.{small, length_head, head_read_lem}

-- a head and arrays that fit, written and read
module _ (h : HevcConfig) (t : Typed h) (xs : List (Array (List ℕ))) (sound : Sound xs) (fits : hevc_fits h xs ≡ true)
    (lent : Listed xs) where
  -- the head fits, there are at most 255 arrays, and they fit
  parts_fit : (hevc_head_fits h ≡ true) × (length xs ≤ 255) × (arrays_fit Hevc xs ≡ true)
  unfolding hevc_fits
  parts_fit =
      let a = both_true (hevc_head_fits h) _ fits in
      let b = both_true (leb (length xs) 255) _ a.1 in
      (a.0, leb-true (length xs) 255 b.0, b.1)

  head_first : hevc_head (headed_bytes Hevc (hevc_head_bytes h) xs) 0 ≡ value h (length (hevc_head_bytes h))
  head_first =
      head_read_lem h t (small h parts_fit.0) (headed_bytes Hevc (hevc_head_bytes h) xs) (length xs ∷ arrays_bytes Hevc xs)
      (from_head Hevc (hevc_head_bytes h) xs) ∙ ap (value h) (sym (length_head h))

  record_lent : length (headed_bytes Hevc (hevc_head_bytes h) xs) ≤ 2 ^ 30
  record_lent = headed_lent Hevc (hevc_head_bytes h) xs (omega (arith, length_head h)) parts_fit.1 parts_fit.2 lent

  read_written : parse_hevc (hevc_bytes h xs)
      ≡ accept (record { head = h; consumed = length (hevc_bytes h xs); list_length = length (encode xs) }, encode xs)
  unfolding parse_hevc hevc_record hevc_bytes
  read_written = rw (
    le-leb (length (headed_bytes Hevc (hevc_head_bytes h) xs)) (2 ^ 30) record_lent,
    headed_read Hevc (hevc_head_bytes h) xs sound parts_fit.2 hevc_head h head_first,
    headed_held Hevc (hevc_head_bytes h) xs sound parts_fit.2,
  )

-- every head and arrays that are accepted
read_after_write : (h : HevcConfig) → Typed h → (xs : List (Array (List ℕ))) → Sound xs → Listed xs
    → (b : List ℕ) → write_hevc h xs ≡ accept b
    → parse_hevc b ≡ accept (record { head = h; consumed = length b; list_length = length (encode xs) }, encode xs)
unfolding write_hevc
read_after_write h t xs sound lent b e = go (hevc_fits h xs) refl e
  where
    go : (c : Bool) → hevc_fits h xs ≡ c → (if c then accept (hevc_bytes h xs) else refuse 22) ≡ accept b
        → parse_hevc b ≡ accept (record { head = h; consumed = length b; list_length = length (encode xs) }, encode xs)
    go false f x = let z : ◌≡◌ {A = ℕ} 0 1 = cc in absurd (omega arith)
    go true f x = let is : hevc_bytes h xs ≡ b = cc in rw (← is) (read_written h t xs sound f lent)

-- every head and list that `serialize` accepts
pub hevc_read_after_serialize : HevcReadAfterSerialize
unfolding serialize_hevc
hevc_read_after_serialize h t list all b e wide v = go (decode list) refl e
  where
    go : (o : Outcome (List (Array Span))) → decode list ≡ o → and_then o (λ xs. write_hevc h (held_arrays list xs)) ≡ accept b
        → parse_hevc b ≡ accept (record { head = h; consumed = length b; list_length = length wide }, wide)
    go (refuse n) d f = let z : ◌≡◌ {A = ℕ} 0 1 = cc in absurd (omega arith)
    go (accept xs) d f =
        let same = wide_is list xs d wide v in
        rw same at (read_after_write h t (held_arrays list xs) (sound_decode list xs d) (listed list all xs d) b f)

pub hevc_read_after_serialize_01 : HevcReadAfterSerialize01
unfolding serialize_hevc
hevc_read_after_serialize_01 h t list all v b e = hevc_read_after_serialize h t list all b e list (wide_itself list all v (write_hevc h) b e)
