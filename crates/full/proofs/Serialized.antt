-- A full record read after `serialize` wrote it: the claims of specs/RoundTrip.antt.
use Prim.Native.Nat.{ℕ, ◌^◌, ◌≤◌}
use native.Mathlib.Omega.{arith}
use mathlib.Core.Path.{◌≡◌, refl}
use mathlib.Core.Bool.{Bool, true, false}
use mathlib.Core.List.{List}
use lib.Dec.{eqb}
use lib.ListN.{length}
use Rattle.std.specs.Prelude.{if◌then◌else◌}
use Rattle.parse.specs.Outcome.{Outcome, accept, refuse, and_then}
use Rattle.boxes.specs.declared.Span.{Span}
use Rattle.unit_list.specs.UnitList.{Array, decode, held_arrays}
use Rattle.unit_list.proofs.Decoded.{sound_decode}
use Rattle.record_arrays.proofs.RecordLength.{Listed, listed, wide_is, wide_itself}
use Rattle.full.specs.Read.{parse_full}
use Rattle.full.specs.Write.{full_bytes, record_fits, write_full, serialize_full}
use Rattle.full.specs.RoundTrip.{Typed, head_read, ReadAfterSerialize, ReadAfterSerialize01}
use Rattle.full.specs.declared.VvcConfig.{VvcConfig}
use Rattle.full.proofs.RecordLength.{record_lent}
use Rattle.full.proofs.RecordRoundTrip.{read_after_write}

-- a record written from a list of at most 2^30 bytes has at most 2^30 bytes
written_lent : (h : VvcConfig) → Typed h → (xs : List (Array (List ℕ))) (b : List ℕ) → write_full h xs ≡ accept b
    → Listed xs → length b ≤ 2 ^ 30
unfolding write_full
written_lent h t xs b e l = go (eqb h.length_size 3) (record_fits h xs) refl e
  where
    go : (c d : Bool) → record_fits h xs ≡ d
        → (if c then refuse 3 else (if d then accept (full_bytes h xs) else refuse 22)) ≡ accept b → length b ≤ 2 ^ 30
    go true d f x = let z : ◌≡◌ {A = ℕ} 0 1 = cc in absurd (omega arith)
    go false false f x = let z : ◌≡◌ {A = ℕ} 0 1 = cc in absurd (omega arith)
    go false true f x = let is : full_bytes h xs ≡ b = cc in rw (← is) (record_lent h t xs f l)

pub read_after_serialize : ReadAfterSerialize
unfolding serialize_full
read_after_serialize h t list all b e wide v = go (decode list) refl e
  where
    go : (o : Outcome (List (Array Span))) → decode list ≡ o → and_then o (λ xs. write_full h (held_arrays list xs)) ≡ accept b
        → parse_full b ≡ accept (record { head = head_read h; consumed = length b; list_length = length wide }, wide)
    go (refuse n) d f = let z : ◌≡◌ {A = ℕ} 0 1 = cc in absurd (omega arith)
    go (accept xs) d f =
        let same = wide_is list xs d wide v in
        let lent = written_lent h t (held_arrays list xs) b f (listed list all xs d) in
        rw same at (read_after_write h t (held_arrays list xs) (sound_decode list xs d) b f lent)

pub read_after_serialize_01 : ReadAfterSerialize01
unfolding serialize_full
read_after_serialize_01 h t list all v b e = read_after_serialize h t list all b e list (wide_itself list all v (write_full h) b e)
