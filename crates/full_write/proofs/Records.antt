-- The record as that of a head and of arrays.
use Prim.Native.Nat.{ℕ}
use mathlib.Core.Path.{◌≡◌, refl}
use mathlib.Core.Bool.{Bool, true, false, ◌&&◌}
use mathlib.Core.List.{List, [], ◌∷◌, ◌++◌}
use native.Mathlib.Omega.{arith}
use lib.Dec.{leb, eqb}
use lib.ListN.{length}
use Rattle.std.specs.Prelude.{if◌then◌else◌}
use Rattle.parse.specs.Outcome.{Outcome, accept, refuse}
use Rattle.unit_list.specs.UnitList.{Array, decode}
use Rattle.record_arrays.specs.Write.{arrays_bytes, arrays_fit}
use Rattle.record_arrays.specs.declared.Codec.TheVariants.{Vvc}
use Rattle.record_arrays_write.specs.inner.Record.{record_of, record_in}
use Rattle.record_arrays_write.proofs.Records.{record_found}
use Rattle.full.specs.Write.{head_bytes, head_fits, full_bytes, record_fits, write_full, serialize_full}
use Rattle.full.specs.declared.VvcConfig.{VvcConfig}
use Rattle.full_write.specs.inner.Head.{head_written}

module _ (h : VvcConfig) where
  -- a head, by the two tests
  abbrev head_by : Bool → Bool → Outcome (List ℕ)
  head_by three fits = if three then refuse 3 else if fits then accept (head_bytes h) else refuse 22

  -- the record is that of the head
  write_record : (xs : List (Array (List ℕ))) → write_full h xs ≡ record_of Vvc (head_written h) xs
  unfolding write_full record_fits full_bytes
  write_record xs = go (eqb h.length_size 3) (head_fits h)
    where
      go : (three fits : Bool)
          → (if three then refuse 3 else if fits && (leb (length xs) 255 && arrays_fit Vvc xs)
          then accept (head_bytes h ++ (length xs ∷ []) ++ arrays_bytes Vvc xs) else refuse 22) ≡ record_of Vvc (head_by three fits) xs
      go true fits = refl
      go false true = refl
      go false false = refl

  pub serialize_record : (s : List ℕ) → record_in Vvc (head_written h) s (decode s) ≡ serialize_full h s
  unfolding serialize_full
  serialize_record s = record_found Vvc (head_written h) s (write_full h) write_record (decode s)

  -- a head that is written fits its fields
  pub head_given : (b : List ℕ) → head_written h ≡ accept b → (head_fits h ≡ true) × (b ≡ head_bytes h)
  head_given b e = go (eqb h.length_size 3) (head_fits h) e
    where
      go : (three fits : Bool) → head_by three fits ≡ accept b → (fits ≡ true) × (b ≡ head_bytes h)
      go true fits w = absurd (let z : ◌≡◌ {A = ℕ} 0 1 = cc in omega arith)
      go false true w = (refl, cc)
      go false false w = absurd (let z : ◌≡◌ {A = ℕ} 0 1 = cc in omega arith)
