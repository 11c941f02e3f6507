-- The record as that of a head and of arrays.
use Prim.Native.Nat.{ℕ}
use mathlib.Core.Path.{◌≡◌, refl}
use mathlib.Core.Bool.{Bool, true, false, ◌&&◌}
use mathlib.Core.List.{List, [], ◌∷◌, ◌++◌}
use native.Mathlib.Omega.{arith}
use lib.Dec.{leb}
use lib.ListN.{length}
use Rattle.std.specs.Prelude.{if◌then◌else◌}
use Rattle.parse.specs.Outcome.{accept, refuse}
use Rattle.unit_list.specs.UnitList.{Array, decode}
use Rattle.record_arrays.specs.Write.{arrays_bytes, arrays_fit}
use Rattle.record_arrays.specs.declared.Codec.TheVariants.{Hevc}
use Rattle.record_arrays_write.specs.inner.Record.{record_of, record_in}
use Rattle.record_arrays_write.proofs.Records.{record_found}
use Rattle.hvcc.specs.Write.{hevc_head_bytes, hevc_head_fits, hevc_bytes, hevc_fits, write_hevc, serialize_hevc}
use Rattle.hvcc.specs.declared.HevcConfig.{HevcConfig}
use Rattle.hvcc_write.specs.inner.Parts.{head_written}

module _ (h : HevcConfig) where
  -- the record is that of the head
  write_record : (xs : List (Array (List ℕ))) → write_hevc h xs ≡ record_of Hevc (head_written h) xs
  unfolding write_hevc hevc_fits hevc_bytes
  write_record xs = go (hevc_head_fits h)
    where
      go : (t : Bool)
          → (if t && (leb (length xs) 255 && arrays_fit Hevc xs)
          then accept (hevc_head_bytes h ++ (length xs ∷ []) ++ arrays_bytes Hevc xs) else refuse 22)
          ≡ record_of Hevc (if t then accept (hevc_head_bytes h) else refuse 22) xs
      go true = refl
      go false = refl

  pub serialize_record : (s : List ℕ) → record_in Hevc (head_written h) s (decode s) ≡ serialize_hevc h s
  unfolding serialize_hevc
  serialize_record s = record_found Hevc (head_written h) s (write_hevc h) write_record (decode s)

  -- a head that is written fits its fields
  pub head_given : (b : List ℕ) → head_written h ≡ accept b → (hevc_head_fits h ≡ true) × (b ≡ hevc_head_bytes h)
  head_given b e = go (hevc_head_fits h) e
    where
      go : (t : Bool) → (if t then accept (hevc_head_bytes h) else refuse 22) ≡ accept b → (t ≡ true) × (b ≡ hevc_head_bytes h)
      go true w = (refl, cc)
      go false w = absurd (let z : ◌≡◌ {A = ℕ} 0 1 = cc in omega arith)
