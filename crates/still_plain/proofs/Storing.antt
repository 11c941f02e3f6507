-- The stream of the units of a list and of the unit of the stored bytes, stored part by part.
use Prim.Native.Nat.{ℕ, suc, ◌+◌}
use native.Mathlib.Omega.{arith}
use mathlib.Core.Path.{◌≡◌, ◌∙◌}
use Rattle.std.specs.Prelude.{None}
use mathlib.Core.List.{List, []}
use lib.ListN.{length, get_or, set}
use lib.Seq.{sets}
use Rattle.parse.proofs.General.{sets_append, sets_then}
use Rattle.boxes.specs.Bytes.{to_be}
use Rattle.nal.specs.Header.{nal_header}
use Rattle.annex_b.specs.Stream.{code_bytes}
use Rattle.compact.specs.ItemData.{still_unit}
use Rattle.access_unit.specs.AccessUnit.{code_of_type}
use Rattle.access_unit.specs.inner.Gathered.{gather, coded, gathered_bytes}
use Rattle.access_unit.specs.declared.StartCodes.{StartCodes}
use Rattle.access_unit_sizes.specs.declared.sizes.Sizes.{Sizes}
use Rattle.access_unit_annex_b.proofs.Storing.{code_number}
use Rattle.still_plain.specs.inner.Plain.{Listed}
use Rattle.still_plain.proofs.Streams.{front, front_found, front_long, stream_bytes}

-- start code, header and stored bytes make the unit in the stream
pub picture_stored : (codes : StartCodes) (S out d e f g : List ℕ) (at n : ℕ) (header : List ℕ) → n ≡ length (code_bytes (code_of_type codes 8))
    → header ≡ nal_header 8 0 1 → d ≡ sets out at (to_be n 1) → e ≡ set d (at + n) (get_or header 0 0) → f ≡ set e (at + n + 1) (get_or header 1 0)
    → g ≡ sets f (at + n + 2) S → g ≡ sets out at (coded codes (still_unit S))
picture_stored codes S out d e f g at n header l h x y z w =
    let c = code_of_type codes 8 in
    let a : at + n + 1 ≡ suc (at + n) = omega arith in
    let b : at + n + 2 ≡ suc (suc (at + n)) = omega arith in
    w ∙ rw (b, z, a, y, x, h, l, code_number c) (sets_append out at (code_bytes c) (still_unit S))

module _ (codes : StartCodes) (size : ℕ) (list : List ℕ) (v : Sizes) (k : Listed codes size list v) where
  pub stream_stored : (S out d e : List ℕ) → d ≡ sets out 0 (gathered_bytes codes list [] (gather size None list []))
      → e ≡ sets d v.len (coded codes (still_unit S)) → e ≡ sets out 0 (stream_bytes codes size list v k S)
  stream_stored S out d e x y =
      let f = front codes size list v k in
      y ∙ rw (x, front_found codes size list v k)
      (sets_then out 0 v.len f (coded codes (still_unit S)) (omega (arith, front_long codes size list v k)))
