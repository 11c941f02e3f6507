-- The lengths of few short units, after their lengths and in a full record.
use Prim.Native.Nat.{ℕ, ◌+◌, ◌*◌, ◌≤◌}
use native.Mathlib.Omega.{arith}
use mathlib.Core.Path.{◌≡◌}
use mathlib.Core.Bool.{Bool, true, false}
use mathlib.Core.List.{List, [], ◌∷◌, ◌++◌}
use lib.ListN.{length, length-append}
use Rattle.std.specs.Prelude.{if◌then◌else◌}
use Rattle.boxes.specs.Bytes.{to_be, to_chunk}
use Rattle.boxes.proofs.Numbers.{length_to_be}
use Rattle.unit_list.specs.UnitList.{Array, units_of, encode_units}
use Rattle.ptl.specs.declared.VvcPtlRecord.{VvcPtlRecord}
use Rattle.ptl_record.specs.Write.{ptl_bytes}
use Rattle.ptl_record.proofs.Writing.{fitting, info_long, length_front, length_ptl}
use Rattle.ptl_record.proofs.RoundTrip as P
use Rattle.compact.specs.declared.CompactVvcConfig.{CompactVvcConfig}
use Rattle.record_arrays.specs.Read.{holds_one}
use Rattle.record_arrays.specs.Write.{array_bytes, arrays_bytes}
use Rattle.record_arrays.specs.declared.Codec.TheVariants.{Vvc}
use Rattle.full.specs.Write.{head_bytes, ptl_part}
use Rattle.full.specs.declared.VvcConfig.{VvcConfig}
use Rattle.expand.specs.Expand.{expanded_head}
use Rattle.expand.specs.declared.Picture.{Picture}

-- units one after the other
encoded_append : (w : ℕ) (us vs : List (List ℕ)) → length (encode_units w (us ++ vs)) ≡ length (encode_units w us) + length (encode_units w vs)
unfolding encode_units
encoded_append w [] vs = omega arith
encoded_append w (u ∷ us) vs =
    omega (arith, length-append (to_chunk w u) (encode_units w us), length-append (to_chunk w u) (encode_units w (us ++ vs)), encoded_append w us vs)

-- arrays of a full record: at most three bytes for each beside their units
pub arrays_long : (xs : List (Array (List ℕ))) → length (arrays_bytes Vvc xs) ≤ 3 * length xs + length (encode_units 2 (units_of xs))
unfolding arrays_bytes array_bytes units_of
arrays_long [] = omega arith
arrays_long (a ∷ xs) =
    let n = count_long (holds_one Vvc a.unit_type) (length a.units) in
    let m = arrays_long xs in
    let l = encoded_append 2 a.units (units_of xs) in
    simp (length-append) (omega (arith, n, m, l))
  where
    count_long : (b : Bool) (n : ℕ) → length (if b then [] else to_be 2 n) ≤ 2
    count_long true n = omega arith
    count_long false n = omega (arith, length_to_be 2 n)

module _ (c : CompactVvcConfig) (pic : Picture) (ptl : VvcPtlRecord) (ok : P.Writable ptl) where
  abbrev head : VvcConfig
  head = expanded_head c pic ptl

  ptl_long : length (ptl_bytes ptl 1) ≤ 1087
  ptl_long =
      let f = fitting ptl ok.fits in
      let a = f.info in
      let b = f.subs in
      omega (arith, length_ptl ptl 1 (omega (arith, ok.subs_are)), length_front ptl, info_long ptl ok.info_is a)

  part_long : length (ptl_part head) ≤ 1096
  unfolding ptl_part
  part_long = simp (length-append, length_to_be) (omega (arith, ptl_long))

  pub head_long : length (head_bytes head) ≤ 1097
  unfolding head_bytes
  head_long = omega (arith, part_long)
