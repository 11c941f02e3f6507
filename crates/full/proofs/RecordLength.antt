-- The length of a record written from a list is at most 2^30, so it can be an input.
use Prim.Native.Nat.{ℕ, suc, ◌^◌, ◌≤◌}
use native.Mathlib.Omega.{arith}
use mathlib.Core.Path.{◌≡◌}
use mathlib.Core.Bool.{Bool, true, false, not}
use mathlib.Core.List.{List, []}
use lib.Dec.{leb}
use lib.ListN.{length}
use borrow.Author.Tests.{leb-true}
use Rattle.std.specs.Prelude.{if◌then◌else◌}
use Rattle.parse.proofs.General.{both_true}
use Rattle.boxes.specs.Bytes.{outside}
use Rattle.unit_list.specs.UnitList.{Array}
use Rattle.ptl_record.proofs.Writing.{info_long, part_few, fitting, length_front, length_ptl}
use Rattle.record_arrays.specs.declared.Codec.TheVariants.{Vvc}
use Rattle.record_arrays.proofs.RecordLength.{Listed}
use Rattle.record_arrays.proofs.RecordRead.{headed_lent}
use Rattle.full.specs.Write.{ptl_part, head_bytes, ptl_part_fits, head_fits, full_bytes, record_fits}
use Rattle.full.specs.RoundTrip.{Typed}
use Rattle.full.specs.declared.VvcConfig.{VvcConfig}
use Rattle.full.proofs.HeadRoundTrip.{small, length_part}

-- the longest head: 63 constraint bytes, 6 levels and 255 sub-profiles
head_short : (h : VvcConfig) → Typed h → head_fits h ≡ true → length (head_bytes h) ≤ 1104
unfolding head_bytes head_fits
head_short h t e =
    go h.ptl_present_flag (both_true (not (outside h.length_size)) _ e).1
  where
    go : (c : Bool) → (if c then ptl_part_fits h else true) ≡ true → suc (length (if c then ptl_part h else [])) ≤ 1104
    go false f = omega arith
    go true f =
        let s = small h f in
        let p = h.native_ptl in
        let g = fitting p s.ptl in
        let l = length_ptl p h.num_sublayers (rw t.subs g.subs) in
        omega (arith, length_part h, length_front p, info_long p t.info g.info, part_few p h.num_sublayers s.sublayers)

-- a record written from a list of at most 2^30 bytes has at most 2^30 bytes
pub record_lent : (h : VvcConfig) → Typed h → (xs : List (Array (List ℕ))) → record_fits h xs ≡ true → Listed xs
    → length (full_bytes h xs) ≤ 2 ^ 30
unfolding record_fits full_bytes
record_lent h t xs e l =
    let a = both_true (head_fits h) _ e in
    let b = both_true (leb (length xs) 255) _ a.1 in
    let k = leb-true (length xs) 255 b.0 in
    headed_lent Vvc (head_bytes h) xs (head_short h t a.0) k b.1 l
