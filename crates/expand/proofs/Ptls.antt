-- A PTL that was read from an SPS or a VPS can be written, and reads as the same PTL.
use Prim.Native.Nat.{ℕ, ◌≤◌}
use native.Mathlib.Omega.{arith}
use mathlib.Core.Path.{◌≡◌}
use mathlib.Core.Bool.{true}
use mathlib.Core.List.{List}
use borrow.Author.Tests.{le-leb}
use Rattle.parse.specs.Outcome.{accept}
use Rattle.boxes.specs.Bytes.{AllBytes}
use Rattle.ptl.specs.declared.VvcPtlRecord.{VvcPtlRecord}
use Rattle.ptl_bits.proofs.Bounds.{Fits}
use Rattle.ptl_record.specs.Write.{ptl_fits}
use Rattle.ptl_record.proofs.RoundTrip as P
use Rattle.sps.specs.Sps.{parse_sps}
use Rattle.sps.specs.declared.SpsHead.{SpsHead}
use Rattle.sps.proofs.Bounds.{sps_unit_fits}
use Rattle.vps.specs.Vps.{vps_first_ptl}
use Rattle.vps.proofs.Bounds.{vps_unit_fits}

writable : (m : ℕ) (r : VvcPtlRecord) → m ≤ 7 → Fits m r → P.Writable r
unfolding ptl_fits
writable m r h f =
    let a = f.profile in
    let b = f.info_few in
    let c = f.levels_count in
    record {
      fits = rw (
        le-leb r.general_profile_idc 127 (omega arith),
        le-leb r.num_bytes_constraint_info 63 (omega arith),
        le-leb r.num_sublayer_levels 7 (omega arith),
        le-leb r.num_sub_profiles 255 f.subs_few,
      );
      info_is = f.info_long;
      subs_are = f.subs_long;
      subs_small = f.subs_below;
    }

pub sps_ptl : (u : List ℕ) (h : SpsHead) → AllBytes u → parse_sps u ≡ accept h → h.ptl_present_flag ≡ true → P.Writable h.ptl
sps_ptl u h b e f = let k = sps_unit_fits u h b e in writable h.max_sublayers_minus1 h.ptl k.sublayers (k.ptl_there f)

pub vps_ptl_lem : (u : List ℕ) (p : VvcPtlRecord) → AllBytes u → vps_first_ptl u ≡ accept p → P.Writable p
vps_ptl_lem u p b e = let k = vps_unit_fits u p b e in writable p.num_sublayer_levels p k.0 k.1
