-- The head of an expansion fits the fields of a full record.
use Prim.Native.Nat.{◌-◌, ◌≤◌}
use native.Mathlib.Omega.{arith}
use mathlib.Core.Path.{◌≡◌}
use mathlib.Core.Bool.{true}
use borrow.Author.Tests.{le-leb}
use Rattle.boxes.proofs.PrefixSizes.{not_outside}
use Rattle.ptl.specs.declared.VvcPtlRecord.{VvcPtlRecord}
use Rattle.ptl_record.proofs.RoundTrip as P
use Rattle.compact.specs.declared.CompactVvcConfig.{CompactVvcConfig}
use Rattle.full.specs.Write.{ptl_part_fits, head_fits}
use Rattle.expand.specs.Expand.{expanded_head}
use Rattle.expand.specs.declared.Picture.{Picture}

pub head_fits_lem : (c : CompactVvcConfig) (pic : Picture) (ptl : VvcPtlRecord) → 1 ≤ c.length_size → c.length_size ≤ 4
    → pic.chroma_format_idc ≤ 3 → pic.bit_depth ≤ 15 → P.Writable ptl → head_fits (expanded_head c pic ptl) ≡ true
unfolding head_fits ptl_part_fits
head_fits_lem c pic ptl low high chroma depth ok =
    rw (not_outside c.length_size low high, le-leb pic.chroma_format_idc 3 chroma, le-leb (pic.bit_depth - 8) 7 (omega arith)) ok.fits
