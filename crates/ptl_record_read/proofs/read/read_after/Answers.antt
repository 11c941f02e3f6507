-- `read_after` reads the fields where their end is within the bytes, else refuses with 1.
use Prim.Native.Nat.{◌+◌, ◌*◌, ◌<◌}
use mathlib.Core.Path.{sym}
use native.Mathlib.Omega.{arith}
use lib.ListN.{length}
use Rattle.ptl_record.specs.Read.{vvc_ptl_record}
use Rattle.ptl_record.specs.inner.Places.{ptl_fields}
use Rattle.ptl_record.proofs.Reading.{Reach, reads_after}
use Rattle.ptl_record_read.proofs.read.read_after.Goals as goal

pub returns-then-s-end : goal.returns-then-s-end
returns-then-s-end c =
    let a = c.args in
    let s = a.s.now in
    let f = c.flags_at-flags.ensures in
    let v = c.read_levels-levels.ensures in
    let byte : c.flags_at-flags.result < 256 = omega arith in
    let end : length s < c.read_levels-levels.result.next + 1 + c.from-count.result * 4 = omega arith in
    let r = reads_after a.sublayers s a.at (omega arith) a.n c.requires.3 c.requires.4 (rw f at byte) in
    sym (r.short (rw (c.from-count.ensures, c.byte.ensures, v.1, c.level_count-m.ensures.0, c.levels_start-from.ensures.0, f) at end))

pub returns : goal.returns
returns c =
    let found : let a = c.args in
    let s = a.s.now in
    let v = c.read_levels-levels.result in
    Reach (length s) (vvc_ptl_record a.sublayers s a.at)
    (ptl_fields s a.at a.n c.level_count-m.result v.present v.idc v.next)
    (v.next + 1 + c.from-count.result * 4) =
    let a = c.args in
    let s = a.s.now in
    let f = c.flags_at-flags.ensures in
    let g = c.levels_start-from.ensures.0 in
    let m = c.level_count-m.ensures.0 in
    let v = c.read_levels-levels.ensures in
    let byte : c.flags_at-flags.result < 256 = omega arith in
    let r = reads_after a.sublayers s a.at (omega arith) a.n c.requires.3 c.requires.4 (rw f at byte) in
    rw (c.from-count.ensures, c.byte.ensures, v.2, v.3, v.1, m, g, f) r in
    rw (c.ptl_fields-ptl.ensures) (sym (found.there (omega arith)))
