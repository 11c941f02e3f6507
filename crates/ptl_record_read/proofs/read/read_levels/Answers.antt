-- `read_levels` returns the flags and the levels: the loop fills both arrays from the highest sublayer down.
use Prim.Native.Nat.{suc, ◌-◌}
use mathlib.Core.Path.{◌≡◌}
use native.Mathlib.Omega.{arith}
use Rattle.ptl.specs.Ptl.{present_flags}
use Rattle.ptl_record.specs.inner.Places.{levels_len, levels_at}
use Rattle.ptl_record_read.proofs.Places.{filled_none, filled_more}
use Rattle.ptl_record_read.proofs.read.read_levels.Goals as goal

pub loop-i-init : goal.loop-i-init
loop-i-init c =
    filled_none _ _ _ _ (omega (arith, c))

pub loop-i-preserved : goal.loop-i-preserved
loop-i-preserved c =
    let e : c.loop-i.i ≡ suc (c.loop-i.i - 1) = omega (arith, c.loop-i-test.true) in
    rw (c.from-next.ensures, c.level_if.ensures)
    (filled_more _ _ _ _ _ _ _ _ _ (rw e at c.loop-i.invariant) c.requires.0)

pub returns : goal.returns
unfolding levels_len present_flags levels_at
returns c =
    let v = c.loop-i.invariant in
    let e : c.loop-i.i ≡ 0 = omega (arith, c.loop-i-test.false) in
    let p = rw e at v.place in
    (omega (arith, p, v.near, v.low, c.requires.0), omega (arith, p), rw e at v.flags_are, rw e at v.levels_are)
