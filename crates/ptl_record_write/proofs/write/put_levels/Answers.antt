-- `put_levels` stores the levels from the highest sublayer down.
use lib.Seq.{length-sets}
use Prim.Native.Nat.{suc, ◌-◌}
use mathlib.Core.Path.{◌≡◌, ap, ◌∙◌}
use native.Mathlib.Omega.{arith}
use borrow.Author.Rules.{rules}
use lib.ListN.{length}
use Rattle.ptl_record.specs.Write.{level_bytes}
use Rattle.ptl_record_write.proofs.Stores.{levels_more, levels_longer}
use Rattle.ptl_record_write.proofs.write.put_levels.Goals as goal

pub put_level-w-requires : goal.put_level-w-requires
put_level-w-requires c =
    let a = c.args in
    let j = c.loop-i.i - 1 in
    let e : c.loop-i.i ≡ suc j = omega arith in
    let v = rw e at c.loop-i.invariant.1 in
    rw c.has_level.ensures (omega (
      arith,
      levels_longer a.p j,
      v,
      c.loop-i.invariant.0,
      length-sets c.loop-i.out c.loop-i.w (level_bytes a.p c.loop-i.i),
      ap length c.loop-i.invariant.2,
      length-sets a.out.now a.at (level_bytes a.p a.m),
    ))

pub loop-i-preserved : goal.loop-i-preserved
loop-i-preserved c =
    let a = c.args in
    let j = c.loop-i.i - 1 in
    let e : c.loop-i.i ≡ suc j = omega arith in
    let v = rw e at c.loop-i.invariant.1 in
    let w = rw e at c.loop-i.invariant.2 in
    let o = c.put_level-w.ensures in
    let h = c.has_level.ensures in
    let o0 = rw h at o.0 in
    let o1 = rw h at o.1 in
    (search rules, omega (arith, levels_longer a.p j), rw (o1, o0) (levels_more a.p j c.loop-i.out c.loop-i.w ∙ w))

pub returns : goal.returns
unfolding level_bytes
returns c =
    let e : c.loop-i.i ≡ 0 = omega arith in
    let v = rw e at c.loop-i.invariant.1 in
    (omega arith, rw e at c.loop-i.invariant.2)
