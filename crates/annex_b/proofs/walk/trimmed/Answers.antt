-- `walk::trimmed` is the length without trailing zeros. The loop's invariant: up to the places that were looked at the same is left as up to `to`.
use Prim.Native.Nat.{◌+◌, ◌-◌}
use mathlib.Core.Path.{◌≡◌, sym, ap, ◌∙◌}
use native.Mathlib.Omega.{arith}
use lib.ListN.{length}
use Rattle.annex_b.proofs.Trim.{trim_nil, trim_falls, trim_stays}
use Rattle.annex_b.proofs.walk.trimmed.Goals as goal

pub loop-i-preserved : goal.loop-i-preserved
loop-i-preserved c =
    let a = c.args in
    (omega arith, trim_falls a.s.now a.from c.loop-i.i (omega arith) (omega arith) c.if-s-i-ne0.false ∙ c.loop-i.invariant.1)

pub returns : goal.returns
returns c =
    let a = c.args in
    let z : c.loop-i.i - a.from ≡ 0 = omega arith in
    (ap length (sym trim_nil ∙ (rw z at c.loop-i.invariant.1)), omega arith)

pub returns-then-s-i-ne0 : goal.returns-then-s-i-ne0
returns-then-s-i-ne0 c =
    let a = c.args in
    let e : c.loop-i.i - 1 + 1 - a.from ≡ c.loop-i.i - a.from = omega arith in
    (e ∙ sym (trim_stays a.s.now a.from c.loop-i.i (omega arith) (omega arith) c.if-s-i-ne0.true) ∙ ap length c.loop-i.invariant.1, omega arith)
