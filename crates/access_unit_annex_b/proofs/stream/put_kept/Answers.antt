-- `stream::put_kept` stores the first kept units from a place of the item on. Invariant: those stored and those left are the whole.
use Prim.Native.Nat.{◌+◌, ◌≤◌}
use mathlib.Core.Path.{sym, ◌∙◌}
use lib.ListN.{length}
use native.Mathlib.Omega.{arith}
use Rattle.parse.proofs.PassedOn.{step_some, step_none}
use Rattle.split.proofs.Items.{found_unit_lem, found_none}
use Rattle.access_unit.specs.inner.Gathered.{kept_left}
use Rattle.access_unit.proofs.KeptUnits.{over_kept, over_dropped, over_nothing}
use Rattle.access_unit_annex_b.proofs.Storing.{first_end, first_room, first_more, first_on, first_some}
use Rattle.access_unit_annex_b.proofs.stream.put_kept.Goals as goal

pub returns-in_default : goal.returns-in_default
returns-in_default c =
    let a = c.args in
    let z = over_nothing a.size a.target a.item.now c.loop-left.at (found_none _ _ _ c.item_step.result c.item_step.ensures (step_none _ _ c.unwrap_or.ensures c.in_default.is)) in
    absurd (first_some _ _ _ _ _ _ _ _ _ _ c.loop-left.invariant.1 c.loop-left-test.true z)

pub kept_at-requires : goal.kept_at-requires
kept_at-requires c =
    let t = found_unit_lem _ _ _ _ c.item_step.ensures _ (step_some _ _ _ c.unwrap_or.ensures c.in-Some.is) in
    let inside_at : c.in-Some.step.unit.start + c.in-Some.step.unit.len ≤ length c.args.item.now =
    omega (arith, t.here) in
    (inside_at, c.requires.walks.lent)

pub put_unit-end-requires : goal.put_unit-end-requires
put_unit-end-requires c =
    let t = found_unit_lem _ _ _ _ c.item_step.ensures _ (step_some _ _ _ c.unwrap_or.ensures c.in-Some.is) in
    let inside_at : c.in-Some.step.unit.start + c.in-Some.step.unit.len ≤ length c.args.item.now =
    omega (arith, t.here) in
    let a = c.args in
    let k = over_kept a.size a.target a.item.now _ _ _ t.rest
    (sym c.kept_at.ensures ∙ c.if-kept_at.true) in (
      inside_at,
      first_room _ _ _ _ _ _ _ _ (kept_left a.size a.target a.item.now c.in-Some.step.next) k _ _ _
          c.loop-left.invariant.1 c.loop-left-test.true,
    )

pub loop-left-smaller-then-kept_at : goal.loop-left-smaller-then-kept_at
loop-left-smaller-then-kept_at c =
    let t = found_unit_lem _ _ _ _ c.item_step.ensures _ (step_some _ _ _ c.unwrap_or.ensures c.in-Some.is) in
    omega (arith, t.here)

pub loop-left-preserved-then-kept_at : goal.loop-left-preserved-then-kept_at
loop-left-preserved-then-kept_at c =
    let t = found_unit_lem _ _ _ _ c.item_step.ensures _ (step_some _ _ _ c.unwrap_or.ensures c.in-Some.is) in
    let a = c.args in
    let p = c.put_unit-end.ensures in
    let k = over_kept a.size a.target a.item.now _ _ _ t.rest
    (sym c.kept_at.ensures ∙ c.if-kept_at.true) in (
      omega (arith, t.here),
      first_more _ _ _ _ _ _ _ _ (kept_left a.size a.target a.item.now c.in-Some.step.next) k _ _ _
          c.loop-left.invariant.1 c.loop-left-test.true _ _ p.0 p.1,
    )

pub loop-left-smaller : goal.loop-left-smaller
loop-left-smaller c =
    let t = found_unit_lem _ _ _ _ c.item_step.ensures _ (step_some _ _ _ c.unwrap_or.ensures c.in-Some.is) in
    omega (arith, t.here)

pub loop-left-preserved : goal.loop-left-preserved
loop-left-preserved c =
    let t = found_unit_lem _ _ _ _ c.item_step.ensures _ (step_some _ _ _ c.unwrap_or.ensures c.in-Some.is) in
    let a = c.args in
    let d = over_dropped a.size a.target a.item.now _ _ _ t.rest (sym c.kept_at.ensures ∙ c.if-kept_at.false) in
    (omega (arith, t.here), first_on _ _ _ _ _ _ _ _ d _ _ _ c.loop-left.invariant.1)

pub returns : goal.returns
returns c =
    let w = first_end _ _ _ _ _ _ _ c.loop-left.left _ _ c.loop-left.invariant.1 c.loop-left-test.false in
    record { within = c.loop-left.invariant.0; next = w.2; ends = w.0; stored = w.1 }
