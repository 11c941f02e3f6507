-- `sizes::units_sum` sums the units that are left of a walk. Invariant: the sum is that of the units passed, and those left follow them.
use mathlib.Core.Bool.{false}
use mathlib.Core.Path.{refl, ap, ◌∙◌}
use native.Mathlib.Omega.{arith}
use Rattle.std.specs.Prelude.{Ok}
use Rattle.boxes.specs.Parts.{held}
use Rattle.unit_list.proofs.Turns.{walk_found, walk_end}
use Rattle.access_unit.specs.inner.Gathered.{later_code}
use Rattle.access_unit.specs.declared.StartCodes.TheVariants.{Short}
use Rattle.access_unit.proofs.Streams.{code_saves}
use Rattle.access_unit_sizes.proofs.Sums.{summing_start, summing_more}
use Rattle.access_unit_sizes.proofs.Sums.{summing_end, list_sum_none, list_sum_more}
use Rattle.access_unit_sizes.proofs.sizes.units_sum.Goals as goal

pub loop-unit-init : goal.loop-unit-init
loop-unit-init c = (refl, summing_start _ _ _ (list_sum_none c.args.walk.list.now))

pub loop-unit-preserved : goal.loop-unit-preserved
loop-unit-preserved c =
    let i = c.loop-unit.invariant in
    let t = walk_found c.args.walk.list c.loop-unit.walk c.next_unit.new.self i.0 _ c.next_unit.ensures.steps _ (c.in_ok-unit.was ∙ ap Ok c.in-Some.is) in
    let s = c.args.walk.list.now in
    let a = c.in-Some.unit in (
      c.next_unit.ensures.same ∙ i.0,
      rw c.add_listed-sum.ensures (summing_more _ _ _ _ _ i.1 false _ (code_saves (later_code Short (held s a))).1 a
          (λ done. list_sum_more s done a t.inside) _ t.rest _ (omega (arith, t.passed.start, t.passed.next))),
    )

pub returns : goal.returns
returns c =
    let i = c.loop-unit.invariant in
    summing_end _ _ _ _ _ i.1 (walk_end c.args.walk.list c.loop-unit.walk c.next_unit.new.self i.0 _ c.next_unit.ensures.steps (c.in_ok-unit.was ∙ ap Ok c.in_default.is))
