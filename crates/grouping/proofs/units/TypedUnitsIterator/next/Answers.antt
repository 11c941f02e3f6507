-- The next unit of the list with the type in its header, or the end.
use mathlib.Core.Path.{refl, ap, ◌∙◌}
use native.Mathlib.Omega.{arith}
use Rattle.std.specs.Prelude.{Ok}
use Rattle.grouping.proofs.Walks.{none_left, found_turn, found_long, found_inside}
use Rattle.grouping.proofs.units.TypedUnitsIterator.next.Goals as goal

pub returns-in_default-clause-steps : goal.returns-in_default-clause-steps
returns-in_default-clause-steps c = none_left c.args.self.now.list.now c.args.self.now.cursor (grind arith)

pub returns-clause-steps : goal.returns-clause-steps
returns-clause-steps c =
    let e = c.in-Ok-Some.is ∙ ap Ok c.in-Ok-Some.field-0-is in
    record {
      turn = found_turn _ _ _ c.step.ensures c.args.self.now.readable _ _ e;
      same = refl;
      inside = found_inside _ _ _ c.step.ensures c.args.self.now.readable _ _ e;
      long = found_long _ _ _ c.step.ensures c.args.self.now.readable _ _ e;
      type_is = c.unit_type-t.ensures.0;
      small = c.unit_type-t.ensures.1;
    }
