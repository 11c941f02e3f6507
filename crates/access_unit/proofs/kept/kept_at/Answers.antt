-- `kept::kept_at` returns whether the unit at a span of the item is kept.
use mathlib.Core.Path.{sym, ap, ◌∙◌}
use Rattle.boxes.specs.Parts.{held}
use Rattle.nal.specs.Kinds.{kind_of}
use Rattle.access_unit.proofs.Targets.{keeps_other}
use Rattle.access_unit.proofs.kept.kept_at.Goals as goal

pub returns : goal.returns
returns c =
    let a = c.args in
    sym (keeps_other a.target (held a.item.now a.a) c.kind_of-kind.result
    (c.kind_of-kind.ensures ∙ ap kind_of c.part-unit.ensures.holds) (sym c.is_opi.ensures ∙ c.if-is_opi.false))
