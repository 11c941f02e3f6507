-- `kept::opi_kept` returns whether an OPI unit of the item is kept.
use mathlib.Core.Path.{◌∙◌}
use Rattle.parse.proofs.PassedOn.{step_some, step_none}
use Rattle.access_unit.proofs.Targets.{keeps_present, keeps_absent}
use Rattle.access_unit.proofs.kept.opi_kept.Goals as goal

pub returns-in_default : goal.returns-in_default
returns-in_default c =
    let p = c.requires in
    keeps_absent _ _ p.0 p.1 _ c.opi_ols_idx.ensures (step_none _ _ c.unwrap_or.ensures c.in_default.is)

pub returns : goal.returns
returns c =
    let p = c.requires in
    c.agrees_with.ensures ∙ keeps_present _ _ p.0 p.1 _ c.opi_ols_idx.ensures _ (step_some _ _ _ c.unwrap_or.ensures c.in-Some.is)
