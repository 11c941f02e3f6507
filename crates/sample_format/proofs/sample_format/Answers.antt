-- `sample_format` returns the format of the head or that of the first SPS.
use mathlib.Core.Path.{ap, ◌∙◌}
use Rattle.parse.proofs.PassedOn.{passed_on}
use Rattle.sample_format.specs.Format.{sps_format_of}
use Rattle.sample_format.proofs.Formats.{list_refused, list_head_lem, list_none, list_first}
use Rattle.sample_format.proofs.sample_format.Goals as goal

pub returns-in_err-sps : goal.returns-in_err-sps
returns-in_err-sps c =
    let a = c.args in
    rw (passed_on c.from_residual.result _ c.from_residual.ensures.1)
    (list_refused a.head a.list.now c.sps_at.result c.sps_at.ensures.0 _ c.in_err-sps.was)

pub returns-then-head : goal.returns-then-head
returns-then-head c =
    let a = c.args in
    c.head_format.ensures ∙ list_head_lem a.head a.list.now c.sps_at.result c.sps_at.ensures.0 _ c.in_ok-sps.was c.if-head.true

pub returns-in_default : goal.returns-in_default
returns-in_default c =
    let a = c.args in
    list_none a.head a.list.now c.sps_at.result c.sps_at.ensures.0 _ c.in_ok-sps.was c.if-head.false c.in_default.is

pub returns : goal.returns
returns c =
    let a = c.args in
    c.sps_format.ensures ∙ ap sps_format_of c.part.ensures.holds
    ∙ list_first a.head a.list.now c.sps_at.result c.sps_at.ensures.0 _ c.in_ok-sps.was c.if-head.false c.in-Some.unit c.in-Some.is
