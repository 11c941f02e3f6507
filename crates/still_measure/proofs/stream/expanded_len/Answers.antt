-- `expanded_len` returns the refusal of full write or restore, else the length of the stream.
use mathlib.Core.Path.{sym, ap, ◌∙◌}
use Rattle.parse.proofs.PassedOn.{passed_answer}
use Rattle.parse.specs.Answers.{answer_of}
use Rattle.still.proofs.Lists.{ready}
use Rattle.still.proofs.LocalArrays.{counted_as, counted_refused}
use Rattle.still.proofs.Steps.{stream_refused, stream_layers, stream_plain, plain_item}
use Rattle.still_measure.proofs.stream.expanded_len.Goals as goal

pub returns-then-config : goal.returns-then-config
returns-then-config c =
    counted_as _ _ _ (stream_layers _ _ _ _ _ _ (ready _ _ _ c.requires.0) _ (sym (ap answer_of c.in_ok-item_len.was)
    ∙ c.restored_len.ensures) c.requires.1 c.if-config.true) c.access_unit_len.ensures

pub plain_len-requires : goal.plain_len-requires
plain_len-requires c =
    let r = ready _ _ _ c.requires.0 in (
      r.plain,
      c.requires.1,
      plain_item _ _ _ _ c.args.tols r _ (sym (ap answer_of c.in_ok-item_len.was)
          ∙ c.restored_len.ensures) c.requires.1 c.if-config.false,
    )

pub returns : goal.returns
returns c =
    counted_as _ _ _ (stream_plain _ _ _ _ _ c.args.tols (ready _ _ _ c.requires.0) _ (sym (ap answer_of c.in_ok-item_len.was)
    ∙ c.restored_len.ensures) c.requires.1 c.if-config.false) c.plain_len.ensures

pub returns-in_err-item_len : goal.returns-in_err-item_len
returns-in_err-item_len c =
    passed_answer c.from_residual.result _ c.from_residual.ensures.1
    ∙ counted_refused _ _ (stream_refused _ _ _ _ _ c.args.tols (ready _ _ _ c.requires.0) _
    (sym (ap answer_of c.in_err-item_len.was) ∙ c.restored_len.ensures))
