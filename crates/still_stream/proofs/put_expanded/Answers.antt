-- `put_expanded` returns the refusal of full write or restore, else it writes the stream of the item.
use mathlib.Core.Path.{sym, ap, ◌∙◌}
use Rattle.parse.specs.Answers.{answer_of}
use Rattle.parse.proofs.PassedOn.{passed_output}
use Rattle.parse.proofs.Output.{written_refused}
use Rattle.still.specs.inner.Steps.{stream_expanded}
use Rattle.still.proofs.Lists.{ready}
use Rattle.still.proofs.LocalArrays.{given_as}
use Rattle.still.proofs.Steps.{stream_refused, stream_layers, stream_plain, plain_item}
use Rattle.still_stream.proofs.put_expanded.Goals as goal

pub returns-then-config : goal.returns-then-config
returns-then-config c =
    given_as _ _ _ _ (stream_layers _ _ _ _ _ _ (ready _ _ _ c.requires.0) _ (sym (ap answer_of c.in_ok-item_len.was)
    ∙ c.restored_len.ensures) c.requires.1 c.if-config.true)
    c.access_unit_annex_b.ensures

pub put_plain-requires : goal.put_plain-requires
put_plain-requires c =
    let r = ready _ _ _ c.requires.0 in (
      r.plain,
      c.requires.1,
      plain_item _ _ _ _ c.args.tols r _ (sym (ap answer_of c.in_ok-item_len.was) ∙ c.restored_len.ensures)
          c.requires.1 c.if-config.false,
    )

pub returns : goal.returns
returns c =
    given_as _ _ _ _ (stream_plain _ _ _ _ _ _ (ready _ _ _ c.requires.0) _ (sym (ap answer_of c.in_ok-item_len.was)
    ∙ c.restored_len.ensures) c.requires.1 c.if-config.false)
    c.put_plain.ensures

pub returns-in_err-item_len : goal.returns-in_err-item_len
returns-in_err-item_len c =
    let a = c.args in
    passed_output c.from_residual.result _ c.from_residual.ensures.1 a.out.now
    ∙ written_refused (stream_expanded a.codes a.config a.head a.list.now a.stored.now a.tols) a.out.now _
    (stream_refused _ _ _ _ _ _ (ready _ _ _ c.requires.0) _
    (sym (ap answer_of c.in_err-item_len.was) ∙ c.restored_len.ensures))
