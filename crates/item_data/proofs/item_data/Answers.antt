-- `item_data` writes the item of stored bytes, or returns the first refusal.
use mathlib.Core.Path.{sym, ap, ◌∙◌}
use native.Mathlib.Omega.{arith}
use lib.Seq.{sets}
use Rattle.parse.specs.Answers.{answer_of}
use Rattle.parse.proofs.Output.{written_fits}
use Rattle.compact.specs.ItemData.{restore}
use Rattle.item_data.specs.inner.Still.{restored_bytes}
use Rattle.item_data.proofs.Measured.{MeasuredAs, measured_as}
use Rattle.item_data.proofs.item_data.Goals as goal

pub returns : goal.returns
returns c =
    let a = c.args in
    let t : MeasuredAs (restore a.config a.stored.now) c.in_ok-len.len =
    measured_as _ _ (sym (ap answer_of c.in_ok-len.was) ∙ c.item_len.ensures) in
    written_fits _ a.out.now t.bytes t.given _ _ t.long (omega arith) (c.store_item.ensures ∙ ap (sets a.out.now 0) (ap restored_bytes t.given))
