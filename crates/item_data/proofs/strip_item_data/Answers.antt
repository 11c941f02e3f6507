-- `strip_item_data` writes the bytes to store for an item, or returns the first refusal.
use Prim.Native.Nat.{ℕ}
use mathlib.Core.Path.{◌≡◌, sym, ap, ◌∙◌}
use mathlib.Core.List.{List}
use native.Mathlib.Omega.{arith}
use Rattle.parse.specs.Outcome.{Outcome, accept, lent_output, counted}
use Rattle.parse.proofs.Output.{written_refused}
use Rattle.boxes.specs.Parts.{held}
use Rattle.compact.specs.ItemData.{strip}
use Rattle.item_data.specs.inner.Still.{payload_of}
use Rattle.item_data.proofs.Stills.{strip_too_long, strip_copy, strip_unit}
use Rattle.item_data.proofs.strip_item_data.Goals as goal

pub returns-then-item-gt-LARGEST_INPUT : goal.returns-then-item-gt-LARGEST_INPUT
returns-then-item-gt-LARGEST_INPUT c =
    let a = c.args in
    written_refused _ a.out.now 23 (strip_too_long a.config a.item.now (omega arith))

pub returns-then-config : goal.returns-then-config
returns-then-config c =
    let a = c.args in
    c.put_all.ensures
    ∙ ap (λ (o : Outcome (List ℕ)). lent_output (counted o) a.out.now)
    (sym (strip_copy a.config a.item.now (omega arith) c.if-config.true))

pub returns-in_default : goal.returns-in_default
returns-in_default c =
    let a = c.args in
    written_refused _ a.out.now 24
    (strip_unit a.config a.item.now (omega arith) c.if-config.false ∙ sym c.find_still.ensures.0
    ∙ ap (payload_of a.item.now) c.in_default.is)

pub returns : goal.returns
returns c =
    let a = c.args in
    let h : accept (held a.item.now c.in-Some.payload) ≡ strip a.config a.item.now =
    sym (ap (payload_of a.item.now) c.in-Some.is) ∙ c.find_still.ensures.0 ∙ sym (strip_unit a.config a.item.now (omega arith) c.if-config.false) in
    c.put_all-2.ensures
    ∙ ap (λ (o : Outcome (List ℕ)). lent_output (counted o) a.out.now) (ap accept c.part.ensures.holds ∙ h)
