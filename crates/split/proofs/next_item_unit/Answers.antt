-- `next_item_unit` returns the unit at a place of an item, the end, or the refusal that comes first.
use Prim.Native.Nat.{ℕ}
use mathlib.Core.Path.{◌≡◌, sym, ap, ◌∙◌}
use native.Mathlib.Omega.{arith}
use Rattle.split.specs.Answers.{item_step}
use Rattle.split.proofs.Items.{step_end, next_too_long, next_outside, next_step}
use Rattle.split.proofs.next_item_unit.Goals as goal

pub returns-then-item-gt-LARGEST_INPUT : goal.returns-then-item-gt-LARGEST_INPUT
returns-then-item-gt-LARGEST_INPUT c =
    let a = c.args in
    sym (next_too_long a.length_size a.item.now a.from (omega arith))

pub returns-then-outside : goal.returns-then-outside
returns-then-outside c =
    let a = c.args in
    sym (next_outside a.length_size a.item.now a.from (omega arith) (sym c.outside.ensures ∙ c.if-outside.true))

pub returns-then-item-from : goal.returns-then-item-from
returns-then-item-from c =
    let a = c.args in
    sym (next_step a.length_size a.item.now a.from (omega arith) (sym c.outside.ensures ∙ c.if-outside.false)
    ∙ step_end a.length_size a.item.now a.from c.if-item-from.true)

pub returns : goal.returns
returns c =
    let a = c.args in
    let w : c.from.result ≡ a.length_size = c.from.ensures in
    c.item_step.ensures ∙ ap (λ (n : ℕ). item_step n a.item.now a.from) w
    ∙ sym (next_step a.length_size a.item.now a.from (omega arith) (sym c.outside.ensures ∙ c.if-outside.false))
