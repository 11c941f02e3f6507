-- `split_length_prefixed_count` counts the units of an item, or returns the refusal that comes first.
use Prim.Native.Nat.{◌≤◌}
use mathlib.Core.Path.{◌≡◌, sym, ap, ◌∙◌}
use native.Mathlib.Omega.{arith}
use Rattle.boxes.specs.Walk.{count_found}
use Rattle.boxes.proofs.PrefixSizes.{size_inside}
use Rattle.split.proofs.Items.{split_too_long, split_lent, items_outside, items_left}
use Rattle.split.proofs.split_length_prefixed_count.Goals as goal

pub returns-then-item-gt-LARGEST_INPUT : goal.returns-then-item-gt-LARGEST_INPUT
returns-then-item-gt-LARGEST_INPUT c =
    let a = c.args in
    ap count_found (sym (split_too_long a.length_size a.item.now (omega arith)))

pub returns-then-outside : goal.returns-then-outside
returns-then-outside c =
    let a = c.args in
    ap count_found (sym (split_lent a.length_size a.item.now (omega arith)
    ∙ items_outside a.length_size a.item.now (sym c.outside.ensures ∙ c.if-outside.true)))

pub returns : goal.returns
returns c =
    let a = c.args in
    let z : (1 ≤ a.length_size) × (a.length_size ≤ 4) = size_inside _ (sym c.outside.ensures ∙ c.if-outside.false) in
    let w : c.from.result ≡ a.length_size = c.from.ensures in
    rw (split_lent a.length_size a.item.now (omega arith), items_left a.length_size a.item.now z.0 z.1, ← w) c.item_count.ensures
