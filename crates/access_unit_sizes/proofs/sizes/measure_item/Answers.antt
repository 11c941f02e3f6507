-- `sizes::measure_item` measures an access unit whose list is measured, or returns the first refusal.
use Prim.Native.Nat.{◌≤◌}
use mathlib.Core.Path.{◌≡◌, sym, ap, ◌∙◌}
use Rattle.parse.specs.Answers.{answer_of}
use Rattle.parse.proofs.PassedOn.{passed_answer}
use Rattle.parse.specs.Outcome.{accept, and_then}
use Rattle.boxes.proofs.PrefixSizes.{size_inside}
use Rattle.access_unit.specs.inner.Gathered.{kept_left}
use Rattle.access_unit_sizes.specs.inner.Sizes.{item_sum}
use Rattle.access_unit_sizes.proofs.Gathering.{sizes_outside, sizes_left, item_sum_small}
use Rattle.access_unit_sizes.proofs.sizes.measure_item.Goals as goal

pub returns-then-outside : goal.returns-then-outside
returns-then-outside c =
    let a = c.args in
    sizes_outside a.codes a.length_size a.target a.item.now a.listed c.requires.0
    (sym c.outside.ensures ∙ c.if-outside.true)

pub both-requires : goal.both-requires
both-requires c =
    let a = c.args in
    let z : (1 ≤ a.length_size) × (a.length_size ≤ 4) = size_inside _ (sym c.outside.ensures ∙ c.if-outside.false) in
    let sums : answer_of c.item_sum.result
    ≡ and_then (kept_left a.length_size a.target a.item.now 0) (λ ks. accept (item_sum a.item.now ks)) =
    rw c.from.ensures at c.item_sum.ensures in (
      c.requires.1,
      item_sum_small a.codes a.length_size a.target a.item.now a.listed c.requires.0 z.0 z.1 _
          (ap answer_of (sym c.in_ok-kept.was) ∙ sums),
    )

pub returns : goal.returns
returns c =
    let a = c.args in
    let z : (1 ≤ a.length_size) × (a.length_size ≤ 4) = size_inside _ (sym c.outside.ensures ∙ c.if-outside.false) in
    let sums : answer_of c.item_sum.result
    ≡ and_then (kept_left a.length_size a.target a.item.now 0) (λ ks. accept (item_sum a.item.now ks)) =
    rw c.from.ensures at c.item_sum.ensures in
    c.both.ensures ∙ sizes_left a.codes a.length_size a.target a.item.now a.listed c.requires.0 z.0 z.1 _
    (ap answer_of (sym c.in_ok-kept.was) ∙ sums)

pub returns-in_err-kept : goal.returns-in_err-kept
returns-in_err-kept c =
    let a = c.args in
    let z : (1 ≤ a.length_size) × (a.length_size ≤ 4) = size_inside _ (sym c.outside.ensures ∙ c.if-outside.false) in
    let sums : answer_of c.item_sum.result
    ≡ and_then (kept_left a.length_size a.target a.item.now 0) (λ ks. accept (item_sum a.item.now ks)) =
    rw c.from.ensures at c.item_sum.ensures in
    passed_answer c.from_residual.result _ c.from_residual.ensures.1 ∙ sizes_left a.codes a.length_size a.target a.item.now a.listed c.requires.0 z.0 z.1 _
    (ap answer_of (sym c.in_err-kept.was) ∙ sums)
