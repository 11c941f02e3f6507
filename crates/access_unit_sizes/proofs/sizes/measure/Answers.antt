-- `sizes::measure` measures an access unit, or returns the first refusal.
use Prim.Native.Nat.{◌≤◌, ◌^◌}
use mathlib.Core.Path.{sym, ap, ◌∙◌}
use lib.ListN.{length}
use native.Mathlib.Omega.{arith}
use Rattle.parse.specs.Answers.{answer_of}
use Rattle.parse.proofs.PassedOn.{passed_answer}
use Rattle.parse.specs.Outcome.{Outcome, accept, and_then}
use Rattle.access_unit.specs.inner.Gathered.{Gathered}
use Rattle.access_unit_sizes.specs.inner.Sizes.{sizes_of}
use Rattle.access_unit_sizes.proofs.Gathering.{gather_too_long, gather_list, gather_listed}
use Rattle.access_unit_sizes.proofs.sizes.measure.Goals as goal

pub returns-then-item-gt-LARGEST_INPUT : goal.returns-then-item-gt-LARGEST_INPUT
returns-then-item-gt-LARGEST_INPUT c =
    let a = c.args in
    ap (λ (o : Outcome Gathered). and_then o (λ g. accept (sizes_of a.codes a.list.now a.item.now g)))
    (sym (gather_too_long a.length_size a.target a.list.now a.item.now (omega arith)))

pub measure_item-requires : goal.measure_item-requires
measure_item-requires c =
    let lent : length c.args.item.now ≤ 2 ^ 30 =
    omega arith in
    let a = c.args in
    let listed = gather_listed a.codes a.length_size a.target a.list.now a.item.now lent _
    (ap answer_of (sym c.in_ok-listed.was) ∙ c.list_sum.ensures) in
    (lent, listed.small)

pub returns : goal.returns
returns c =
    let lent : length c.args.item.now ≤ 2 ^ 30 =
    omega arith in
    let a = c.args in
    let listed = gather_listed a.codes a.length_size a.target a.list.now a.item.now lent _
    (ap answer_of (sym c.in_ok-listed.was) ∙ c.list_sum.ensures) in
    c.measure_item.ensures ∙ listed.whole

pub returns-in_err-listed : goal.returns-in_err-listed
returns-in_err-listed c =
    let lent : length c.args.item.now ≤ 2 ^ 30 =
    omega arith in
    let a = c.args in
    passed_answer c.from_residual.result _ c.from_residual.ensures.1 ∙ ap (λ (o : Outcome Gathered). and_then o (λ g. accept (sizes_of a.codes a.list.now a.item.now g)))
    (sym (gather_list a.codes a.length_size a.target a.list.now a.item.now (lent) _
    (ap answer_of (sym c.in_err-listed.was) ∙ c.list_sum.ensures)))
