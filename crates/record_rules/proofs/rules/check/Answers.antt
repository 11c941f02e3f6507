-- `check` tests both rules where all arrays are there; else none is broken.
use mathlib.Core.Path.{sym, ap, ◌∙◌}
use native.Mathlib.Omega.{arith}
use Rattle.record_rules.specs.inner.Rules.{array_rules_of}
use Rattle.record_rules.proofs.Both.{kept_countless, kept_short, kept_tested}
use Rattle.record_rules.proofs.rules.check.Goals as goal

pub returns-then-record-at : goal.returns-then-record-at
returns-then-record-at c =
    let a = c.args in
    kept_countless a.«record».now a.head a.at (omega arith)

pub returns-in_default : goal.returns-in_default
returns-in_default c =
    let a = c.args in
    kept_short a.«record».now a.head a.at _ (omega arith) c.from-count.ensures
    (sym (ap array_rules_of c.in_default.is) ∙ c.array_rules.ensures)

pub returns : goal.returns
returns c =
    let a = c.args in
    c.decided.ensures
    ∙ rw c.head_reserved.ensures
    (kept_tested a.«record».now a.head a.at _ (omega arith) c.from-count.ensures _ _
    (sym (ap array_rules_of c.in-Some.is) ∙ c.array_rules.ensures))
