-- `unit_kind` returns the kind of each type.
use mathlib.Core.Path.{◌≡◌, refl, sym}
use native.Mathlib.Omega.{arith}
use Rattle.nal.specs.Kinds.{unit_kind}
use Rattle.nal.proofs.UnitKinds.{kind_picture, kind_record, kind_other}
use Rattle.nal.proofs.unit_kind.Goals as goal

pub returns-in-20 : goal.returns-in-20
unfolding unit_kind
returns-in-20 c =
    rw c.in-20.is refl

pub returns-in-0-to-11 : goal.returns-in-0-to-11
returns-in-0-to-11 c =
    sym (kind_picture c.args.nal_unit_type (omega arith))

pub returns-in_default : goal.returns-in_default
returns-in_default c =
    sym (kind_other c.args.nal_unit_type (omega arith) (λ e. omega arith) (λ e. omega arith))

pub returns-in-12-to-17 : goal.returns-in-12-to-17
unfolding unit_kind
returns-in-12-to-17 c =
    let e : c.args.nal_unit_type ≡ 23 = omega arith in
    rw e refl

pub returns-in-12-to-17-2 : goal.returns-in-12-to-17-2
returns-in-12-to-17-2 c =
    sym (kind_record c.args.nal_unit_type (omega arith) (omega arith))
