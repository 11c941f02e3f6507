-- `groups::put_group` stores the units of a type, then the array's length, complete and type before them.
use Prim.Native.Nat.{◌+◌, ◌-◌}
use mathlib.Core.Path.{ap, ◌∙◌}
use native.Mathlib.Omega.{arith}
use lib.ListN.{length}
use lib.Seq.{length-sets}
use Rattle.grouping.specs.inner.TypedUnits.{units_of}
use Rattle.grouping.proofs.FirstAppearance.{array_long, array_stored, group_bytes}
use Rattle.grouping.proofs.groups.put_group.Goals as goal

pub put_group_units-to-requires : goal.put_group_units-to-requires
put_group_units-to-requires c =
    let a = c.args in
    omega (arith, array_long (units_of a.units) a.t, c.requires)

pub put_array_head-requires : goal.put_array_head-requires
put_array_head-requires c =
    let a = c.args in
    let us = units_of a.units in
    let l = ap length c.put_group_units-to.ensures.1 ∙ length-sets a.out.now (a.at + 6) (group_bytes us a.t) in
    (omega arith, omega (arith, array_long us a.t, c.requires))

pub returns : goal.returns
returns c =
    let a = c.args in
    let us = units_of a.units in
    let h = c.put_group_units-to.ensures.0 in (
      omega (arith, array_long us a.t),
      array_stored us a.t a.out.now _ _ a.at (c.put_group_units-to.result - (a.at + 4)) c.put_group_units-to.ensures.1
          c.put_array_head.ensures (omega arith),
    )
