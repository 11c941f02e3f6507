-- `put_expanded` stores the list if it fits.
use native.Mathlib.Omega.{arith}
use Rattle.unit_list.specs.UnitList.{encode}
use Rattle.grouping.specs.inner.TypedUnits.{units_of}
use Rattle.expand.proofs.Expansion.{expanded_short, expanded_fits}
use Rattle.expand.proofs.put_expanded.Goals as goal

pub returns-then-out-list_length : goal.returns-then-out-list_length
unfolding encode
returns-then-out-list_length c =
    let a = c.args in
    expanded_short a.head (units_of a.units) a.out.now (omega (arith, c.groups_len-list_length.ensures.0))

pub put_list-requires : goal.put_list-requires
unfolding encode
put_list-requires c = omega (arith, c.groups_len-list_length.ensures.0)

pub returns : goal.returns
unfolding encode
returns c =
    let a = c.args in
    expanded_fits a.head (units_of a.units) a.out.now _ _ (omega (arith, c.groups_len-list_length.ensures.0))
    (omega arith) c.put_list.ensures
