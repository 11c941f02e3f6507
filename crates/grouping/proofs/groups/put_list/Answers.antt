-- `groups::put_list` stores the version and the arrays after it.
use Prim.Native.Nat.{ℕ}
use mathlib.Core.Path.{ap, ◌∙◌}
use mathlib.Core.List.{List}
use native.Mathlib.Omega.{arith}
use lib.ListN.{length, length-set}
use lib.Seq.{sets}
use Rattle.unit_list.specs.UnitList.{encode}
use Rattle.grouping.specs.inner.TypedUnits.{units_of}
use Rattle.grouping.proofs.ArrayWalk.{all_arrays}
use Rattle.grouping.proofs.groups.put_list.Goals as goal

pub put_groups-requires : goal.put_groups-requires
unfolding encode
put_groups-requires c =
    let l = ap length c.put.ensures ∙ length-set c.args.out.now 0 1 in
    omega (arith, c.requires)

pub returns : goal.returns
unfolding encode
returns c =
    let a = c.args in
    c.put_groups.ensures ∙ ap (λ (l : List ℕ). sets l 1 (all_arrays (units_of a.units))) c.put.ensures
