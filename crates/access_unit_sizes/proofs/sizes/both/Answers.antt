-- `sizes::both` returns the sizes of an access unit from its sums.
use native.Mathlib.Omega.{arith}
use Rattle.access_unit_sizes.proofs.Gathering.{zero_few}
use Rattle.access_unit_sizes.proofs.sizes.both.Goals as goal

pub overflow_add-result : goal.overflow_add-result
overflow_add-result c =
    let a = c.args in
    omega (arith, c.requires.0, c.requires.1, zero_few a.codes a.listed a.kept c.requires.0 c.requires.1, c.zero_of-zero_byte.ensures)
