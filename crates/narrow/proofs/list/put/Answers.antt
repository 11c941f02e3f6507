-- `list::put` stores the version, and then the arrays in it.
use native.Mathlib.Omega.{arith}
use Rattle.narrow.proofs.Sizes.{put_done}
use Rattle.narrow.proofs.list.put.Goals as goal

pub returns : goal.returns
returns c =
    let a = c.args in
    put_done a.l.arrays.list.now a.version a.l c.requires a.out.now (omega arith) c.width_in.result
    c.width_in.ensures _ c.put.ensures _ c.put_arrays.ensures
