-- `length::of_array` is the number of its two or four bytes.
use native.Mathlib.Omega.{arith}
use Rattle.unit_list.proofs.Lengths.{length_is, length_small}
use Rattle.unit_list.proofs.length.of_array.Goals as goal

pub returns : goal.returns
returns c =
    let a = c.args in
    let h = c.two-high.ensures in
    let l = c.two-low.ensures in (
      rw (h.0, l.0) (length_is a.s.now a.at a.from a.width c.requires.0 c.requires.1),
      omega (arith, length_small c.two-high.result a.width c.requires.0 h.1, l.1),
    )
