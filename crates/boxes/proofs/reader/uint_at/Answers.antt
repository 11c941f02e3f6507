-- `reader::uint_at` returns the field at the place, or the refusal that comes first.
use Prim.Native.Nat.{◌+◌, ◌<◌}
use mathlib.Core.Path.{◌≡◌, sym}
use native.Mathlib.Omega.{arith}
use lib.ListN.{length}
use borrow.Author.Tests.{ltb-false}
use Rattle.boxes.specs.Bytes.{be}
use Rattle.boxes.proofs.Numbers.{below_four}
use Rattle.boxes.proofs.Fields.{field_too_long, field_short, field_there}
use Rattle.boxes.proofs.reader.uint_at.Goals as goal

pub returns-then-s-gt-LARGEST_INPUT : goal.returns-then-s-gt-LARGEST_INPUT
returns-then-s-gt-LARGEST_INPUT c =
    let a = c.args in
    sym (field_too_long a.width a.s.now a.at (omega arith))

pub returns-then-s-at : goal.returns-then-s-at
returns-then-s-at c =
    let a = c.args in
    let past : length a.s.now < a.at + a.width = grind arith in
    sym (field_short a.width a.s.now a.at (omega arith) past)

pub overflow_cast-value : goal.overflow_cast-value
overflow_cast-value c =
    let a = c.args in
    omega (arith, below_four c.number-value.result a.width (omega (arith, ltb-false)) c.number-value.ensures.1)

pub returns : goal.returns
returns c =
    let a = c.args in
    let n : c.number-value.result ≡ be a.s.now a.at a.width = c.number-value.ensures.0 in
    rw n (sym (field_there a.width a.s.now a.at (omega arith) (omega (arith, ltb-false))))
