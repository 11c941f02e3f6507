-- `put_info` stores the constraint bytes: those of the array with its first byte replaced.
use mathlib.Core.Path.{◌≡◌}
use native.Mathlib.Nat.{sub-zero}
use lib.ListN.{length}
use borrow.Author.Rules.{rules}
use Rattle.ptl_record_write.proofs.Stores.{info_stored}
use Rattle.ptl_record_write.proofs.write.put_info.Goals as goal

pub returns : goal.returns
returns c =
    let a = c.args in
    let long : length a.p.general_constraint_info ≡ 63 = search rules in
    rw (info_stored a.p long c.requires.0, ← c.requires.1, ← c.first_byte.ensures)
    (rw (sub-zero a.n) at c.copy.ensures)
