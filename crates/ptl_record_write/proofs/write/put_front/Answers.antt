-- `put_front` stores the bytes before the levels, one after another.
use mathlib.Core.Path.{◌≡◌}
use native.Mathlib.Omega.{arith}
use borrow.Author.Rules.{rules}
use Rattle.parse.specs.Logic.{bit}
use Rattle.ptl_record.proofs.Writing.{length_front}
use Rattle.ptl_record_write.proofs.Stores.{front_stored}
use Rattle.ptl_record_write.proofs.write.put_front.Goals as goal

pub put_info-requires : goal.put_info-requires
put_info-requires c =
    let n = c.constraint_len-n.ensures in
    let f = length_front c.args.p in
    (c.requires.1, n.0, n.2, search rules)

pub returns : goal.returns
returns c =
    let a = c.args in
    let n = c.constraint_len-n.ensures in
    let t : c.from-tier.result ≡ bit a.p.general_tier_flag = grind arith in
    let f = length_front a.p in (
      omega (arith, n, f),
      rw (c.put_info.ensures, c.put-3.ensures, c.put-2.ensures, c.put.ensures, t, n.0)
          (front_stored a.p a.out.now a.at),
      omega (arith, n),
    )
