-- `ptl_len` returns the length of the record: the sum of those of its fields.
use mathlib.Core.Path.{◌≡◌}
use native.Mathlib.Omega.{arith}
use lib.ListN.{length}
use borrow.Author.Rules.{rules}
use Rattle.ptl_record.proofs.Writing.{fitting, length_front, length_ptl}
use Rattle.ptl_record_write.proofs.write.ptl_len.Goals as goal

pub constraint_len-info-requires : goal.constraint_len-info-requires
constraint_len-info-requires c =
    (fitting _ c.requires.0).info

pub overflow_mul-result : goal.overflow_mul-result
overflow_mul-result c =
    let f = fitting _ c.requires.0 in omega (arith, f.subs)

pub overflow_add-result-4 : goal.overflow_add-result-4
overflow_add-result-4 c =
    let f = fitting _ c.requires.0 in
    omega (arith, f.subs, c.level_part_len-levels.ensures.1, c.constraint_len-info.ensures.2)

pub returns : goal.returns
returns c =
    let array_long : length c.args.p.general_sub_profile_idc ≡ 255 =
    search rules in
    let f = fitting _ c.requires.0 in
    let l = array_long in
    let k = length_ptl c.args.p c.args.sublayers (omega (arith, f.subs, l)) in
    let n = c.constraint_len-info.ensures in
    let m = c.level_part_len-levels.ensures in
    (omega (arith, k, length_front c.args.p, n, m), omega (arith, f.subs, n, m))
