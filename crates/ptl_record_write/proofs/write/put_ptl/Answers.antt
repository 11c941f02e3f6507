-- `put_ptl` stores the fields of the record, one after another.
use Prim.Native.Nat.{◌+◌, ◌*◌, ◌≤◌}
use mathlib.Core.Path.{◌≡◌, ap, ◌∙◌}
use lib.Seq.{length-sets}
use native.Mathlib.Omega.{arith}
use lib.ListN.{length, length-set}
use borrow.Author.Rules.{rules}
use Rattle.ptl_record.specs.Write.{level_part, ptl_bytes, front_bytes}
use Rattle.ptl_record.proofs.Writing.{fitting, length_ptl, part_few}
use Rattle.ptl_record_write.proofs.Stores.{ptl_stored}
use Rattle.ptl_record_write.proofs.write.put_ptl.Goals as goal

pub put_front-a-requires : goal.put_front-a-requires
put_front-a-requires c =
    let few : c.args.p.num_sub_profiles ≤ 255 =
    (fitting _ c.requires.0).subs in
    let array_long : length c.args.p.general_sub_profile_idc ≡ 255 =
    search rules in
    let parts : length (ptl_bytes c.args.p c.args.sublayers)
    ≡ length (front_bytes c.args.p) + length (level_part c.args.p c.args.sublayers) + 1 + c.args.p.num_sub_profiles * 4 =
    length_ptl c.args.p c.args.sublayers (omega (arith, few, array_long)) in
    let f = fitting _ c.requires.0 in
    (f.profile, f.info, omega (arith, parts, c.requires.2))

pub put_level_part-b-requires : goal.put_level_part-b-requires
put_level_part-b-requires c =
    let few : c.args.p.num_sub_profiles ≤ 255 =
    (fitting _ c.requires.0).subs in
    let array_long : length c.args.p.general_sub_profile_idc ≡ 255 =
    search rules in
    let parts : length (ptl_bytes c.args.p c.args.sublayers)
    ≡ length (front_bytes c.args.p) + length (level_part c.args.p c.args.sublayers) + 1 + c.args.p.num_sub_profiles * 4 =
    length_ptl c.args.p c.args.sublayers (omega (arith, few, array_long)) in
    let x = c.put_front-a.ensures in
    (c.requires.1, omega (arith, parts, c.requires.2, x.0, ap length x.1, length-sets c.args.out.now c.args.at (front_bytes c.args.p)))

pub overflow_cast-count : goal.overflow_cast-count
overflow_cast-count c =
    let few : c.args.p.num_sub_profiles ≤ 255 =
    (fitting _ c.requires.0).subs in
    omega (arith, few)

pub overflow_add-b : goal.overflow_add-b
overflow_add-b c =
    let few : c.args.p.num_sub_profiles ≤ 255 =
    (fitting _ c.requires.0).subs in
    let array_long : length c.args.p.general_sub_profile_idc ≡ 255 =
    search rules in
    let parts : length (ptl_bytes c.args.p c.args.sublayers)
    ≡ length (front_bytes c.args.p) + length (level_part c.args.p c.args.sublayers) + 1 + c.args.p.num_sub_profiles * 4 =
    length_ptl c.args.p c.args.sublayers (omega (arith, few, array_long)) in
    omega (arith, parts, c.requires.2, c.put_level_part-b.ensures.0, c.put_front-a.ensures.0, c)

pub put_sub_profiles-requires : goal.put_sub_profiles-requires
put_sub_profiles-requires c =
    let few : c.args.p.num_sub_profiles ≤ 255 =
    (fitting _ c.requires.0).subs in
    let array_long : length c.args.p.general_sub_profile_idc ≡ 255 =
    search rules in
    let parts : length (ptl_bytes c.args.p c.args.sublayers)
    ≡ length (front_bytes c.args.p) + length (level_part c.args.p c.args.sublayers) + 1 + c.args.p.num_sub_profiles * 4 =
    length_ptl c.args.p c.args.sublayers (omega (arith, few, array_long)) in
    let x = c.put_front-a.ensures in
    let y = c.put_level_part-b.ensures in
    let l = ap length c.put.ensures
    ∙ length-set c.put_level_part-b.new.out c.put_level_part-b.result c.args.p.num_sub_profiles ∙ ap length y.1
    ∙ length-sets c.put_front-a.new.out c.put_front-a.result (level_part c.args.p c.args.sublayers) ∙ ap length x.1
    ∙ length-sets c.args.out.now c.args.at (front_bytes c.args.p) in
    (few, omega (arith, parts, c.requires.2, y.0, x.0, l))

pub overflow_add-result : goal.overflow_add-result
overflow_add-result c =
    let few : c.args.p.num_sub_profiles ≤ 255 =
    (fitting _ c.requires.0).subs in
    let array_long : length c.args.p.general_sub_profile_idc ≡ 255 =
    search rules in
    let parts : length (ptl_bytes c.args.p c.args.sublayers)
    ≡ length (front_bytes c.args.p) + length (level_part c.args.p c.args.sublayers) + 1 + c.args.p.num_sub_profiles * 4 =
    length_ptl c.args.p c.args.sublayers (omega (arith, few, array_long)) in
    omega (arith, parts, c.requires.2, c.put_level_part-b.ensures.0, c.put_front-a.ensures.0, c)

pub overflow_mul-result : goal.overflow_mul-result
overflow_mul-result c =
    let few : c.args.p.num_sub_profiles ≤ 255 =
    (fitting _ c.requires.0).subs in
    omega (arith, few)

pub overflow_add-result-2 : goal.overflow_add-result-2
overflow_add-result-2 c =
    let few : c.args.p.num_sub_profiles ≤ 255 =
    (fitting _ c.requires.0).subs in
    let array_long : length c.args.p.general_sub_profile_idc ≡ 255 =
    search rules in
    let parts : length (ptl_bytes c.args.p c.args.sublayers)
    ≡ length (front_bytes c.args.p) + length (level_part c.args.p c.args.sublayers) + 1 + c.args.p.num_sub_profiles * 4 =
    length_ptl c.args.p c.args.sublayers (omega (arith, few, array_long)) in
    omega (arith, parts, c.requires.2, c.put_level_part-b.ensures.0, c.put_front-a.ensures.0, c)

pub returns : goal.returns
returns c =
    let few : c.args.p.num_sub_profiles ≤ 255 =
    (fitting _ c.requires.0).subs in
    let array_long : length c.args.p.general_sub_profile_idc ≡ 255 =
    search rules in
    let parts : length (ptl_bytes c.args.p c.args.sublayers)
    ≡ length (front_bytes c.args.p) + length (level_part c.args.p c.args.sublayers) + 1 + c.args.p.num_sub_profiles * 4 =
    length_ptl c.args.p c.args.sublayers (omega (arith, few, array_long)) in
    let a = c.args in
    let k = parts in
    let x = c.put_front-a.ensures in
    let y = c.put_level_part-b.ensures in (
      omega (arith, k, x.0, y.0),
      rw (c.put_sub_profiles.ensures, c.put.ensures, y.1, x.1, y.0, x.0)
          (ptl_stored a.p a.sublayers a.out.now a.at),
      omega (arith, x.2, y.0, few, part_few a.p a.sublayers c.requires.1),
    )
