-- `put_sub_profiles` stores one sub-profile in each turn.
use Prim.Native.Nat.{◌<◌}
use mathlib.Core.Path.{◌∙◌}
use borrow.Author.Rules.{rules}
use lib.ListN.{length}
use Rattle.ptl_record.specs.Write.{sub_profile_bytes}
use Rattle.ptl_record_write.proofs.Stores.{subs_more}
use Rattle.ptl_record_write.proofs.write.put_sub_profiles.Goals as goal

pub loop-k-init : goal.loop-k-init
unfolding sub_profile_bytes
loop-k-init c =
    search rules

pub loop-k-preserved : goal.loop-k-preserved
loop-k-preserved c =
    let a = c.args in
    let h : c.loop-k.k < length a.a = search rules in
    (search rules, c.put_number.ensures ∙ rw c.loop-k.invariant.1 (subs_more a.out.now a.at c.loop-k.k a.a h))
