-- `read_sub_profiles` returns the sub-profiles: the loop stores one number in each turn.
use Prim.Native.Nat.{◌<◌}
use native.Mathlib.Omega.{arith}
use borrow.Author.Rules.{rules}
use Rattle.ptl_record.specs.inner.Places.{words}
use Rattle.ptl_record_read.proofs.Arrays.{padded_none}
use Rattle.ptl_record_read.proofs.Places.{words_store}
use Rattle.ptl_record_read.proofs.read.read_sub_profiles.Goals as goal

pub loop-k-init : goal.loop-k-init
unfolding words
loop-k-init c =
    (search rules, padded_none 255 0)

pub loop-k-preserved : goal.loop-k-preserved
loop-k-preserved c =
    let a = c.args in
    let h : c.loop-k.k < 255 = omega arith in
    (search rules, cc (words_store 255 c.loop-k.k a.s.now a.at h))
