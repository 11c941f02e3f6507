-- `serialize` stores what follows the head, then the head; a refusal leaves the output unchanged.
use native.Mathlib.Omega.{arith}
use Rattle.parse.proofs.PassedOn.{passed_on}
use Rattle.record_arrays.specs.declared.Codec.TheVariants.{Hevc}
use Rattle.record_arrays_write.proofs.Records.{put_refused, put_stored}
use Rattle.hvcc.proofs.HeadRoundTrip.{length_head}
use Rattle.hvcc.specs.Write.{hevc_head_bytes, hevc_head_fits, serialize_hevc}
use Rattle.hvcc_write.specs.inner.Parts.{head_written}
use Rattle.hvcc_write.proofs.Records.{serialize_record, head_given}
use Rattle.hvcc_write.proofs.serialize.Goals as goal

-- the head fits its fields, and the output has room for it
pub put_head-requires : goal.put_head-requires
put_head-requires c =
    let a = c.args in
    let h = a.head in
    let s = a.list.now in
    let t = put_stored Hevc s c.head_size-size.result a.out.now _ _ c.put_after_head.ensures (head_written h) (serialize_hevc h s)
    c.head_size-size.ensures.0 (serialize_record h s) (hevc_head_fits h) (hevc_head_bytes h) (head_given h) _ c.in_ok-len.was in
    (t.0, omega (arith, t.1, length_head h))

pub returns : goal.returns
returns c =
    let a = c.args in
    let h = a.head in
    let s = a.list.now in
    let t = put_stored Hevc s c.head_size-size.result a.out.now _ _ c.put_after_head.ensures (head_written h) (serialize_hevc h s)
    c.head_size-size.ensures.0 (serialize_record h s) (hevc_head_fits h) (hevc_head_bytes h) (head_given h) _ c.in_ok-len.was in
    rw c.put_head.ensures t.2

pub returns-in_err-len : goal.returns-in_err-len
returns-in_err-len c =
    let a = c.args in
    let h = a.head in
    let s = a.list.now in
    rw (passed_on c.from_residual.result _ c.from_residual.ensures.1)
    (put_refused Hevc s c.head_size-size.result a.out.now _ _ c.put_after_head.ensures (head_written h) (serialize_hevc h s)
    c.head_size-size.ensures.0 (serialize_record h s) _ c.in_err-len.was)
