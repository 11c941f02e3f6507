-- `put_sized` stores the stream of the list and then the unit of the stored bytes, if the output has room for both.
use native.Mathlib.Omega.{arith}
use Rattle.parse.proofs.Output.{written_short, written_fits}
use Rattle.still.specs.inner.Steps.{units_stream}
use Rattle.still_plain.proofs.Streams.{listed_small, stream_given, stream_long}
use Rattle.still_plain.proofs.Storing.{stream_stored}
use Rattle.still_plain.proofs.plain.put_sized.Goals as goal

pub picture_end-len-requires : goal.picture_end-len-requires
picture_end-len-requires c =
    let p = c.requires in
    (omega (arith, listed_small _ _ _ _ p.0), p.1)

pub returns-then-out-len : goal.returns-then-out-len
returns-then-out-len c =
    let a = c.args in
    let k = c.requires.0 in
    written_short (units_stream a.codes a.list.now a.stored.now) a.out.now _ (stream_given _ _ _ _ k a.stored.now)
    (omega (arith, c.if-out-len.true, c.picture_end-len.ensures, stream_long _ _ _ _ k a.stored.now))

pub returns : goal.returns
returns c =
    let a = c.args in
    let k = c.requires.0 in
    let l = stream_long _ _ _ _ k a.stored.now in
    written_fits (units_stream a.codes a.list.now a.stored.now) a.out.now _ (stream_given _ _ _ _ k a.stored.now) _ _
    (omega (arith, c.picture_end-len.ensures, l)) c.if-out-len.false
    (stream_stored _ _ _ _ k a.stored.now a.out.now _ _ c.put_stream.ensures c.put_picture.ensures)
