-- `plain_len` adds the unit of the stored bytes to the stream of the list, or returns the refusal of the item.
use native.Mathlib.Omega.{arith}
use Rattle.still_plain.specs.inner.Plain.{Listed}
use Rattle.still_plain.proofs.Streams.{sized_listed, listed_small, stream_counted}
use Rattle.still_measure.proofs.stream.plain_len.Goals as goal

pub picture_end-requires : goal.picture_end-requires
picture_end-requires c =
    let listed_here : let a = c.args in Listed a.codes a.length_size a.list.now c.in_ok-sizes.sizes =
    (sized_listed _ _ _ _ _ c.plain_sizes.ensures _ c.in_ok-sizes.was).0 in
    let h = listed_small _ _ _ _ (listed_here) in
    (omega (arith, h), c.requires.1)

pub returns : goal.returns
returns c =
    let listed_here : let a = c.args in Listed a.codes a.length_size a.list.now c.in_ok-sizes.sizes =
    (sized_listed _ _ _ _ _ c.plain_sizes.ensures _ c.in_ok-sizes.was).0 in
    let a = c.args in
    stream_counted _ _ _ _ (listed_here) a.stored.now
    (sized_listed _ _ _ _ _ c.plain_sizes.ensures _ c.in_ok-sizes.was).1 _ c.picture_end.ensures
