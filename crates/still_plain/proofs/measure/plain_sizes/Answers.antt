-- `plain_sizes` refuses an item that is too long, and measures the list without it.
use Rattle.still_plain.proofs.Streams.{plain_measured}
use Rattle.still_plain.proofs.measure.plain_sizes.Goals as goal

pub returns : goal.returns
returns c =
    plain_measured _ _ _ _ _ c.requires.1 c.requires.0
    c.if-item_len-gt-LARGEST_INPUT.false c.measure.result c.measure.ensures
