-- `split_length_prefixed` is the part of the item where unit k lies.
use mathlib.Core.Path.{subst}
use Rattle.boxes.specs.Parts.{PartOf}
use Rattle.boxes.proofs.Places.{place_found_lem}
use Rattle.split.specs.Item.{split_item}
use Rattle.split.proofs.split_length_prefixed.Goals as goal

pub returns : goal.returns
returns c =
    let a = c.args in
    subst (PartOf c.part_at.result a.item) (place_found_lem c.split_length_prefixed_at-unit.result (split_item a.length_size a.item.now) a.k c.split_length_prefixed_at-unit.ensures.0)
    c.part_at.ensures
