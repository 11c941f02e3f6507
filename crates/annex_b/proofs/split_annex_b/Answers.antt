-- `split_annex_b` is the part of the stream where unit k lies.
use mathlib.Core.Path.{subst}
use Rattle.boxes.specs.Parts.{PartOf}
use Rattle.boxes.proofs.Places.{place_found_lem}
use Rattle.annex_b.specs.Stream.{split_stream}
use Rattle.annex_b.proofs.split_annex_b.Goals as goal

pub returns : goal.returns
returns c =
    let a = c.args in
    subst (PartOf c.part_at.result a.stream) (place_found_lem c.split_annex_b_at-unit.result (split_stream a.stream.now) a.k c.split_annex_b_at-unit.ensures.0)
    c.part_at.ensures
