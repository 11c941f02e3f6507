-- `place::copy_block` leaves the source's bytes from the place on: the front of the block holds them.
use Rattle.boxes.proofs.Sets.{sets_by_block}
use Rattle.boxes.proofs.place.copy_block.Goals as goal

pub returns : goal.returns
returns c =
    sets_by_block c.args.out.now c.args.src.now _ c.copy_from_slice.new.self c.copy_from_slice-2.new.self c.args.at
    c.copy_from_slice.ensures.after c.requires.1 c.copy_from_slice-2.ensures.after
