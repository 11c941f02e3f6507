-- `still::store_item` writes the item of stored bytes at the front of the output: a copy, or the unit with its prefix.
use mathlib.Core.Path.{ap}
use native.Mathlib.Omega.{arith}
use lib.ListN.{length}
use Rattle.boxes.proofs.ChunkBytes.{length_to_chunk}
use Rattle.compact.specs.ItemData.{still_unit}
use Rattle.item_data.proofs.Measured.{restores_lent, restores_copy, stored_copy, restores_unit, stored_unit}
use Rattle.item_data.proofs.still.store_item.Goals as goal

pub copy-requires : goal.copy-requires
copy-requires c =
    let e = ap length (restores_copy _ _ _ c.requires c.if-config.true) in
    omega (arith, e, c.requires.room)

pub returns-then-config : goal.returns-then-config
returns-then-config c =
    stored_copy _ _ _ c.requires c.if-config.true _ c.copy.ensures

pub store_still-requires : goal.store_still-requires
store_still-requires c =
    let u = restores_unit _ _ _ c.requires c.if-config.false in
    let e = ap length u.1 in
    let l = length_to_chunk c.args.config.length_size (still_unit c.args.stored.now) in
    rw c.from.ensures (u.0, restores_lent _ _ _ c.requires, omega (arith, e, l, c.requires.room))

pub returns : goal.returns
returns c =
    stored_unit _ _ _ c.requires c.if-config.false _ _ c.from.ensures c.store_still.ensures
