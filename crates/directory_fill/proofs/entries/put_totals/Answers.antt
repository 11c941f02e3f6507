-- `entries::put_totals`: the totals from zeros on.
use mathlib.Core.Path.{refl}
use Rattle.directory_fill.proofs.Adding.{start_adds, start_totals}
use Rattle.directory_fill.proofs.entries.put_totals.Goals as goal

pub add_units-requires : goal.add_units-requires
add_units-requires c = start_adds c.args.walk.list.now c.args.walk.cursor _ refl c.requires

pub returns : goal.returns
returns c = start_totals c.args.walk.list.now c.args.walk.cursor _ refl c.add_units.new.totals c.add_units.ensures
