-- `copied::put_all` writes a copy of a slice, or returns 20.
use mathlib.Core.Path.{refl}
use native.Mathlib.Omega.{arith}
use Rattle.parse.specs.Outcome.{accept}
use Rattle.parse.proofs.Output.{written_fits}
use Rattle.item_data.proofs.copied.put_all.Goals as goal

pub returns : goal.returns
returns c =
    let a = c.args in
    written_fits (accept a.src.now) a.out.now a.src.now refl _ c.copy.new.out refl (omega arith) c.copy.ensures
