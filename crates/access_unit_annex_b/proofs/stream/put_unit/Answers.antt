-- `stream::put_unit` stores a start code and a unit after it.
use Prim.Native.Nat.{ℕ, ◌+◌}
use mathlib.Core.Path.{◌≡◌, ap, ◌∙◌}
use mathlib.Core.List.{List}
use lib.ListN.{length, length-append}
use native.Mathlib.Omega.{arith}
use Rattle.boxes.specs.Parts.{held}
use Rattle.boxes.proofs.Spans.{held_long}
use Rattle.annex_b.specs.Stream.{code_bytes}
use Rattle.access_unit.specs.inner.Gathered.{later_code, coded}
use Rattle.access_unit_annex_b.proofs.Storing.{unit_stored}
use Rattle.access_unit_annex_b.proofs.stream.put_unit.Goals as goal

pub returns : goal.returns
returns c =
    let unit : List ℕ = held c.args.src.now c.args.a in
    let code_at : c.code_len-code.result ≡ length (code_bytes (later_code c.args.codes unit)) =
    c.code_len-code.ensures.0
    ∙ ap (λ (u : List ℕ). length (code_bytes (later_code c.args.codes u))) c.part-unit.ensures.holds in
    let coded_at : c.code_len-code.result + c.args.a.len ≡ length (coded c.args.codes unit) =
    omega (
      arith,
      code_at,
      length-append (code_bytes (later_code c.args.codes unit)) unit,
      held_long c.args.src.now c.args.a c.requires.0,
    ) in
    let a = c.args in (
      omega (arith, coded_at),
      unit_stored a.codes a.out.now c.put_code.new.out _ unit a.at _ (code_at) c.put_code.ensures
          (rw c.part-unit.ensures.holds at c.copy.ensures),
    )
