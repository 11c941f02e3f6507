-- `zeros_before_one` counts the zeros before the next 1: the count from where the loop is makes up the whole count.
use lib.Dec.{leb}
use mathlib.Core.Bool.{true}
use Prim.Native.Nat.{◌+◌, ◌*◌, ◌-◌}
use mathlib.Core.Path.{◌≡◌, sym, ◌∙◌}
use native.Mathlib.Omega.{arith}
use lib.ListN.{length}
use Rattle.bit_reader.proofs.Numbers.{zeros_out, zeros_one, zeros_more, zeros_none}
use Rattle.bit_reader.proofs.bits.zeros_before_one.Goals as goal

pub returns-then-not-has_bits : goal.returns-then-not-has_bits
returns-then-not-has_bits c =
    sym (c.loop-z.invariant ∙ zeros_out _ c.loop-z.z _ (32 - (c.loop-z.z + 1)) _ (omega arith) (sym c.has_bits.ensures ∙ c.if-not-has_bits.true))

pub returns-then-bit-eq1 : goal.returns-then-bit-eq1
returns-then-bit-eq1 c =
    let room : leb (c.loop-z.here.0 + 1) (8 * length c.args.s.now) ≡ true =
    sym c.has_bits.ensures ∙ c.if-not-has_bits.false in
    rw c.on-next.ensures (sym (c.loop-z.invariant
    ∙ zeros_one _ c.loop-z.z _ (32 - (c.loop-z.z + 1)) _ (omega arith) (room) (sym c.bit.ensures ∙ c.if-bit-eq1.true)))

pub loop-z-preserved : goal.loop-z-preserved
loop-z-preserved c =
    let room : leb (c.loop-z.here.0 + 1) (8 * length c.args.s.now) ≡ true =
    sym c.has_bits.ensures ∙ c.if-not-has_bits.false in
    rw c.on-next.ensures (c.loop-z.invariant ∙ zeros_more _ c.loop-z.z _ (32 - (c.loop-z.z + 1)) _ (omega arith) (room)
    (λ e. c.if-bit-eq1.false (c.bit.ensures ∙ e)))

pub returns : goal.returns
returns c =
    sym (c.loop-z.invariant ∙ zeros_none _ c.loop-z.z (32 - c.loop-z.z) _ (omega arith))
