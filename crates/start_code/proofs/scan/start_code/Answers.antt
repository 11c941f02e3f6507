-- `start_code::start_code` returns the first start code at or after the place. The loop's invariant: there is none from the place up to `i`.
use Prim.Native.Nat.{ℕ}
use mathlib.Core.List.{List}
use native.Mathlib.Omega.{arith}
use Rattle.start_code.proofs.StartCodes.{CodeAt, scan_hit, scan_next, scan_past, scan_jump, scan_end}
use Rattle.start_code.proofs.scan.start_code.Goals as goal

pub loop-i-preserved-then-third-gt3 : goal.loop-i-preserved-then-third-gt3
loop-i-preserved-then-third-gt3 c =
    let e = scan_jump c.args.s.now c.loop-i.i (omega arith) (omega arith) in
    (omega arith, omega arith)

pub loop-i-preserved-then-third-eq0 : goal.loop-i-preserved-then-third-eq0
loop-i-preserved-then-third-eq0 c =
    let zero = c.if-third-eq0.true in
    let e = scan_next c.args.s.now c.loop-i.i (omega arith) (λ h. let one = h.third in omega arith) in
    (omega arith, omega arith)

pub loop-i-preserved : goal.loop-i-preserved
loop-i-preserved c =
    let s : List ℕ = c.args.s.now in
    let i : ℕ = c.loop-i.i in
    let none : CodeAt s i → ⊥ = λ h.
    let x = h.first in
    let y = h.second in
    let z = h.third in
    grind arith in
    let e = scan_past s i (omega arith) c.if-third-eq0.false none in
    (omega arith, omega arith)

pub returns-then-s-i-lt3 : goal.returns-then-s-i-lt3
returns-then-s-i-lt3 c =
    let e = scan_end c.args.s.now c.loop-i.i c.loop-i.invariant.0 c.if-s-i-lt3.true in
    (omega arith, omega arith)

pub returns-then-third-eq1 : goal.returns-then-third-eq1
returns-then-third-eq1 c =
    let s : List ℕ = c.args.s.now in
    let i : ℕ = c.loop-i.i in
    let e = scan_hit s i
    (record {
      inside = omega arith;
      first = c.if-s-i-eq0.true;
      second = c.if-s-i-eq0-2.true;
      third = c.if-third-eq1.true;
    }) in
    (omega arith, omega arith)
