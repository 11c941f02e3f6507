-- `walk::unit_from` returns the first unit whose start code is at or after the place. The invariant of both loops: from the place on come the unit
-- that begins at `start`, up to the start code that follows `i`, and those from there on.
use Prim.Native.Nat.{ℕ, ◌+◌}
use mathlib.Core.Path.{◌≡◌, ap, ◌∙◌}
use mathlib.Core.List.{List, [], ◌∷◌}
use native.Mathlib.Omega.{arith}
use lib.ListN.{length}
use Rattle.parse.specs.Outcome.{accept}
use Rattle.start_code.proofs.StartCodes.{CodeAt, scan_hit, scan_next, scan_past, scan_jump, scan_end}
use Rattle.annex_b.specs.Stream.{non_empty, stream_units_from}
use Rattle.annex_b.specs.Answers.{first_next}
use Rattle.annex_b.proofs.Streams.{between, walk_begins, walk_on, walk_code, walk_unit, walk_end}
use Rattle.annex_b.proofs.walk.unit_from.Goals as goal
use Rattle.annex_b.proofs.walk.unit_from.Goals.{else-s-i-eq0-via-then-s-i-eq0+then-s-i-eq0-2+else-third-eq1, else-s-i-eq0-via-then-s-i-eq0+else-s-i-eq0-2, else-s-i-eq0-via-else-s-i-eq0, else-s-i-lt3+else-third-gt3+else-third-eq0+then-s-i-eq0+then-s-i-eq0-2+then-third-eq1+then-len-gt0, then-s-i-lt3}

pub walk-init : goal.walk-init
walk-init c =
    walk_begins c.args.s.now c.args.from c.requires

pub loop-i-preserved-then-third-gt3 : goal.loop-i-preserved-then-third-gt3
loop-i-preserved-then-third-gt3 c =
    let i : ℕ = c.loop-i.i in
    let e = scan_jump c.args.s.now i (omega arith) (omega arith) in
    (omega arith, walk_on _ _ _ _ c.loop-i.invariant.1 (i + 3) (omega arith) (omega arith))

pub loop-i-preserved-then-third-eq0 : goal.loop-i-preserved-then-third-eq0
loop-i-preserved-then-third-eq0 c =
    let i : ℕ = c.loop-i.i in
    let zero = c.if-third-eq0.true in
    let e = scan_next c.args.s.now i (omega arith) (λ h. let one = h.third in omega arith) in
    (omega arith, walk_on _ _ _ _ c.loop-i.invariant.1 (i + 1) (omega arith) (omega arith))

pub loop-i-preserved : goal.loop-i-preserved
loop-i-preserved c =
    let s : List ℕ = c.args.s.now in
    let i : ℕ = c.loop-i.i in
    let none : CodeAt s i → ⊥ =
    λ h. elim c.else-s-i-eq0.branch [
      | else-s-i-eq0-via-then-s-i-eq0+then-s-i-eq0-2+else-third-eq1 w ↦ w.if-third-eq1.false h.third
      | else-s-i-eq0-via-then-s-i-eq0+else-s-i-eq0-2 w ↦ w.if-s-i-eq0-2.false h.second
      | else-s-i-eq0-via-else-s-i-eq0 w ↦ w.if-s-i-eq0.false h.first
    ] in
    let e = scan_past s i (omega arith) c.if-third-eq0.false none in
    (omega arith, walk_on _ _ _ _ c.loop-i.invariant.1 (i + 3) (omega arith) (omega arith))

pub walk-preserved : goal.walk-preserved
walk-preserved c =
    let s : List ℕ = c.args.s.now in
    let i : ℕ = c.loop-i.i in
    let here = scan_hit s i
    (record {
      inside = omega arith;
      first = c.if-s-i-eq0.true;
      second = c.if-s-i-eq0-2.true;
      third = c.if-third-eq1.true;
    }) in
    let n = c.trimmed-len-in-walk.ensures.0 in
    walk_code _ _ _ _ c.loop-i.invariant.1 here (omega arith) (omega arith)

pub returns : goal.returns
returns c =
    let first : first_next (non_empty (record { start = c.walk.start; len = c.if-s-i-lt3.len } ∷ []))
    ≡ first_next (stream_units_from c.args.s.now c.args.from) =
    let s : List ℕ = c.args.s.now in
    let i : ℕ = c.loop-i.i in
    let w = c.loop-i.invariant.1 in
    let start : ℕ = c.walk.start in
    let len : ℕ = c.if-s-i-lt3.len in
    elim c.if-s-i-lt3.branch [
      | then-s-i-lt3 w ↦ (
          let cuts : len ≡ between s start (length s) = w.len-is ∙ w.trimmed-len.ensures.0 in
          walk_end s _ start i c.loop-i.invariant.1 (length s) len (scan_end s i c.loop-i.invariant.1.inside w.if-s-i-lt3.true) cuts (omega arith))
      | else-s-i-lt3+else-third-gt3+else-third-eq0+then-s-i-eq0+then-s-i-eq0-2+then-third-eq1+then-len-gt0 w ↦ (
          let here = scan_hit s i (record { inside = omega arith; first = w.if-s-i-eq0.true; second = w.if-s-i-eq0-2.true; third = w.if-third-eq1.true }) in
          let cuts : len ≡ between s start i = w.len-is ∙ w.trimmed-len-in-walk.ensures.0 in
          let some = w.if-len-gt0.true in
          walk_unit s _ start i c.loop-i.invariant.1 i len (omega arith) cuts (omega arith))
    ] in
    c.unit_at.ensures ∙ ap accept first
