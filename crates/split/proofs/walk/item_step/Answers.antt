-- `walk::item_step` returns the unit at a place, the end, or the refusal that comes first there.
use Prim.Native.Nat.{◌<◌}
use mathlib.Core.Path.{◌≡◌, sym}
use native.Mathlib.Omega.{arith}
use lib.ListN.{length}
use Rattle.boxes.specs.Bytes.{be}
use Rattle.split.proofs.Items.{step_end, step_no_length, step_zero, step_no_bytes, step_there}
use Rattle.split.proofs.walk.item_step.Goals as goal

pub returns-then-left-eq0 : goal.returns-then-left-eq0
returns-then-left-eq0 c =
    let a = c.args in
    sym (step_end a.size a.item.now a.at (omega arith))

pub returns-then-left-size : goal.returns-then-left-size
returns-then-left-size c =
    let a = c.args in
    let i : a.at < length a.item.now = omega (arith, c.if-left-eq0.false) in
    sym (step_no_length a.size a.item.now a.at i (omega arith))

pub returns-then-len-eq0 : goal.returns-then-len-eq0
returns-then-len-eq0 c =
    let a = c.args in
    let i : a.at < length a.item.now = omega (arith, c.if-left-eq0.false) in
    let n : c.number-len.result ≡ be a.item.now a.at a.size = c.number-len.ensures.0 in
    sym (step_zero a.size a.item.now a.at i (omega arith) (omega arith))

pub returns-then-left-size-2 : goal.returns-then-left-size-2
returns-then-left-size-2 c =
    let a = c.args in
    let i : a.at < length a.item.now = omega (arith, c.if-left-eq0.false) in
    let n : c.number-len.result ≡ be a.item.now a.at a.size = c.number-len.ensures.0 in
    sym (step_no_bytes a.size a.item.now a.at i (omega arith) (λ z. omega arith) (omega arith))

pub returns : goal.returns
returns c =
    let a = c.args in
    let i : a.at < length a.item.now = omega (arith, c.if-left-eq0.false) in
    let n : c.number-len.result ≡ be a.item.now a.at a.size = c.number-len.ensures.0 in
    let z : be a.item.now a.at a.size ≡ 0 → ⊥ = λ z. omega arith in
    rw n (sym (step_there a.size a.item.now a.at i (omega arith) z (omega arith)))
