-- `array_head` reads the head of an array: 1 if its first byte or its count runs past the end.
use Prim.Native.Nat.{ℕ, ◌+◌, ◌≤◌}
use mathlib.Core.Path.{◌≡◌, sym, ap, ◌∙◌}
use native.Mathlib.Omega.{arith}
use lib.ListN.{length, get_or}
use Rattle.record_arrays.specs.Read.{reserved_in, type_in}
use Rattle.record_arrays.specs.inner.Counts.{count_len}
use Rattle.record_arrays.specs.declared.Codec.{Codec}
use Rattle.record_arrays.specs.declared.Codec.TheVariants.{Vvc, Hevc}
use Rattle.record_arrays_read.proofs.RecordArrays.{array_none, array_short, array_headed}
use Rattle.record_arrays_read.proofs.arrays.array_head.Goals as goal

-- the reserved bit is a bit
reserved_small : (k : Codec) (b : ℕ) → reserved_in k b ≤ 1
reserved_small Vvc b = omega arith
reserved_small Hevc b = omega arith

pub returns-in_err-first : goal.returns-in_err-first
returns-in_err-first c =
    let a = c.args in
    rw c.from_residual.ensures (sym (array_none a.codec a.«record».now a.at c.in_err-first.ensures.lookup.3), tt)

pub returns-then-record-units : goal.returns-then-record-units
returns-then-record-units c =
    let a = c.args in
    let first = c.in_ok-first.ensures.lookup.3 in
    let n : c.count_len.result ≡ count_len a.codec (type_in a.codec (get_or a.«record».now a.at 0)) =
    c.count_len.ensures.0 ∙ ap (count_len a.codec) (rw (first.1 0) at c.unit_type_of-unit_type.ensures) in
    (sym (array_short a.codec a.«record».now a.at first.0 (omega (arith, c.if-record-units.true))), tt)

pub returns : goal.returns
returns c =
    let a = c.args in
    let first = c.in_ok-first.ensures.lookup.3 in
    let bit : c.reserved_of-reserved_bit.result ≤ 1 =
    rw c.reserved_of-reserved_bit.ensures (reserved_small a.codec _) in
    let l : a.at + 1 + c.count_len.result ≤ length a.«record».now = omega (arith, c.if-record-units.false) in (
      array_headed a.codec a.«record».now a.at first.0 _ _ _ _ _
          (rw (first.1 0) at c.complete_of-complete.ensures.0) (rw (first.1 0) at c.reserved_of-reserved_bit.ensures)
          (rw (first.1 0) at c.unit_type_of-unit_type.ensures) c.count_len.ensures.0 c.unit_count-count.ensures l,
      (omega arith, omega (arith, l), c.complete_of-complete.ensures.1, bit),
    )
