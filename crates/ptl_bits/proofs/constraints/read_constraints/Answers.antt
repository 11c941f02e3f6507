-- `read_constraints` returns the section: the two flags, and the bytes between the two aligned positions.
use native.Mathlib.Omega.{arith}
use Rattle.std.proofs.Common.{◌≡◌, ◌/◌, ap, length}
use Rattle.std.proofs.lemmas.Grind.{common_steps}
use Rattle.ptl.specs.Ptl.{constraint_bytes}
use Rattle.ptl_bits.specs.inner.Sections.{constraints}
use Rattle.ptl_bits.proofs.ConstraintInfo.{run_of, length_run}
use Rattle.ptl_bits.proofs.constraints.read_constraints.Goals as goal

pub byte_offset-to-requires : goal.byte_offset-to-requires
byte_offset-to-requires c =
    let r = run_of c.bit_position.ensures c.bit_position-2.ensures c.in_ok-frame_only.ensures.read.reads c.in_ok-multilayer.ensures.read.reads
    c.in_ok-skip_constraints_info.ensures in
    r.whole

pub overflow_sub-result : goal.overflow_sub-result
overflow_sub-result c =
    let r = run_of c.bit_position.ensures c.bit_position-2.ensures c.in_ok-frame_only.ensures.read.reads c.in_ok-multilayer.ensures.read.reads
    c.in_ok-skip_constraints_info.ensures in
    omega arith

pub constraint_bytes-requires : goal.constraint_bytes-requires
constraint_bytes-requires c =
    let r = run_of c.bit_position.ensures c.bit_position-2.ensures c.in_ok-frame_only.ensures.read.reads c.in_ok-multilayer.ensures.read.reads
    c.in_ok-skip_constraints_info.ensures in
    let e = ap (λ s. length s.now) c.in_ok-skip_constraints_info.ensures.bytes in
    let f = ap (λ s. length s.now) c.in_ok-multilayer.ensures.read.reads.bytes in
    let g = ap (λ s. length s.now) c.in_ok-frame_only.ensures.read.reads.bytes in
    (omega arith, omega arith, omega arith)

pub returns : goal.returns
unfolding constraints constraint_bytes
returns c =
    let r = run_of c.bit_position.ensures c.bit_position-2.ensures c.in_ok-frame_only.ensures.read.reads c.in_ok-multilayer.ensures.read.reads
    c.in_ok-skip_constraints_info.ensures in
    let n = length_run c.args.br.now.src.now c.byte_offset-from.result.0 c.byte_offset-to.result.0 (omega arith) in
    let from : c.bit_position.result.0 / 8 ≡ c.byte_offset-from.result.0 = omega arith in
    let to : c.bit_position-2.result.0 / 8 ≡ c.byte_offset-to.result.0 = omega arith in
    grind (arith, common_steps)
