-- `vvcc_access_unit` reads the record into the scratch and assembles, or returns the first refusal.
use mathlib.Core.Path.{sym}
use native.Mathlib.Omega.{arith}
use Rattle.std.proofs.lemmas.List.{length-take-le}
use Rattle.vvcc_answers.specs.Answers.{target_from, codes_from}
use Rattle.vvcc_answers.proofs.Given.{given_refused}
use Rattle.vvcc_records.proofs.Beside.{given_assembled, too_long, read_into}
use Rattle.vvcc_records.proofs.vvcc_access_unit.Goals as goal

pub returns-then-item-gt-LARGEST_INPUT : goal.returns-then-item-gt-LARGEST_INPUT
returns-then-item-gt-LARGEST_INPUT c =
    let a = c.args in
    let k = too_long (codes_from a.short_codes) a.«record».now a.item.now a.scratch.now (target_from a.has_target a.target) a.out.now _
    (omega arith) c.refused.ensures in
    record { out_after = k.0; scratch_after = k.1 }

pub slice_bounds-list-end : goal.slice_bounds-list-end
slice_bounds-list-end c =
    let a = c.args in
    (read_into (codes_from a.short_codes) a.«record».now a.item.now a.scratch.now (target_from a.has_target a.target)
    (omega arith) _ c.parse.result c.parse.ensures).fits _ c.in-Ok.is

pub slice_bounds-list-end-in-Ok : goal.slice_bounds-list-end-in-Ok
slice_bounds-list-end-in-Ok c =
    let a = c.args in
    sym (length-take-le _ _ ((read_into (codes_from a.short_codes) a.«record».now a.item.now a.scratch.now (target_from a.has_target a.target)
    (omega arith) _ c.parse.result c.parse.ensures).fits _ c.in-Ok.is))

pub returns-in-Ok : goal.returns-in-Ok
returns-in-Ok c =
    let a = c.args in
    let k = read_into (codes_from a.short_codes) a.«record».now a.item.now a.scratch.now (target_from a.has_target a.target)
    (omega arith) _ c.parse.result c.parse.ensures in
    record {
      out_after = given_assembled _ c.in-Ok.read.head _ a.item.now _ _ _ _ a.out.now _ _ _ c.written.ensures
          c.access_unit_annex_b.ensures c.codes_from-codes.ensures c.target_from-tols.ensures (k.made _ c.in-Ok.is);
      scratch_after = k.filled;
    }

pub returns-in-Err : goal.returns-in-Err
returns-in-Err c =
    let a = c.args in
    let k = read_into (codes_from a.short_codes) a.«record».now a.item.now a.scratch.now (target_from a.has_target a.target)
    (omega arith) _ c.parse.result c.parse.ensures in
    record {
      out_after = given_refused _ a.out.now _ _ c.refused-in-Err.ensures (k.refused _ c.in-Err.is);
      scratch_after = k.filled;
    }
