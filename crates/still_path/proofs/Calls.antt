-- The claim of the whole path for the two calls of SCOPE 4.7, one theorem: `whole_calls`.
use Prim.Native.Nat.{ℕ, ◌≤◌}
use native.Mathlib.Omega.{arith}
use mathlib.Core.Path.{◌≡◌, sym, ap, ◌∙◌}
use Rattle.std.specs.Prelude.{Option}
use mathlib.Core.List.{List, [], ◌∷◌, ◌++◌}
use Rattle.parse.specs.Outcome.{accept}
use Rattle.parse.proofs.Lent.{lent_within}
use Rattle.parse.proofs.Writes.{counts_of, accepted_of, accepted_bytes}
use Rattle.compact.specs.Compact.{parse_compact}
use Rattle.compact.specs.ItemData.{restore}
use Rattle.full.specs.Read.{parse_full}
use Rattle.full.specs.Write.{serialize_full}
use Rattle.expand.specs.Expand.{to_full}
use Rattle.expand.specs.declared.Picture.{Picture}
use Rattle.access_unit.specs.AccessUnit.{assemble}
use Rattle.access_unit.specs.declared.StartCodes.{StartCodes}
use Rattle.access_unit.specs.declared.StartCodes.TheVariants.{Four, Short}
use Rattle.path.specs.Still.{Still}
use Rattle.path.specs.Path.{Path, Paths}
use Rattle.path.proofs.Path.{whole_path}
use Rattle.path.proofs.Worked.{P, Q, C, worked}
use Rattle.path.proofs.Instance.{mixed, instances}
use Rattle.path.proofs.Instance as I
use Rattle.still.specs.Stills.{still_record, stream_with, still_stream}
use Rattle.still_path.specs.Calls.{Calls, TwoCalls, WholeCalls, WholeCallsEither}
use Rattle.still.proofs.Pictures.{any_picture_lem}

-- one still: the steps of its path are those of the calls
module _ {codes : StartCodes} {C S : List ℕ} {pic : Picture} {tols : Option ℕ} (still : Still C S) (chroma : pic.chroma_format_idc ≤ 3)
    (depth : pic.bit_depth ≤ 15) (p : Path codes C S pic tols) where
  is_record_lem : still_record C pic ≡ accept p.bytes
  unfolding still_record
  is_record_lem =
      rw (accepted_of (parse_compact C) _ p.list p.reads, accepted_of (to_full p.config pic p.list) _ p.full_list p.expands)
      (accepted_bytes (serialize_full p.full p.full_list) p.bytes p.writes)

  is_stream : still_stream codes C S tols ≡ accept p.stream
  unfolding stream_with
  is_stream =
      let s = still.short in
      sym (any_picture_lem codes S tols pic chroma depth C still.bytes) ∙ lent_within S _ (omega arith)
      ∙ rw (
        accepted_of (parse_compact C) _ p.list p.reads,
        accepted_of (to_full p.config pic p.list) _ p.full_list p.expands,
        accepted_bytes (serialize_full p.full p.full_list) p.bytes p.writes,
        accepted_of (parse_full p.bytes) _ p.full_list p.reads_back,
        accepted_bytes (restore p.config S) p.item p.restores,
      )
      (accepted_bytes (assemble codes p.head p.full_list p.item tols) p.stream p.assembles)

  calls : Calls codes C S pic tols p
  calls = record { record_given = counts_of _ _ is_record_lem; stream_given = counts_of _ _ is_stream }

bytes_of : {a b : List ℕ} → accept a ≡ accept b → a ≡ b
bytes_of e = cc

-- The claim (specs/Calls.antt), under a choice of start codes, and under either.
pub whole_calls : (codes : StartCodes) → WholeCalls codes
whole_calls codes C S C' S' still still' pic pic' chroma depth chroma' depth' tols tols' =
    let w = whole_path codes C S C' S' still still' pic pic' chroma depth chroma' depth' tols tols' in
    let e = is_stream still chroma depth w.first in
    let f = is_stream still' chroma' depth' w.second in
    record {
      paths = w;
      first = calls still chroma depth w.first;
      second = calls still' chroma' depth' w.second;
      same = (λ g. let x = w.same.0 (bytes_of (sym e ∙ g ∙ f)) in (cc x.0, cc x.1), λ g. e ∙ ap accept (w.same.1 g) ∙ sym f);
    }

pub whole_calls_either : WholeCallsEither
whole_calls_either = whole_calls

-- The theorem for the two stills of crates/path/proofs/Instance.antt. The record of the first is that of SCOPE 7; its stream is P, Q and 00 41 9A
-- after start codes: with short codes 00 41 9A, of type 8, is after 00 00 01.
abbrev picture : Picture
picture = record { chroma_format_idc = 1; bit_depth = 8; width = 16; height = 8 }

pub worked_calls : (codes : StartCodes) (tols tols' : Option ℕ) → TwoCalls codes C (0x9A ∷ []) mixed [] picture picture tols tols'
worked_calls codes = whole_calls codes C (0x9A ∷ []) mixed [] instances.worked instances.interleaved picture picture (omega arith) (omega arith)
    (omega arith) (omega arith)

pub worked_record : still_record C (record { chroma_format_idc = 1; bit_depth = 8; width = 16; height = 8 }) ≡ accept
    ((0xFF ∷ 0x00 ∷ 0x15 ∷ 0x1F ∷ 0x01 ∷ 0x02 ∷ 0x33 ∷ 0x80 ∷ 0x00 ∷ 0x00 ∷ 0x10 ∷ 0x00 ∷ 0x08 ∷ 0x00 ∷ 0x00 ∷ 0x02 ∷ [])
    ++ (0x8F ∷ 0x00 ∷ 0x01 ∷ 0x00 ∷ 0x0B ∷ P) ++ (0x90 ∷ 0x00 ∷ 0x01 ∷ 0x00 ∷ 0x03 ∷ Q))
unfolding still_record
worked_record = worked.expanded_and_written

abbrev paths : (codes : StartCodes) (tols : Option ℕ) → Paths codes C (0x9A ∷ []) mixed [] picture picture tols tols
paths codes tols = I.both codes picture picture (omega arith) (omega arith) (omega arith) (omega arith) tols tols

pub worked_stream : (tols : Option ℕ) → still_stream Four C (0x9A ∷ []) tols ≡ accept
    ((0x00 ∷ 0x00 ∷ 0x00 ∷ 0x01 ∷ P) ++ (0x00 ∷ 0x00 ∷ 0x00 ∷ 0x01 ∷ Q) ++ (0x00 ∷ 0x00 ∷ 0x00 ∷ 0x01 ∷ 0x00 ∷ 0x41 ∷ 0x9A ∷ []))
worked_stream tols =
    is_stream instances.worked (omega arith) (omega arith) (paths Four tols).first ∙ ap accept (I.worked_stream (paths Four tols).first)

pub worked_short : (tols : Option ℕ) → still_stream Short C (0x9A ∷ []) tols ≡ accept
    ((0x00 ∷ 0x00 ∷ 0x00 ∷ 0x01 ∷ P) ++ (0x00 ∷ 0x00 ∷ 0x00 ∷ 0x01 ∷ Q) ++ (0x00 ∷ 0x00 ∷ 0x01 ∷ 0x00 ∷ 0x41 ∷ 0x9A ∷ []))
worked_short tols =
    is_stream instances.worked (omega arith) (omega arith) (paths Short tols).first ∙ ap accept (I.worked_short (paths Short tols).first)
