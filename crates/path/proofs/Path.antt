-- The whole path, one theorem (SCOPE 5.3): `whole_path`.
use Prim.Native.Nat.{ℕ, ◌≤◌}
use native.Mathlib.Omega.{arith}
use mathlib.Core.Path.{◌≡◌, refl, sym, ap, ◌∙◌}
use Rattle.std.specs.Prelude.{Option}
use mathlib.Core.List.{List, []}
use lib.ListN.{length, get_or, drop, length-map}
use lib.Seq.{ext_get_or}
use Rattle.parse.specs.Outcome.{Outcome, accept}
use Rattle.parse.proofs.Writes.{writes_of, counts_of}
use Rattle.boxes.specs.Parts.{held, nowhere}
use Rattle.boxes.specs.declared.Span.{Span}
use Rattle.unit_list.specs.UnitList.{units_of}
use Rattle.annex_b.specs.Stream.{stream_units_from, split_stream}
use Rattle.grouping.specs.Grouping.{grouped}
use Rattle.grouping.proofs.Grouping.{grouped_as}
use Rattle.expand.specs.declared.Picture.{Picture}
use Rattle.access_unit.specs.declared.StartCodes.{StartCodes}
use Rattle.path.specs.Still.{units_in, Still}
use Rattle.path.specs.Path.{Path, WholePath, WholePathEither}
use Rattle.path.proofs.Carried.{splits, split_count, unit_below, unit_last}
use Rattle.path.proofs.Steps.{config, expansion_of, list_of, stream_of, reads_as, carries, head_of, record_of}
use Rattle.path.proofs.Steps.{head_back, item_of, is_expanded, is_written, is_read_back, is_restored, is_assembled}

-- one still
module _ (codes : StartCodes) (C S : List ℕ) (still : Still C S) (pic : Picture) (chroma : pic.chroma_format_idc ≤ 3)
    (depth : pic.bit_depth ≤ 15) where
  path : (tols : Option ℕ) → Path codes C S pic tols
  path tols =
      let k = carries C S still pic chroma depth in
      let p = (expansion_of C S still).ptl in
      record {
        config = config C S still;
        list = still.list;
        reads = writes_of _ _ _ (reads_as C S still);
        full = head_of C S still pic chroma depth;
        full_list = list_of C S still;
        expands = writes_of _ _ _ (is_expanded C S still pic chroma depth);
        bytes = record_of C S still pic chroma depth;
        writes = counts_of _ _ (is_written C S still pic chroma depth);
        head = head_back C S still pic chroma depth;
        reads_back = writes_of _ _ _ (is_read_back C S still pic chroma depth);
        item = item_of C S still pic chroma depth;
        restores = counts_of _ _ (is_restored C S still pic chroma depth);
        stream = stream_of codes C S still;
        assembles = counts_of _ _ (is_assembled codes C S still pic chroma depth tols);
        spans = stream_units_from (stream_of codes C S still) 0;
        splits = splits codes (config C S still) pic p (units_in C) S k;
        grouped = units_of (grouped (units_in C));
        order = grouped_as (units_in C);
        count = split_count codes (config C S still) pic p (units_in C) S k;
        unit = unit_below codes (config C S still) pic p (units_in C) S k;
        last = unit_last codes (config C S still) pic p (units_in C) S k;
        is_stream = refl;
      }

-- two stills
module _ {codes : StartCodes} {C S C' S' : List ℕ} {pic pic' : Picture} {tols tols' : Option ℕ} (p : Path codes C S pic tols)
    (q : Path codes C' S' pic' tols') where
  grouped_long : {C S : List ℕ} {pic : Picture} {tols : Option ℕ} (p : Path codes C S pic tols) → length p.grouped ≡ length (units_in C)
  grouped_long p = ap length p.order.units ∙ length-map p.order.order _ ∙ p.order.count

  same_streams : S ≡ S' → p.grouped ≡ q.grouped → p.stream ≡ q.stream
  same_streams s g = p.is_stream ∙ rw (s, g) (sym q.is_stream)

  module _ (e : p.stream ≡ q.stream) where
    same_spans : p.spans ≡ q.spans
    same_spans = let r : ◌≡◌ {A = Outcome (List Span)} (accept p.spans) (accept q.spans) = sym p.splits ∙ ap split_stream e ∙ q.splits in cc

    same_count : length (units_in C) ≡ length (units_in C')
    same_count = omega (arith, p.count, q.count, ap length same_spans)

    same_unit : (k : ℕ) → held p.stream (get_or p.spans k nowhere) ≡ held q.stream (get_or q.spans k nowhere)
    same_unit k = rw (e, same_spans)

    same_grouped : p.grouped ≡ q.grouped
    same_grouped =
        ext_get_or [] p.grouped q.grouped (grouped_long p ∙ same_count ∙ sym (grouped_long q))
        (λ k h. sym (p.unit k (omega (arith, grouped_long p))) ∙ same_unit k ∙ q.unit k (omega (arith, grouped_long p, same_count)))

    same_picture : S ≡ S'
    same_picture = ap (drop 2)
        (sym p.last ∙ same_unit (length (units_in C)) ∙ ap (λ (k : ℕ). held q.stream (get_or q.spans k nowhere)) same_count ∙ q.last)

-- The claim (specs/Path.antt), under a choice of start codes, and under either.
pub whole_path : (codes : StartCodes) → WholePath codes
whole_path codes C S C' S' still still' pic pic' chroma depth chroma' depth' tols tols' =
    let p = path codes C S still pic chroma depth tols in
    let q = path codes C' S' still' pic' chroma' depth' tols' in
    record { first = p; second = q; same = (λ e. (cc (same_picture p q e), cc (same_grouped p q e)), λ e. same_streams p q e.0 e.1) }

pub whole_path_either : WholePathEither
whole_path_either = whole_path
