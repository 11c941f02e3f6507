-- The stream of a still does not depend on the picture: with chroma at most 3 and depth at most 15 it is that of `any_picture`.
use Prim.Native.Nat.{ℕ, ◌-◌, ◌≤◌}
use native.Mathlib.Omega.{arith}
use mathlib.Core.Path.{◌≡◌, refl, sym, ap, ◌∙◌}
use mathlib.Core.Bool.{Bool, true, false}
use mathlib.Core.List.{List}
use lib.Dec.{eqb}
use borrow.Author.Tests.{le-leb}
use Rattle.std.specs.Prelude.{if◌then◌else◌, Option, None, Some}
use Rattle.parse.specs.Outcome.{Outcome, accept, refuse, and_then, lent_input}
use Rattle.parse.specs.Steps.{or_refuse}
use Rattle.boxes.specs.Bytes.{AllBytes}
use Rattle.boxes.specs.declared.Span.{Span}
use Rattle.unit_list.specs.UnitList.{Array, decode, held_arrays, encode}
use Rattle.ptl.specs.declared.VvcPtlRecord.{VvcPtlRecord}
use Rattle.sps.specs.Sps.{parse_sps}
use Rattle.sps.specs.declared.SpsHead.{SpsHead}
use Rattle.grouping.specs.Grouping.{having_type, first_element, grouped}
use Rattle.compact.specs.declared.CompactRead.{CompactRead}
use Rattle.compact.specs.Compact.{parse_compact}
use Rattle.compact.specs.ItemData.{restore}
use Rattle.compact.specs.declared.CompactVvcConfig.{CompactVvcConfig}
use Rattle.full.specs.Write.{ptl_part_fits, head_fits, full_bytes, record_fits, write_full, serialize_full}
use Rattle.expand.specs.declared.Expanded.{Expanded}
use Rattle.expand.specs.Expand.{multi_layer_vps, ptl_of_sets, expanded_head, with_list, expand_units, to_full}
use Rattle.expand.specs.declared.Picture.{Picture}
use Rattle.expand.proofs.Expansion.{list_expanded}
use Rattle.access_unit.specs.AccessUnit.{access_unit, assemble}
use Rattle.access_unit.specs.declared.StartCodes.{StartCodes}
use Rattle.still.specs.Stills.{stream_with, any_picture, still_stream}
use Rattle.still.specs.inner.Steps.{ReadFrom, stream_expanded}
use Rattle.still.proofs.Lists.{Ready, facts, us, expanded, ready}

-- accepted or refused, without the value
abbrev done : {A : Type 0} → Outcome A → Outcome (Unit {0})
done o = and_then o (λ _. accept tt)

module _ (pic any : Picture) where
  -- expansion is refused with both pictures or with neither
  module _ (c : CompactVvcConfig) (us : List (List ℕ)) where
    abbrev made : Picture → VvcPtlRecord → Expanded × List ℕ
    made p ptl = with_list (expanded_head c p ptl) (encode (grouped us))

    abbrev of_ptl : Picture → Outcome VvcPtlRecord → Outcome (Expanded × List ℕ)
    of_ptl p o = and_then o (λ ptl. accept (made p ptl))

    abbrev of_head : Picture → Outcome SpsHead → Outcome (Expanded × List ℕ)
    of_head p o = and_then o (λ h. of_ptl p (ptl_of_sets h us))

    abbrev of_unit : Picture → Outcome (List ℕ) → Outcome (Expanded × List ℕ)
    of_unit p o = and_then o (λ u. of_head p (parse_sps u))

    refused_alike : (n : ℕ) → expand_units c pic us ≡ refuse n → expand_units c any us ≡ refuse n
    unfolding expand_units
    refused_alike n e = first_step (multi_layer_vps c.multi_layer_flag us) e
      where
        ptl_step : (o : Outcome VvcPtlRecord) → of_ptl pic o ≡ refuse n → of_ptl any o ≡ refuse n
        ptl_step (accept p) e = let z : ◌≡◌ {A = ℕ} 0 1 = cc in absurd (omega arith)
        ptl_step (refuse m) e = let z : m ≡ n = cc in ap refuse z

        head_step : (o : Outcome SpsHead) → of_head pic o ≡ refuse n → of_head any o ≡ refuse n
        head_step (accept h) e = ptl_step (ptl_of_sets h us) e
        head_step (refuse m) e = let z : m ≡ n = cc in ap refuse z

        unit_step : (o : Outcome (List ℕ)) → of_unit pic o ≡ refuse n → of_unit any o ≡ refuse n
        unit_step (accept u) e = head_step (parse_sps u) e
        unit_step (refuse m) e = let z : m ≡ n = cc in ap refuse z

        first_step : (o : Outcome (Unit {0})) → and_then o (λ _. of_unit pic (or_refuse 17 (first_element (having_type 15 us)))) ≡ refuse n
            → and_then o (λ _. of_unit any (or_refuse 17 (first_element (having_type 15 us)))) ≡ refuse n
        first_step (accept x) e = unit_step (or_refuse 17 (first_element (having_type 15 us))) e
        first_step (refuse m) e = let z : m ≡ n = cc in ap refuse z

  -- full write is refused with both pictures or with neither
  module _ (c : CompactVvcConfig) (ptl : VvcPtlRecord) (chroma : pic.chroma_format_idc ≤ 3) (depth : pic.bit_depth ≤ 15)
      (chroma' : any.chroma_format_idc ≤ 3) (depth' : any.bit_depth ≤ 15) where
    fits_alike : head_fits (expanded_head c pic ptl) ≡ head_fits (expanded_head c any ptl)
    unfolding head_fits ptl_part_fits
    fits_alike = rw (
      le-leb pic.chroma_format_idc 3 chroma,
      le-leb any.chroma_format_idc 3 chroma',
      le-leb (pic.bit_depth - 8) 7 (omega arith),
      le-leb (any.bit_depth - 8) 7 (omega arith),
    )

    write_alike : (xs : List (Array (List ℕ))) → done (write_full (expanded_head c pic ptl) xs) ≡ done (write_full (expanded_head c any ptl) xs)
    unfolding write_full record_fits
    write_alike xs = rw fits_alike (go (eqb c.length_size 3) (record_fits (expanded_head c any ptl) xs))
      where
        go : (x y : Bool) → done (if x then refuse 3 else (if y then accept (full_bytes (expanded_head c pic ptl) xs) else refuse 22))
            ≡ done (if x then refuse 3 else (if y then accept (full_bytes (expanded_head c any ptl) xs) else refuse 22))
        go true y = refl
        go false true = refl
        go false false = refl

    serialize_alike : (list : List ℕ) → done (serialize_full (expanded_head c pic ptl) list) ≡ done (serialize_full (expanded_head c any ptl) list)
    unfolding serialize_full
    serialize_alike list = go (decode list)
      where
        go : (o : Outcome (List (Array Span))) → done (and_then o (λ xs. write_full (expanded_head c pic ptl) (held_arrays list xs)))
            ≡ done (and_then o (λ xs. write_full (expanded_head c any ptl) (held_arrays list xs)))
        go (accept xs) = write_alike (held_arrays list xs)
        go (refuse n) = refl

    assemble_alike : (codes : StartCodes) (list item : List ℕ) (tols : Option ℕ)
        → assemble codes (expanded_head c pic ptl) list item tols ≡ assemble codes (expanded_head c any ptl) list item tols
    unfolding assemble access_unit
    assemble_alike codes list item None = refl
    assemble_alike codes list item (Some t) = refl

    -- the rest of the path uses nothing of the picture
    stream_alike : (codes : StartCodes) (list S : List ℕ) (tols : Option ℕ)
        → Ready c (expanded_head c pic ptl) list → Ready c (expanded_head c any ptl) list
        → stream_expanded codes c (expanded_head c pic ptl) list S tols ≡ stream_expanded codes c (expanded_head c any ptl) list S tols
    stream_alike codes list S tols r q =
        r.steps codes S tols
        ∙ both (serialize_full (expanded_head c pic ptl) list) (serialize_full (expanded_head c any ptl) list) (serialize_alike list)
        ∙ sym (q.steps codes S tols)
      where
        rest : (o : Outcome (List ℕ)) → and_then o (λ item. assemble codes (expanded_head c pic ptl) list item tols)
            ≡ and_then o (λ item. assemble codes (expanded_head c any ptl) list item tols)
        rest (accept item) = assemble_alike codes list item tols
        rest (refuse n) = refl

        both : (o x : Outcome (List ℕ)) → done o ≡ done x
            → and_then o (λ _. and_then (restore c S) (λ item. assemble codes (expanded_head c pic ptl) list item tols))
            ≡ and_then x (λ _. and_then (restore c S) (λ item. assemble codes (expanded_head c any ptl) list item tols))
        both (accept a) (accept b) e = rest (restore c S)
        both (accept a) (refuse n) e = let z : ◌≡◌ {A = ℕ} 0 1 = cc in absurd (omega arith)
        both (refuse m) (accept b) e = let z : ◌≡◌ {A = ℕ} 0 1 = cc in absurd (omega arith)
        both (refuse m) (refuse n) e = let z : m ≡ n = cc in ap refuse z

module _ (codes : StartCodes) (S : List ℕ) (tols : Option ℕ) (pic : Picture) (chroma : pic.chroma_format_idc ≤ 3)
    (depth : pic.bit_depth ≤ 15) where
  abbrev stream_of : Picture → CompactVvcConfig → List ℕ → Outcome (List ℕ)
  stream_of p c list = and_then (to_full c p list) (λ full. stream_expanded codes c full.0.head full.1 S tols)

  list_alike : (c : CompactVvcConfig) (list : List ℕ) → ReadFrom c list → stream_of pic c list ≡ stream_of any_picture c list
  list_alike c list from = go (to_full c pic list) refl
    where
      of_units_lem : (p : Picture) → to_full c p list ≡ expand_units c p (us c list from)
      of_units_lem p = let r = (facts c list from).read in list_expanded c p list (us c list from) (sym (rw (r.read, r.bytes)))

      go : (o : Outcome (Expanded × List ℕ)) → to_full c pic list ≡ o → stream_of pic c list ≡ stream_of any_picture c list
      go (refuse n) e = let f = of_units_lem any_picture ∙ refused_alike pic any_picture c (us c list from) n (sym (of_units_lem pic) ∙ e) in rw (e, f)
      go (accept x) e =
          let k = expanded c list from pic x.0 x.1 e in
          let f = of_units_lem any_picture ∙ k.of_any any_picture in
          let g = of_units_lem pic ∙ k.of_any pic in
          rw (g, f)
          (stream_alike pic any_picture c k.ptl chroma depth (omega arith) (omega arith) codes (encode (grouped (us c list from))) S tols
          (ready c _ _ (record { compact_list = list; from = from; picture = pic; chroma = chroma; depth = depth; full = _; expands = g; head = refl }))
          (ready c _ _ (record {
            compact_list = list;
            from = from;
            picture = any_picture;
            chroma = omega arith;
            depth = omega arith;
            full = _;
            expands = f;
            head = refl;
          })))

  pub any_picture_lem : (C : List ℕ) → AllBytes C → stream_with codes pic C S tols ≡ still_stream codes C S tols
  unfolding stream_with still_stream
  any_picture_lem C bytes = ap (lent_input S) (go (parse_compact C) refl)
    where
      go : (o : Outcome (CompactRead × List ℕ)) → parse_compact C ≡ o
          → and_then o (λ r. stream_of pic r.0.config r.1) ≡ and_then o (λ r. stream_of any_picture r.0.config r.1)
      go (refuse n) e = refl
      go (accept r) e = list_alike r.0.config r.1 (record { compact = C; bytes = bytes; read = r.0; reads = e; config = refl })
