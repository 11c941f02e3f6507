-- Each step of the path is accepted, for a still that meets the premises and a picture with chroma at most 3 and depth at most 15.
use Prim.Native.Nat.{ℕ, ◌≤◌}
use native.Mathlib.Omega.{arith}
use mathlib.Core.Path.{◌≡◌, refl, sym, ◌∙◌, subst}
use mathlib.Core.Bool.{Bool, true, false, ◌||◌}
use Rattle.std.specs.Prelude.{Option}
use mathlib.Core.List.{List, [], ◌∷◌, ◌++◌}
use lib.Dec.{eqb}
use lib.ListN.{length, get_or}
use borrow.Author.Tests.{eqb-true}
use Rattle.parse.specs.Outcome.{accept}
use Rattle.boxes.specs.Bytes.{AllBytes}
use Rattle.nal.specs.Header.{largest_unit_type, type_or31}
use Rattle.start_code.specs.Splittable.{Splittable}
use Rattle.unit_list.specs.UnitList.{units_of, encode}
use Rattle.annex_b.specs.Stream.{annex_b}
use Rattle.grouping.specs.Grouping.{having_type, grouped}
use Rattle.grouping.proofs.GroupedFits.{Every}
use Rattle.compact.specs.Compact.{parse_compact}
use Rattle.compact.specs.ItemData.{restore}
use Rattle.compact.specs.declared.CompactVvcConfig.{CompactVvcConfig}
use Rattle.record_arrays.specs.Read.{holds_one}
use Rattle.record_arrays.specs.declared.Codec.TheVariants.{Vvc}
use Rattle.full.specs.Read.{parse_full}
use Rattle.full.specs.Write.{full_bytes, serialize_full}
use Rattle.full.specs.declared.VvcConfig.{VvcConfig}
use Rattle.expand.specs.Expand.{expanded_head, with_list, expand_units, to_full}
use Rattle.expand.specs.declared.Picture.{Picture}
use Rattle.expand.proofs.Units.{every_of, every_at, type_small}
use Rattle.expand.proofs.Accepted.{Expansion, expansion, of_units_lem}
use Rattle.expand.proofs.Expansion.{list_expanded}
use Rattle.expand.proofs.WrittenGroups.{Groupable}
use Rattle.access_unit.specs.AccessUnit.{code_of, assemble}
use Rattle.access_unit.specs.declared.StartCodes.{StartCodes}
use Rattle.path.specs.Still.{Still, units_in}
use Rattle.path.proofs.Units.{one_of}
use Rattle.path.proofs.Record.{Facts, facts, is_read}
use Rattle.path.proofs.Carried.{Expanded, back, item, written, read_back_lem, restored, assembles}

module _ (C S : List ℕ) (still : Still C S) where
  abbrev pub us : List (List ℕ)
  us = units_in C

  abbrev pub config : CompactVvcConfig
  config = still.read.config

  pub known : Facts us still.read still.list
  known = facts C still.bytes still.read still.list still.reads

  -- OPI and DCI are the types without a count
  single : (t : ℕ) → holds_one Vvc t ≡ true → length (having_type t us) ≤ 1
  single t h = go (eqb t 12) (eqb t 13) refl refl h
    where
      go : (a b : Bool) → eqb t 12 ≡ a → eqb t 13 ≡ b → (a || b) ≡ true → length (having_type t us) ≤ 1
      go true b e f k = let z = eqb-true t 12 e in rw z (one_of 12 us still.one_opi)
      go false true e f k = let z = eqb-true t 13 f in rw z (one_of 13 us still.one_dci)
      go false false e f k = let z : ◌≡◌ {A = ℕ} 0 1 = cc in absurd (omega arith)

  groupable : Groupable us
  groupable = record {
    count = omega (arith, known.few);
    short = known.short;
    types = every_of (λ u. type_or31 u ≤ largest_unit_type) us (λ k h. type_small (get_or us k []) (every_at AllBytes us known.all_bytes_lem k h));
    single = single;
  }

  splittable : Every Splittable us
  splittable = every_of Splittable us (λ k h. record { some = still.some k h; clean = still.clean k h })

  -- the expansion of the premises; its PTL is that of every other expansion
  pub expansion_of : Expansion us known.all_bytes_lem config still.picture still.full still.full_list
  expansion_of =
      expansion us known.all_bytes_lem config still.picture still.full still.full_list
      (subst (λ (vs : List (List ℕ)). expand_units config still.picture vs ≡ accept (still.full, still.full_list)) known.units.bytes
      (of_units_lem config still.picture still.list known.units.spans (still.full, still.full_list) known.units.read still.expands))

  -- the list does not depend on the picture
  abbrev pub list_of : List ℕ
  list_of = encode (grouped us)

  pub reads_as : parse_compact C ≡ accept (record { config = config; unit_count = length us; list_length = length still.list }, still.list)
  reads_as = is_read C still.bytes still.read still.list still.reads

  module _ (pic : Picture) (chroma : pic.chroma_format_idc ≤ 3) (depth : pic.bit_depth ≤ 15) where
    pub carries : Expanded config pic expansion_of.ptl us S
    carries = record {
      plain = still.plain;
      size_low = known.size_low;
      size_high = known.size_high;
      size = still.size;
      chroma = chroma;
      depth = depth;
      ptl_ok = expansion_of.writable;
      units = groupable;
      few = known.few;
      split = splittable;
      clean = still.picture_clean;
      short = still.short;
      fits = still.fits;
    }

    abbrev pub head_of : VvcConfig
    head_of = expanded_head config pic expansion_of.ptl

    abbrev pub record_of : List ℕ
    record_of = full_bytes head_of (grouped us)

    abbrev pub head_back : VvcConfig
    head_back = back config pic expansion_of.ptl us S carries

    abbrev pub item_of : List ℕ
    item_of = item config pic expansion_of.ptl us S carries

    pub is_expanded : to_full config pic still.list ≡ accept (with_list head_of list_of)
    is_expanded = list_expanded config pic still.list us (sym (rw (known.units.read, known.units.bytes))) ∙ expansion_of.of_any pic

    pub is_written : serialize_full head_of list_of ≡ accept record_of
    is_written = written config pic expansion_of.ptl us S carries

    pub is_read_back : parse_full record_of ≡ accept (record { head = head_back; consumed = length record_of; list_length = length list_of }, list_of)
    is_read_back = read_back_lem config pic expansion_of.ptl us S carries

    pub is_restored : restore config S ≡ accept item_of
    is_restored = restored config pic expansion_of.ptl us S carries

module _ (codes : StartCodes) (C S : List ℕ) (still : Still C S) where
  -- the stream depends neither on the picture nor on the target
  abbrev pub stream_of : List ℕ
  stream_of = annex_b (code_of codes) (units_of (grouped (units_in C)) ++ ((0 ∷ 65 ∷ S) ∷ []))

  pub is_assembled : (pic : Picture) (chroma : pic.chroma_format_idc ≤ 3) (depth : pic.bit_depth ≤ 15) (tols : Option ℕ)
      → assemble codes (head_back C S still pic chroma depth) (list_of C S still) (item_of C S still pic chroma depth) tols ≡ accept stream_of
  is_assembled pic chroma depth tols =
      assembles codes (config C S still) pic (expansion_of C S still).ptl (units_in C) S (carries C S still pic chroma depth) tols
