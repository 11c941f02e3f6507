-- What is known of a list that compact read returned, and of the head and list to which it expands: their lengths and units.
use Prim.Native.Nat.{ℕ, ◌^◌, ◌≤◌}
use native.Mathlib.Omega.{arith}
use mathlib.Core.Path.{◌≡◌, refl, sym, ap, ◌∙◌, subst}
use mathlib.Core.Bool.{Bool, true, false, ◌&&◌}
use mathlib.Core.List.{List, [], ◌∷◌, ◌++◌}
use lib.Dec.{eqb, leb}
use lib.ListN.{length, get_or, length-append, length-map}
use borrow.Author.Tests.{le-leb}
use Rattle.std.specs.Prelude.{if◌then◌else◌, Option, None, Some}
use Rattle.parse.specs.Outcome.{Outcome, accept, refuse, and_then}
use Rattle.boxes.specs.Parts.{held}
use Rattle.boxes.specs.Bytes.{AllBytes}
use Rattle.nal.specs.Header.{largest_unit_type, type_or31}
use Rattle.unit_list.specs.UnitList.{Array, units_of, units_of_type, encode}
use Rattle.unit_list.specs.Answers.{list_units, list_units_of_type}
use Rattle.unit_list.proofs.Encode.{UnitsRead, placed_arrays, held_encode, decode_encode, units_encode}
use Rattle.grouping.specs.Grouping.{grouped}
use Rattle.grouping.proofs.GroupedFits.{Every, units_long, grouped_sound, grouped_few, grouped_count, every_grouped, grouped_long}
use Rattle.compact.specs.ItemData.{restore}
use Rattle.compact.specs.declared.CompactVvcConfig.{CompactVvcConfig}
use Rattle.compact.proofs.Facts.{CompactFacts, compact_facts}
use Rattle.compact.proofs.OneArray.{list_long}
use Rattle.record_arrays.specs.Write.{arrays_bytes}
use Rattle.record_arrays.specs.declared.Codec.TheVariants.{Vvc}
use Rattle.full.specs.Read.{parse_full}
use Rattle.full.specs.Write.{head_bytes, full_bytes, record_fits, write_full, serialize_full}
use Rattle.full.specs.declared.VvcConfig.{VvcConfig}
use Rattle.full.proofs.RecordRoundTrip.{read_after_write, Typed, head_read}
use Rattle.expand.specs.declared.Expanded.{Expanded}
use Rattle.expand.specs.Expand.{expanded_head, with_list, expand_units, to_full}
use Rattle.expand.specs.declared.Picture.{Picture}
use Rattle.access_unit.specs.AccessUnit.{access_unit, assemble}
use Rattle.access_unit.specs.declared.StartCodes.{StartCodes}
use Rattle.expand.proofs.Units.{every_of, type_small, units_of_type_held}
use Rattle.expand.proofs.WrittenGroups.{grouped_single}
use Rattle.expand.proofs.Heads.{head_fits_lem}
use Rattle.expand.proofs.Accepted.{Expansion, expansion, of_units_lem}
use Rattle.expand.proofs.Lengths.{head_long, arrays_long}
use Rattle.still.specs.inner.Steps.{ReadFrom, ExpandedFrom, Plain, item_after, single, item_unless_refused, stream_expanded}

-- what full write accepts is the bytes of the record
pub written_bytes : (h : VvcConfig) (xs : List (Array (List ℕ))) (b : List ℕ) → write_full h xs ≡ accept b → full_bytes h xs ≡ b
unfolding write_full
written_bytes h xs b e = go (eqb h.length_size 3) (record_fits h xs) e
  where
    go : (x y : Bool) → (if x then refuse 3 else (if y then accept (full_bytes h xs) else refuse 22)) ≡ accept b → full_bytes h xs ≡ b
    go true y e = let z : ◌≡◌ {A = ℕ} 0 1 = cc in absurd (omega arith)
    go false true e = cc
    go false false e = let z : ◌≡◌ {A = ℕ} 0 1 = cc in absurd (omega arith)

-- An expanded head and list: a prefix size and units to write; and the path from full write on does not need full read.
pub record Ready (c : CompactVvcConfig) (h : VvcConfig) (list : List ℕ) : Type 0 where
  pub plain : Plain c.length_size list
  pub size : h.length_size ≡ c.length_size
  pub steps : (codes : StartCodes) (S : List ℕ) (tols : Option ℕ)
      → stream_expanded codes c h list S tols ≡ and_then (serialize_full h list) (λ _. and_then (restore c S) (λ item. assemble codes h list item tols))
  pub items : (S : List ℕ) → item_after c h list S ≡ item_unless_refused c list S

module _ (c : CompactVvcConfig) (list : List ℕ) (from : ReadFrom c list) where
  pub facts : CompactFacts from.compact from.read list
  facts = compact_facts from.compact from.bytes from.read list from.reads

  abbrev pub us : List (List ℕ)
  us = facts.units

  pub all_bytes_lem : Every AllBytes us
  all_bytes_lem = every_of AllBytes us (λ k h. facts.bytes k)

  all_short : Every (λ u. length u ≤ 255) us
  all_short = every_of (λ u. length u ≤ 255) us (λ k h. facts.short k)

  pub types : Every (λ u. type_or31 u ≤ largest_unit_type) us
  types = every_of (λ u. type_or31 u ≤ largest_unit_type) us (λ k h. type_small (get_or us k []) (facts.bytes k))

  pub list_short : length list ≤ 8554
  list_short = rw facts.list_of (omega (arith, list_long us, units_long 4 us all_short, facts.most))

  pub size_low : 1 ≤ c.length_size
  size_low = rw (sym from.config) facts.size_some

  pub size_high : c.length_size ≤ 4
  size_high = rw (sym from.config) facts.size_four

  module _ (pic : Picture) (full : Expanded) (expanded-list : List ℕ) (e : to_full c pic list ≡ accept (full, expanded-list)) where
    expands : expand_units c pic us ≡ accept (full, expanded-list)
    expands =
        subst (λ (vs : List (List ℕ)). expand_units c pic vs ≡ accept (full, expanded-list)) facts.read.bytes
        (of_units_lem c pic list facts.read.spans (full, expanded-list) facts.read.read e)

    pub expanded : Expansion us all_bytes_lem c pic full expanded-list
    expanded = expansion us all_bytes_lem c pic full expanded-list expands

    pub expanded_count : full.list_length ≡ length expanded-list
    expanded_count =
        let y : accept (full, expanded-list) ≡ accept (with_list (expanded_head c pic expanded.ptl) (encode (grouped us))) = sym expands
        ∙ expanded.of_any pic in
        let z : (full, expanded-list) ≡ with_list (expanded_head c pic expanded.ptl) (encode (grouped us)) = cc in
        ap (λ (x : Expanded × List ℕ). x.0.list_length) z ∙ ap (λ (x : Expanded × List ℕ). length x.1) (sym z)

    pub expanded_short : length expanded-list ≤ 8746
    expanded_short = rw expanded.is_list (omega (arith, grouped_long us all_short, facts.most))

    abbrev arrays : List ℕ
    arrays = encode (grouped us)

    list_lent : length arrays ≤ 2 ^ 30
    list_lent = omega (arith, grouped_long us all_short, facts.most)

    units_read_lem : UnitsRead arrays (list_units arrays) (units_of (grouped us))
    units_read_lem = units_encode (grouped us) list_lent (grouped_sound us types)

    abbrev head : VvcConfig
    head = expanded_head c pic expanded.ptl

    plain_list : Plain c.length_size arrays
    plain_list =
        let u = units_read_lem in
        let n = ap length u.bytes in
        record {
          low = size_low;
          high = size_high;
          units = u.spans;
          listed = u.read;
          some = omega (arith, length-map u.spans (held arrays), grouped_count us, facts.two);
        }

    pub written : serialize_full head arrays ≡ write_full head (grouped us)
    unfolding serialize_full
    written = rw (decode_encode (grouped us) list_lent (grouped_sound us types), held_encode (grouped us) list_lent)

    typed : Typed head
    typed = record {
      wide = record { width = omega arith; height = omega arith; rate = omega arith };
      info = expanded.writable.info_is;
      subs = expanded.writable.subs_are;
      subs_small = expanded.writable.subs_small;
    }

    record_long : length (full_bytes head (grouped us)) ≤ 2 ^ 30
    unfolding full_bytes
    record_long =
        omega (
          arith,
          length-append (head_bytes head ++ (length (grouped us) ∷ [])) (arrays_bytes Vvc (grouped us)),
          length-append (head_bytes head) (length (grouped us) ∷ []),
          head_long c pic expanded.ptl expanded.writable,
          arrays_long (grouped us),
          units_long 2 (units_of (grouped us)) (every_grouped us (λ u. length u ≤ 255) all_short),
          grouped_few us,
          grouped_count us,
          facts.most,
        )

    reads_back : (b : List ℕ) → serialize_full head arrays ≡ accept b
        → parse_full b ≡ accept (record { head = head_read head; consumed = length b; list_length = length arrays }, arrays)
    reads_back b e =
        let w = sym written ∙ e in
        let l = ap length (written_bytes head (grouped us) b w) in
        read_after_write head typed (grouped us) (grouped_sound us types) b w (omega (arith, record_long))

    -- assembly uses only what full read keeps of the head
    assembles_back : (codes : StartCodes) (item : List ℕ) (tols : Option ℕ)
        → assemble codes (head_read head) arrays item tols ≡ assemble codes head arrays item tols
    unfolding assemble access_unit
    assembles_back codes item None = refl
    assembles_back codes item (Some t) = refl

    needs_no_read : (codes : StartCodes) (S : List ℕ) (tols : Option ℕ)
        → stream_expanded codes c head arrays S tols
        ≡ and_then (serialize_full head arrays) (λ _. and_then (restore c S) (λ item. assemble codes head arrays item tols))
    needs_no_read codes S tols = go (serialize_full head arrays) refl
      where
        same : (o : Outcome (List ℕ))
            → and_then o (λ item. assemble codes (head_read head) arrays item tols) ≡ and_then o (λ item. assemble codes head arrays item tols)
        same (accept item) = assembles_back codes item tols
        same (refuse n) = refl

        go : (o : Outcome (List ℕ)) → serialize_full head arrays ≡ o
            → and_then o (λ b. and_then (parse_full b) (λ back. and_then (restore c S) (λ item. assemble codes back.0.head back.1 item tols)))
            ≡ and_then o (λ _. and_then (restore c S) (λ item. assemble codes head arrays item tols))
        go (refuse n) e = refl
        go (accept b) e = rw (reads_back b e) (same (restore c S))

    -- what full write can refuse of an expansion
    single_of_type : (t : ℕ) → single (list_units_of_type t arrays) ≡ leb (length (units_of_type t (grouped us))) 1
    single_of_type t =
        let p = placed_arrays 4 1 (grouped us) in
        let h = units_of_type_held t arrays p ∙ ap (units_of_type t) (held_encode (grouped us) list_lent) in
        let n : length (units_of_type t p) ≡ length (units_of_type t (grouped us)) = sym (length-map (units_of_type t p) (held arrays)) ∙ ap length h in
        rw (decode_encode (grouped us) list_lent (grouped_sound us types), n)

    module _ (chroma : pic.chroma_format_idc ≤ 3) (depth : pic.bit_depth ≤ 15) where
      record_fits_lem : record_fits head (grouped us) ≡ (single (list_units_of_type 12 arrays) && single (list_units_of_type 13 arrays))
      unfolding record_fits
      record_fits_lem =
          let m = facts.most in
          rw (
            head_fits_lem c pic expanded.ptl size_low size_high chroma depth expanded.writable,
            le-leb (length (grouped us)) 255 (omega (arith, grouped_few us)),
            single_of_type 12,
            single_of_type 13,
          )
          (grouped_single us (omega arith) all_short types)

      items_here : (S : List ℕ) → item_after c head arrays S ≡ item_unless_refused c arrays S
      unfolding write_full
      items_here S =
          ap (λ (o : Outcome (List ℕ)). and_then o (λ _. restore c S)) written
          ∙ go (eqb c.length_size 3) (record_fits head (grouped us))
          ∙ ap (λ (b : Bool). if eqb c.length_size 3 then refuse 3 else (if b then restore c S else refuse 22)) record_fits_lem
        where
          go : (x y : Bool)
              → and_then (if x then refuse 3 else (if y then accept (full_bytes head (grouped us)) else refuse 22)) (λ _. restore c S)
              ≡ (if x then refuse 3 else (if y then restore c S else refuse 22))
          go true y = refl
          go false true = refl
          go false false = refl

      ready_here : Ready c head arrays
      ready_here = record { plain = plain_list; size = refl; steps = needs_no_read; items = items_here }

      ready_full : Ready c full.head expanded-list
      ready_full =
          subst (λ (h : VvcConfig). Ready c h expanded-list) (sym expanded.head)
          (subst (λ (l : List ℕ). Ready c head l) (sym expanded.is_list) ready_here)

pub ready : (c : CompactVvcConfig) (h : VvcConfig) (list : List ℕ) → ExpandedFrom c h list → Ready c h list
ready c h list x =
    subst (λ (g : VvcConfig). Ready c g list) x.head (ready_full c x.compact_list x.from x.picture x.full list x.expands x.chroma x.depth)
