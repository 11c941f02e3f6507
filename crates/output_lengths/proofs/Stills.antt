-- `vvcc_still_record` and `vvcc_still_stream`: the output that suffices.
use Prim.Native.Nat.{ℕ, ◌+◌, ◌*◌, ◌^◌, ◌≤◌}
use mathlib.Core.Path.{◌≡◌, refl, sym, ap, ◌∙◌, subst}
use mathlib.Core.Bool.{Bool, true, false}
use mathlib.Core.List.{List, [], ◌∷◌, ◌++◌, map}
use Rattle.std.specs.Prelude.{Option}
use native.Mathlib.Omega.{arith}
use lib.ListN.{length, length-append}
use Rattle.parse.specs.Outcome.{Outcome, accept, and_then}
use Rattle.boxes.specs.Bytes.{to_chunk, AllBytes}
use Rattle.boxes.specs.Parts.{held}
use Rattle.boxes.specs.Walk.{count_found}
use Rattle.boxes.specs.declared.Span.{Span}
use Rattle.unit_list.specs.UnitList.{units_of, encode}
use Rattle.unit_list.specs.Answers.{list_units}
use Rattle.annex_b.specs.Stream.{annex_b}
use Rattle.grouping.specs.Grouping.{grouped}
use Rattle.grouping.proofs.GroupedFits.{grouped_sound, grouped_few, grouped_count}
use Rattle.compact.specs.declared.CompactRead.{CompactRead}
use Rattle.compact.specs.Compact.{parse_compact}
use Rattle.compact.specs.ItemData.{still_unit, restore}
use Rattle.compact.specs.declared.CompactVvcConfig.{CompactVvcConfig}
use Rattle.record_arrays.specs.Write.{arrays_bytes}
use Rattle.record_arrays.specs.declared.Codec.TheVariants.{Vvc}
use Rattle.full.specs.Write.{head_bytes, full_bytes, serialize_full}
use Rattle.full.specs.declared.VvcConfig.{VvcConfig}
use Rattle.expand.specs.declared.Expanded.{Expanded}
use Rattle.expand.specs.Expand.{expanded_head, to_full}
use Rattle.expand.specs.declared.Picture.{Picture}
use Rattle.access_unit.specs.AccessUnit.{code_of, assemble}
use Rattle.access_unit.specs.inner.Gathered.{lengths}
use Rattle.expand.proofs.Accepted.{then_accept}
use Rattle.expand.proofs.Lengths.{head_long, arrays_long}
use Rattle.access_unit.specs.declared.StartCodes.{StartCodes}
use Rattle.still.specs.Stills.{still_record, any_picture, stream_with, still_stream}
use Rattle.still.specs.inner.Steps.{ReadFrom, item_after, item_unless_refused, stream_expanded, units_stream}
use Rattle.still.proofs.Lists.{Ready, written_bytes, facts, us, types, expanded, written, ready}
use Rattle.still.proofs.Steps.{stream_layers, stream_plain}
use Rattle.output_lengths.specs.Lengths.{multi_layer, record_room, still_room_with, still_room, Suffices}
use Rattle.output_lengths.proofs.Refusals.{record_not_short, stream_not_short}
use Rattle.output_lengths.proofs.Outputs.{suffices, lent_accepted}
use Rattle.output_lengths.proofs.Assembled.{streamed, stream_more, encoded_units, assembled_parts}
use Rattle.output_lengths.proofs.Grouped.{grouped_less}
use Rattle.output_lengths.proofs.CompactRecord.{encoded_long, compact_long, flag_is}

-- a compact record that was read and expanded
module _ (C : List ℕ) (all : AllBytes C) (r : CompactRead) (list : List ℕ) (e : parse_compact C ≡ accept (r, list)) (pic : Picture)
    (full : Expanded) (arrays : List ℕ)
    (x : to_full r.config pic list ≡ accept (full, arrays)) where
  abbrev c : CompactVvcConfig
  c = r.config

  abbrev from : ReadFrom c list
  from = record { compact = C; bytes = all; read = r; reads = e; config = refl }

  abbrev units : List (List ℕ)
  units = us c list from

  abbrev groups : List (List ℕ)
  groups = units_of (grouped units)

  long : length C ≡ 1 + length units + lengths units
  long = compact_long C r list (facts c list from)

  few : length (grouped units) ≤ length units
  few = grouped_few units

  count : length groups ≡ length units
  count = grouped_count units

  -- ### the record
  record_long : (b : List ℕ) → serialize_full full.head arrays ≡ accept b → length b ≤ record_room C
  unfolding full_bytes
  record_long b f =
      let k = expanded c list from pic full arrays x in
      let head = expanded_head c pic k.ptl in
      let g : serialize_full head (encode (grouped units)) ≡ accept b =
      subst (λ (l : List ℕ). serialize_full head l ≡ accept b) k.is_list
      (subst (λ (h : VvcConfig). serialize_full h arrays ≡ accept b) k.head f) in
      let w = written_bytes head (grouped units) b (sym (written c list from pic full arrays x) ∙ g) in
      let l = ap length w in
      omega (
        arith,
        length-append (head_bytes head ++ (length (grouped units) ∷ [])) (arrays_bytes Vvc (grouped units)),
        length-append (head_bytes head) (length (grouped units) ∷ []),
        head_long c pic k.ptl k.writable,
        arrays_long (grouped units),
        encoded_long 2 groups,
        few,
        count,
        grouped_less units,
        long,
      )

  -- ### the stream

  -- the units of the list take at most four times the record, without its first byte
  listed_long : (vs : List Span) → list_units arrays ≡ accept vs → streamed (map (held arrays) vs) + 4 ≤ 4 * length C
  listed_long vs f =
      let k = expanded c list from pic full arrays x in
      let sound = grouped_sound units (types c list from) in
      let g = encoded_units (grouped units) sound vs (subst (λ (l : List ℕ). list_units l ≡ accept vs) k.is_list f) in
      let m : streamed (map (held arrays) vs) ≡ streamed groups = ap (λ (l : List ℕ). streamed (map (held l) vs)) k.is_list ∙ ap streamed g in
      omega (arith, m, count, grouped_less units, long)

  module _ (chroma : pic.chroma_format_idc ≤ 3) (depth : pic.bit_depth ≤ 15) (codes : StartCodes) (S : List ℕ) (tols : Option ℕ)
      (lent : length S ≤ 2 ^ 30) (b : List ℕ) (f : stream_expanded codes c full.head arrays S tols ≡ accept b) where
    is_ready : Ready c full.head arrays
    is_ready = ready c full.head arrays (record {
      compact_list = list;
      from = from;
      picture = pic;
      chroma = chroma;
      depth = depth;
      full = full;
      expands = x;
      head = refl;
    })

    -- full write and restore are accepted
    restored : (item : List ℕ) × (accept (length item) ≡ count_found (item_unless_refused c arrays S))
    restored =
        let p = then_accept (serialize_full full.head arrays) (λ _. and_then (restore c S) (λ item. assemble codes full.head arrays item tols)) b
        (sym (is_ready.steps codes S tols) ∙ f) in
        let q = then_accept (restore c S) (λ item. assemble codes full.head arrays item tols) b p.2 in
        let g : item_after c full.head arrays S ≡ accept q.0 = ap (λ (o : Outcome (List ℕ)). and_then o (λ _. restore c S)) p.1 ∙ q.1 in
        (q.0, ap count_found (sym g ∙ is_ready.items S))

    layers_long : c.multi_layer_flag ≡ true → length b ≤ still_room_with true C S
    layers_long s =
        let p = assembled_parts codes full.head arrays S tols b
        (sym (stream_layers codes c full.head arrays S tols is_ready (length restored.0) restored.1 lent s) ∙ f) in
        omega (arith, p.most, listed_long p.units p.listed)

    plain_long : c.multi_layer_flag ≡ false → length b ≤ still_room_with false C S
    plain_long s =
        let p = sym (stream_plain codes c full.head arrays S tols is_ready (length restored.0) restored.1 lent s) ∙ f in
        let q = then_accept (list_units arrays) _ b (lent_accepted (to_chunk c.length_size (still_unit S)) (units_stream codes arrays S) b p).1 in
        let vs = map (held arrays) q.0 in
        let y : annex_b (code_of codes) (vs ++ (still_unit S ∷ [])) ≡ b = cc q.2 in
        let l = ap length y in
        omega (arith, l, stream_more (code_of codes) vs (still_unit S), listed_long q.0 q.1)

    still_long : length b ≤ still_room C S
    still_long = go (multi_layer C) (flag_is C r list (facts c list from))
      where
        go : (s : Bool) → c.multi_layer_flag ≡ s → length b ≤ still_room_with s C S
        go true s = layers_long s
        go false s = plain_long s

module _ (C : List ℕ) (all : AllBytes C) where
  pub record_suffices : (pic : Picture) → Suffices (record_room C) (still_record C pic)
  unfolding still_record
  record_suffices pic = suffices (record_room C) (still_record C pic) (record_not_short C pic) (λ b e.
      let p = then_accept (parse_compact C) _ b e in
      let q = then_accept (to_full p.0.0.config pic p.0.1) _ b p.2 in
      record_long C all p.0.0 p.0.1 p.1 pic q.0.0 q.0.1 q.1 b q.2)

  pub still_suffices : (codes : StartCodes) (S : List ℕ) (tols : Option ℕ) → Suffices (still_room C S) (still_stream codes C S tols)
  unfolding still_stream stream_with
  still_suffices codes S tols = suffices (still_room C S) (still_stream codes C S tols) (stream_not_short codes C S tols) (λ b e.
      let l = lent_accepted S _ b e in
      let p = then_accept (parse_compact C) _ b l.1 in
      let q = then_accept (to_full p.0.0.config any_picture p.0.1) _ b p.2 in
      still_long C all p.0.0 p.0.1 p.1 any_picture q.0.0 q.0.1 q.1 (omega arith) (omega arith)
      codes S tols l.0 b q.2)
