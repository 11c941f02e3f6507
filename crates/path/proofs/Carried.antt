-- Units that were read and expanded, and stored bytes, through full write, full read, restore, assemble and split.
use Prim.Native.Nat.{ℕ, ◌+◌, ◌*◌, ◌^◌, ◌≤◌, ◌<◌}
use native.Mathlib.Omega.{arith}
use mathlib.Core.Path.{◌≡◌, sym, ap, ◌∙◌}
use mathlib.Core.Bool.{true, false}
use Rattle.std.specs.Prelude.{Option}
use mathlib.Core.List.{List, [], ◌∷◌, ◌++◌, map}
use lib.ListN.{length, get_or, length-append, length-map, get_or-append, get_or-map}
use lib.Seq.{get_or_at}
use borrow.Author.Tests.{le-leb, lt-leb, ne_eqb}
use Rattle.parse.specs.Outcome.{accept}
use Rattle.boxes.specs.Bytes.{to_chunk, outside}
use Rattle.boxes.specs.Parts.{held, nowhere}
use Rattle.boxes.specs.declared.Span.{Span}
use Rattle.boxes.proofs.PrefixSizes.{not_outside}
use Rattle.start_code.specs.Splittable.{Clean, Splittable}
use Rattle.boxes.proofs.ChunkBytes.{length_to_chunk}
use Rattle.unit_list.specs.UnitList.{units_of, encode}
use Rattle.unit_list.proofs.Encode.{held_encode, decode_encode, units_encode}
use Rattle.ptl.specs.declared.VvcPtlRecord.{VvcPtlRecord}
use Rattle.ptl_record.specs.AsWritten.{as_written}
use Rattle.ptl_record.proofs.RoundTrip as P
use Rattle.split.specs.Item.{split_item}
use Rattle.split.proofs.ItemRoundTrip.{split_one, held_one}
use Rattle.annex_b.specs.Stream.{StartCode, annex_b, stream_units_from, split_stream}
use Rattle.annex_b.proofs.RoundTrip.{split_assembled}
use Rattle.grouping.specs.Grouping.{grouped}
use Rattle.grouping.proofs.GroupedFits.{Every, grouped_sound, grouped_few, grouped_count, every_grouped, units_long, grouped_long}
use Rattle.compact.specs.ItemData.{restore}
use Rattle.compact.specs.declared.CompactVvcConfig.{CompactVvcConfig}
use Rattle.record_arrays.specs.Write.{arrays_bytes}
use Rattle.record_arrays.specs.declared.Codec.TheVariants.{Vvc}
use Rattle.full.specs.Read.{parse_full}
use Rattle.full.specs.Write.{head_bytes, full_bytes, head_fits, record_fits, write_full, serialize_full}
use Rattle.full.specs.declared.VvcConfig.{VvcConfig}
use Rattle.full.proofs.HeadRoundTrip.{Writable, with_ptl}
use Rattle.full.proofs.RecordRoundTrip.{read_written}
use Rattle.expand.specs.Expand.{expanded_head}
use Rattle.expand.specs.declared.Picture.{Picture}
use Rattle.expand.proofs.WrittenGroups.{Groupable, grouped_fit}
use Rattle.expand.proofs.Lengths.{head_long, arrays_long}
use Rattle.expand.proofs.Heads as H
use Rattle.access_unit.specs.AccessUnit.{code_of, assemble}
use Rattle.access_unit.specs.inner.Gathered.{lengths}
use Rattle.access_unit.specs.declared.StartCodes.{StartCodes}
use Rattle.access_unit.proofs.OneUnit.{one_assembled}
use Rattle.access_unit.proofs.Streams.{stream_most}
use Rattle.path.proofs.Units.{still_splits, all_split}

lengths_long : (gs : List (List ℕ)) (u : List ℕ) → Every (λ x. length x ≤ 255) gs → lengths (gs ++ (u ∷ [])) ≤ 255 * length gs + length u
unfolding lengths
lengths_long [] u e = omega arith
lengths_long (g ∷ gs) u e = let h = e.0 in omega (arith, lengths_long gs u e.1)

-- whichever start codes the units have
annex_b_long : (code : ℕ → List ℕ → StartCode) (gs : List (List ℕ)) (u : List ℕ) → Every (λ x. length x ≤ 255) gs
    → length (annex_b code (gs ++ (u ∷ []))) ≤ 259 * length gs + 4 + length u
annex_b_long code gs u e = omega (arith, stream_most code (gs ++ (u ∷ [])), lengths_long gs u e, length-append gs (u ∷ []))

-- what is known of a still whose record was read and expanded
pub record Expanded (c : CompactVvcConfig) (pic : Picture) (ptl : VvcPtlRecord) (us : List (List ℕ)) (S : List ℕ) : Type 0 where
  pub plain : c.multi_layer_flag ≡ false
  pub size_low : 1 ≤ c.length_size
  pub size_high : c.length_size ≤ 4
  pub size : c.length_size ≡ 3 → ⊥
  pub chroma : pic.chroma_format_idc ≤ 3
  pub depth : pic.bit_depth ≤ 15
  pub ptl_ok : P.Writable ptl
  pub units : Groupable us
  pub few : length us ≤ 33
  pub split : Every Splittable us
  pub clean : Clean S
  pub short : length S ≤ 2 ^ 29
  pub fits : 2 + length S < 256 ^ c.length_size

module _ (c : CompactVvcConfig) (pic : Picture) (ptl : VvcPtlRecord) (us : List (List ℕ)) (S : List ℕ) (k : Expanded c pic ptl us S) where
  abbrev pub head : VvcConfig
  head = expanded_head c pic ptl

  abbrev pub back : VvcConfig
  back = with_ptl head (as_written ptl 1)

  abbrev pub grouped_list : List ℕ
  grouped_list = encode (grouped us)

  -- ---- the record
  head_fits_lem : head_fits head ≡ true
  head_fits_lem = H.head_fits_lem c pic ptl k.size_low k.size_high k.chroma k.depth k.ptl_ok

  record_fits_lem : record_fits head (grouped us) ≡ true
  unfolding record_fits
  record_fits_lem = let n = k.few in rw (head_fits_lem, le-leb (length (grouped us)) 255 (omega (arith, grouped_few us)), grouped_fit us k.units)

  pub written : serialize_full head grouped_list ≡ accept (full_bytes head (grouped us))
  unfolding serialize_full write_full
  written =
      let l = grouped_long us k.units.short in
      let n = k.few in
      rw (
        decode_encode (grouped us) (omega arith) (grouped_sound us k.units.types),
        held_encode (grouped us) (omega arith),
        ne_eqb c.length_size 3 k.size,
        record_fits_lem,
      )

  writable : Writable head (as_written ptl 1)
  writable = record {
    fits = head_fits_lem;
    size = k.size;
    wide = record { width = omega arith; height = omega arith; rate = omega arith };
    reads = λ _ pre post. P.round_trip ptl k.ptl_ok 1 (omega arith) pre post;
  }

  record_long : length (full_bytes head (grouped us)) ≤ 2 ^ 20
  unfolding full_bytes
  record_long =
      let n = k.few in
      omega (
        arith,
        length-append (head_bytes head ++ (length (grouped us) ∷ [])) (arrays_bytes Vvc (grouped us)),
        length-append (head_bytes head) (length (grouped us) ∷ []),
        head_long c pic ptl k.ptl_ok,
        arrays_long (grouped us),
        units_long 2 (units_of (grouped us)) (every_grouped us (λ u. length u ≤ 255) k.units.short),
        grouped_few us,
        grouped_count us,
      )

  pub read_back_lem : parse_full (full_bytes head (grouped us))
      ≡ accept (record { head = back; consumed = length (full_bytes head (grouped us)); list_length = length grouped_list }, grouped_list)
  read_back_lem = read_written head (as_written ptl 1) (grouped us) writable (grouped_sound us k.units.types) record_fits_lem (omega (arith, record_long))

  -- ---- the item
  abbrev pub item : List ℕ
  item = to_chunk c.length_size (0 ∷ 65 ∷ S)

  pub restored : restore c S ≡ accept item
  unfolding restore
  restored =
      let s = k.short in
      let f : length (0 ∷ 65 ∷ S) < 256 ^ c.length_size = omega (arith, k.fits) in
      rw (le-leb (length S) (2 ^ 30) (omega arith), k.plain, in_bounds, lt-leb (256 ^ c.length_size) (length (0 ∷ 65 ∷ S)) f)
    where
      in_bounds : outside c.length_size ≡ false
      in_bounds = not_outside c.length_size k.size_low k.size_high

  item_long : length item ≤ 2 ^ 30
  item_long = let s = k.short in let b = k.size_high in omega (arith, length_to_chunk c.length_size (0 ∷ 65 ∷ S))

  abbrev one : Span
  one = record { start = c.length_size; len = length (0 ∷ 65 ∷ S) }

  item_fits : length (0 ∷ 65 ∷ S) < 256 ^ c.length_size
  item_fits = omega (arith, k.fits)

  item_split : split_item c.length_size item ≡ accept (one ∷ [])
  unfolding split_item
  item_split =
      rw (le-leb (length item) (2 ^ 30) item_long) (split_one c.length_size (0 ∷ 65 ∷ S) k.size_low k.size_high (omega arith) item_fits)

  item_held : held item one ≡ 0 ∷ 65 ∷ S
  item_held = held_one c.length_size (0 ∷ 65 ∷ S) k.size_low k.size_high (omega arith) item_fits

-- ---- the stream
module _ (codes : StartCodes) (c : CompactVvcConfig) (pic : Picture) (ptl : VvcPtlRecord) (us : List (List ℕ)) (S : List ℕ)
    (k : Expanded c pic ptl us S) where
  abbrev pub carried : List (List ℕ)
  carried = units_of (grouped us) ++ ((0 ∷ 65 ∷ S) ∷ [])

  abbrev pub stream : List ℕ
  stream = annex_b (code_of codes) carried

  pub assembles : (tols : Option ℕ)
      → assemble codes (back c pic ptl us S k) (grouped_list c pic ptl us S k) (item c pic ptl us S k) tols ≡ accept stream
  assembles tols =
      let l = grouped_long us k.units.short in
      let n = k.few in
      let r = units_encode (grouped us) (omega arith) (grouped_sound us k.units.types) in
      one_assembled (back c pic ptl us S k) _ _ tols r.spans (one c pic ptl us S k) (0 ∷ 65 ∷ S) r.read (item_split c pic ptl us S k)
      (item_held c pic ptl us S k) (λ x. omega arith) (λ x. omega arith) codes
      ∙ rw r.bytes

  all_splits : (j : ℕ) → j < length carried → Splittable (get_or carried j [])
  all_splits = all_split (units_of (grouped us)) (0 ∷ 65 ∷ S) (every_grouped us Splittable k.split) (still_splits S k.clean)

  stream_long : length stream ≤ 2 ^ 30
  stream_long =
      let n = k.few in
      let s = k.short in
      omega (
        arith,
        annex_b_long (code_of codes) (units_of (grouped us)) (0 ∷ 65 ∷ S) (every_grouped us (λ u. length u ≤ 255) k.units.short),
        grouped_count us,
      )

  pub splits : split_stream stream ≡ accept (stream_units_from stream 0)
  unfolding split_stream
  splits = rw (le-leb (length stream) (2 ^ 30) stream_long)

  pub split_units : map (held stream) (stream_units_from stream 0) ≡ carried
  split_units = split_assembled (code_of codes) carried all_splits

  pub split_count : length (stream_units_from stream 0) ≡ length us + 1
  split_count =
      let e = ap length split_units in
      omega
      (arith, e, length-map (stream_units_from stream 0) (held stream), length-append (units_of (grouped us)) ((0 ∷ 65 ∷ S) ∷ []), grouped_count us)

  unit_held : (j : ℕ) → held stream (get_or (stream_units_from stream 0) j nowhere) ≡ get_or carried j []
  unit_held j = sym (get_or-map (held stream) (stream_units_from stream 0) j nowhere) ∙ ap (λ (l : List (List ℕ)). get_or l j []) split_units

  pub unit_below : (j : ℕ) → j < length us → held stream (get_or (stream_units_from stream 0) j nowhere) ≡ get_or (units_of (grouped us)) j []
  unit_below j h = unit_held j ∙ get_or-append (units_of (grouped us)) ((0 ∷ 65 ∷ S) ∷ []) [] j (omega (arith, grouped_count us))

  pub unit_last : held stream (get_or (stream_units_from stream 0) (length us) nowhere) ≡ 0 ∷ 65 ∷ S
  unit_last = unit_held (length us) ∙ get_or_at (units_of (grouped us)) (0 ∷ 65 ∷ S) [] [] (length us) (grouped_count us)
