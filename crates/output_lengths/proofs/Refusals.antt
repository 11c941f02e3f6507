-- 20 is about an output alone: reading, expanding, writing and assembling never refuse with it.
use Prim.Native.Nat.{ℕ, zero, suc, ◌+◌, ◌-◌, ◌*◌, ◌/◌, ◌%◌}
use mathlib.Core.Path.{◌≡◌, refl, ◌∙◌}
use mathlib.Core.Bool.{Bool, true, false, not}
use mathlib.Core.List.{List, [], ◌∷◌, map}
use native.Mathlib.Omega.{arith}
use lib.Dec.{leb, ltb, eqb}
use lib.ListN.{length, get_or, drop}
use Rattle.std.specs.Prelude.{if◌then◌else◌, Option, None, Some}
use Rattle.parse.specs.Outcome.{Outcome, accept, refuse, and_then}
use Rattle.parse.specs.Steps.{or_refuse}
use Rattle.parse.specs.Parse.{Parsed, value, refused, bind, Parser, ◌>>=◌, give, refusing, refuse_if, here, times, many, many_up_to, outcome, outcome_or}
use Rattle.boxes.specs.Bytes.{uint, bytes, chunk, outside}
use Rattle.boxes.specs.Parts.{held}
use Rattle.boxes.specs.declared.Span.{Span}
use Rattle.nal.specs.Header.{type_or31}
use Rattle.unit_list.specs.UnitList.{Array, unit_list, decode}
use Rattle.unit_list.specs.Answers.{list_units}
use Rattle.rbsp.specs.Rbsp.{rbsp}
use Rattle.bit_reader.specs.Bits.{u, is_set, skip, align, zeros_before_one, ue}
use Rattle.ptl.specs.Ptl.{levels, constraint_bits, general_constraints_info, constraint_bytes, profile_tier_level, zero_ptl}
use Rattle.ptl_record.specs.Read.{octets, vvc_ptl_record}
use Rattle.sps.specs.Sps.{window, no_window, sps_head, parse_sps}
use Rattle.sps.specs.declared.SpsHead.{SpsHead}
use Rattle.vps.specs.Vps.{vps_ptl, vps_first_ptl}
use Rattle.split.specs.Item.{item_unit, item_units, split_item}
use Rattle.grouping.specs.Grouping.{first_element, having_type}
use Rattle.compact.specs.Compact.{at_end, compact_record, parse_compact}
use Rattle.compact.specs.ItemData.{restore}
use Rattle.compact.specs.declared.CompactVvcConfig.{CompactVvcConfig}
use Rattle.record_arrays.specs.Read.{holds_one, record_array}
use Rattle.record_arrays.specs.Record.{record_parsed}
use Rattle.record_arrays.specs.declared.Codec.TheVariants.{Vvc}
use Rattle.full.specs.Read.{head_with_ptl, vvc_head, vvc_record, parse_full}
use Rattle.full.specs.Write.{serialize_full}
use Rattle.full.specs.Rules.{peek, array_byte, record_array_bytes, reserved_kept, types_kept}
use Rattle.full.specs.Strict.{holds_or, parse_strict}
use Rattle.full.specs.declared.VvcConfig.{VvcConfig}
use Rattle.expand.specs.Expand.{multi_layer_vps, ptl_of_sets, expand_units, to_full}
use Rattle.expand.specs.declared.Picture.{Picture}
use Rattle.access_unit.specs.declared.Source.{Source}
use Rattle.access_unit.specs.AccessUnit.{target_of, arranged, not_empty, access_unit, assemble}
use Rattle.access_unit.specs.declared.StartCodes.{StartCodes}
use Rattle.still.specs.Stills.{any_picture, still_record, stream_with, still_stream}
use Rattle.vvcc_records.specs.Records.{read_beside}
use Rattle.output_lengths.proofs.NotShort.{NotShort, not_short_lent, not_short_if, serialize_not_short, restore_not_short}

-- ### parsers

pub record NeverShort {A : Type 0} (P : Parser A) : Type 0 where
  pub at : (s : List ℕ) (p n : ℕ) → P s p ≡ refused n → n ≡ 20 → ⊥

read_not : {A : Type 0} (a : A) (q n : ℕ) → value a q ≡ refused n → ⊥
read_not a q n e = let z : ◌≡◌ {A = ℕ} 0 1 = cc in omega arith

never_give : {A : Type 0} (a : A) → NeverShort (give a)
never_give a = record { at = λ s p n e f. read_not a p n e }

never_here : NeverShort here
never_here = record { at = λ s p n e f. read_not p p n e }

-- a test of what is left, with its refusal
tested : {A : Type 0} (b : Bool) (a : A) (q k n : ℕ) → (k ≡ 20 → ⊥) → (if b then value a q else refused k) ≡ refused n → n ≡ 20 → ⊥
tested true a q k n h e f = read_not a q n e
tested false a q k n h e f = let z : k ≡ n = cc in h (z ∙ f)

never_refusing : {A : Type 0} (k : ℕ) → (k ≡ 20 → ⊥) → NeverShort {A = A} (refusing k)
never_refusing k h = record { at = λ s p n e f. let z : k ≡ n = cc in h (z ∙ f) }

never_if : {A : Type 0} (b : Bool) {P Q : Parser A} → NeverShort P → NeverShort Q → NeverShort (if b then P else Q)
never_if true l g = l
never_if false l g = g

never_refuse_if : (b : Bool) (k : ℕ) → (k ≡ 20 → ⊥) → NeverShort (refuse_if b k)
never_refuse_if b k h = never_if b (never_refusing k h) (never_give tt)

-- one after the other
never_bind : {A B : Type 0} {P : Parser A} {Q : A → Parser B} → NeverShort P → ((a : A) → NeverShort (Q a)) → NeverShort (P >>= Q)
never_bind {A} {B} {P} {Q} l g = record { at = λ s p n. go s p n (P s p) refl }
  where
    go : (s : List ℕ) (p n : ℕ) (x : Parsed A) → P s p ≡ x → bind x (λ a q. Q a s q) ≡ refused n → n ≡ 20 → ⊥
    go s p n (value a q) w e f = (g a).at s q n e f
    go s p n (refused m) w e f = let z : m ≡ n = cc in l.at s p m w (z ∙ f)

never_times : {A : Type 0} (n : ℕ) {P : Parser A} → NeverShort P → NeverShort (times n P)
unfolding times
never_times zero l = never_give []
never_times (suc n) l = never_bind l (λ a. never_bind (never_times n l) (λ rest. never_give (a ∷ rest)))

never_up_to : {A : Type 0} (f : ℕ) {P : Parser A} → NeverShort P → NeverShort (many_up_to f P)
unfolding many_up_to
never_up_to zero l = never_give []
never_up_to {A} (suc f) {P} l =
    record { at = λ s p n. go s p n (leb (length s) p) (never_bind l (λ a. never_bind (never_up_to f l) (λ rest. never_give (a ∷ rest)))) }
  where
    go : (s : List ℕ) (p n : ℕ) (b : Bool) → NeverShort (P >>= (λ a. many_up_to f P >>= (λ rest. give (a ∷ rest))))
        → (if b then value [] p else bind (P s p) (λ a q. bind (many_up_to f P s q) (λ rest r. value (a ∷ rest) r))) ≡ refused n → n ≡ 20 → ⊥
    go s p n true h e f = read_not {A = List A} [] p n e
    go s p n false h e f = h.at s p n e f

never_many : {A : Type 0} {P : Parser A} → NeverShort P → NeverShort (many P)
unfolding many
never_many l = record { at = λ s p. (never_up_to (length s) l).at s p }

-- ### bytes

never_uint : (w : ℕ) → NeverShort (uint w)
unfolding uint
never_uint w = record { at = λ s p n. tested (leb (p + w) (length s)) _ (p + w) 1 n (λ e. omega arith) }

never_bytes : (w : ℕ) → NeverShort (bytes w)
unfolding bytes
never_bytes w = record { at = λ s p n. tested (leb (p + w) (length s)) _ (p + w) 1 n (λ e. omega arith) }

never_chunk : (w : ℕ) → NeverShort (chunk w)
unfolding chunk
never_chunk w = never_bind (never_uint w) never_bytes

never_end : NeverShort at_end
unfolding at_end
never_end = record { at = λ s p n. left (ltb p (length s)) p n }
  where
    left : (b : Bool) (p n : ℕ) → ◌≡◌ {A = Parsed (Unit {0})} (if b then refused 7 else value tt p) (refused n) → n ≡ 20 → ⊥
    left true p n e f = let z : 7 ≡ n = cc in omega (arith, z)
    left false p n e f = read_not tt p n e

never_compact : NeverShort compact_record
unfolding compact_record
never_compact =
    never_bind (never_uint 1) (λ b.
    never_bind (never_times (b % 32 + 2) (never_chunk 1)) (λ us.
    never_bind never_end (λ _.
    never_give _)))

never_item : (size : ℕ) → NeverShort (item_unit size)
unfolding item_unit
never_item size = never_bind (never_uint size) (λ n. never_bind (never_refuse_if (eqb n 0) 5 (λ e. omega arith)) (λ _. never_bytes n))

-- ### bits

never_u : (w : ℕ) → NeverShort (u w)
unfolding u
never_u w = record { at = λ s p n. tested (leb (p + w) (8 * length s)) _ (p + w) 11 n (λ e. omega arith) }

never_skip : (w : ℕ) → NeverShort (skip w)
unfolding skip
never_skip w = record { at = λ s p n. tested (leb (p + w) (8 * length s)) tt (p + w) 11 n (λ e. omega arith) }

never_align : NeverShort align
unfolding align
never_align = record { at = λ s p n e f. read_not tt _ n e }

never_zeros : (z f : ℕ) → NeverShort (zeros_before_one z f)
unfolding zeros_before_one
never_zeros z zero = never_refusing 12 (λ e. omega arith)
never_zeros z (suc f) = never_bind (never_u 1) (λ b. never_if (is_set b) (never_give z) (never_zeros (z + 1) f))

never_ue : NeverShort ue
unfolding ue
never_ue = never_bind (never_zeros 0 32) (λ z. never_bind (never_u z) (λ v. never_give _))

never_levels : {L : Parser ℕ} → NeverShort L → (m byte : ℕ) → NeverShort (levels L m byte)
unfolding levels
never_levels l zero byte = never_give []
never_levels l (suc m) byte =
    never_bind (never_if (is_set (byte / 128)) l (never_give 0)) (λ level. never_bind (never_levels l m (byte % 128 * 2)) (λ below. never_give _))

never_constraint_bits : NeverShort constraint_bits
unfolding constraint_bits
never_constraint_bits = never_bind (never_skip 71) (λ _. never_bind (never_u 8) never_skip)

never_info : NeverShort general_constraints_info
unfolding general_constraints_info
never_info = never_bind (never_u 1) (λ b. never_bind (never_if (is_set b) never_constraint_bits (never_give tt)) (λ _. never_align))

never_constraint_bytes : (from : ℕ) → NeverShort (constraint_bytes from)
unfolding constraint_bytes
never_constraint_bytes from = record { at = λ s p n e f. read_not _ p n e }

never_ptl : (m : ℕ) → NeverShort (profile_tier_level m)
unfolding profile_tier_level
never_ptl m =
    never_bind (never_u 7) (λ profile.
    never_bind (never_u 1) (λ tier.
    never_bind (never_u 8) (λ level.
    never_bind never_here (λ from.
    never_bind (never_u 1) (λ frame_only.
    never_bind (never_u 1) (λ multilayer.
    never_bind never_info (λ _.
    never_bind (never_constraint_bytes from) (λ constraint.
    never_bind (never_if (ltb 0 m) (never_u 8) (never_give 0)) (λ flags.
    never_bind (never_levels (never_u 8) m flags) (λ sublayers.
    never_bind (never_u 8) (λ n.
    never_bind (never_times n (never_u 32)) (λ subs.
    never_give _))))))))))))

never_window : NeverShort window
unfolding window
never_window = never_bind never_ue (λ l. never_bind never_ue (λ r. never_bind never_ue (λ t. never_bind never_ue (λ b. never_give _))))

never_sps : NeverShort sps_head
unfolding sps_head
never_sps =
    never_bind (never_u 4) (λ id.
    never_bind (never_u 4) (λ vps.
    never_bind (never_u 3) (λ m.
    never_bind (never_u 2) (λ chroma.
    never_bind (never_u 2) (λ ctu.
    never_bind (never_u 1) (λ has_ptl.
    never_bind (never_if (is_set has_ptl) (never_ptl m) (never_give zero_ptl)) (λ l.
    never_bind (never_u 1) (λ gdr.
    never_bind (never_u 1) (λ resampling.
    never_bind (never_if (is_set resampling) (never_u 1) (never_give 0)) (λ change.
    never_bind never_ue (λ width.
    never_bind never_ue (λ height.
    never_bind (never_u 1) (λ has_window.
    never_bind (never_if (is_set has_window) never_window (never_give no_window)) (λ win.
    never_bind (never_u 1) (λ subpictures.
    never_bind (never_refuse_if (is_set subpictures) 13 (λ e. omega arith)) (λ _.
    never_bind never_ue (λ d.
    never_bind (never_refuse_if (ltb 8 d) 14 (λ e. omega arith)) (λ _.
    never_give _))))))))))))))))))

never_vps : NeverShort vps_ptl
unfolding vps_ptl
never_vps =
    never_bind (never_u 4) (λ id.
    never_bind (never_u 6) (λ layers.
    never_bind (never_u 3) (λ m.
    never_bind (never_refuse_if (not (eqb layers 0)) 15 (λ e. omega arith)) (λ _.
    never_bind (never_u 6) (λ layer.
    never_bind never_align (λ _.
    never_ptl m))))))

-- ### the full record

never_octets : (n : ℕ) → NeverShort (octets n)
unfolding octets
never_octets w = record {
  at = λ s p n. (never_bind {Q = λ a t q. value (held t a) q} (never_bytes w) (λ a. record { at = λ t q m e f. read_not _ q m e })).at s p n;
}

never_ptl_record : (m : ℕ) → NeverShort (vvc_ptl_record m)
unfolding vvc_ptl_record
never_ptl_record m =
    never_bind (never_uint 1) (λ a.
    never_bind (never_refuse_if (eqb (a % 64) 0) 2 (λ e. omega arith)) (λ _.
    never_bind (never_uint 1) (λ b.
    never_bind (never_uint 1) (λ level.
    never_bind (never_octets (a % 64)) (λ info.
    never_bind (never_if (ltb 1 m) (never_uint 1) (never_give 0)) (λ flags.
    never_bind (never_levels (never_uint 1) (m - 1) flags) (λ idcs.
    never_bind (never_uint 1) (λ n.
    never_bind (never_times n (never_uint 4)) (λ subs.
    never_give _)))))))))

never_with_ptl : (size : ℕ) → NeverShort (head_with_ptl size)
unfolding head_with_ptl
never_with_ptl size =
    never_bind (never_uint 2) (λ w.
    never_bind (never_uint 1) (λ d.
    never_bind (never_ptl_record (w / 16 % 8)) (λ ptl.
    never_bind (never_uint 2) (λ width.
    never_bind (never_uint 2) (λ height.
    never_bind (never_uint 2) (λ rate.
    never_give _))))))

never_head : NeverShort vvc_head
unfolding vvc_head
never_head =
    never_bind (never_uint 1) (λ b.
    never_bind (never_refuse_if (eqb (b / 2 % 4) 2) 3 (λ e. omega arith)) (λ _.
    never_if (is_set (b % 2)) (never_with_ptl _) (never_give _)))

never_array : NeverShort (record_array Vvc)
unfolding record_array
never_array =
    never_bind (never_uint 1) (λ b.
    never_bind (never_if (holds_one Vvc (b % 32)) (never_give 1) (never_uint 2)) (λ n.
    never_bind (never_times n (never_chunk 2)) (λ us.
    never_give _)))

never_record : NeverShort vvc_record
unfolding vvc_record
never_record = never_bind never_head (λ h. never_bind (never_uint 1) (λ n. never_bind (never_times n never_array) (λ xs. never_give _)))

-- the bytes that its arrays begin with
never_array_byte : NeverShort array_byte
unfolding array_byte
never_array_byte = never_bind {P = peek} (record { at = λ s p n e f. read_not (get_or s p 0) p n e }) (λ b. never_bind never_array (λ _. never_give b))

never_array_bytes : NeverShort record_array_bytes
unfolding record_array_bytes
never_array_bytes = never_bind never_head (λ _. never_bind (never_uint 1) (λ n. never_times n never_array_byte))

-- ### calls

not_short_then : {A B : Type 0} (o : Outcome A) (f : A → Outcome B) → NotShort o → ((a : A) → NotShort (f a)) → NotShort (and_then o f)
not_short_then (accept a) f h k = k a
not_short_then (refuse n) f h k = h

not_short_read : {A : Type 0} {P : Parser A} → NeverShort P → (s : List ℕ) (p : ℕ) → NotShort (outcome (P s p))
not_short_read {A} {P} l s p = go (P s p) (l.at s p)
  where
    go : (x : Parsed A) → ((n : ℕ) → x ≡ refused n → n ≡ 20 → ⊥) → NotShort (outcome x)
    go (value a q) h = tt
    go (refused n) h = h n refl

compact_not_short : (C : List ℕ) → NotShort (parse_compact C)
unfolding parse_compact
compact_not_short C = not_short_lent C _ (not_short_then (outcome (compact_record C 0)) _ (not_short_read never_compact C 0) (λ r. tt))

parse_not_short : (s : List ℕ) → NotShort (parse_full s)
unfolding parse_full
parse_not_short s = not_short_lent s _ (go (vvc_record s 0) (never_record.at s 0))
  where
    go : {H : Type 0} (x : Parsed (H × List (Array Span))) → ((n : ℕ) → x ≡ refused n → n ≡ 20 → ⊥) → NotShort (record_parsed s x)
    go (value r p) h = tt
    go (refused n) h = h n refl

-- a test with its refusal
holds_not_short : (n : ℕ) (b : Bool) → (n ≡ 20 → ⊥) → NotShort (holds_or n b)
holds_not_short n true h = tt
holds_not_short n false h = h

pub strict_not_short : (s : List ℕ) → NotShort (parse_strict s)
unfolding parse_strict
strict_not_short s =
    not_short_then (parse_full s) _ (parse_not_short s) (λ r.
    not_short_then (outcome (record_array_bytes s 0)) _ (not_short_read never_array_bytes s 0) (λ bs.
    not_short_then (holds_or 25 (reserved_kept s r.0.head bs)) _ (holds_not_short 25 (reserved_kept s r.0.head bs) (λ e. omega arith)) (λ _.
    not_short_then (holds_or 26 (types_kept bs)) _ (holds_not_short 26 (types_kept bs) (λ e. omega arith)) (λ _. tt))))

list_not_short : (list : List ℕ) → NotShort (list_units list)
unfolding decode
list_not_short list = not_short_then (decode list) _ (not_short_lent list _ (go (unit_list list 0))) (λ xs. tt)
  where
    go : {A : Type 0} (x : Parsed A) → NotShort (outcome_or 21 x)
    go (value a p) = tt
    go (refused n) = λ e. omega arith

or_not_short : {A : Type 0} (n : ℕ) (o : Option A) → (n ≡ 20 → ⊥) → NotShort (or_refuse n o)
or_not_short n None h = h
or_not_short n (Some a) h = tt

unit_not_short : {A : Type 0} {P : Parser A} → NeverShort P → (t : ℕ) (unit : List ℕ)
    → NotShort (if eqb (type_or31 unit) t then outcome (P (rbsp (drop 2 unit)) 0) else refuse 10)
unit_not_short {A} {P} l t unit = go (eqb (type_or31 unit) t)
  where
    go : (b : Bool) → NotShort (if b then outcome (P (rbsp (drop 2 unit)) 0) else refuse 10)
    go true = not_short_read l (rbsp (drop 2 unit)) 0
    go false = λ e. omega arith

sps_not_short : (unit : List ℕ) → NotShort (parse_sps unit)
unfolding parse_sps
sps_not_short unit = not_short_lent unit _ (unit_not_short never_sps 15 unit)

vps_not_short : (unit : List ℕ) → NotShort (vps_first_ptl unit)
unfolding vps_first_ptl
vps_not_short unit = not_short_lent unit _ (unit_not_short never_vps 14 unit)

layers_not_short : (b : Bool) (us : List (List ℕ)) → NotShort (multi_layer_vps b us)
unfolding multi_layer_vps
layers_not_short false us = tt
layers_not_short true us = not_short_then (or_refuse 16 (first_element (having_type 14 us))) _
    (or_not_short 16 (first_element (having_type 14 us)) (λ e. omega arith)) (λ vps. not_short_then (vps_first_ptl vps) _ (vps_not_short vps) (λ _. tt))

ptl_not_short : (sps : SpsHead) (us : List (List ℕ)) → NotShort (ptl_of_sets sps us)
unfolding ptl_of_sets
ptl_not_short sps us = go sps.ptl_present_flag
  where
    go : (b : Bool) → NotShort (if b then accept sps.ptl else and_then (or_refuse 18 (first_element (having_type 14 us))) (λ vps. vps_first_ptl vps))
    go true = tt
    go false = not_short_then (or_refuse 18 (first_element (having_type 14 us))) _
        (or_not_short 18 (first_element (having_type 14 us)) (λ e. omega arith)) vps_not_short

full_not_short : (c : CompactVvcConfig) (pic : Picture) (list : List ℕ) → NotShort (to_full c pic list)
unfolding to_full expand_units
full_not_short c pic list =
    not_short_then (list_units list) _ (list_not_short list) (λ spans.
    not_short_then (multi_layer_vps c.multi_layer_flag (map (held list) spans)) _ (layers_not_short _ _) (λ _.
    not_short_then (or_refuse 17 (first_element (having_type 15 (map (held list) spans)))) _
    (or_not_short 17 (first_element (having_type 15 (map (held list) spans))) (λ e. omega arith)) (λ unit.
    not_short_then (parse_sps unit) _ (sps_not_short unit) (λ sps.
    not_short_then (ptl_of_sets sps (map (held list) spans)) _ (ptl_not_short sps _) (λ ptl. tt)))))

split_not_short : (size : ℕ) (item : List ℕ) → NotShort (split_item size item)
unfolding split_item item_units
split_not_short size item =
    not_short_lent item _ (not_short_if (outside size) 4 _ (λ e. omega arith) (not_short_read (never_many (never_item size)) item 0))

assemble_not_short : (codes : StartCodes) (h : VvcConfig) (list item : List ℕ) (tols : Option ℕ) → NotShort (assemble codes h list item tols)
unfolding assemble access_unit
assemble_not_short codes h list item tols =
    not_short_then (access_unit h list item tols) _
    (not_short_lent item _
    (not_short_then (list_units list) _ (list_not_short list) (λ us.
    not_short_then (split_item h.length_size item) _ (split_not_short h.length_size item) (λ split.
    some_not_short (arranged item (target_of h tols) us split)))))
    (λ us. tt)
  where
    some_not_short : (us : List Source) → NotShort (not_empty us)
    some_not_short [] = λ e. omega arith
    some_not_short (a ∷ us) = tt

pub record_not_short : (C : List ℕ) (pic : Picture) → NotShort (still_record C pic)
unfolding still_record
record_not_short C pic =
    not_short_then (parse_compact C) _ (compact_not_short C) (λ r.
    not_short_then (to_full r.0.config pic r.1) _ (full_not_short r.0.config pic r.1) (λ full.
    serialize_not_short full.0.head full.1))

pub stream_not_short : (codes : StartCodes) (C S : List ℕ) (tols : Option ℕ) → NotShort (still_stream codes C S tols)
unfolding still_stream stream_with
stream_not_short codes C S tols =
    not_short_lent S _
    (not_short_then (parse_compact C) _ (compact_not_short C) (λ r.
    not_short_then (to_full r.0.config any_picture r.1) _ (full_not_short r.0.config any_picture r.1) (λ full.
    not_short_then (serialize_full full.0.head full.1) _ (serialize_not_short full.0.head full.1) (λ b.
    not_short_then (parse_full b) _ (parse_not_short b) (λ back.
    not_short_then (restore r.0.config S) _ (restore_not_short r.0.config S) (λ item.
    assemble_not_short codes back.0.head back.1 item tols))))))

pub beside_not_short : (codes : StartCodes) (rec item : List ℕ) (tols : Option ℕ)
    → NotShort (and_then (read_beside rec item) (λ r. assemble codes r.0.head r.1 item tols))
unfolding read_beside
beside_not_short codes rec item tols =
    not_short_then (read_beside rec item) _ (not_short_lent item _ (parse_not_short rec)) (λ r. assemble_not_short codes r.0.head r.1 item tols)
