-- A PTL record that was read from a list of bytes, written again: its bytes lie where it was read, except for the reserved bits.
use Prim.Native.Nat.{ℕ, zero, suc, ◌+◌, ◌-◌, ◌*◌, ◌/◌, ◌%◌, ◌^◌, ◌≤◌, ◌<◌}
use mathlib.Core.Path.{◌≡◌, refl, sym, ap, ◌∙◌}
use mathlib.Core.Bool.{Bool, true, false, ◌&&◌}
use mathlib.Core.List.{List, [], ◌∷◌, ◌++◌}
use native.Mathlib.Omega.{arith}
use native.Mathlib.Decide.{dec_le}
use lib.Dec.{ltb, eqb}
use lib.ListN.{length, get_or, take, drop, replicate, length-append, length-drop, get_or-append}
use lib.Seq.{length-take-le, get_or_at}
use borrow.Author.Tests.{le-leb, lt-ltb, ltb-true, ltb-false, eq-eqb, ne_eqb, eqb-true}
use Rattle.std.specs.Prelude.{if◌then◌else◌}
use Rattle.parse.specs.Logic.{bit}
use Rattle.parse.specs.Parse.{value}
use Rattle.parse.proofs.General.{if_elim, bit_flag}
use Rattle.parse.proofs.Gives.{Gives, gives_value, gives_refused}
use Rattle.boxes.specs.Bytes.{be, to_be, uint, AllBytes}
use Rattle.boxes.proofs.Gives.{gives_uint}
use Rattle.boxes.proofs.Numbers.{be_one, length_to_be}
use Rattle.bit_reader.specs.Bits.{is_set}
use Rattle.ptl.specs.Ptl.{padded, present_flags, without_flags}
use Rattle.ptl.specs.declared.VvcPtlRecord.{VvcPtlRecord}
use Rattle.ptl_bits.proofs.Bounds.{levels_read}
use Rattle.ptl_bits.proofs.ConstraintInfo.{length_without}
use Rattle.ptl_bits.proofs.SublayerLevels.{flags_length}
use Rattle.ptl_record.specs.Read.{vvc_ptl_record}
use Rattle.ptl_record.specs.Write.{constraint_info, with_flags, has_level, flag_byte, level_bytes}
use Rattle.ptl_record.specs.Write.{level_part, sub_profile_bytes, front_bytes, ptl_bytes, ptl_fits}
use Rattle.ptl_record.specs.inner.Places.{words, levels_len, level_if, levels_at, flags_at, levels_start, count_place, ptl_end, ptl_fields, one_level}
use Rattle.ptl_record.proofs.Reading.{reach_levels, first_is, reads_none, reads_zero, reads_after}
use Rattle.ptl_record.proofs.Standing.{Stands, length_one}
use Rattle.ptl_record.proofs.AsWritten.{take_padded}
use Rattle.ptl_record.proofs.Writing.{levels_split, length_front}
use Rattle.full.specs.Rules.{flags_reserved}
use Rattle.rewritten.proofs.Parts.{Rewrites, stands_join, stands_byte, stands_number, stands_none, stands_part}
use Rattle.rewritten.proofs.Parts.{rewrites_same, rewrites_byte, rewrites_append, rewrites_then}

-- ---- the constraint bytes

-- the two flags are put back where they were taken from
flags_restored : (p : VvcPtlRecord) (xs : List ℕ) → get_or xs 0 0 < 256 → p.ptl_frame_only_constraint_flag ≡ is_set (get_or xs 0 0 / 128)
    → p.ptl_multilayer_enabled_flag ≡ is_set (get_or xs 0 0 / 64 % 2) → with_flags p (without_flags xs) ≡ xs
unfolding with_flags without_flags
flags_restored p [] h a b = refl
flags_restored p (x ∷ xs) h a b =
    rw (a, b, bit_flag (x / 128) (omega arith), bit_flag (x / 64 % 2) (omega arith)) (ap (λ (y : ℕ). y ∷ xs) (omega arith))

-- ---- the sub-profiles

-- the numbers again, whatever follows them
take_words : (n : ℕ) (s : List ℕ) (p : ℕ) (t : List ℕ) → take n (words n s p ++ t) ≡ words n s p
unfolding words
take_words zero s p t = refl
take_words (suc n) s p t = ap (λ (l : List ℕ). be s p 4 ∷ l) (take_words n s (p + 4) t)

-- the bytes of n numbers of four bytes lie at p, where they were read, and are all of them
record WordsStand (s : List ℕ) (n p : ℕ) : Type 0 where
  stand : Stands s p (sub_profile_bytes (words n s p))
  long : length (sub_profile_bytes (words n s p)) ≡ n * 4

-- numbers of four bytes that were read lie where they were read
words_stand : (s : List ℕ) → AllBytes s → (n p : ℕ) → p + n * 4 ≤ length s → WordsStand s n p
unfolding words sub_profile_bytes
words_stand s all zero p h = record { stand = stands_none s p (omega arith); long = refl }
words_stand s all (suc n) p h =
    let l = length_to_be 4 (be s p 4) in
    let r = words_stand s all n (p + 4) (omega arith) in
    record {
      stand = stands_join s p (to_be 4 (be s p 4)) _ (stands_number s all 4 p (omega arith)) (rw l r.stand);
      long = length-append (to_be 4 (be s p 4)) (sub_profile_bytes (words n s (p + 4))) ∙ omega (arith, r.long);
    }

-- ---- the levels

-- one flag more in the byte: f's top bit, and g for the bits below it
flag_step : (m f g : ℕ) → m < 7 → f < 256 → g + f % 128 * 2 % 2 ^ (8 - m) ≡ f % 128 * 2 → f / 128 * 128 + g / 2 + f % 2 ^ (8 - suc m) ≡ f
flag_step zero f g h k e = let a : f % 128 * 2 % 256 ≡ f % 128 * 2 = omega arith in omega arith
flag_step (suc zero) f g h k e = let a : f % 128 * 2 % 128 ≡ f % 64 * 2 = omega arith in omega arith
flag_step (suc (suc zero)) f g h k e = let a : f % 128 * 2 % 64 ≡ f % 32 * 2 = omega arith in omega arith
flag_step (suc (suc (suc zero))) f g h k e = let a : f % 128 * 2 % 32 ≡ f % 16 * 2 = omega arith in omega arith
flag_step (suc (suc (suc (suc zero)))) f g h k e = let a : f % 128 * 2 % 16 ≡ f % 8 * 2 = omega arith in omega arith
flag_step (suc (suc (suc (suc (suc zero))))) f g h k e = let a : f % 128 * 2 % 8 ≡ f % 4 * 2 = omega arith in omega arith
flag_step (suc (suc (suc (suc (suc (suc zero)))))) f g h k e = let a : f % 128 * 2 % 4 ≡ f % 2 * 2 = omega arith in omega arith
flag_step (suc (suc (suc (suc (suc (suc (suc m))))))) f g h k e = absurd (omega arith)

-- p's levels of sublayers 0 to m - 1 are those that the top flags of f announce at place q
record LevelsIn (s : List ℕ) (p : VvcPtlRecord) (m f q : ℕ) : Type 0 where
  byte : f < 256
  inside : q + levels_len m f ≤ length s
  has : (k : ℕ) → k < m → has_level p k ≡ get_or (present_flags m f) k false
  idc : (k : ℕ) → k < m → get_or p.sublayer_level_idc k 0 ≡ get_or (levels_at m f s q) k 0

-- the bytes of p's levels lie at q, as many as f announces
record LevelsStand (s : List ℕ) (p : VvcPtlRecord) (m f q : ℕ) : Type 0 where
  stand : Stands s q (level_bytes p m)
  long : length (level_bytes p m) ≡ levels_len m f

-- p's flag byte and levels, where the flag byte was read at a; t says whether there is one
record PartAgain (s : List ℕ) (p : VvcPtlRecord) (sublayers a : ℕ) (t : Bool) : Type 0 where
  same : Rewrites s a (if t then flag_byte p (sublayers - 1) ∷ level_bytes p (sublayers - 1) else [])
      (if t then eqb (get_or s a 0 % 2 ^ (9 - sublayers)) 0 else true)
  long : a + length (if t then flag_byte p (sublayers - 1) ∷ level_bytes p (sublayers - 1) else [])
      ≡ (if t then a + 1 else a) + levels_len (sublayers - 1) (if t then get_or s a 0 else 0)

-- one level is read for each sublayer
count_levels : (s : List ℕ) → AllBytes s → (m f q : ℕ) → f < 256 → q + levels_len m f ≤ length s → length (levels_at m f s q) ≡ m
count_levels s all m f q h k = (levels_read (uint 1) s byte_read m f q _ _ ((reach_levels s m f q h (omega arith)).there k)).count
  where
    byte_read : (i v r : ℕ) → uint 1 s i ≡ value v r → v < 256
    byte_read i v r e = let g = (gives_uint s 1 i).at v r e in omega (arith, g.is, be_one s i, all i)

-- a level lies where it was read
one_stand : (s : List ℕ) (f q : ℕ) → q + f / 128 ≤ length s → Stands s q (one_level (is_set (f / 128)) (level_if (f / 128) s q))
one_stand s f q h = go (is_set (f / 128)) refl
  where
    go : (t : Bool) → is_set (f / 128) ≡ t → Stands s q (one_level t (if t then get_or s q 0 else 0))
    go true e = let d : f / 128 ≡ 1 = eqb-true (f / 128) 1 e in stands_byte s q (get_or s q 0) (omega arith) refl
    go false e = stands_none s q (omega arith)

module _ (s : List ℕ) (all : AllBytes s) (p : VvcPtlRecord) where
  module _ (m f q : ℕ) (ls : LevelsIn s p (suc m) f q) where
    -- the flags below the top one, and the place after its level
    abbrev g : ℕ
    g = f % 128 * 2

    abbrev r : ℕ
    r = q + f / 128

    -- the levels below the top one are within the bytes
    inside_below : r + levels_len m g ≤ length s
    unfolding levels_len
    inside_below = omega (arith, ls.inside)

    -- and there is one for each sublayer
    count_below : length (levels_at m g s r) ≡ m
    count_below = count_levels s all m g r (omega arith) inside_below

    -- they are those that the flags below the top one announce
    levels_below : LevelsIn s p m g r
    unfolding present_flags levels_at
    levels_below =
        let n = flags_length m g in
        let l = count_below in
        record {
          byte = omega arith;
          inside = inside_below;
          has = λ k h. ls.has k (omega arith) ∙ get_or-append (present_flags m g) _ false k (omega arith);
          idc = λ k h. ls.idc k (omega arith) ∙ get_or-append (levels_at m g s r) _ 0 k (omega arith);
        }

    -- the top flag
    has_top : has_level p m ≡ is_set (f / 128)
    unfolding present_flags
    has_top = ls.has m (omega arith) ∙ get_or_at (present_flags m g) _ [] false m (flags_length m g)

    -- the top flag as a number
    bit_top : bit (has_level p m) ≡ f / 128
    bit_top = ap bit has_top ∙ bit_flag (f / 128) (omega (arith, ls.byte))

    -- its level
    idc_top : get_or p.sublayer_level_idc m 0 ≡ level_if (f / 128) s q
    unfolding levels_at
    idc_top = ls.idc m (omega arith) ∙ get_or_at (levels_at m g s r) _ [] 0 m count_below

  -- the flag byte is f without the bits below its flags
  flag_again : (m f q : ℕ) → m ≤ 7 → LevelsIn s p m f q → flag_byte p m + f % 2 ^ (8 - m) ≡ f
  unfolding flag_byte
  flag_again zero f q h ls = omega (arith, ls.byte)
  flag_again (suc m) f q h ls =
      rw (bit_top m f q ls)
      (flag_step m f (flag_byte p m) h ls.byte (flag_again m (f % 128 * 2) (q + f / 128) (omega arith) (levels_below m f q ls)))

  -- the level bytes lie where the levels were read
  levels_stand : (m f q : ℕ) → LevelsIn s p m f q → LevelsStand s p m f q
  unfolding level_bytes levels_len
  levels_stand zero f q ls = record { stand = stands_none s q (omega (arith, ls.inside)); long = refl }
  levels_stand (suc m) f q ls =
      let o = one_level (has_level p m) (get_or p.sublayer_level_idc m 0) in
      let i = inside_below m f q ls in
      let st : Stands s q o = rw (has_top m f q ls, idc_top m f q ls) (one_stand s f q (omega arith)) in
      let n : length o ≡ f / 128 = length_one p (has_level p m) (get_or p.sublayer_level_idc m 0) ∙ bit_top m f q ls in
      let r = levels_stand m (f % 128 * 2) (q + f / 128) (levels_below m f q ls) in
      record {
        stand = rw (← levels_split p m) at (stands_join s q o (level_bytes p m) st (rw n r.stand));
        long = ap length (levels_split p m) ∙ length-append o (level_bytes p m) ∙ omega (arith, r.long);
      }

  -- the flag byte and the level bytes lie where they were read exactly when the bits below the flags are 0
  part_again : (sublayers a : ℕ) → sublayers ≤ 7 → (t : Bool) → ltb 1 sublayers ≡ t
      → LevelsIn s p (sublayers - 1) (if t then get_or s a 0 else 0) (if t then a + 1 else a) → PartAgain s p sublayers a t
  unfolding levels_len
  part_again sublayers a few true e ls =
      let some = ltb-true 1 sublayers e in
      let i = ls.inside in
      let st = levels_stand (sublayers - 1) (get_or s a 0) (a + 1) ls in
      let w : 8 - (sublayers - 1) ≡ 9 - sublayers = omega arith in
      let f = rw w at (flag_again (sublayers - 1) (get_or s a 0) (a + 1) (omega arith) ls) in
      record {
        same = rewrites_then s a (flag_byte p (sublayers - 1) ∷ []) (level_bytes p (sublayers - 1)) _
            (rewrites_byte s a (flag_byte p (sublayers - 1)) (eqb (get_or s a 0 % 2 ^ (9 - sublayers)) 0) (omega arith)
            (λ d. let z = eqb-true (get_or s a 0 % 2 ^ (9 - sublayers)) 0 d in omega arith)
            (λ d. eq-eqb (get_or s a 0 % 2 ^ (9 - sublayers)) 0 (omega arith)))
            st.stand;
        long = omega (arith, st.long);
      }
  part_again sublayers a few false e ls =
      let z : sublayers - 1 ≡ 0 = omega (arith, ltb-false 1 sublayers e) in
      record { same = rewrites_same s a [] (stands_none s a (omega (arith, ls.inside))); long = rw z refl }

-- ---- the whole record

-- a PTL p that was read of s at a place, up to q: it fits, and its bytes lie there exactly when the reserved bits are the standard's
pub record PtlAgain (s : List ℕ) (sublayers at : ℕ) (p : VvcPtlRecord) (q : ℕ) : Type 0 where
  pub fits : ptl_fits p ≡ true
  pub next : q ≡ at + length (ptl_bytes p sublayers)
  pub same : Rewrites s at (ptl_bytes p sublayers)
      (eqb (get_or s at 0 / 64) 0 && flags_reserved sublayers (get_or s (at + 3 + p.num_bytes_constraint_info) 0))

-- the PTL at a place, with n constraint bytes
module _ (s : List ℕ) (all : AllBytes s) (sublayers at : ℕ) (few : sublayers ≤ 7) (n : ℕ) (is : n ≡ get_or s at 0 % 64) (some : 0 < n) where
  -- the place of the flag byte, the number of levels, the flag byte, where the levels start, and where the sub-profile count lies
  abbrev after : ℕ
  after = at + 3 + n

  abbrev m : ℕ
  m = sublayers - 1

  abbrev flags : ℕ
  flags = flags_at sublayers s after

  abbrev from : ℕ
  from = levels_start sublayers after

  abbrev count : ℕ
  count = count_place s at n sublayers

  -- what is read
  abbrev read : VvcPtlRecord
  read = ptl_fields s at n m (padded 7 false (present_flags m flags)) (padded 7 0 (levels_at m flags s from)) count

  -- the flag byte is a byte
  flags_small : flags < 256
  flags_small = if_elim (λ (x : ℕ). x < 256) (ltb 1 sublayers) (get_or s after 0) 0 (all after) (omega arith)

  -- the levels do not start before it
  from_near : after ≤ from
  from_near = if_elim (λ (x : ℕ). after ≤ x) (ltb 1 sublayers) (after + 1) after (omega arith) (omega arith)

  module _ (end : ptl_end s count ≤ length s) where
    -- every value fits its field
    fits_again : ptl_fits read ≡ true
    unfolding ptl_fits
    fits_again =
        let b = all (at + 1) in let c = all count in
        rw (
          le-leb (get_or s (at + 1) 0 / 2) 127 (omega arith),
          le-leb n 63 (omega arith),
          le-leb m 7 (omega arith),
          le-leb (get_or s count 0) 255 (omega arith),
        )

    -- the constraint bytes where they were read
    abbrev info : List ℕ
    info = take n (drop (at + 3) s)

    -- there are n of them
    info_there : length info ≡ n
    info_there = let f = from_near in length-take-le n (drop (at + 3) s) (omega (arith, length-drop (at + 3) s))

    -- those that are written, before the two flags are put in
    info_is : constraint_info read ≡ without_flags info
    info_is =
        rw (ne_eqb n 0 (λ e. omega arith))
        (ap (λ (k : ℕ). take k (padded 63 0 (without_flags info))) (sym (length_without info ∙ info_there)) ∙ take_padded 63 0 (without_flags info))

    -- and after
    restored : with_flags read (constraint_info read) ≡ info
    restored =
        let e = first_is s (at + 3) n some in
        ap (with_flags read) info_is
        ∙ flags_restored read info (omega (arith, all (at + 3))) (rw e) (rw e)

    -- as many are written as were read
    info_count : length (constraint_info read) ≡ n
    info_count = ap length info_is ∙ length_without info ∙ info_there

    -- the levels: there is one for each sublayer below the highest
    levels_long : length (levels_at m flags s from) ≡ m
    levels_long = count_levels s all m flags from flags_small (omega (arith, end))

    -- they are in the arrays of what is read
    levels_in : LevelsIn s read m flags from
    levels_in = record {
      byte = flags_small;
      inside = omega (arith, end);
      has = λ k h. rw (lt-ltb k m h) (get_or-append (present_flags m flags) _ false k (omega (arith, flags_length m flags)));
      idc = λ k h. get_or-append (levels_at m flags s from) _ 0 k (omega (arith, levels_long));
    }

    -- they lie where they were read
    levels_again : PartAgain s read sublayers after (ltb 1 sublayers)
    levels_again = part_again s all read sublayers after few (ltb 1 sublayers) refl levels_in

    -- the sub-profiles: those that are written are those that were read
    subs_is : take (get_or s count 0) read.general_sub_profile_idc ≡ words (get_or s count 0) s (count + 1)
    subs_is = take_words (get_or s count 0) s (count + 1) (replicate (255 - length (words (get_or s count 0) s (count + 1))) 0)

    -- they lie where they were read
    subs_stand : WordsStand s (get_or s count 0) (count + 1)
    subs_stand = words_stand s all (get_or s count 0) (count + 1) (omega (arith, end))

    -- the reserved bits before the number of constraint bytes
    abbrev ok : Bool
    ok = eqb (get_or s at 0 / 64) 0

    -- the bytes before the levels lie where they were read exactly when these are 0
    front_again : Rewrites s at (front_bytes read) ok
    front_again =
        let f = from_near in
        let b = bit_flag (get_or s (at + 1) 0 % 2) (omega arith) in
        let byte : Rewrites s at (length (constraint_info read) ∷ []) ok =
        rewrites_byte s at (length (constraint_info read)) ok (omega arith)
        (λ d. let z = eqb-true (get_or s at 0 / 64) 0 d in omega (arith, info_count))
        (λ d. eq-eqb (get_or s at 0 / 64) 0 (omega (arith, info_count))) in
        rewrites_then s at (_ ∷ _ ∷ _ ∷ []) (with_flags read (constraint_info read)) ok
        (rewrites_then s at (_ ∷ _ ∷ []) (_ ∷ []) ok
        (rewrites_then s at (_ ∷ []) (_ ∷ []) ok byte (stands_byte s (at + 1) _ (omega arith) (omega arith)))
        (stands_byte s (at + 2) _ (omega arith) refl))
        (rw restored (stands_part s (at + 3) n (omega arith)))

    -- the parts of the bytes: those before the levels, the levels, the count, the sub-profiles
    abbrev F : List ℕ
    F = front_bytes read

    abbrev L : List ℕ
    L = level_part read sublayers

    abbrev N : List ℕ
    N = get_or s count 0 ∷ []

    abbrev S : List ℕ
    S = sub_profile_bytes (take (get_or s count 0) read.general_sub_profile_idc)

    -- where each part ends
    front_end : at + length F ≡ after
    front_end = omega (arith, length_front read, info_count)

    levels_end : at + length (F ++ L) ≡ count
    levels_end = omega (arith, length-append F L, front_end, levels_again.long)

    count_end : at + length ((F ++ L) ++ N) ≡ count + 1
    count_end = omega (arith, length-append (F ++ L) N, levels_end)

    subs_end : at + length (((F ++ L) ++ N) ++ S) ≡ ptl_end s count
    subs_end =
        omega (arith, length-append ((F ++ L) ++ N) S, count_end, ap (λ (l : List ℕ). length (sub_profile_bytes l)) subs_is, subs_stand.long)

    -- what is read, written again
    read_again : PtlAgain s sublayers at read (ptl_end s count)
    unfolding ptl_bytes
    read_again = record {
      fits = fits_again;
      next = sym subs_end;
      same = rewrites_then s at ((F ++ L) ++ N) S _
          (rewrites_then s at (F ++ L) N _
          (rewrites_append s at F L ok (flags_reserved sublayers (get_or s after 0)) front_again (rw front_end levels_again.same))
          (rw levels_end (stands_byte s count (get_or s count 0) (omega (arith, end)) refl)))
          (rw (count_end, subs_is) subs_stand.stand);
    }

  -- whatever is read with at least one constraint byte is written again
  read_some : at < length s → Gives (vvc_ptl_record sublayers s at) (PtlAgain s sublayers at)
  read_some h =
      let r = reads_after sublayers s at h n is some flags_small in
      elim (dec_le (ptl_end s count) (length s)) [
        | yes k ↦ rw (r.there k) (gives_value read (ptl_end s count) (read_again k))
        | no k ↦ rw (r.short (omega arith)) (gives_refused 1)
      ]

-- a PTL that is read, written again
pub ptl_again : (s : List ℕ) → AllBytes s → (sublayers at : ℕ) → sublayers ≤ 7 → Gives (vvc_ptl_record sublayers s at) (PtlAgain s sublayers at)
ptl_again s all sublayers at few =
    elim (dec_le (length s) at) [
      | yes h ↦ rw (reads_none sublayers s at h) (gives_refused 1)
      | no h ↦
          elim (dec_le 1 (get_or s at 0 % 64)) [
            | no k ↦ rw (reads_zero sublayers s at (omega arith) (omega arith)) (gives_refused 2)
            | yes k ↦ read_some s all sublayers at few (get_or s at 0 % 64) refl k (omega arith)
          ]
    ]
