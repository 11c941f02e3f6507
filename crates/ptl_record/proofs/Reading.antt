-- What the definition of a PTL record reads: its fields where the place after it is within the bytes, else refusal 1, except for refusal 2.
use Prim.Native.Nat.{ℕ, zero, suc, ◌+◌, ◌-◌, ◌*◌, ◌/◌, ◌%◌, ◌≤◌, ◌<◌}
use mathlib.Core.Path.{◌≡◌, refl, ap, ◌∙◌}
use mathlib.Core.Bool.{Bool, true, false}
use mathlib.Core.List.{List, []}
use native.Mathlib.Omega.{arith}
use native.Mathlib.Decide.{dec_le}
use lib.Dec.{ltb}
use lib.ListN.{length, get_or, take, drop}
use lib.Seq.{get_or-take, get_or-drop}
use borrow.Author.Tests.{eq-eqb, ne_eqb, eqb-true, eqb-false}
use Rattle.std.specs.Prelude.{if◌then◌else◌}
use Rattle.parse.specs.Parse.{Parsed, value, refused, bind, give, times}
use Rattle.boxes.specs.Bytes.{be, uint}
use Rattle.boxes.proofs.Fields.{uint_there, uint_short, bytes_there, bytes_short}
use Rattle.boxes.proofs.Numbers.{be_one}
use Rattle.bit_reader.specs.Bits.{is_set}
use Rattle.ptl.specs.Ptl.{padded, present_flags, levels}
use Rattle.ptl_record.specs.Read.{octets, vvc_ptl_record}
use Rattle.ptl_record.specs.inner.Places.{words, levels_len, level_if, levels_at, flags_at, levels_start, count_place, ptl_end, ptl_fields}

-- x is a value that ends at q where q is within the bytes, and refusal 1 where it is not
pub record Reach {A : Type 0} (end : ℕ) (x : Parsed A) (a : A) (q : ℕ) : Type 0 where
  pub there : q ≤ end → x ≡ value a q
  pub short : end < q → x ≡ refused 1

module _ {A B : Type 0} {end : ℕ} {x : Parsed A} {a : A} {q : ℕ} (f : A → ℕ → Parsed B) {b : B} {r : ℕ} where
  -- one read after another
  pub reach_bind : Reach end x a q → q ≤ r → (q ≤ end → Reach end (f a q) b r) → Reach end (bind x f) b r
  reach_bind m h n = record {
    there = λ l. let k : q ≤ end = omega arith in ap (λ (y : Parsed A). bind y f) (m.there k) ∙ (n k).there l;
    short = λ l.
        elim (dec_le q end) [
          | yes k ↦ ap (λ (y : Parsed A). bind y f) (m.there k) ∙ (n k).short l
          | no k ↦ ap (λ (y : Parsed A). bind y f) (m.short (omega arith))
        ];
  }

-- a value at a place within the bytes
pub reach_value : {A : Type 0} {end : ℕ} (a : A) (q : ℕ) → q ≤ end → Reach end (value a q) a q
reach_value a q h = record { there = λ l. refl; short = λ l. absurd (omega arith) }

only_zero : (m : ℕ) → m ≤ 1 → (m ≡ 1 → ⊥) → m ≡ 0
only_zero zero h n = refl
only_zero (suc zero) h n = absurd (n refl)
only_zero (suc (suc m)) h n = absurd (omega arith)

module _ (s : List ℕ) where
  pub reach_uint : (w p : ℕ) → Reach (length s) (uint w s p) (be s p w) (p + w)
  reach_uint w p = record { there = λ h. uint_there w s p h; short = λ h. uint_short w s p h }

  pub reach_byte : (p : ℕ) → Reach (length s) (uint 1 s p) (get_or s p 0) (p + 1)
  reach_byte p = rw (be_one s p) at (reach_uint 1 p)

  pub reach_byte_to : (p q : ℕ) → p + 1 ≡ q → Reach (length s) (uint 1 s p) (get_or s p 0) q
  reach_byte_to p q e = rw e at (reach_byte p)

  pub reach_octets : (n p : ℕ) → Reach (length s) (octets n s p) (take n (drop p s)) (p + n)
  unfolding octets
  reach_octets n p = record { there = λ h. rw (bytes_there n s p h); short = λ h. rw (bytes_short n s p h) }

  reach_words : (n p : ℕ) → p ≤ length s → Reach (length s) (times n (uint 4) s p) (words n s p) (p + n * 4)
  unfolding times words
  reach_words zero p h = let e : p + 0 * 4 ≡ p = omega arith in rw e (reach_value [] p h)
  reach_words (suc n) p h =
      let e : p + 4 + n * 4 ≡ p + suc n * 4 = omega arith in
      reach_bind _ (reach_uint 4 p) (omega arith)
      (λ k. reach_bind _ (rw e at (reach_words n (p + 4) k)) (omega arith) (λ l. reach_value _ _ l))

  -- above one sublayer a byte of flags
  reach_flags : (sublayers p : ℕ) → p ≤ length s
      → Reach (length s) ((if ltb 1 sublayers then uint 1 else give 0) s p) (flags_at sublayers s p) (levels_start sublayers p)
  reach_flags sublayers p h = go (ltb 1 sublayers)
    where
      go : (t : Bool) → Reach (length s) ((if t then uint 1 else give 0) s p) (if t then get_or s p 0 else 0) (if t then p + 1 else p)
      go true = reach_byte p
      go false = reach_value 0 p h

  -- the level after a flag
  reach_level : (f p : ℕ) → f < 256 → p ≤ length s
      → Reach (length s) ((if is_set (f / 128) then uint 1 else give 0) s p) (level_if (f / 128) s p) (p + f / 128)
  reach_level f p h k = go (is_set (f / 128)) refl
    where
      go : (t : Bool) → is_set (f / 128) ≡ t → Reach (length s) ((if t then uint 1 else give 0) s p) (if t then get_or s p 0 else 0) (p + f / 128)
      go true e = let d : f / 128 ≡ 1 = eqb-true (f / 128) 1 e in rw d (reach_byte p)
      go false e =
          let z : f / 128 ≡ 0 = only_zero (f / 128) (omega arith) (eqb-false (f / 128) 1 e) in
          let d : p + f / 128 ≡ p = omega arith in
          rw d (reach_value 0 p k)

  pub reach_levels : (m f p : ℕ) → f < 256 → p ≤ length s → Reach (length s) (levels (uint 1) m f s p) (levels_at m f s p) (p + levels_len m f)
  unfolding levels levels_at levels_len
  reach_levels zero f p h k = let e : p + 0 ≡ p = omega arith in rw e (reach_value [] p k)
  reach_levels (suc m) f p h k =
      let e : p + f / 128 + levels_len m (f % 128 * 2) ≡ p + (f / 128 + levels_len m (f % 128 * 2)) = omega arith in
      reach_bind _ (reach_level f p h k) (omega arith)
      (λ l. reach_bind _ (rw e at (reach_levels m (f % 128 * 2) (p + f / 128) (omega arith) l)) (omega arith) (λ o. reach_value _ _ o))

-- the first constraint byte
pub first_is : (s : List ℕ) (p n : ℕ) → 0 < n → get_or (take n (drop p s)) 0 0 ≡ get_or s p 0
first_is s p n h = get_or-take n (drop p s) 0 0 h ∙ get_or-drop p s 0 0 ∙ ap (λ (k : ℕ). get_or s k 0) (omega arith)

module _ (sublayers : ℕ) (s : List ℕ) (at : ℕ) where
  pub reads_none : length s ≤ at → vvc_ptl_record sublayers s at ≡ refused 1
  unfolding vvc_ptl_record
  reads_none h = rw (uint_short 1 s at (omega arith))

  module _ (h : at < length s) where
    -- the first byte
    abbrev first : uint 1 s at ≡ value (get_or s at 0) (at + 1)
    first = (reach_byte s at).there (omega arith)

    pub reads_zero : get_or s at 0 % 64 ≡ 0 → vvc_ptl_record sublayers s at ≡ refused 2
    unfolding vvc_ptl_record
    reads_zero e = rw (first, eq-eqb (get_or s at 0 % 64) 0 e)

    module _ (n : ℕ) (is : n ≡ get_or s at 0 % 64) (some : 0 < n) (byte : flags_at sublayers s (at + 3 + n) < 256) where
      abbrev after : ℕ
      after = at + 3 + n

      abbrev m : ℕ
      m = sublayers - 1

      abbrev flags : ℕ
      flags = flags_at sublayers s after

      abbrev from : ℕ
      from = levels_start sublayers after

      abbrev count : ℕ
      count = count_place s at n sublayers

      start_near : (t : Bool) (p : ℕ) → p ≤ (if t then p + 1 else p)
      start_near true p = omega arith
      start_near false p = omega arith

      pub reads_after : Reach (length s) (vvc_ptl_record sublayers s at)
          (ptl_fields s at n m (padded 7 false (present_flags m flags)) (padded 7 0 (levels_at m flags s from)) count) (ptl_end s count)
      unfolding vvc_ptl_record
      reads_after =
          let l = start_near (ltb 1 sublayers) after in
          rw (first, ← is, ne_eqb n 0 (λ e. omega arith), ← first_is s (at + 3) n some)
          (reach_bind _ (reach_byte_to s (at + 1) (at + 2) (omega arith)) (omega arith)
          (λ _. reach_bind _ (reach_byte_to s (at + 2) (at + 3) (omega arith)) (omega arith)
          (λ _. reach_bind _ (reach_octets s n (at + 3)) (omega arith)
          (λ k. reach_bind _ (reach_flags s sublayers after k) (omega arith)
          (λ k. reach_bind _ (reach_levels s m flags from byte k) (omega arith)
          (λ _. reach_bind _ (reach_byte s count) (omega arith)
          (λ k. reach_bind _ (reach_words s (get_or s count 0) (count + 1) k) (omega arith)
          (λ k. reach_value _ _ k))))))))
