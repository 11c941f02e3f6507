-- Laws of the values at places: the levels step by step from the highest down, and the numbers one by one.
use Prim.Native.Nat.{ℕ, zero, suc, ◌+◌, ◌*◌, ◌/◌, ◌%◌, ◌≤◌, ◌<◌}
use mathlib.Core.Path.{◌≡◌, refl, sym, ap, ◌∙◌}
use mathlib.Core.Bool.{Bool, false}
use mathlib.Core.List.{List, [], ◌∷◌, ◌++◌}
use native.Mathlib.Numerals.{add-one}
use native.Mathlib.Omega.{arith}
use lib.Dec.{eqb}
use lib.ListN.{length, set, drop, replicate, length-append, length-set}
use Rattle.boxes.specs.Bytes.{be}
use Rattle.ptl.specs.Ptl.{padded, present_flags}
use Rattle.std.proofs.lemmas.List.{drop-replicate}
use Rattle.ptl.proofs.Arrays.{padded_more, snoc_store}
use Rattle.ptl_record.specs.inner.Places.{words, levels_len, level_if, levels_at}

pub length_flags : (m f : ℕ) → length (present_flags m f) ≡ m
unfolding present_flags
length_flags zero f = refl
length_flags (suc m) f = rw (length-append, length_flags m (f % 128 * 2)) (omega arith)

pub length_levels : (m f : ℕ) (s : List ℕ) (p : ℕ) → length (levels_at m f s p) ≡ m
unfolding levels_at
length_levels zero f s p = refl
length_levels (suc m) f s p = rw (length-append, length_levels m (f % 128 * 2) s (p + f / 128)) (omega arith)

-- one turn of the walk over the levels
pub len_step : (j f : ℕ) → levels_len (suc j) f ≡ f / 128 + levels_len j (f % 128 * 2)
unfolding levels_len
len_step j f = refl

pub flags_step : (j f : ℕ) (l : List Bool) → j < length l
    → present_flags j (f % 128 * 2) ++ drop j (set l j (eqb (f / 128) 1)) ≡ present_flags (suc j) f ++ drop (suc j) l
unfolding present_flags
flags_step j f l h = sym (snoc_store (present_flags j (f % 128 * 2)) j l (eqb (f / 128) 1) h)

pub levels_step : (j f : ℕ) (s : List ℕ) (p : ℕ) (l : List ℕ) → j < length l
    → levels_at j (f % 128 * 2) s (p + f / 128) ++ drop j (set l j (level_if (f / 128) s p)) ≡ levels_at (suc j) f s p ++ drop (suc j) l
unfolding levels_at
levels_step j f s p l h = sym (snoc_store (levels_at j (f % 128 * 2) s (p + f / 128)) j l (level_if (f / 128) s p) h)

-- the levels at and above i are in the arrays, and those of the flags that are left lie from the next place on
pub record Filled (s : List ℕ) (at flags m : ℕ) (present : List Bool) (idc : List ℕ) (next f i : ℕ) : Type 0 where
  pub low : i ≤ m
  pub byte : f < 256
  pub near : next + i ≤ at + m
  pub place : next + levels_len i f ≡ at + levels_len m flags
  pub flags_long : length present ≡ 7
  pub levels_long : length idc ≡ 7
  pub flags_are : present_flags i f ++ drop i present ≡ padded 7 false (present_flags m flags)
  pub levels_are : levels_at i f s next ++ drop i idc ≡ padded 7 0 (levels_at m flags s at)

module _ (s : List ℕ) (at flags m : ℕ) where
  pub filled_none : flags < 256 → Filled s at flags m (replicate 7 false) (replicate 7 0) at flags m
  filled_none byte = record {
    low = omega arith;
    byte = byte;
    near = omega arith;
    place = refl;
    flags_long = refl;
    levels_long = refl;
    flags_are = rw (length_flags m flags) (ap (λ (l : List Bool). present_flags m flags ++ l) (drop-replicate m 7 false));
    levels_are = rw (length_levels m flags s at) (ap (λ (l : List ℕ). levels_at m flags s at ++ l) (drop-replicate m 7 0));
  }

  module _ (present : List Bool) (idc : List ℕ) (next f j : ℕ) (v : Filled s at flags m present idc next f (suc j)) (few : m ≤ 7) where
    pub filled_more : Filled s at flags m (set present j (eqb (f / 128) 1)) (set idc j (level_if (f / 128) s next)) (next + f / 128) (f % 128 * 2) j
    filled_more = record {
      low = omega (arith, v.low);
      byte = omega arith;
      near = omega (arith, v.near, v.byte);
      place = omega (arith, v.place, len_step j f);
      flags_long = length-set present j (eqb (f / 128) 1) ∙ v.flags_long;
      levels_long = length-set idc j (level_if (f / 128) s next) ∙ v.levels_long;
      flags_are = flags_step j f present (omega (arith, v.low, v.flags_long)) ∙ v.flags_are;
      levels_are = levels_step j f s next idc (omega (arith, v.low, v.levels_long)) ∙ v.levels_are;
    }

pub length_words : (n : ℕ) (s : List ℕ) (p : ℕ) → length (words n s p) ≡ n
unfolding words
length_words zero s p = refl
length_words (suc n) s p = ap suc (length_words n s (p + 4))

words_more : (n : ℕ) (s : List ℕ) (p : ℕ) → words (suc n) s p ≡ words n s p ++ (be s (p + n * 4) 4 ∷ [])
unfolding words
words_more zero s p = ap (λ (q : ℕ). be s q 4 ∷ []) (omega arith)
words_more (suc n) s p =
    let e : p + 4 + n * 4 ≡ p + suc n * 4 = omega arith in
    ap (λ (l : List ℕ). be s p 4 ∷ l) (words_more n s (p + 4) ∙ ap (λ (q : ℕ). words n s (p + 4) ++ (be s q 4 ∷ [])) e)

-- one more number in the array
pub words_store : (N n : ℕ) (s : List ℕ) (p : ℕ) → n < N → set (padded N 0 (words n s p)) n (be s (p + n * 4) 4) ≡ padded N 0 (words (n + 1) s p)
words_store N n s p h = rw (add-one n, words_more n s p) (padded_more N 0 (words n s p) (be s (p + n * 4) 4) n (length_words n s p) h)
