-- Laws of the totals: a table by its elements, each total and the sum of all.
use Prim.Native.Nat.{ℕ, zero, suc, ◌+◌, ◌≤◌, ◌<◌}
use mathlib.Core.Path.{◌≡◌, refl, sym, ap, ◌∙◌}
use mathlib.Core.List.{List, [], ◌∷◌}
use native.Mathlib.Omega.{arith}
use native.Mathlib.Decide.{dec_le, ℕ_discrete}
use lib.ListN.{length, get_or, get_or-eq_default}
use borrow.Author.Tests.{eq-eqb, ne_eqb}
use Rattle.unit_list.specs.UnitList.{largest_type}
use Rattle.directory.specs.Directory.{entries_of_type, table_from, totals_of, sum}
use Rattle.directory.specs.inner.Entries.{TypesFit}
use Rattle.directory.specs.declared.Entry.{Entry}

pub length_table : (i n : ℕ) (f : ℕ → ℕ) → length (table_from i n f) ≡ n
unfolding table_from
length_table i zero f = refl
length_table i (suc n) f = ap suc (length_table (suc i) n f)

pub get_d_table : (i n : ℕ) (f : ℕ → ℕ) (k : ℕ) → k < n → get_or (table_from i n f) k 0 ≡ f (i + k)
unfolding table_from
get_d_table i zero f k h = absurd (omega arith)
get_d_table i (suc n) f zero h = ap f (omega arith)
get_d_table i (suc n) f (suc k) h = get_d_table (suc i) n f k (omega arith) ∙ ap f (omega arith)

pub table_same : (i n : ℕ) (f g : ℕ → ℕ) → ((t : ℕ) → i ≤ t → f t ≡ g t) → table_from i n f ≡ table_from i n g
unfolding table_from
table_same i zero f g h = refl
table_same i (suc n) f g h = rw (h i (omega arith), table_same (suc i) n f g (λ t b. h t (omega arith)))

-- how many entries of a type there are with one more
pub count_here : (t : ℕ) (e : Entry) (es : List Entry) → e.unit_type ≡ t → length (entries_of_type t (e ∷ es)) ≡ suc (length (entries_of_type t es))
unfolding entries_of_type
count_here t e es h = rw (eq-eqb e.unit_type t h)

pub count_other : (t : ℕ) (e : Entry) (es : List Entry) → (e.unit_type ≡ t → ⊥) → length (entries_of_type t (e ∷ es)) ≡ length (entries_of_type t es)
unfolding entries_of_type
count_other t e es h = rw (ne_eqb e.unit_type t h)

-- a table that is one more at x has a sum of one more
sum_more : (i n x : ℕ) (f g : ℕ → ℕ) → i ≤ x → x < i + n → g x ≡ suc (f x) → ((t : ℕ) → (x ≡ t → ⊥) → g t ≡ f t)
    → sum (table_from i n g) ≡ suc (sum (table_from i n f))
unfolding table_from sum
sum_more i zero x f g a b h k = absurd (omega arith)
sum_more i (suc n) x f g a b h k =
    elim (ℕ_discrete x i) [
      | yes e ↦
          let y : g i ≡ suc (f i) = rw e at h in
          rw (y, table_same (suc i) n g f (λ t c. k t (λ z. omega arith))) (omega arith)
      | no e ↦
          rw (k i e, sum_more (suc i) n x f g (omega arith) (omega arith) h k) (omega arith)
    ]

sum_zeros : (i n : ℕ) → sum (table_from i n (λ t. 0)) ≡ 0
unfolding table_from sum
sum_zeros i zero = refl
sum_zeros i (suc n) = let e = sum_zeros (suc i) n in omega arith

-- the totals add up to the number of entries
pub sum_totals : (es : List Entry) → TypesFit es → sum (totals_of es) ≡ length es
unfolding totals_of TypesFit entries_of_type
sum_totals [] h = sum_zeros 0 (suc largest_type)
sum_totals (e ∷ es) h =
    sum_more 0 (suc largest_type) e.unit_type (λ t. length (entries_of_type t es)) (λ t. length (entries_of_type t (e ∷ es)))
    (omega arith) (omega (arith, h.0)) (count_here e.unit_type e es refl) (λ t. count_other t e es)
    ∙ ap suc (sum_totals es h.1)

-- and each is that of its type, also past the last type
none_above : (t : ℕ) (es : List Entry) → TypesFit es → largest_type < t → length (entries_of_type t es) ≡ 0
unfolding TypesFit entries_of_type
none_above t [] h b = refl
none_above t (e ∷ es) h b = count_other t e es (λ z. omega (arith, h.0)) ∙ none_above t es h.1 b

pub total_at : (t : ℕ) (es : List Entry) → TypesFit es → get_or (totals_of es) t 0 ≡ length (entries_of_type t es)
unfolding totals_of
total_at t es h =
    elim (dec_le t largest_type) [
      | yes b ↦ get_d_table 0 (suc largest_type) (λ t. length (entries_of_type t es)) t (omega arith)
          ∙ ap (λ (t : ℕ). length (entries_of_type t es)) (omega arith)
      | no b ↦
          let l = length_table 0 (suc largest_type) (λ t. length (entries_of_type t es)) in
          get_or-eq_default (table_from 0 (suc largest_type) (λ t. length (entries_of_type t es))) 0 {n = t} (omega arith)
          ∙ sym (none_above t es h (omega arith))
    ]
