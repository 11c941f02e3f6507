-- Laws of totals to which entries are added, one after another.
use Prim.Native.Nat.{ℕ, suc, ◌+◌, ◌≤◌}
use mathlib.Core.Path.{◌≡◌, refl, sym, ap, ◌∙◌}
use mathlib.Core.List.{List, [], ◌∷◌}
use native.Mathlib.Omega.{arith}
use native.Mathlib.Decide.{dec_le, ℕ_discrete}
use lib.ListN.{length, get_or, set, replicate, get_or-replicate, length-replicate, get_or-eq_default}
use lib.Seq.{ext_get_or, get_or-set_same, get_or-set_other}
use Rattle.unit_list.specs.UnitList.{largest_type}
use Rattle.directory.specs.Directory.{entries_of_type, table_from, totals_of}
use Rattle.directory.specs.declared.Entry.{Entry}
use Rattle.directory.proofs.Totals.{length_table, get_d_table, table_same, count_here, count_other}
use Rattle.directory_fill.specs.inner.Entries.{totals_plus}

-- a list is a table of its elements
table_list : (xs : List ℕ) (n : ℕ) (f : ℕ → ℕ) → length xs ≡ n → ((t : ℕ) → f t ≡ get_or xs t 0) → table_from 0 n f ≡ xs
table_list xs n f l h =
    let m = length_table 0 n f in
    ext_get_or 0 (table_from 0 n f) xs (m ∙ sym l) (λ k b. get_d_table 0 n f k (omega arith) ∙ ap f (omega arith) ∙ h k)

-- zeros with entries added are the totals of the entries
pub zeros_at : (t : ℕ) → get_or (replicate {A = ℕ} 64 0) t 0 ≡ 0
zeros_at t =
    elim (dec_le 64 t) [
      | yes h ↦ get_or-eq_default (replicate 64 0) 0 {n = t} (omega (arith, length-replicate {A = ℕ} 64 0))
      | no h ↦ get_or-replicate 64 t 0 0 (omega arith)
    ]

pub plus_zeros : (es : List Entry) → totals_plus (replicate 64 0) es ≡ totals_of es
unfolding totals_plus totals_of
plus_zeros es = table_same 0 64 _ _ (λ t b. let z = zeros_at t in omega arith)

module _ (totals : List ℕ) (all : length totals ≡ suc largest_type) where
  pub plus_none : totals_plus totals [] ≡ totals
  unfolding totals_plus entries_of_type
  plus_none = table_list totals (suc largest_type) _ all (λ t. omega arith)

  -- one entry more: the total of its type is one more
  pub plus_more : (e : Entry) (es : List Entry) → e.unit_type ≤ largest_type
      → totals_plus (set totals e.unit_type (get_or totals e.unit_type 0 + 1)) es ≡ totals_plus totals (e ∷ es)
  unfolding totals_plus
  plus_more e es h = table_same 0 (suc largest_type) _ _ (λ t b. one t)
    where
      one : (t : ℕ) → get_or (set totals e.unit_type (get_or totals e.unit_type 0 + 1)) t 0 + length (entries_of_type t es)
          ≡ get_or totals t 0 + length (entries_of_type t (e ∷ es))
      one t =
          elim (ℕ_discrete e.unit_type t) [
            | yes g ↦ rw (← g) (omega (
              arith,
              count_here e.unit_type e es refl,
              get_or-set_same totals e.unit_type (get_or totals e.unit_type 0 + 1) 0 (omega arith),
            ))
            | no g ↦ omega (
              arith,
              count_other t e es g,
              get_or-set_other totals e.unit_type t (get_or totals e.unit_type 0 + 1) 0 (λ f. g (sym f)),
            )
          ]
