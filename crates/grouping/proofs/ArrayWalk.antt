-- Laws of a walk that takes the array of a type at its first unit: what is done and what is left are the whole.
use Prim.Native.Nat.{ℕ, ◌+◌, ◌*◌, ◌^◌, ◌≤◌}
use mathlib.Core.Path.{◌≡◌, refl, sym, ap, ◌∙◌, subst}
use mathlib.Core.Bool.{Bool, true, false}
use mathlib.Core.List.{List, [], ◌∷◌, ◌++◌}
use native.Mathlib.Omega.{arith}
use lib.ListN.{length, get_or, set, replicate, length-append}
use lib.Seq.{sets, length-sets}
use Rattle.parse.proofs.General.{sets_append}
use Rattle.nal.specs.Header.{largest_unit_type, type_or31}
use Rattle.nal.specs.inner.Kinds.{unit_types}
use Rattle.unit_list.specs.UnitList.{encode_array, encode_arrays, list_width}
use Rattle.grouping.specs.Grouping.{group, grouped}
use Rattle.grouping.specs.inner.Units.{Turn}
use Rattle.grouping.proofs.FirstAppearance.{among, Marks, marks_start, marks_more, arrays_left, arrays_all}
use Rattle.grouping.proofs.FirstAppearance.{arrays_none, arrays_met, arrays_new, array_long, group_bytes}

-- the bytes of all arrays
abbrev pub all_arrays : List (List ℕ) → List ℕ
all_arrays us = encode_arrays list_width (grouped us)

-- the mark at k is whether the type t of the next unit has been met
module _ (us left : List (List ℕ)) (p : ℕ) (seen : List Bool) (met : List ℕ) (m : Marks seen met) (u : List ℕ) (rest : List (List ℕ)) (q : ℕ)
    (w : Turn left p u rest q) (t k : ℕ) (h : t ≡ type_or31 u) (small : t ≤ largest_unit_type) (i : k ≡ t) where
  come_met : get_or seen k false ≡ true → arrays_left us met left ≡ arrays_left us met rest
  come_met e =
      ap (arrays_left us met) w.units
      ∙ arrays_met us met u rest (ap (λ (x : ℕ). among x met) (sym (i ∙ h)) ∙ sym (m.each k (omega arith)) ∙ e)

  come_new : get_or seen k false ≡ false → arrays_left us met left ≡ encode_array list_width (group us t) ++ arrays_left us (t ∷ met) rest
  come_new e =
      ap (arrays_left us met) w.units
      ∙ arrays_new us met u rest (ap (λ (x : ℕ). among x met) (sym (i ∙ h)) ∙ sym (m.each k (omega arith)) ∙ e)
      ∙ ap (λ (x : ℕ). encode_array list_width (group us x) ++ arrays_left us (x ∷ met) rest) (sym h)

-- the walk over us is at place p with `left` to come, and has measured the arrays of the types met
pub record Summed (us left : List (List ℕ)) (p : ℕ) (seen : List Bool) (len : ℕ) : Type 0 where
  pub met : List ℕ
  pub marks : Marks seen met
  pub few : len ≤ (2 ^ 31 + 6) * p
  pub whole : len + length (arrays_left us met left) ≡ length (all_arrays us)

module _ (us : List (List ℕ)) where
  pub summed_start : (p : ℕ) → Summed us us p (replicate unit_types false) 0
  summed_start p = record { met = []; marks = marks_start; few = omega arith; whole = omega (arith, ap length (arrays_all us)) }

  module _ (left : List (List ℕ)) (p : ℕ) (seen : List Bool) (len : ℕ) (i : Summed us left p seen len) where
    pub summed_end : left ≡ [] → len ≡ length (all_arrays us)
    summed_end e = let z = ap length (arrays_none us i.met left e) in omega (arith, i.whole)

    module _ (u : List ℕ) (rest : List (List ℕ)) (q : ℕ) (w : Turn left p u rest q) (t k : ℕ) (h : t ≡ type_or31 u)
        (small : t ≤ largest_unit_type) (j : k ≡ t) where
      pub summed_met : get_or seen k false ≡ true → Summed us rest q seen len
      summed_met e =
          let c = ap length (come_met us left p seen i.met i.marks u rest q w t k h small j e) in
          record { met = i.met; marks = i.marks; few = omega (arith, i.few, w.ahead); whole = omega (arith, i.whole) }

      pub summed_new : get_or seen k false ≡ false → (n : ℕ) → n ≡ length (group_bytes us t) → n ≤ 2 ^ 31
          → Summed us rest q (set seen k true) (len + (6 + n))
      summed_new e n g few =
          let c = ap length (come_new us left p seen i.met i.marks u rest q w t k h small j e) in
          let l = length-append (encode_array list_width (group us t)) (arrays_left us (t ∷ i.met) rest) in
          let a = array_long us t in
          record {
            met = t ∷ i.met;
            marks = subst (λ (x : ℕ). Marks (set seen k true) (x ∷ i.met)) j (marks_more seen i.met k i.marks (omega arith));
            few = omega (arith, i.few, w.ahead);
            whole = omega (arith, i.whole);
          }

-- the walk over us has come to `left`; the arrays that are not stored yet go to place `to` on
pub record Laid (us : List (List ℕ)) (out₀ : List ℕ) (at : ℕ) (left : List (List ℕ)) (seen : List Bool) (out : List ℕ) (to : ℕ) : Type 0 where
  pub met : List ℕ
  pub marks : Marks seen met
  pub same : length out ≡ length out₀
  pub place : to + length (arrays_left us met left) ≡ at + length (all_arrays us)
  pub whole : sets out to (arrays_left us met left) ≡ sets out₀ at (all_arrays us)

module _ (us : List (List ℕ)) (out₀ : List ℕ) (at : ℕ) where
  pub laid_start : Laid us out₀ at us (replicate unit_types false) out₀ at
  laid_start =
      let e = arrays_all us in
      record { met = []; marks = marks_start; same = refl; place = ap (λ (x : List ℕ). at + length x) e; whole = ap (sets out₀ at) e }

  module _ (left : List (List ℕ)) (seen : List Bool) (out : List ℕ) (to : ℕ) (i : Laid us out₀ at left seen out to) where
    pub laid_end : left ≡ [] → out ≡ sets out₀ at (all_arrays us)
    laid_end e = ap (sets out to) (sym (arrays_none us i.met left e)) ∙ i.whole

    module _ (p : ℕ) (u : List ℕ) (rest : List (List ℕ)) (q : ℕ) (w : Turn left p u rest q) (t k : ℕ) (h : t ≡ type_or31 u)
        (small : t ≤ largest_unit_type) (j : k ≡ t) where
      pub laid_met : get_or seen k false ≡ true → Laid us out₀ at rest seen out to
      laid_met e =
          let c = come_met us left p seen i.met i.marks u rest q w t k h small j e in
          let l = ap length c in
          record { met = i.met; marks = i.marks; same = i.same; place = omega (arith, i.place); whole = ap (sets out to) (sym c) ∙ i.whole }

      module _ (e : get_or seen k false ≡ false) where
        new_long : length (arrays_left us i.met left) ≡ length (encode_array list_width (group us t)) + length (arrays_left us (t ∷ i.met) rest)
        new_long =
            ap length (come_new us left p seen i.met i.marks u rest q w t k h small j e)
            ∙ length-append (encode_array list_width (group us t)) (arrays_left us (t ∷ i.met) rest)

        pub laid_room : at + length (all_arrays us) ≤ length out₀ → to + length (encode_array list_width (group us t)) ≤ length out
        laid_room g = omega (arith, new_long, i.place, i.same)

        pub laid_new : (d : List ℕ) (n : ℕ) → n ≡ to + length (encode_array list_width (group us t)) → d ≡ sets out to (encode_array list_width (group us t))
            → Laid us out₀ at rest (set seen k true) d n
        laid_new d n g f =
            record {
              met = t ∷ i.met;
              marks = subst (λ (x : ℕ). Marks (set seen k true) (x ∷ i.met)) j (marks_more seen i.met k i.marks (omega arith));
              same = ap length f ∙ length-sets out to (encode_array list_width (group us t)) ∙ i.same;
              place = omega (arith, new_long, i.place);
              whole =
                  rw (f, g) (sets_append out to (encode_array list_width (group us t)) (arrays_left us (t ∷ i.met) rest))
                  ∙ ap (sets out to) (sym (come_new us left p seen i.met i.marks u rest q w t k h small j e)) ∙ i.whole;
            }
