-- Laws of the units of a type, for any walk over units: found, measured and stored one after the other.
use Prim.Native.Nat.{ℕ, ◌+◌, ◌*◌, ◌≤◌}
use mathlib.Core.Path.{◌≡◌, refl, sym, ap, ◌∙◌}
use mathlib.Core.List.{List, [], ◌∷◌, ◌++◌}
use native.Mathlib.Omega.{arith}
use lib.ListN.{length, length-append}
use lib.Seq.{sets, length-sets}
use borrow.Author.Tests.{eq-eqb, ne_eqb}
use Rattle.parse.proofs.General.{sets_append}
use Rattle.boxes.specs.Bytes.{to_chunk}
use Rattle.boxes.proofs.ChunkBytes.{length_to_chunk}
use Rattle.nal.specs.Header.{type_or31}
use Rattle.unit_list.specs.UnitList.{encode_units, list_width}
use Rattle.grouping.specs.Grouping.{having_type}
use Rattle.grouping.specs.inner.Units.{Turn}

-- the bytes of the units of type t, each after its length
abbrev pub bytes_of : ℕ → List (List ℕ) → List ℕ
bytes_of t us = encode_units list_width (having_type t us)

pub having_none : (t : ℕ) → having_type t [] ≡ []
unfolding having_type
having_none t = refl

pub bytes_none : (t : ℕ) (left : List (List ℕ)) → left ≡ [] → bytes_of t left ≡ []
unfolding having_type encode_units
bytes_none t left e = rw e

-- the next unit is of type t, or it is not
module _ (t : ℕ) (left : List (List ℕ)) (p : ℕ) (u : List ℕ) (rest : List (List ℕ)) (q : ℕ) (w : Turn left p u rest q) where
  module _ (same : type_or31 u ≡ t) where
    pub having_same : having_type t left ≡ u ∷ having_type t rest
    unfolding having_type
    having_same = ap (having_type t) w.units ∙ rw (eq-eqb (type_or31 u) t same)

    pub bytes_same : bytes_of t left ≡ to_chunk list_width u ++ bytes_of t rest
    unfolding encode_units
    bytes_same = ap (encode_units list_width) having_same

    pub length_same : length (bytes_of t left) ≡ 4 + length u + length (bytes_of t rest)
    length_same = ap length bytes_same ∙ length-append (to_chunk list_width u) (bytes_of t rest) ∙ rw (length_to_chunk list_width u)

  pub having_other : (type_or31 u ≡ t → ⊥) → having_type t left ≡ having_type t rest
  unfolding having_type
  having_other h = ap (having_type t) w.units ∙ rw (ne_eqb (type_or31 u) t h)

-- the walk over us is at place p with `left` to come, and has measured len bytes
pub record TypeMeasured (t : ℕ) (us left : List (List ℕ)) (p len : ℕ) : Type 0 where
  pub few : len ≤ 2 * p
  pub whole : len + length (bytes_of t left) ≡ length (bytes_of t us)

module _ (t : ℕ) (us : List (List ℕ)) where
  module _ (left : List (List ℕ)) (p len : ℕ) (i : TypeMeasured t us left p len) where
    pub measured_end : left ≡ [] → len ≡ length (bytes_of t us)
    measured_end e = let z = ap length (bytes_none t left e) in omega (arith, i.whole)

    module _ (u : List ℕ) (rest : List (List ℕ)) (q : ℕ) (w : Turn left p u rest q) where
      pub measured_same : type_or31 u ≡ t → (n : ℕ) → length u ≡ n → TypeMeasured t us rest q (len + (4 + n))
      measured_same h n l =
          let k = length_same t left p u rest q w h in
          record { few = omega (arith, i.few, w.ahead); whole = omega (arith, i.whole) }

      pub measured_other : (type_or31 u ≡ t → ⊥) → TypeMeasured t us rest q len
      measured_other h =
          let k = ap (λ (vs : List (List ℕ)). length (encode_units list_width vs)) (having_other t left p u rest q w h) in
          record { few = omega (arith, i.few, w.ahead); whole = omega (arith, i.whole) }

-- the walk over us has come to `left`; the units of the type in it are to be stored from place `to` on
pub record Stored (t : ℕ) (us : List (List ℕ)) (out₀ : List ℕ) (at : ℕ) (left : List (List ℕ)) (out : List ℕ) (to : ℕ) : Type 0 where
  pub same : length out ≡ length out₀
  pub place : to + length (bytes_of t left) ≡ at + length (bytes_of t us)
  pub whole : sets out to (bytes_of t left) ≡ sets out₀ at (bytes_of t us)

module _ (t : ℕ) (us : List (List ℕ)) (out₀ : List ℕ) (at : ℕ) where
  module _ (left : List (List ℕ)) (out : List ℕ) (to : ℕ) (i : Stored t us out₀ at left out to) where
    pub stored_end : left ≡ [] → (to ≡ at + length (bytes_of t us)) × (out ≡ sets out₀ at (bytes_of t us))
    stored_end e =
        let z = bytes_none t left e in
        let y = ap length z in
        (omega (arith, i.place), ap (sets out to) (sym z) ∙ i.whole)

    module _ (p : ℕ) (u : List ℕ) (rest : List (List ℕ)) (q : ℕ) (w : Turn left p u rest q) where
      pub stored_room : at + length (bytes_of t us) ≤ length out₀ → type_or31 u ≡ t → to + 4 + length u ≤ length out
      stored_room g h = omega (arith, length_same t left p u rest q w h, i.place, i.same)

      pub stored_same : type_or31 u ≡ t → (n : ℕ) → length u ≡ n → (d : List ℕ) → d ≡ sets out to (to_chunk list_width u)
          → Stored t us out₀ at rest d (to + (4 + n))
      stored_same h n l d e =
          let k = length_same t left p u rest q w h in
          let m = length_to_chunk list_width u in
          let b : to + (4 + n) ≡ to + length (to_chunk list_width u) = omega arith in
          record {
            same = ap length e ∙ length-sets out to (to_chunk list_width u) ∙ i.same;
            place = omega (arith, i.place);
            whole = rw (e, b) (sets_append out to (to_chunk list_width u) (bytes_of t rest))
                ∙ ap (sets out to) (sym (bytes_same t left p u rest q w h)) ∙ i.whole;
          }

      pub stored_other : (type_or31 u ≡ t → ⊥) → Stored t us out₀ at rest out to
      stored_other h =
          let k = ap (encode_units list_width) (having_other t left p u rest q w h) in
          let l = ap length k in
          record { same = i.same; place = omega (arith, i.place); whole = ap (sets out to) (sym k) ∙ i.whole }
