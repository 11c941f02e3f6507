-- Laws of the one unit of a still: its answers, its bytes stored part by part, and its header.
use Prim.Native.Nat.{ℕ, suc, ◌+◌, ◌-◌, ◌/◌, ◌%◌, ◌^◌, ◌≤◌, ◌<◌}
use mathlib.Core.Path.{◌≡◌, refl, sym, ap, ◌∙◌}
use mathlib.Core.Bool.{true, false, and-false}
use mathlib.Core.List.{List, [], ◌∷◌, ◌++◌}
use native.Mathlib.Omega.{arith}
use lib.Dec.{eqb}
use lib.ListN.{length, get_or, take, drop}
use lib.Seq.{sets, drop-cons}
use borrow.Author.Tests.{le-leb, lt-leb, eq-eqb, ne_eqb}
use Rattle.parse.specs.Outcome.{Outcome, accept, refuse}
use Rattle.parse.specs.Parse.{Parsed, value, refused}
use Rattle.parse.specs.inner.Walk.{more}
use Rattle.parse.proofs.Many.{many_bad}
use Rattle.parse.proofs.General.{sets_append}
use Rattle.boxes.specs.Bytes.{to_be, to_chunk}
use Rattle.boxes.specs.Parts.{held}
use Rattle.boxes.specs.declared.Span.{Span}
use Rattle.boxes.proofs.Walk.{total}
use Rattle.boxes.proofs.Numbers.{length_to_be}
use Rattle.nal.specs.Header.{nal_header}
use Rattle.split.specs.Item.{item_unit, item_units}
use Rattle.split.specs.inner.Walk.{item_units_from}
use Rattle.split.proofs.Items.{left_step}
use Rattle.compact.specs.ItemData.{still_unit, is_still, only_still, strip}
use Rattle.compact.specs.declared.CompactVvcConfig.{CompactVvcConfig}

-- ### restored

-- length, header and stored bytes make the unit
pub still_stored : (stored out d e f : List ℕ) (size : ℕ) (header : List ℕ) → header ≡ nal_header 8 0 1
    → d ≡ sets out 0 (to_be size (2 + length stored))
    → e ≡ sets d size header → f ≡ sets e (size + 2) stored → f ≡ sets out 0 (to_chunk size (still_unit stored))
unfolding to_chunk
still_stored stored out d e f size header h x y z =
    let l : 0 + length (to_be size (2 + length stored)) ≡ size = omega (arith, length_to_be size (2 + length stored)) in
    let n : length (still_unit stored) ≡ 2 + length stored = omega arith in
    let a : sets (sets out 0 (to_be size (2 + length stored))) size (still_unit stored)
    ≡ sets out 0 (to_be size (2 + length stored) ++ still_unit stored) =
    rw l at (sets_append out 0 (to_be size (2 + length stored)) (still_unit stored)) in
    let b : sets (sets (sets out 0 (to_be size (2 + length stored))) size (nal_header 8 0 1)) (size + 2) stored
    ≡ sets (sets out 0 (to_be size (2 + length stored))) size (still_unit stored) =
    sets_append (sets out 0 (to_be size (2 + length stored))) size (nal_header 8 0 1) stored in
    z ∙ rw (y, x, h, n) (b ∙ a)

-- ### stripped

-- a unit with a header, by the fields of the header
module _ (x y : ℕ) (u : List ℕ) where
  layer_not : (x % 64 ≡ 0 → ⊥) → is_still (x ∷ y ∷ u) ≡ false
  layer_not h = rw (ne_eqb (x % 64) 0 h) (and-false (eqb (y / 8) 8))

  type_not : (y / 8 ≡ 8 → ⊥) → is_still (x ∷ y ∷ u) ≡ false
  type_not h = rw (ne_eqb (y / 8) 8 h)

  is_still_lem : x % 64 ≡ 0 → y / 8 ≡ 8 → y % 8 ≡ 1 → is_still (x ∷ y ∷ u) ≡ true
  is_still_lem h k l = rw (eq-eqb (x % 64) 0 h, eq-eqb (y / 8) 8 k, eq-eqb (y % 8) 1 l)

module _ (item : List ℕ) (a : Span) (inside : a.start + a.len ≤ length item) where
  module _ (two : 2 ≤ a.len) where
    -- the header's two bytes, and what follows them
    held_header : held item a ≡ get_or item a.start 0 ∷ get_or item (a.start + 1) 0 ∷ held item (record { start = a.start + 2; len = a.len - 2 })
    held_header =
        let n : a.len ≡ suc (suc (a.len - 2)) = omega arith in
        let one : a.start + 1 ≡ suc a.start = omega arith in
        let next : a.start + 2 ≡ suc (suc a.start) = omega arith in
        ap (λ (k : ℕ). take k (drop a.start item)) n
        ∙ rw (one, next, drop-cons item a.start 0 (omega arith), drop-cons item (suc a.start) 0 (omega arith))

    not_still : is_still (get_or item a.start 0 ∷ get_or item (a.start + 1) 0 ∷ held item (record { start = a.start + 2; len = a.len - 2 })) ≡ false
        → refuse 24 ≡ only_still item (accept (a ∷ []))
    not_still h = rw (held_header, h)

    pub one_layer : (get_or item a.start 0 % 64 ≡ 0 → ⊥) → refuse 24 ≡ only_still item (accept (a ∷ []))
    one_layer h =
        not_still (layer_not (get_or item a.start 0) (get_or item (a.start + 1) 0) (held item (record { start = a.start + 2; len = a.len - 2 })) h)

    pub one_type : (get_or item (a.start + 1) 0 / 8 ≡ 8 → ⊥) → refuse 24 ≡ only_still item (accept (a ∷ []))
    one_type h =
        not_still (type_not (get_or item a.start 0) (get_or item (a.start + 1) 0) (held item (record { start = a.start + 2; len = a.len - 2 })) h)

    pub one_still : get_or item a.start 0 % 64 ≡ 0 → get_or item (a.start + 1) 0 / 8 ≡ 8 → get_or item (a.start + 1) 0 % 8 ≡ 1
        → accept (held item (record { start = a.start + 2; len = a.len - 2 })) ≡ only_still item (accept (a ∷ []))
    one_still h k l = rw (
      held_header,
      is_still_lem (get_or item a.start 0) (get_or item (a.start + 1) 0) (held item (record { start = a.start + 2; len = a.len - 2 })) h k l,
    )

-- no unit; one unit with bytes after it; exactly one unit
module _ (item : List ℕ) where
  pub none_still : (o : Outcome (List Span)) → total o ≡ 0 → refuse 24 ≡ only_still item o
  none_still (accept []) e = refl
  none_still (accept (a ∷ us)) e = absurd (omega arith)
  none_still (refuse n) e = refl

  several : (a b : Span) (o : Outcome (List Span)) → refuse 24 ≡ only_still item (more a (more b o))
  several a b (accept us) = refl
  several a b (refuse n) = refl

  pub more_after : (size : ℕ) (a : Span) (p : ℕ) → p < length item → refuse 24 ≡ only_still item (more a (item_units_from size item p))
  unfolding item_units_from
  more_after size a p h = go (item_unit size item p) refl
    where
      go : (x : Parsed Span) → item_unit size item p ≡ x → refuse 24 ≡ only_still item (more a (item_units_from size item p))
      go (refused n) e = rw (many_bad (item_unit size) item p n h e)
      go (value b q) e =
          several a b (item_units_from size item q) ∙ ap (λ (o : Outcome (List Span)). only_still item (more a o)) (sym (left_step size item p b q h e))

-- ### stripped, by the tests of the input's length and of the flag

module _ (c : CompactVvcConfig) (s : List ℕ) where
  pub strip_too_long : 2 ^ 30 < length s → strip c s ≡ refuse 23
  unfolding strip
  strip_too_long h = rw (lt-leb (length s) (2 ^ 30) h)

  module _ (lent : length s ≤ 2 ^ 30) where
    pub strip_copy : c.multi_layer_flag ≡ true → strip c s ≡ accept s
    unfolding strip
    strip_copy e = rw (le-leb (length s) (2 ^ 30) lent, e)

    pub strip_unit : c.multi_layer_flag ≡ false → strip c s ≡ only_still s (item_units c.length_size s)
    unfolding strip
    strip_unit e = rw (le-leb (length s) (2 ^ 30) lent, e)
