-- Laws of the kinds of units: as the code tells them apart, by the type and by a variant's number; the type of a kind is the unit's type.
use Prim.Native.Nat.{ℕ, ◌≤◌, ◌<◌}
use mathlib.Core.Path.{◌≡◌, refl, sym}
use mathlib.Core.Logic.{⊎_elim}
use mathlib.Core.Bool.{Bool, true, false}
use mathlib.Core.List.{[], ◌∷◌}
use native.Mathlib.Omega.{arith}
use native.Mathlib.Decide.{dec_le}
use lib.Dec.{leb, eqb}
use types.Run.{OneOf}
use borrow.Author.Tests.{le-leb, lt-leb, leb-true, leb-false, ne_eqb}
use Rattle.std.specs.Prelude.{if◌then◌else◌}
use Rattle.nal.specs.Kinds.{is_record_type, unit_kind, is_aud, is_record_of}
use Rattle.nal.specs.inner.Kinds.{is_picture_data_of}
use Rattle.nal.specs.declared.UnitKind.{UnitKind}
use Rattle.nal.specs.declared.UnitKind.TheVariants.{PictureData, Record, Aud, Other}

-- ### by the type

pub kind_picture : (t : ℕ) → t < 12 → unit_kind t ≡ PictureData t
unfolding unit_kind
kind_picture t h = rw (le-leb t 11 (omega arith))

pub kind_record : (t : ℕ) → 12 ≤ t → t ≤ 17 → unit_kind t ≡ Record t
unfolding unit_kind
kind_record t h g = rw (lt-leb t 11 (omega arith), le-leb 12 t (omega arith), le-leb t 17 (omega arith))

pub kind_other : (t : ℕ) → 17 < t → (t ≡ 23 → ⊥) → (t ≡ 20 → ⊥) → unit_kind t ≡ Other
unfolding unit_kind
kind_other t h g f = rw (lt-leb t 11 (omega arith), le-leb 12 t (omega arith), lt-leb t 17 (omega arith), ne_eqb t 23 g, ne_eqb t 20 f)

-- ### by the number of the variant, in the order of their declaration

none_of : (a b c x : ℕ) → (x ≡ a → ⊥) → (x ≡ b → ⊥) → (x ≡ c → ⊥) → OneOf (a ∷ b ∷ c ∷ []) x → ⊥
none_of a b c x f g h o = ⊎_elim f (λ (p : OneOf (b ∷ c ∷ []) x). ⊎_elim g h p) o

-- ### a kind of a type is told by the type

-- the kind of the type x, by the tests of the definition
abbrev tested : ℕ → Bool → Bool → Bool → UnitKind
tested x picture rec aud = if picture then PictureData x else if rec then Record x else if aud then Aud else Other

record_above : (t : ℕ) → is_record_type t ≡ true → 12 ≤ t
record_above t h =
    elim (dec_le 12 t) [
      | yes g ↦ g
      | no g ↦ absurd (let e = lt-leb 12 t (omega arith) in let f = ne_eqb t 23 (λ e. omega arith) in let w : is_record_type t ≡ false = rw (e, f) in
          let z : ◌≡◌ {A = ℕ} 0 1 = cc in omega arith)
    ]

pub picture_data_of : (t x : ℕ) → t ≤ 11 → is_picture_data_of t (unit_kind x) ≡ eqb x t
unfolding unit_kind
picture_data_of t x h = go (leb x 11) (is_record_type x) (eqb x 20) refl
  where
    go : (b c d : Bool) → leb x 11 ≡ b → is_picture_data_of t (tested x b c d) ≡ eqb x t
    go true c d e = refl
    go false true d e = sym (ne_eqb x t (λ f. omega (arith, leb-false)))
    go false false true e = sym (ne_eqb x t (λ f. omega (arith, leb-false)))
    go false false false e = sym (ne_eqb x t (λ f. omega (arith, leb-false)))

pub record_of_lem : (t x : ℕ) → is_record_type t ≡ true → is_record_of t (unit_kind x) ≡ eqb x t
unfolding unit_kind
record_of_lem t x h = go (leb x 11) (is_record_type x) (eqb x 20) refl refl
  where
    other : is_record_type x ≡ false → x ≡ t → ⊥
    other e f = let z : ◌≡◌ {A = ℕ} 0 1 = cc in omega arith

    go : (b c d : Bool) → leb x 11 ≡ b → is_record_type x ≡ c → is_record_of t (tested x b c d) ≡ eqb x t
    go true c d e f = sym (ne_eqb x t (λ g. omega (arith, leb-true, record_above t h)))
    go false true d e f = refl
    go false false true e f = sym (ne_eqb x t (other f))
    go false false false e f = sym (ne_eqb x t (other f))

pub aud_of : (x : ℕ) → is_aud (unit_kind x) ≡ eqb x 20
unfolding unit_kind
aud_of x = go (leb x 11) (is_record_type x) (eqb x 20) refl refl refl
  where
    other : is_record_type x ≡ true → x ≡ 20 → ⊥
    other e f = let w : is_record_type 20 ≡ true = cc in let z : ◌≡◌ {A = ℕ} 0 1 = cc in omega arith

    go : (b c d : Bool) → leb x 11 ≡ b → is_record_type x ≡ c → eqb x 20 ≡ d → is_aud (tested x b c d) ≡ eqb x 20
    go true c d e f g = sym (ne_eqb x 20 (λ k. omega (arith, leb-true)))
    go false true d e f g = sym (ne_eqb x 20 (other f))
    go false false true e f g = sym g
    go false false false e f g = sym g
