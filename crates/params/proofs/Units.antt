-- A parameter set read from its unit: the tests before its bits.
use mathlib.Core.Path.{◌≡◌, refl}
use mathlib.Core.Bool.{Bool, true, false}
use mathlib.Core.List.{List}
use Prim.Native.Nat.{ℕ, ◌-◌, ◌^◌, ◌≤◌}
use native.Mathlib.Omega.{arith}
use lib.Dec.{leb, eqb}
use lib.ListN.{length, take, drop, length-drop}
use lib.Seq.{take_all}
use borrow.Author.Tests.{leb-true, eqb-true, le-leb, eq-eqb}
use Rattle.std.specs.Prelude.{if◌then◌else◌}
use Rattle.parse.specs.Outcome.{accept, refuse}
use Rattle.parse.specs.Parse.{Parsed, value, refused, Parser, outcome}
use Rattle.nal.specs.Header.{type_or31}
use Rattle.rbsp.specs.Rbsp.{rbsp}
use Rattle.params.specs.OfUnit.{of_unit}

-- what follows the header, as a part of the unit
pub after_header : (unit : List ℕ) → take (length unit - 2) (drop 2 unit) ≡ drop 2 unit
after_header unit = take_all (length unit - 2) (drop 2 unit) (omega (arith, length-drop 2 unit))

-- A unit is accepted exactly where it has at most 2^30 bytes, is of the type, and its bits read.
pub record Accepted {A : Type 0} (t : ℕ) (P : Parser A) (unit : List ℕ) (a : A) : Type 0 where
  pub fits : length unit ≤ 2 ^ 30
  pub type_is : type_or31 unit ≡ t
  pub end : ℕ
  pub read : P (rbsp (drop 2 unit)) 0 ≡ value a end

module _ {A : Type 0} (t : ℕ) (P : Parser A) (unit : List ℕ) (a : A) where
  pub accepted : of_unit t P unit ≡ accept a → Accepted t P unit a
  accepted = go (leb (length unit) (2 ^ 30)) (eqb (type_or31 unit) t) (P (rbsp (drop 2 unit)) 0) refl refl refl
    where
      go : (b d : Bool) (x : Parsed A) → leb (length unit) (2 ^ 30) ≡ b → eqb (type_or31 unit) t ≡ d → P (rbsp (drop 2 unit)) 0 ≡ x
          → (if b then (if d then outcome x else refuse 10) else refuse 23) ≡ accept a → Accepted t P unit a
      go true true (value v q) h k r e =
          let z : v ≡ a = cc in
          record { fits = leb-true (length unit) (2 ^ 30) h; type_is = eqb-true (type_or31 unit) t k; end = q; read = rw (← z) r }
      go true true (refused n) h k r e = let z : ◌≡◌ {A = ℕ} 0 1 = cc in absurd (omega arith)
      go true false x h k r e = let z : ◌≡◌ {A = ℕ} 0 1 = cc in absurd (omega arith)
      go false d x h k r e = let z : ◌≡◌ {A = ℕ} 0 1 = cc in absurd (omega arith)

  pub accepts : Accepted t P unit a → of_unit t P unit ≡ accept a
  accepts h = rw (le-leb (length unit) (2 ^ 30) h.fits, eq-eqb (type_or31 unit) t h.type_is, h.read)
