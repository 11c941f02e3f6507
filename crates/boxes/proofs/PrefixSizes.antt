-- A prefix size inside 1 to 4.
use Prim.Native.Nat.{ℕ, ◌≤◌, ◌<◌}
use mathlib.Core.Path.{◌≡◌, refl}
use mathlib.Core.Bool.{Bool, true, false, ◌||◌, not}
use native.Mathlib.Omega.{arith}
use lib.Dec.{eqb, ltb}
use borrow.Author.Tests.{ne_eqb, le-ltb, eqb-false, ltb-false}
use Rattle.boxes.specs.Bytes.{outside}

pub size_inside : (size : ℕ) → outside size ≡ false → (1 ≤ size) × (size ≤ 4)
size_inside size = go (eqb size 0) (ltb 4 size) refl refl
  where
    go : (a b : Bool) → eqb size 0 ≡ a → ltb 4 size ≡ b → a || b ≡ false → (1 ≤ size) × (size ≤ 4)
    go true b e f h = let z : ◌≡◌ {A = ℕ} 0 1 = cc in absurd (omega arith)
    go false true e f h = let z : ◌≡◌ {A = ℕ} 0 1 = cc in absurd (omega arith)
    go false false e f h = let n = eqb-false size 0 e in (omega arith, ltb-false 4 size f)

pub not_outside : (size : ℕ) → 0 < size → size ≤ 4 → outside size ≡ false
not_outside size h k = rw (ne_eqb size 0 (λ e. omega arith), le-ltb 4 size k)

-- a prefix size that passes the test is 1 to 4
pub size_fits : (size : ℕ) → not (outside size) ≡ true → (1 ≤ size) × (size ≤ 4)
size_fits size = go (outside size) refl
  where
    go : (b : Bool) → outside size ≡ b → not b ≡ true → (1 ≤ size) × (size ≤ 4)
    go true e h = let z : ◌≡◌ {A = ℕ} 0 1 = cc in absurd (omega arith)
    go false e h = size_inside size e
