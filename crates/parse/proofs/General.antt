-- General laws of tests, lists and stores, which several crates use.
use Prim.Native.Nat.{ℕ, suc, ◌+◌, ◌≤◌, ◌<◌}
use mathlib.Core.Path.{◌≡◌, refl, sym, ap, ◌∙◌}
use mathlib.Core.Bool.{Bool, true, false, ◌&&◌}
use mathlib.Core.List.{List, [], ◌∷◌, ◌++◌}
use native.Mathlib.Omega.{arith}
use lib.Dec.{leb, eqb}
use lib.ListN.{length, set, drop}
use lib.Seq.{sets, sets-eq, set_comm}
use borrow.Author.Tests.{le-leb, lt-leb, leb-true, leb-false, eqb-true, eqb-false}
use Rattle.std.specs.Prelude.{if◌then◌else◌}
use Rattle.parse.specs.Logic.{bit}

-- ---- tests

-- two tests that hold and fail together are the same
pub leb_same : (a b k l : ℕ) → (a ≤ b → k ≤ l) → (b < a → l < k) → leb a b ≡ leb k l
leb_same a b k l f g = go (leb a b) refl
  where
    go : (t : Bool) → leb a b ≡ t → t ≡ leb k l
    go true e = sym (le-leb k l (f (leb-true a b e)))
    go false e = sym (lt-leb k l (g (leb-false a b e)))

-- what holds in both cases holds of the choice
pub if_elim : {A : Type 0} (P : A → Type 0) (b : Bool) (x y : A) → P x → P y → P (if b then x else y)
if_elim P true x y h k = h
if_elim P false x y h k = k

pub both_true : (a b : Bool) → a && b ≡ true → (a ≡ true) × (b ≡ true)
both_true true b e = (refl, e)
both_true false b e = absurd (let w : ◌≡◌ {A = ℕ} 0 1 = cc in omega arith)

-- ---- flags as numbers

pub bit_le : (b : Bool) → bit b ≤ 1
bit_le true = omega arith
bit_le false = omega arith

-- a bit, read as a flag and written as a number
pub bit_flag : (n : ℕ) → n ≤ 1 → bit (eqb n 1) ≡ n
bit_flag n h = go (eqb n 1) refl
  where
    go : (t : Bool) → eqb n 1 ≡ t → bit t ≡ n
    go true e = sym (eqb-true n 1 e)
    go false e = let d = eqb-false n 1 e in omega arith

-- ---- stores

module _ {A : Type 0} where
  -- one run after another is one run
  pub sets_append : (d : List A) (i : ℕ) (xs ys : List A) → sets (sets d i xs) (i + length xs) ys ≡ sets d i (xs ++ ys)
  sets_append d i [] ys = ap (λ (j : ℕ). sets d j ys) (omega arith)
  sets_append d i (x ∷ xs) ys =
      ap (λ (j : ℕ). sets (sets (set d i x) (suc i) xs) j ys) (omega arith) ∙ sets_append (set d i x) (suc i) xs ys

  -- the same, at the place where the first run ends
  pub sets_then : (d : List A) (i k : ℕ) (xs ys : List A) → k ≡ i + length xs → sets (sets d i xs) k ys ≡ sets d i (xs ++ ys)
  sets_then d i k xs ys e = rw e (sets_append d i xs ys)

  -- a store after a run may come before it
  pub set_before : (d : List A) (i j : ℕ) (a : A) (xs : List A) → i + length xs ≤ j → sets (set d j a) i xs ≡ set (sets d i xs) j a
  set_before d i j a [] h = refl
  set_before d i j a (x ∷ xs) h =
      ap (λ (l : List A). sets l (suc i) xs) (set_comm d j i a x (λ e. omega arith)) ∙ set_before (set d i x) (suc i) j a xs (omega arith)

  -- a run and a last element, stored last first
  pub sets_last : (d : List A) (i : ℕ) (xs : List A) (a : A) → sets (set d (i + length xs) a) i xs ≡ sets d i (xs ++ (a ∷ []))
  sets_last d i xs a = set_before d i (i + length xs) a xs (omega arith) ∙ sets_append d i xs (a ∷ [])

  -- from the front on: the run, and what followed it
  pub sets_front : (d xs : List A) → length xs ≤ length d → sets d 0 xs ≡ xs ++ drop (length xs) d
  sets_front d xs h =
      let e : 0 + length xs ≡ length xs = omega arith in
      sets-eq xs d 0 (omega arith) ∙ ap (λ (k : ℕ). xs ++ drop k d) e

  -- a run after another may be stored before it
  pub sets_before : (d : List A) (i j : ℕ) (xs ys : List A) → i + length xs ≤ j → sets (sets d j ys) i xs ≡ sets (sets d i xs) j ys
  sets_before d i j xs [] h = refl
  sets_before d i j xs (y ∷ ys) h =
      sets_before (set d j y) i (suc j) xs ys (omega arith) ∙ ap (λ (l : List A). sets l (suc j) ys) (set_before d i j y xs h)
