-- Laws of a length of two or four bytes.
use Prim.Native.Nat.{ℕ, ◌+◌, ◌*◌, ◌-◌, ◌^◌, ◌≤◌, ◌<◌}
use mathlib.Core.Path.{◌≡◌, sym, ap, subst, ◌∙◌}
use mathlib.Core.List.{List}
use mathlib.Core.Logic.{⊎_elim}
use native.Mathlib.Omega.{arith}
use lib.ListN.{get_or}
use Rattle.boxes.specs.Bytes.{be}
use Rattle.boxes.proofs.Numbers.{be_four}
use Rattle.unit_list.specs.inner.Walk.{TwoOrFour}

pub be_two : (s : List ℕ) (p : ℕ) → be s p 2 ≡ get_or s p 0 * 256 + get_or s (p + 1) 0
unfolding be
be_two s p = let e : p + 0 ≡ p = omega arith in rw e (omega arith)

-- the first two bytes and the last two, which for two bytes are the same
pub length_is : (s : List ℕ) (p from w : ℕ) → TwoOrFour w → from ≡ p + w
    → be s p 2 * ((w - 2) * 32768) + be s (from - 2) 2 ≡ be s p w
length_is s p from w h =
    ⊎_elim (λ e. subst Is (sym e) of_two) (λ e. subst Is (sym e) of_four) h
  where
    Is : ℕ → Type 0
    Is n = from ≡ p + n → be s p 2 * ((n - 2) * 32768) + be s (from - 2) 2 ≡ be s p n

    of_two : from ≡ p + 2 → be s p 2 * ((2 - 2) * 32768) + be s (from - 2) 2 ≡ be s p 2
    of_two f =
        let i : from - 2 ≡ p = omega arith in
        let x = ap (λ (n : ℕ). be s n 2) i in
        omega arith

    of_four : from ≡ p + 4 → be s p 2 * ((4 - 2) * 32768) + be s (from - 2) 2 ≡ be s p 4
    of_four f =
        let i : from - 2 ≡ p + 2 = omega arith in
        let j : p + 2 + 1 ≡ p + 3 = omega arith in
        let x = be_two s p in
        let y = ap (λ (n : ℕ). be s n 2) i ∙ be_two s (p + 2) in
        let k = ap (λ (n : ℕ). get_or s n 0) j in
        let z = be_four s p in
        omega arith

-- the first two bytes as the high part of a length
pub length_small : (high w : ℕ) → TwoOrFour w → high < 2 ^ 16 → high * ((w - 2) * 32768) ≤ 2 ^ 32 - 2 ^ 16
length_small high w h k =
    ⊎_elim (λ e. rw e (omega arith)) (λ e. rw e (omega arith)) h
