-- Laws of numbers read from bits: what each read returns, how large its value is, and where it ends.
use mathlib.Core.Path.{◌≡◌, refl, sym}
use mathlib.Core.Bool.{Bool, true, false}
use mathlib.Core.List.{List}
use Prim.Native.Nat.{ℕ, zero, suc, ◌+◌, ◌*◌, ◌/◌, ◌%◌, ◌^◌, ◌≤◌, ◌<◌}
use native.Mathlib.Nat.{pow-suc, add-zero, zero-add}
use native.Mathlib.Omega.{arith}
use lib.Dec.{leb, lit<}
use lib.Pow.{pow_mono, pow_pos}
use lib.ListN.{length}
use borrow.Author.Tests.{leb-true, eq-eqb, ne_eqb}
use Rattle.std.specs.Prelude.{if◌then◌else◌}
use Rattle.parse.specs.Parse.{Parsed, value, refused, bind, give}
use Rattle.bit_reader.specs.Bits.{bit_at, bits_at, u, is_set, skip, align, zeros_before_one}

-- ---- u(n)
pub bits_lt : (s : List ℕ) (p n : ℕ) → bits_at s p n < 2 ^ n
unfolding bits_at
bits_lt s p zero = lit< tt
bits_lt s p (suc n) = omega (arith, bits_lt s p n, pow-suc 2 n)

-- one more bit still fits 32 bits
pub bits_fit : (s : List ℕ) (p n : ℕ) → n < 32 → bits_at s p n * 2 + 1 < 2 ^ 32
bits_fit s p n h = omega (arith, bits_lt s p n, pow-suc 2 n, pow_mono h)

-- the two answers
pub u_short : (n : ℕ) (s : List ℕ) (p : ℕ) → leb (p + n) (8 * length s) ≡ false → u n s p ≡ refused 11
unfolding u
u_short n s p h = rw h

pub u_there : (n : ℕ) (s : List ℕ) (p v k : ℕ) → leb (p + n) (8 * length s) ≡ true → v ≡ bits_at s p k → k ≡ n → u n s p ≡ value v (p + n)
unfolding u
u_there n s p v k h e f = rw (h, e, f)

-- what a read of n bits says of its value and its next position
pub record Read (n : ℕ) (s : List ℕ) (p v q : ℕ) : Type 0 where
  pub low : v < 2 ^ n
  pub next : q ≡ p + n
  pub within : q ≤ 8 * length s
  pub bits : v ≡ bits_at s p n

pub u_read : (n : ℕ) (s : List ℕ) (p v q : ℕ) → u n s p ≡ value v q → Read n s p v q
unfolding u
u_read n s p v q = go (leb (p + n) (8 * length s)) refl
  where
    go : (b : Bool) → leb (p + n) (8 * length s) ≡ b
        → ◌≡◌ {A = Parsed ℕ} (if b then value (bits_at s p n) (p + n) else refused 11) (value v q) → Read n s p v q
    go true t e =
        let a : bits_at s p n ≡ v = cc in
        let b : p + n ≡ q = cc in
        record { low = omega (arith, bits_lt s p n); next = sym b; within = omega (arith, leb-true (p + n) (8 * length s) t); bits = sym a }
    go false t e = let z : ◌≡◌ {A = ℕ} 0 1 = cc in absurd (omega arith)

-- ---- bits passed over
pub record Passed (n : ℕ) (s : List ℕ) (p q : ℕ) : Type 0 where
  pub next : q ≡ p + n
  pub within : q ≤ 8 * length s

pub skip_read : (n : ℕ) (s : List ℕ) (p q : ℕ) → skip n s p ≡ value tt q → Passed n s p q
unfolding skip
skip_read n s p q = go (leb (p + n) (8 * length s)) refl
  where
    go : (b : Bool) → leb (p + n) (8 * length s) ≡ b
        → ◌≡◌ {A = Parsed (Unit {0})} (if b then value tt (p + n) else refused 11) (value tt q) → Passed n s p q
    go true t e = let b : p + n ≡ q = cc in record { next = sym b; within = omega (arith, leb-true (p + n) (8 * length s) t) }
    go false t e = let z : ◌≡◌ {A = ℕ} 0 1 = cc in absurd (omega arith)

-- ---- alignment
pub record Aligned (p q : ℕ) : Type 0 where
  pub next : q ≡ (p + 7) / 8 * 8
  pub whole : q % 8 ≡ 0
  pub from : p ≤ q
  pub near : q ≤ p + 7

pub align_read : (s : List ℕ) (p q : ℕ) → align s p ≡ value tt q → Aligned p q
unfolding align
align_read s p q e =
    let o : (p + 7) / 8 * 8 ≡ q = cc in
    record { next = sym o; whole = omega arith; from = omega arith; near = omega arith }

-- ---- the zeros of an Exp-Golomb code: a step of the count, at any fuel f = suc g
bit_one : (s : List ℕ) (p : ℕ) → bits_at s p 1 ≡ bit_at s p
unfolding bits_at
bit_one s p = rw (add-zero p, zero-add (bit_at s p))

module _ (s : List ℕ) (z f g p : ℕ) (e : f ≡ suc g) where
  pub zeros_out : leb (p + 1) (8 * length s) ≡ false → zeros_before_one z f s p ≡ refused 11
  unfolding zeros_before_one
  zeros_out h = rw (e, u_short 1 s p h)

  pub zeros_one : leb (p + 1) (8 * length s) ≡ true → bit_at s p ≡ 1 → zeros_before_one z f s p ≡ value z (p + 1)
  unfolding zeros_before_one
  zeros_one h b = rw (e, u_there 1 s p (bit_at s p) 1 h (sym (bit_one s p)) refl, eq-eqb (bit_at s p) 1 b)

  pub zeros_more : leb (p + 1) (8 * length s) ≡ true → (bit_at s p ≡ 1 → ⊥) → zeros_before_one z f s p ≡ zeros_before_one (z + 1) g s (p + 1)
  unfolding zeros_before_one
  zeros_more h b = rw (e, u_there 1 s p (bit_at s p) 1 h (sym (bit_one s p)) refl, ne_eqb (bit_at s p) 1 b)

pub zeros_none : (s : List ℕ) (z f p : ℕ) → f ≡ 0 → zeros_before_one z f s p ≡ refused 12
unfolding zeros_before_one
zeros_none s z f p e = rw e

-- fewer zeros than the fuel; the position is after them and the 1
pub record Counted (s : List ℕ) (z f p y q : ℕ) : Type 0 where
  pub few : y < z + f
  pub next : q + z ≡ p + y + 1

-- a turn of the count, where what is said of the rest holds
module _ (s : List ℕ) (z g p y q : ℕ) (more : (t : ℕ) → zeros_before_one (z + 1) g s t ≡ value y q → Counted s (z + 1) g t y q) where
  chosen : (b : Bool) (t : ℕ) → t ≡ p + 1 → (if b then give z else zeros_before_one (z + 1) g) s t ≡ value y q → Counted s z (suc g) p y q
  chosen true t h e =
      let a : z ≡ y = cc in
      let b : t ≡ q = cc in
      record { few = omega arith; next = omega arith }
  chosen false t h e = let r = more t e in record { few = omega arith; next = omega arith }

  turn : (r : Parsed ℕ) → u 1 s p ≡ r → bind r (λ b t. (if is_set b then give z else zeros_before_one (z + 1) g) s t) ≡ value y q
      → Counted s z (suc g) p y q
  turn (value b t) h e = chosen (is_set b) t (u_read 1 s p b t h).next e
  turn (refused r) h e = let o : ◌≡◌ {A = ℕ} 0 1 = cc in absurd (omega arith)

pub zeros_read : (s : List ℕ) (z f p y q : ℕ) → zeros_before_one z f s p ≡ value y q → Counted s z f p y q
unfolding zeros_before_one
zeros_read s z zero p y q e = let o : ◌≡◌ {A = ℕ} 0 1 = cc in absurd (omega arith)
zeros_read s z (suc g) p y q e = turn s z g p y q (λ t. zeros_read s (z + 1) g t y q) (u 1 s p) refl e

-- ---- ue(v)
-- what the arithmetic of a code with z zeros and low bits v needs
pub record Sized (z v : ℕ) : Type 0 where
  pub few : z < 32
  pub low : v < 2 ^ z
  pub top : 2 ^ z ≤ 2 ^ 31
  pub one : 1 ≤ 2 ^ z

pub sized : (s : List ℕ) (p z t v q : ℕ) → zeros_before_one 0 32 s p ≡ value z t → u z s t ≡ value v q → Sized z v
sized s p z t v q e f =
    let h : z < 32 = (zeros_read s 0 32 p z t e).few in
    record { few = h; low = (u_read z s t v q f).low; top = pow_mono {j = 31} (omega arith); one = pow_pos z }
