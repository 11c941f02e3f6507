-- A parser that reads no more than its next n bits returns the same on the first bytes of a list as on the list, where these hold as many bits.
use mathlib.Core.Path.{◌≡◌, refl}
use mathlib.Core.Bool.{Bool, true, false}
use mathlib.Core.List.{List, [], ◌∷◌}
use Prim.Native.Nat.{ℕ, zero, suc, ◌+◌, ◌-◌, ◌*◌, ◌/◌, ◌^◌, ◌≤◌, ◌<◌}
use native.Mathlib.Nat.{suc-mul}
use native.Mathlib.Omega.{arith}
use lib.Dec.{leb}
use lib.ListN.{length, take, length-take}
use lib.Seq.{get_or-take}
use Rattle.std.specs.Prelude.{if◌then◌else◌}
use Rattle.parse.specs.Parse.{Parsed, value, refused, bind, Parser, ◌>>=◌, give, refusing, refuse_if, here, times}
use Rattle.parse.proofs.General.{leb_same}
use Rattle.bit_reader.specs.Bits.{bit_at, bits_at, u, is_set, skip, align, zeros_before_one, ue}
use Rattle.bit_reader.proofs.Numbers.{u_read, skip_read, align_read, zeros_read}

-- same: the list cut after m bytes, which contain the n bits from p on, has the same answer, also where that is a refusal.
-- near: the next position is at most n bits on.
pub record LooksWithin {A : Type 0} (n : ℕ) (P : Parser A) : Type 0 where
  pub same : (m : ℕ) (s : List ℕ) (p : ℕ) → p + n ≤ 8 * m → P (take m s) p ≡ P s p
  pub near : (s : List ℕ) (p : ℕ) (a : A) (q : ℕ) → P s p ≡ value a q → q ≤ p + n

-- ---- bits
pub bit_take : (m : ℕ) (s : List ℕ) (p : ℕ) → p < 8 * m → bit_at (take m s) p ≡ bit_at s p
bit_take m s p h = rw (get_or-take m s (p / 8) 0 (omega arith))

pub bits_take : (m : ℕ) (s : List ℕ) (p n : ℕ) → p + n ≤ 8 * m → bits_at (take m s) p n ≡ bits_at s p n
unfolding bits_at
bits_take m s p zero h = refl
bits_take m s p (suc n) h = rw (bits_take m s p n (omega arith), bit_take m s (p + n) (omega arith))

-- a bound within the first m bytes is one within the list, so both are refused with 11 or neither is
leb_take : (m : ℕ) (s : List ℕ) (k : ℕ) → k ≤ 8 * m → leb k (8 * length (take m s)) ≡ leb k (8 * length s)
leb_take m s k h = leb_same k (8 * length (take m s)) k (8 * length s) (λ e. omega (arith, length-take m s)) (λ e. omega (arith, length-take m s))

pub local_u : (n : ℕ) → LooksWithin n (u n)
unfolding u
local_u n = record {
  same = λ m s p h. rw (leb_take m s (p + n) h, bits_take m s p n h);
  near = λ s p a q e. omega (arith, u_read n s p a q e);
}

pub local_skip : (n : ℕ) → LooksWithin n (skip n)
unfolding skip
local_skip n = record {
  same = λ m s p h. rw (leb_take m s (p + n) h);
  near = λ s p a q e. omega (arith, skip_read n s p q e);
}

pub local_align : LooksWithin 7 align
unfolding align
local_align = record {
  same = λ m s p h. refl;
  near = λ s p a q e. omega (arith, align_read s p q e);
}

-- ---- joining
pub local_more : {A : Type 0} {P : Parser A} (n k : ℕ) → n ≤ k → LooksWithin n P → LooksWithin k P
local_more n k h l = record {
  same = λ m s p g. l.same m s p (omega arith);
  near = λ s p a q e. omega (arith, l.near s p a q e);
}

pub local_give : {A : Type 0} (a : A) → LooksWithin 0 (give a)
local_give a = record {
  same = λ m s p h. refl;
  near = λ s p b q e. let o : p ≡ q = cc in omega arith;
}

pub local_here : LooksWithin 0 here
local_here = record {
  same = λ m s p h. refl;
  near = λ s p b q e. let o : p ≡ q = cc in omega arith;
}

pub local_refusing : {A : Type 0} (r : ℕ) → LooksWithin 0 (refusing {A = A} r)
local_refusing r = record {
  same = λ m s p h. refl;
  near = λ s p b q e. let o : ◌≡◌ {A = ℕ} 0 1 = cc in absurd (omega arith);
}

-- a choice, over parsers and over their answers
pub local_if : {A : Type 0} (n : ℕ) (b : Bool) {P Q : Parser A} → LooksWithin n P → LooksWithin n Q → LooksWithin n (if b then P else Q)
local_if n true l g = l
local_if n false l g = g

pub local_refuse_if : (b : Bool) (r : ℕ) → LooksWithin 0 (refuse_if b r)
local_refuse_if b r = local_if 0 b (local_refusing r) (local_give tt)

-- One after another; how far the second reads may depend on the first one's value.
module _ {A B : Type 0} (n k : ℕ) (P : Parser A) (Q : A → Parser B) (l : LooksWithin n P)
    (g : (a : A) → (s : List ℕ) (p q : ℕ) → P s p ≡ value a q → LooksWithin k (Q a)) where
  bind_same : (m : ℕ) (s : List ℕ) (p : ℕ) → p + (n + k) ≤ 8 * m → (r : Parsed A) → P s p ≡ r
      → bind r (λ a q. Q a (take m s) q) ≡ bind r (λ a q. Q a s q)
  bind_same m s p h (value a q) e = (g a s p q e).same m s q (omega (arith, l.near s p a q e))
  bind_same m s p h (refused r) e = refl

  bind_near : (s : List ℕ) (p : ℕ) (b : B) (t : ℕ) (r : Parsed A) → P s p ≡ r → bind r (λ a q. Q a s q) ≡ value b t → t ≤ p + (n + k)
  bind_near s p b t (value a q) e f = omega (arith, l.near s p a q e, (g a s p q e).near s q b t f)
  bind_near s p b t (refused r) e f = let o : ◌≡◌ {A = ℕ} 0 1 = cc in absurd (omega arith)

  pub local_bind_of : LooksWithin (n + k) (P >>= Q)
  local_bind_of = record {
    same = λ m s p h. rw (l.same m s p (omega arith)) (bind_same m s p h (P s p) refl);
    near = λ s p b t e. bind_near s p b t (P s p) refl e;
  }

-- P and then Q look within the sum, whatever the value of P; also for P >> Q
pub local_bind : {A B : Type 0} (n k : ℕ) {P : Parser A} {Q : A → Parser B} → LooksWithin n P
    → ((a : A) → LooksWithin k (Q a)) → LooksWithin (n + k) (P >>= Q)
local_bind n k {P} {Q} l g = local_bind_of n k P Q l (λ a s p q e. g a)

pub local_times : {A : Type 0} (n k : ℕ) {P : Parser A} → LooksWithin k P → LooksWithin (n * k) (times n P)
unfolding times
local_times zero k l = local_more 0 (0 * k) (omega arith) (local_give [])
local_times (suc n) k l =
    local_more (k + (n * k + 0)) (suc n * k) (omega (arith, suc-mul n k))
    (local_bind k (n * k + 0) l (λ a. local_bind (n * k) 0 (local_times n k l) (λ rest. local_give (a ∷ rest))))

-- ---- Exp-Golomb: at most 32 bits up to the 1, and 31 after it
pub local_zeros : (z f : ℕ) → LooksWithin f (zeros_before_one z f)
unfolding zeros_before_one
local_zeros z zero = local_refusing 12
local_zeros z (suc f) =
    local_more (1 + f) (suc f) (omega arith)
    (local_bind 1 f (local_u 1)
    (λ b. local_if f (is_set b) (local_more 0 f (omega arith) (local_give z)) (local_zeros (z + 1) f)))

pub local_ue : LooksWithin 63 ue
unfolding ue
local_ue =
    local_bind_of 32 31 (zeros_before_one 0 32) (λ z. u z >>= (λ v. give (2 ^ z - 1 + v))) (local_zeros 0 32)
    (λ z s p q e. local_more (z + 0) 31 (omega (arith, zeros_read s 0 32 p z q e)) (local_bind z 0 (local_u z) (λ v. local_give (2 ^ z - 1 + v))))
