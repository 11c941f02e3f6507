-- Laws of general_constraints_info( ): where it ends, and the bytes that hold it.
use mathlib.Core.Path.{◌≡◌, refl, ◌∙◌}
use mathlib.Core.Bool.{Bool, true, false}
use mathlib.Core.List.{List, [], ◌∷◌, ◌++◌}
use Prim.Native.Nat.{ℕ, ◌+◌, ◌-◌, ◌*◌, ◌/◌, ◌%◌, ◌≤◌, ◌<◌}
use native.Mathlib.Omega.{arith}
use lib.ListN.{length, get_or, take, drop, set, replicate, length-drop}
use lib.Seq.{length-take-le}
use Rattle.std.specs.Prelude.{if◌then◌else◌, Ok}
use Rattle.parse.specs.Parse.{Parsed, value, give}
use Rattle.parse.proofs.Binds.{first_read}
use Rattle.bit_reader.specs.Bits.{u, is_set, skip}
use Rattle.bit_reader.specs.inner.Reader.{Reads}
use Rattle.bit_reader.specs.declared.BitPosition.{BitPosition}
use Rattle.bit_reader.specs.declared.reader.BitReader.{BitReader}
use Rattle.bit_reader.proofs.Chain.{read_value}
use Rattle.bit_reader.proofs.Numbers.{u_read, skip_read, align_read}
use Rattle.ptl.specs.Ptl.{padded, without_flags, constraint_bits, general_constraints_info}
use Rattle.std.proofs.lemmas.List.{drop-replicate}

-- what gci_present_flag announces
abbrev pub announced : ℕ → List ℕ → ℕ → Parsed (Unit {0})
announced present s p = (if is_set present then constraint_bits else give tt) s p

-- ---- where it ends
pub record Spanned (s : List ℕ) (p n q : ℕ) : Type 0 where
  pub from : p ≤ q
  pub near : q ≤ p + n
  pub within : q ≤ 8 * length s

pub bits_span : (s : List ℕ) (p q : ℕ) → constraint_bits s p ≡ value tt q → Spanned s p 334 q
unfolding constraint_bits
bits_span s p q h =
    first_read (skip 71 s p) _ h (λ _ a e f. first_read (u 8 s a) _ f (λ n b g k.
    let x = skip_read 71 s p a e in
    let y = u_read 8 s a n b g in
    let z = skip_read n s b q k in
    record { from = omega arith; near = omega arith; within = omega arith }))

pub announced_span : (b : ℕ) (s : List ℕ) (p q : ℕ) → p ≤ 8 * length s → announced b s p ≡ value tt q → Spanned s p 334 q
announced_span b s p q h = go (is_set b)
  where
    go : (t : Bool) → (if t then constraint_bits else give tt) s p ≡ value tt q → Spanned s p 334 q
    go true e = bits_span s p q e
    go false e = let z : p ≡ q = cc in record { from = omega arith; near = omega arith; within = omega arith }

-- at a whole byte after 1 to 335 bits
pub record Informed (s : List ℕ) (p q : ℕ) : Type 0 where
  pub whole : q % 8 ≡ 0
  pub from : p < q
  pub near : q ≤ (p + 342) / 8 * 8
  pub within : q ≤ 8 * length s

pub info_read : (s : List ℕ) (p q : ℕ) → general_constraints_info s p ≡ value tt q → Informed s p q
unfolding general_constraints_info
info_read s p q h =
    first_read (u 1 s p) _ h (λ b a e f. first_read (announced b s a) _ f (λ _ t g k.
    let x = u_read 1 s p b a e in
    let y = announced_span b s a t x.within g in
    let z = align_read s t q k in
    record { whole = omega arith; from = omega arith; near = omega arith; within = omega arith }))

-- ---- the bytes
pub length_without : (l : List ℕ) → length (without_flags l) ≡ length l
unfolding without_flags
length_without [] = refl
length_without (b ∷ l) = refl

-- as many as lie between their ends
pub length_run : (s : List ℕ) (from to : ℕ) → to ≤ length s → length (without_flags (take (to - from) (drop from s))) ≡ to - from
length_run s from to h =
    length_without (take (to - from) (drop from s)) ∙ length-take-le (to - from) (drop from s) (omega (arith, length-drop from s))

-- the first of them without its top two bits
cleared : (l : List ℕ) → set (padded 63 0 l) 0 (get_or (padded 63 0 l) 0 0 % 64) ≡ padded 63 0 (without_flags l)
unfolding without_flags
cleared [] = refl
cleared (b ∷ l) = refl

pub copied : (l : List ℕ) (n : ℕ) → length l ≡ n
    → set (l ++ drop n (replicate 63 0)) 0 (get_or (l ++ drop n (replicate 63 0)) 0 0 % 64) ≡ padded 63 0 (without_flags l)
copied l n e = rw (drop-replicate {X = ℕ} n 63 0, ← e) (cleared l)

-- ---- the section: the bits between its two ends
pub record Run (s : List ℕ) (p q : ℕ) : Type 0 where
  pub some : p < q
  pub whole : q % 8 ≡ 0
  pub near : q ≤ (p + 344) / 8 * 8
  pub within : q ≤ 8 * length s

-- the two flags and the information were read one after the other, from at to end
pub run_of : {a b c d : BitReader} {x y : ℕ} {at end : BitPosition} → at ≡ a.pos → end ≡ d.pos → Reads (u 1) a b (Ok x) → Reads (u 1) b c (Ok y)
    → Reads general_constraints_info c d (Ok tt) → Run a.src.now at.0 end.0
run_of {a} {b} {c} {d} {x} {y} f g h k l =
    let r = u_read 1 a.src.now a.pos.0 x b.pos.0 (read_value refl h) in
    let t = u_read 1 a.src.now b.pos.0 y c.pos.0 (read_value h.bytes k) in
    let z = info_read a.src.now c.pos.0 d.pos.0 (read_value (k.bytes ∙ h.bytes) l) in
    rw (f, g) (record { some = omega arith; whole = z.whole; near = omega arith; within = z.within })
