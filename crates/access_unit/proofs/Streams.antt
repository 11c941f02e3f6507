-- Laws of the stream: its length, streams one after the other, and the first unit's zero byte.
use Prim.Native.Nat.{ℕ, suc, ◌+◌, ◌*◌, ◌-◌, ◌≤◌, ◌<◌}
use mathlib.Core.Path.{◌≡◌, refl, sym, ap, ◌∙◌}
use mathlib.Core.List.{List, [], ◌∷◌, ◌++◌, append_assoc, append-nil}
use native.Mathlib.Omega.{arith}
use lib.ListN.{length}
use borrow.Author.Tests.{lt-leb}
use Rattle.boxes.specs.Bytes.{to_be}
use Rattle.annex_b.specs.Stream.{StartCode, three, four, code_bytes, annex_b}
use Rattle.annex_b.specs.RoundTrip.{one_if_three, threes}
use Rattle.annex_b.proofs.RoundTrip.{counts_what_is_written, no_threes}
use Rattle.access_unit.specs.AccessUnit.{code_of_type, code_of}
use Rattle.access_unit.specs.inner.Gathered.{later_code, coded, zero_byte_of, lengths, saved, saved_in}
use Rattle.access_unit.specs.declared.StartCodes.{StartCodes}
use Rattle.access_unit.specs.declared.StartCodes.TheVariants.{Four, Short}

pub code_long : (c : StartCode) → (3 ≤ length (code_bytes c)) × (length (code_bytes c) ≤ 4)
code_long three = (omega arith, omega arith)
code_long four = (omega arith, omega arith)

-- short codes save a byte where a code has three
pub code_saves : (c : StartCode) → (4 - one_if_three c ≡ length (code_bytes c)) × (one_if_three c ≤ 1)
code_saves three = (refl, omega arith)
code_saves four = (refl, omega arith)

pub stream_none : (code : List ℕ → StartCode) → annex_b (λ k. code) [] ≡ []
unfolding annex_b
stream_none code = refl

-- a unit in the stream, and those after it
pub stream_one : (code : ℕ → List ℕ → StartCode) (u : List ℕ) (us : List (List ℕ))
    → annex_b code (u ∷ us) ≡ (code_bytes (code 0 u) ++ u) ++ annex_b (λ k. code (suc k)) us
unfolding annex_b
stream_one code u us = sym (append_assoc (code_bytes (code 0 u)) u (annex_b (λ k. code (suc k)) us))

-- the stream is at most 4 times the number of units plus the sum of their lengths
pub stream_most : (code : ℕ → List ℕ → StartCode) (us : List (List ℕ)) → length (annex_b code us) ≤ 4 * length us + lengths us
stream_most code us = omega (arith, counts_what_is_written code us)

-- ### units none of which is the first

pub later_length : (codes : StartCodes) (us : List (List ℕ))
    → length (annex_b (λ k. later_code codes) us) + threes (λ k. later_code codes) us ≡ 4 * length us + lengths us
later_length codes us = counts_what_is_written (λ k. later_code codes) us

-- with four bytes throughout none has three
pub four_none : (us : List (List ℕ)) → threes (λ k. later_code Four) us ≡ 0
four_none us = no_threes us

pub saved_append : (us vs : List (List ℕ)) → saved_in (us ++ vs) ≡ saved_in us + saved_in vs
unfolding threes
saved_append [] vs = omega arith
saved_append (u ∷ us) vs = omega (arith, saved_append us vs)

pub saved_few : (us : List (List ℕ)) → saved_in us ≤ length us
unfolding threes
saved_few [] = omega arith
saved_few (u ∷ us) = omega (arith, saved_few us, (code_saves (later_code Short u)).1)

-- where the code of a unit does not depend on its place
module _ (code : List ℕ → StartCode) where
  pub stream_append : (us vs : List (List ℕ)) → annex_b (λ k. code) (us ++ vs) ≡ annex_b (λ k. code) us ++ annex_b (λ k. code) vs
  unfolding annex_b
  stream_append [] vs = refl
  stream_append (u ∷ us) vs =
      rw (stream_append us vs)
      (ap (λ (l : List ℕ). code_bytes (code u) ++ l) (sym (append_assoc u (annex_b (λ k. code) us) (annex_b (λ k. code) vs)))
      ∙ sym (append_assoc (code_bytes (code u)) (u ++ annex_b (λ k. code) us) (annex_b (λ k. code) vs)))

-- a unit after others
pub stream_last : (codes : StartCodes) (us : List (List ℕ)) (v : List ℕ) → 0 < length us
    → annex_b (code_of codes) (us ++ (v ∷ [])) ≡ annex_b (code_of codes) us ++ coded codes v
unfolding annex_b
stream_last codes [] v h = absurd (omega arith)
stream_last codes (u ∷ us) v h =
    let r = annex_b (λ k. later_code codes) us in
    rw (stream_append (later_code codes) us (v ∷ []), append-nil v)
    (ap (λ (l : List ℕ). code_bytes four ++ l) (sym (append_assoc u r (coded codes v))) ∙ sym (append_assoc (code_bytes four) (u ++ r) (coded codes v)))

-- a start code of four bytes is a zero byte, where it has one more, and the other code
four_bytes : (c : StartCode) → code_bytes four ≡ to_be (4 - length (code_bytes c)) 0 ++ code_bytes c
unfolding to_be
four_bytes three = refl
four_bytes four = refl

-- the stream is the first unit's zero byte, if it has one, and the units with the codes that they have where they are not the first
pub zero_first : (codes : StartCodes) (us : List (List ℕ))
    → annex_b (code_of codes) us ≡ to_be (zero_byte_of codes us) 0 ++ annex_b (λ k. later_code codes) us
unfolding annex_b to_be
zero_first codes [] = refl
zero_first codes (u ∷ us) =
    let c = later_code codes u in
    let r = u ++ annex_b (λ k. later_code codes) us in
    ap (λ (l : List ℕ). l ++ r) (four_bytes c) ∙ append_assoc (to_be (4 - length (code_bytes c)) 0) (code_bytes c) r

pub zero_small : (codes : StartCodes) (us : List (List ℕ)) → zero_byte_of codes us ≤ 1
zero_small codes [] = omega arith
zero_small codes (u ∷ us) = omega (arith, (code_long (later_code codes u)).0)

-- with four bytes throughout there is none; with short codes it is what they save of the unit elsewhere
pub zero_four : (us : List (List ℕ)) → zero_byte_of Four us ≡ 0
zero_four [] = refl
zero_four (u ∷ us) = refl

pub zero_short : (u : List ℕ) (us : List (List ℕ)) → zero_byte_of Short (u ∷ us) ≡ saved u
zero_short u us = omega (arith, code_saves (later_code Short u))

-- four bytes throughout
pub four_throughout : (us : List (List ℕ)) → annex_b (code_of Four) us ≡ annex_b (λ k u. four) us
unfolding annex_b
four_throughout [] = refl
four_throughout (u ∷ us) = refl

pub one_below : (t : ℕ) → t < 12 → 1 ≡ one_if_three (code_of_type Short t)
one_below t low = rw (lt-leb 12 t low)

pub lengths_append : (us vs : List (List ℕ)) → lengths (us ++ vs) ≡ lengths us + lengths vs
unfolding lengths
lengths_append [] vs = omega arith
lengths_append (u ∷ us) vs = let e = lengths_append us vs in omega arith
