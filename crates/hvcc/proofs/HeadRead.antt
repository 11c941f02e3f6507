-- The definition of a head by cases: no byte, another version, too few bytes, all 22 bytes.
use Prim.Native.Nat.{ℕ, ◌+◌, ◌≤◌, ◌<◌}
use mathlib.Core.Path.{◌≡◌, ◌∙◌}
use mathlib.Core.List.{List}
use native.Mathlib.Omega.{arith}
use native.Mathlib.Decide.{dec_le}
use lib.ListN.{length, get_or}
use borrow.Author.Tests.{eq-eqb, ne_eqb}
use Rattle.parse.specs.Parse.{Parsed, value, refused, bind}
use Rattle.boxes.specs.Bytes.{be, uint}
use Rattle.boxes.proofs.Fields.{uint_there, uint_short}
use Rattle.boxes.proofs.Numbers.{be_one}
use Rattle.hvcc.specs.Read.{hevc_head}
use Rattle.hvcc.specs.inner.Fields.{head_fields}

module _ (s : List ℕ) where
  -- a byte that is there
  byte_read : (p : ℕ) → p + 1 ≤ length s → uint 1 s p ≡ value (get_or s p 0) (p + 1)
  byte_read p h = uint_there 1 s p h ∙ rw (be_one s p)

  pub head_none : length s ≡ 0 → hevc_head s 0 ≡ refused 1
  unfolding hevc_head
  head_none h = rw (uint_short 1 s 0 (omega arith))

  pub head_other : 0 < length s → (get_or s 0 0 ≡ 1 → ⊥) → hevc_head s 0 ≡ refused 27
  unfolding hevc_head
  head_other h n = rw (byte_read 0 (omega arith), ne_eqb (get_or s 0 0) 1 n)

  module _ (first : get_or s 0 0 ≡ 1) where
    -- a number before which the bytes may end
    short_number : {B : Type 0} (w p : ℕ) (f : ℕ → ℕ → Parsed B) → (p + w ≤ length s → f (be s p w) (p + w) ≡ refused 1)
        → bind (uint w s p) f ≡ refused 1
    short_number w p f k =
        elim (dec_le (p + w) (length s)) [
          | yes h ↦ rw (uint_there w s p h) (k h)
          | no h ↦ rw (uint_short w s p (omega arith))
        ]

    pub head_short : 0 < length s → length s < 22 → hevc_head s 0 ≡ refused 1
    unfolding hevc_head
    head_short h n =
        rw (byte_read 0 (omega arith), eq-eqb (get_or s 0 0) 1 first)
        (short_number 1 1 _ (λ _.
        short_number 4 2 _ (λ _.
        short_number 6 6 _ (λ _.
        short_number 1 12 _ (λ _.
        short_number 2 13 _ (λ _.
        short_number 1 15 _ (λ _.
        short_number 1 16 _ (λ _.
        short_number 1 17 _ (λ _.
        short_number 1 18 _ (λ _.
        short_number 2 19 _ (λ _.
        short_number 1 21 _ (λ k. absurd (omega arith)))))))))))))

    pub head_there : 22 ≤ length s → hevc_head s 0 ≡ value (head_fields s) 22
    unfolding hevc_head
    head_there h = rw (
      byte_read 0 (omega arith),
      eq-eqb (get_or s 0 0) 1 first,
      byte_read 1 (omega arith),
      uint_there 4 s 2 (omega arith),
      uint_there 6 s 6 (omega arith),
      byte_read 12 (omega arith),
      uint_there 2 s 13 (omega arith),
      byte_read 15 (omega arith),
      byte_read 16 (omega arith),
      byte_read 17 (omega arith),
      byte_read 18 (omega arith),
      uint_there 2 s 19 (omega arith),
      byte_read 21 h,
    )
