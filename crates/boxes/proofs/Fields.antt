-- Laws of fields: a number, bytes and a chunk that are inside the bytes, that run past the end, and that were written.
use Prim.Native.Nat.{ℕ, ◌+◌, ◌^◌, ◌≤◌, ◌<◌}
use mathlib.Core.Path.{◌≡◌, refl, sym, ap, ◌∙◌}
use mathlib.Core.List.{List, ◌++◌, append_assoc}
use native.Mathlib.Omega.{arith}
use native.Mathlib.Decide.{dec_le}
use lib.ListN.{length, length-append}
use lib.Seq.{take_at, drop_at, drop-append-add}
use borrow.Author.Tests.{le-leb, lt-leb}
use Rattle.parse.specs.Outcome.{accept, refuse}
use Rattle.parse.specs.Parse.{Parsed, value, refused}
use Rattle.parse.proofs.Many.{Advances}
use Rattle.boxes.specs.Bytes.{be, to_be, uint, bytes, chunk, to_chunk}
use Rattle.boxes.specs.Parts.{held}
use Rattle.boxes.specs.Answers.{field_at}
use Rattle.boxes.specs.declared.Span.{Span}
use Rattle.boxes.proofs.Numbers.{be_to_be_at, length_to_be}

pub uint_there : (w : ℕ) (s : List ℕ) (p : ℕ) → p + w ≤ length s → uint w s p ≡ value (be s p w) (p + w)
unfolding uint
uint_there w s p h = rw (le-leb (p + w) (length s) h)

pub uint_short : (w : ℕ) (s : List ℕ) (p : ℕ) → length s < p + w → uint w s p ≡ refused 1
unfolding uint
uint_short w s p h = rw (lt-leb (p + w) (length s) h)

pub bytes_there : (n : ℕ) (s : List ℕ) (p : ℕ) → p + n ≤ length s → bytes n s p ≡ value (record { start = p; len = n }) (p + n)
unfolding bytes
bytes_there n s p h = rw (le-leb (p + n) (length s) h)

pub bytes_short : (n : ℕ) (s : List ℕ) (p : ℕ) → length s < p + n → bytes n s p ≡ refused 1
unfolding bytes
bytes_short n s p h = rw (lt-leb (p + n) (length s) h)

module _ (w : ℕ) (s : List ℕ) (p : ℕ) where
  -- a chunk that is there; its length is not there; its bytes are not all there
  pub chunk_there : p + w + be s p w ≤ length s → chunk w s p ≡ value (record { start = p + w; len = be s p w }) (p + w + be s p w)
  unfolding chunk
  chunk_there h = rw (uint_there w s p (omega arith), bytes_there (be s p w) s (p + w) h)

  chunk_no_length : length s < p + w → chunk w s p ≡ refused 1
  unfolding chunk
  chunk_no_length h = rw (uint_short w s p h)

  chunk_no_bytes : p + w ≤ length s → length s < p + w + be s p w → chunk w s p ≡ refused 1
  unfolding chunk
  chunk_no_bytes h k = rw (uint_there w s p h, bytes_short (be s p w) s (p + w) k)

  pub chunk_short : length s < p + w + be s p w → chunk w s p ≡ refused 1
  chunk_short h =
      elim (dec_le (p + w) (length s)) [
        | yes k ↦ chunk_no_bytes k h
        | no k ↦ chunk_no_length (omega arith)
      ]

  -- what a chunk that was read says
  pub record Chunk (a : Span) (q : ℕ) : Type 0 where
    pub start : a.start ≡ p + w
    pub len : a.len ≡ be s p w
    pub next : q ≡ p + w + be s p w
    pub fits : q ≤ length s

  pub chunk_read : (a : Span) (q : ℕ) → chunk w s p ≡ value a q → Chunk a q
  chunk_read a q e =
      elim (dec_le (p + w + be s p w) (length s)) [
        | yes k ↦ there k (sym (chunk_there k) ∙ e)
        | no k ↦ absurd (let x = sym (chunk_short (omega arith)) ∙ e in let z : ◌≡◌ {A = ℕ} 0 1 = cc in omega arith)
      ]
    where
      there : p + w + be s p w ≤ length s
          → ◌≡◌ {A = Parsed Span} (value (record { start = p + w; len = be s p w }) (p + w + be s p w)) (value a q) → Chunk a q
      there k x =
          let y : record { start = p + w; len = be s p w } ≡ a = cc in
          let z : p + w + be s p w ≡ q = cc in
          record { start = ap (λ (b : Span). b.start) (sym y); len = ap (λ (b : Span). b.len) (sym y); next = sym z; fits = omega arith }

pub chunk_advances : (w : ℕ) (s : List ℕ) → 1 ≤ w → Advances (chunk w) s
chunk_advances w s h p a q e = let c = chunk_read w s p a q e in omega arith

-- a chunk that was written between other bytes: its span, and what it holds
module _ (w : ℕ) (s u t : List ℕ) (fits : length u < 256 ^ w) where
  pub chunk_to_chunk : chunk w (s ++ (to_chunk w u ++ t)) (length s) ≡ value (record { start = length s + w; len = length u }) (length s + w + length u)
  unfolding to_chunk
  chunk_to_chunk =
      let n : be (s ++ ((to_be w (length u) ++ u) ++ t)) (length s) w ≡ length u =
      rw (append_assoc (to_be w (length u)) u t) (be_to_be_at s w (length u) (u ++ t) fits) in
      let l : length (s ++ ((to_be w (length u) ++ u) ++ t)) ≡ length s + (w + length u + length t) =
      simp (length-append, length_to_be) in
      chunk_there w (s ++ ((to_be w (length u) ++ u) ++ t)) (length s) (omega arith) ∙ rw n

  pub held_to_chunk : held (s ++ (to_chunk w u ++ t)) (record { start = length s + w; len = length u }) ≡ u
  unfolding to_chunk
  held_to_chunk = rw (
    drop-append-add s ((to_be w (length u) ++ u) ++ t) w,
    append_assoc (to_be w (length u)) u t,
    drop_at (to_be w (length u)) (u ++ t) w (length_to_be w (length u)),
  )
      (take_at u t (length u) refl)

-- the public field's answers, in the order of their tests
module _ (w : ℕ) (s : List ℕ) (p : ℕ) where
  pub field_too_long : 2 ^ 30 < length s → field_at w s p ≡ refuse 23
  unfolding field_at
  field_too_long h = rw (lt-leb (length s) (2 ^ 30) h)

  module _ (lent : length s ≤ 2 ^ 30) where
    pub field_short : length s < p + w → field_at w s p ≡ refuse 1
    unfolding field_at
    field_short h = rw (le-leb (length s) (2 ^ 30) lent, uint_short w s p h)

    pub field_there : p + w ≤ length s → field_at w s p ≡ accept (be s p w, p + w)
    unfolding field_at
    field_there h = rw (le-leb (length s) (2 ^ 30) lent, uint_there w s p h)
