-- Laws of a chunk over the width of its length: read before an end, and written.
use Prim.Native.Nat.{ℕ, ◌+◌, ◌≤◌, ◌<◌}
use mathlib.Core.Path.{◌≡◌, sym, ap, ◌∙◌}
use mathlib.Core.List.{List, ◌++◌}
use native.Mathlib.Omega.{arith}
use lib.ListN.{length, take, length-append}
use lib.Seq.{sets, length-take-le}
use Rattle.std.specs.Prelude.{Option, None, Some}
use Rattle.parse.specs.Parse.{Parsed, value, refused}
use Rattle.parse.proofs.General.{sets_append}
use Rattle.boxes.specs.Bytes.{be, chunk, to_be, to_chunk}
use Rattle.boxes.specs.inner.Chunks.{chunk_stepped}
use Rattle.boxes.specs.declared.Span.{Span}
use Rattle.boxes.proofs.Numbers.{be_take, length_to_be}
use Rattle.boxes.proofs.Fields.{chunk_there, chunk_short}

-- a chunk before an end
module _ (w : ℕ) (s : List ℕ) (p e : ℕ) (h : e ≤ length s) where
  long : length (take e s) ≡ e
  long = length-take-le e s h

  pub chunk_no_length : e < p + w → refused 1 ≡ chunk w (take e s) p
  chunk_no_length k = let l = long in sym (chunk_short w (take e s) p (omega arith))

  module _ (there : p + w ≤ e) where
    pub chunk_cut : e < p + w + be s p w → refused 1 ≡ chunk w (take e s) p
    chunk_cut k =
        let l = long in
        let b = be_take s e p w there in
        sym (chunk_short w (take e s) p (omega arith))

    pub chunk_whole : (n : ℕ) → n ≡ be s p w → p + w + n ≤ e → value (record { start = p + w; len = n }) (p + w + n) ≡ chunk w (take e s) p
    chunk_whole n m k =
        let l = long in
        let b : be (take e s) p w ≡ n = be_take s e p w there ∙ sym m in
        sym (chunk_there w (take e s) p (omega arith) ∙ rw b)

-- what the chunk's answer says once it is known which it is
pub chunk_bytes : (r : Option Span) (x : Parsed Span) (a : Span) → chunk_stepped r ≡ x → r ≡ Some a → x ≡ value a (a.start + a.len)
chunk_bytes r x a f e = sym f ∙ ap chunk_stepped e

pub chunk_refused : (r : Option Span) (x : Parsed Span) → chunk_stepped r ≡ x → r ≡ None → x ≡ refused 1
chunk_refused r x f e = sym f ∙ ap chunk_stepped e

-- the bytes that a chunk takes
pub length_to_chunk : (w : ℕ) (u : List ℕ) → length (to_chunk w u) ≡ w + length u
unfolding to_chunk
length_to_chunk w u = length-append (to_be w (length u)) u ∙ rw (length_to_be w (length u))

-- a number of w bytes stored, and bytes after it
pub sets_after : (d : List ℕ) (p w n : ℕ) (u : List ℕ) → sets (sets d p (to_be w n)) (p + w) u ≡ sets d p (to_be w n ++ u)
sets_after d p w n u =
    ap (λ (k : ℕ). sets (sets d p (to_be w n)) (p + k) u) (sym (length_to_be w n)) ∙ sets_append d p (to_be w n) u

pub chunk_written : (d e f u : List ℕ) (p w : ℕ) → e ≡ sets d p (to_be w (length u)) → f ≡ sets e (p + w) u → f ≡ sets d p (to_chunk w u)
unfolding to_chunk
chunk_written d e f u p w x y = y ∙ ap (λ (l : List ℕ). sets l (p + w) u) x ∙ sets_after d p w (length u) u
