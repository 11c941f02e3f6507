-- Laws of emulation prevention removed byte by byte.
use mathlib.Core.Path.{◌≡◌, ap}
use mathlib.Core.Bool.{true, false}
use mathlib.Core.List.{List, [], ◌∷◌}
use Prim.Native.Nat.{ℕ, ◌+◌, ◌≤◌, ◌<◌}
use native.Mathlib.Numerals.{add-one}
use native.Mathlib.Omega.{arith}
use lib.Dec.{eqb}
use lib.ListN.{length, get_or, drop, drop_of_length-le}
use lib.Seq.{drop-cons}
use Rattle.parse.proofs.General.{if_elim}
use Rattle.rbsp.specs.Rbsp.{drops, next_zeros, unescape}

-- the byte at i, after z zeros
module _ (z i : ℕ) (l : List ℕ) (h : i < length l) where
  pub step_dropped : drops z (get_or l i 0) ≡ true → unescape z (drop i l) ≡ unescape (next_zeros z (get_or l i 0)) (drop (i + 1) l)
  unfolding unescape
  step_dropped e = rw (add-one, drop-cons l i 0 h, e)

  pub step_kept : drops z (get_or l i 0) ≡ false → unescape z (drop i l) ≡ get_or l i 0 ∷ unescape (next_zeros z (get_or l i 0)) (drop (i + 1) l)
  unfolding unescape
  step_kept e = rw (add-one, drop-cons l i 0 h, e)

-- past the last byte
pub step_end : (z i : ℕ) (l : List ℕ) → length l ≤ i → unescape z (drop i l) ≡ []
unfolding unescape
step_end z i l h = rw (drop_of_length-le l h)

-- a count of zeros grows by one at most
pub zeros_le : (z b : ℕ) → next_zeros z b ≤ z + 1
unfolding next_zeros
zeros_le z b = if_elim (λ n. n ≤ z + 1) (eqb b 0) (z + 1) 0 (omega arith) (omega arith)

-- A turn of the loop that measures: the total is what is counted and the length of what is left.
module _ (total z z' i n n' : ℕ) (l : List ℕ) (h : i < length l) (e : z' ≡ next_zeros z (get_or l i 0))
    (inv : total ≡ n + length (unescape z (drop i l))) where
  pub measure_kept : drops z (get_or l i 0) ≡ false → n' ≡ n + 1 → total ≡ n' + length (unescape z' (drop (i + 1) l))
  measure_kept d f = rw e (omega (arith, ap length (step_kept z i l h d)))

  pub measure_dropped : drops z (get_or l i 0) ≡ true → n' ≡ n → total ≡ n' + length (unescape z' (drop (i + 1) l))
  measure_dropped d f = rw e (omega (arith, ap length (step_dropped z i l h d)))
