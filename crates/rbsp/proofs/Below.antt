-- Lists of numbers below a bound: the RBSP of bytes is bytes.
use Prim.Native.Nat.{ℕ, zero, suc, ◌+◌, ◌<◌}
use mathlib.Core.List.{List, [], ◌∷◌}
use lib.ListN.{get_or, drop}
use lib.Seq.{get_or-drop}
use Rattle.std.specs.Prelude.{if◌then◌else◌}
use Rattle.parse.proofs.General.{if_elim}
use Rattle.rbsp.specs.Rbsp.{drops, next_zeros, unescape, rbsp}

abbrev pub Below : ℕ → List ℕ → Type 0
Below b l = (i : ℕ) → get_or l i 0 < b

unescape_below : (z : ℕ) (l : List ℕ) → Below 256 l → Below 256 (unescape z l)
unfolding unescape
unescape_below z [] g = g
unescape_below z (x ∷ l) g = kept (unescape_below (next_zeros z x) l (λ i. g (suc i)))
  where
    more : Below 256 (unescape (next_zeros z x) l) → Below 256 (x ∷ unescape (next_zeros z x) l)
    more rest zero = g 0
    more rest (suc i) = rest i

    kept : Below 256 (unescape (next_zeros z x) l) → Below 256 (if drops z x then unescape (next_zeros z x) l else x ∷ unescape (next_zeros z x) l)
    kept rest = if_elim (Below 256) (drops z x) (unescape (next_zeros z x) l) (x ∷ unescape (next_zeros z x) l) rest (more rest)

-- so is that of what follows the first n bytes
pub rbsp_below : (n : ℕ) (unit : List ℕ) → Below 256 unit → Below 256 (rbsp (drop n unit))
rbsp_below n unit g = unescape_below 0 (drop n unit) (λ i. rw (get_or-drop n unit i 0) (g (n + i)))
