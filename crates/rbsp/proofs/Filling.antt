-- Laws of the RBSP written to the front of an output, whole or as far as there is room.
use mathlib.Core.Path.{◌≡◌, ap, sym, ◌∙◌}
use mathlib.Core.Bool.{true, false}
use mathlib.Core.List.{List, ◌++◌, append-nil}
use Prim.Native.Nat.{ℕ, ◌+◌, ◌≤◌, ◌<◌, ◌^◌}
use native.Mathlib.Numerals.{add-one}
use native.Mathlib.Omega.{arith}
use lib.ListN.{length, get_or, take, drop, set, length-take, length-set, take-append-drop}
use lib.Seq.{take-suc-set, drop-set-lt, drop-drop, take_all, length-take-le, take_at, append_snoc}
use borrow.Author.Tests.{le-leb, lt-leb}
use Rattle.parse.specs.Outcome.{accept, refuse, overlay}
use Rattle.rbsp.specs.Rbsp.{drops, next_zeros, unescape, rbsp, extract_rbsp}
use Rattle.rbsp.specs.inner.Front.{Front}
use Rattle.rbsp.proofs.Removal.{step_dropped, step_kept, step_end, zeros_le}

-- The loop that writes: n bytes of the RBSP of p are at the front of o, and what comes after i is left to do.
pub record Filled (p o₀ o : List ℕ) (z n i : ℕ) : Type 0 where
  pub within : i ≤ length p
  pub few : z ≤ i
  pub room : n ≤ length o
  pub long : length o ≡ length o₀
  pub done : rbsp p ≡ take n o ++ unescape z (drop i p)
  pub kept : drop n o ≡ drop n o₀

-- one more element is cut
drop_more : (o o₀ : List ℕ) (n : ℕ) → drop n o ≡ drop n o₀ → drop (n + 1) o ≡ drop (n + 1) o₀
drop_more o o₀ n e = sym (drop-drop 1 n o) ∙ ap (drop 1) e ∙ drop-drop 1 n o₀

-- a turn
module _ (p o₀ o : List ℕ) (z z' n i : ℕ) (f : Filled p o₀ o z n i) (h : i < length p) (e : z' ≡ next_zeros z (get_or p i 0)) where
  pub fill_dropped : drops z (get_or p i 0) ≡ true → Filled p o₀ o z' n (i + 1)
  fill_dropped d = record {
    within = omega arith;
    few = omega (arith, zeros_le z (get_or p i 0));
    room = omega arith;
    long = f.long;
    done = rw e (f.done ∙ ap (λ (l : List ℕ). take n o ++ l) (step_dropped z i p h d));
    kept = f.kept;
  }

  pub fill_kept : drops z (get_or p i 0) ≡ false → n < length o → Filled p o₀ (set o n (get_or p i 0)) z' (n + 1) (i + 1)
  fill_kept d r = record {
    within = omega arith;
    few = omega (arith, zeros_le z (get_or p i 0));
    room = simp length-set (omega arith);
    long = length-set o n (get_or p i 0) ∙ f.long;
    done =
        rw (e, add-one n, take-suc-set o n (get_or p i 0) r, append_snoc (take n o) (get_or p i 0) (unescape (next_zeros z (get_or p i 0)) (drop (i + 1) p)))
        (f.done ∙ ap (λ (l : List ℕ). take n o ++ l) (step_kept z i p h d));
    kept = drop-set-lt (n + 1) o n (get_or p i 0) (omega arith) ∙ drop_more o o₀ n f.kept;
  }

-- bytes that fit are written whole
front_fits : (bytes o : List ℕ) → length bytes ≤ length o → overlay (take (length o) bytes) o ≡ overlay bytes o
front_fits bytes o h = rw (take_all (length o) bytes h)

-- the payload is at its end
pub fill_end : (p o₀ o : List ℕ) (z n i : ℕ) → Filled p o₀ o z n i → length p ≤ i → Front (rbsp p) o₀ o n
fill_end p o₀ o z n i f h =
    let all : rbsp p ≡ take n o = f.done ∙ ap (λ (l : List ℕ). take n o ++ l) (step_end z i p h) ∙ append-nil (take n o) in
    let long : length (rbsp p) ≡ n = ap length all ∙ length-take-le n o f.room in
    record {
      count = omega arith;
      stands = rw (front_fits (rbsp p) o₀ (omega arith), long, all) (rw (← f.kept) (sym (take-append-drop n o)));
    }

-- The three answers of the extraction.
module _ (p o : List ℕ) where
  pub extract_long : 2 ^ 30 < length p → (refuse 23, o) ≡ extract_rbsp p o
  unfolding extract_rbsp
  extract_long h = rw (lt-leb (length p) (2 ^ 30) h)

  pub extract_short : (n : ℕ) → length p ≤ 2 ^ 30 → n ≡ length (rbsp p) → length o < n → (refuse 20, o) ≡ extract_rbsp p o
  unfolding extract_rbsp
  extract_short n h e k = rw (le-leb (length p) (2 ^ 30) h, lt-leb (length (rbsp p)) (length o) (omega arith))

  pub extract_done : (o' : List ℕ) (m n : ℕ) → length p ≤ 2 ^ 30 → m ≡ length (rbsp p) → m ≤ length o → Front (rbsp p) o o' n
      → (accept n, o') ≡ extract_rbsp p o
  unfolding extract_rbsp
  extract_done o' m n h e k f =
      let long : n ≡ length (rbsp p) = omega (arith, f.count) in
      rw (le-leb (length p) (2 ^ 30) h, le-leb (length (rbsp p)) (length o) (omega arith), ← front_fits (rbsp p) o (omega arith), ← f.stands, long)

-- What a fill left at the front is as much of the bytes as there was room for.
pub front_part : (bytes o₀ o : List ℕ) (k n : ℕ) → length o₀ ≡ k → Front bytes o₀ o n → take n o ≡ take k bytes
front_part bytes o₀ o k n e f =
    let h : length (take (length o₀) bytes) ≡ n = omega (arith, length-take (length o₀) bytes, f.count) in
    rw (f.stands, take_at (take (length o₀) bytes) (drop (length (take (length o₀) bytes)) o₀) n h, e)
