-- What is written to every output that is long enough is what was accepted, and conversely.
use Prim.Native.Nat.{ℕ, suc, ◌+◌, ◌≤◌, ◌<◌}
use native.Mathlib.Omega.{arith}
use native.Mathlib.Decide.{dec_le}
use mathlib.Core.Path.{◌≡◌, sym, ap, ◌∙◌}
use mathlib.Core.List.{List}
use lib.ListN.{length, drop, get_or, replicate, length-replicate, get_or-replicate, get_or-append}
use lib.Seq.{ext_get_or, get_or-append-add, get_or-drop}
use borrow.Author.Tests.{le-leb}
use Rattle.parse.specs.Outcome.{Outcome, accept, refuse, overlay, counted, Writes}

pub writes_of : {A : Type 0} (o : Outcome (A × List ℕ)) (a : A) (b : List ℕ) → o ≡ accept (a, b) → Writes o a b
writes_of o a b e out h = rw e (rw (le-leb (length b) (length out) h))

pub counts_of : (o : Outcome (List ℕ)) (b : List ℕ) → o ≡ accept b → Writes (counted o) (length b) b
counts_of o b e out h = rw e (rw (le-leb (length b) (length out) h))

-- bytes at the front of an output of n zeros and of one of n ones
module _ (n : ℕ) (b c : List ℕ) (long : length b + length c ≤ n) (same : (v : ℕ) → overlay c (replicate n v) ≡ overlay b (replicate n v)) where
  -- after them the output is unchanged
  not_longer : length b < length c → ⊥
  not_longer h = let z = after 0 in let o = after 1 in omega arith
    where
      after : (v : ℕ) → get_or c (length b + 0) 0 ≡ v
      after v = sym (get_or-append c (drop (length c) (replicate n v)) 0 (length b + 0) (omega arith))
          ∙ ap (λ (l : List ℕ). get_or l (length b + 0) 0) (same v)
          ∙ get_or-append-add b (drop (length b) (replicate n v)) 0 0 ∙ get_or-drop (length b) (replicate n v) 0 0
          ∙ get_or-replicate n (length b + 0) v 0 (omega arith)

  alike : length c ≡ length b → c ≡ b
  alike e =
      ext_get_or 0 c b e (λ i h. sym (get_or-append c (drop (length c) (replicate n 0)) 0 i h) ∙ ap (λ (l : List ℕ). get_or l i 0) (same 0)
      ∙ get_or-append b (drop (length b) (replicate n 0)) 0 i (omega arith))

same_front : (n : ℕ) (b c : List ℕ) → length b + length c ≤ n → ((v : ℕ) → overlay c (replicate n v) ≡ overlay b (replicate n v)) → c ≡ b
same_front n b c long same =
    alike n b c long same
    (elim (dec_le (suc (length b)) (length c)) [
      | yes l ↦ absurd (not_longer n b c long same l)
      | no l ↦
          elim (dec_le (suc (length c)) (length b)) [
            | yes m ↦ absurd (not_longer n c b (omega arith) (λ v. sym (same v)) m)
            | no m ↦ omega arith
          ]
    ])

pub accepted_of : {A : Type 0} (o : Outcome (A × List ℕ)) (a : A) (b : List ℕ) → Writes o a b → o ≡ accept (a, b)
accepted_of {A} (refuse e) a b w =
    let r : refuse e ≡ accept a = ap (λ (y : Outcome A × List ℕ). y.0) (w b (omega arith)) in
    let z : ◌≡◌ {A = ℕ} 0 1 = cc in
    absurd (omega arith)
accepted_of {A} (accept (x, c)) a b w =
    let e : accept x ≡ accept a = ap (λ (y : Outcome A × List ℕ). y.0) (given 0) in
    let f : c ≡ b = same_front n b c (omega arith) (λ v. ap (λ (y : Outcome A × List ℕ). y.1) (given v)) in
    cc
  where
    n : ℕ
    n = length b + length c

    given : (v : ℕ) → ◌≡◌ {A = Outcome A × List ℕ} (accept x, overlay c (replicate n v)) (accept a, overlay b (replicate n v))
    given v = rw (le-leb (length c) (length (replicate n v)) (omega (arith, length-replicate n v)))
        at (w (replicate n v) (omega (arith, length-replicate n v)))

pub accepted_bytes : (o : Outcome (List ℕ)) (b : List ℕ) → Writes (counted o) (length b) b → o ≡ accept b
accepted_bytes (refuse e) b w = let z : ◌≡◌ {A = ℕ} 0 1 = cc (accepted_of (refuse e) (length b) b w) in absurd (omega arith)
accepted_bytes (accept c) b w =
    let p : ◌≡◌ {A = ℕ × List ℕ} (length c, c) (length b, b) = cc (accepted_of (accept (length c, c)) (length b) b w) in
    ap (λ (y : ℕ × List ℕ). accept y.1) p
