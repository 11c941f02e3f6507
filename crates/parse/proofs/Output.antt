-- Laws of lent output: what a call returns and leaves on a refusal, where the result is too long (20), and where it fits.
use Prim.Native.Nat.{ℕ, ◌≤◌, ◌<◌}
use mathlib.Core.Path.{◌≡◌, ap, refl, ◌∙◌}
use mathlib.Core.List.{List}
use lib.ListN.{length}
use lib.Seq.{sets}
use borrow.Author.Tests.{le-leb, lt-leb}
use Rattle.parse.specs.Outcome.{Outcome, accept, refuse, lent_output, counted, overlay}
use Rattle.parse.proofs.General.{sets_front}
use native.Mathlib.Omega.{arith}
use native.Mathlib.Decide.{dec_le}

-- a value beside the bytes
module _ {A : Type 0} (o : Outcome (A × List ℕ)) (out : List ℕ) where
  pub output_refused : (n : ℕ) → o ≡ refuse n → ◌≡◌ {A = Outcome A × List ℕ} (refuse n, out) (lent_output o out)
  output_refused n e = rw e

  module _ (a : A) (bytes : List ℕ) (e : o ≡ accept (a, bytes)) where
    pub output_short : length out < length bytes → ◌≡◌ {A = Outcome A × List ℕ} (refuse 20, out) (lent_output o out)
    output_short h = rw (e, lt-leb (length bytes) (length out) h)

    pub output_fits : (d : List ℕ) → length bytes ≤ length out → d ≡ sets out 0 bytes → ◌≡◌ {A = Outcome A × List ℕ} (accept a, d) (lent_output o out)
    output_fits d h f = rw (e, le-leb (length bytes) (length out) h, f, sets_front out bytes h)

-- bytes alone, which are counted
module _ (o : Outcome (List ℕ)) (out : List ℕ) where
  pub written_refused : (n : ℕ) → o ≡ refuse n → ◌≡◌ {A = Outcome ℕ × List ℕ} (refuse n, out) (lent_output (counted o) out)
  written_refused n e = output_refused (counted o) out n (ap counted e)

  module _ (bytes : List ℕ) (e : o ≡ accept bytes) where
    pub written_short : length out < length bytes → ◌≡◌ {A = Outcome ℕ × List ℕ} (refuse 20, out) (lent_output (counted o) out)
    written_short h = output_short (counted o) out (length bytes) bytes (ap counted e) h

    pub written_fits : (n : ℕ) (d : List ℕ) → n ≡ length bytes → n ≤ length out → d ≡ sets out 0 bytes
        → ◌≡◌ {A = Outcome ℕ × List ℕ} (accept n, d) (lent_output (counted o) out)
    written_fits n d l h f = rw l (output_fits (counted o) out (length bytes) bytes (ap counted e) d (rw l at h) f)

-- ---- back: what an answer says of the outcome

-- it was accepted: the bytes fit, and are at the front
pub record OutputAccepted {A : Type 0} (o : Outcome (A × List ℕ)) (out exit : List ℕ) (a : A) : Type 0 where
  pub bytes : List ℕ
  pub given : o ≡ accept (a, bytes)
  pub fits : length bytes ≤ length out
  pub holds : exit ≡ overlay bytes out

accepted_bytes : {A : Type 0} (b : A) (bytes out exit : List ℕ) (a : A)
    → ◌≡◌ {A = Outcome A} (accept a) (lent_output (accept (b, bytes)) out).0 → exit ≡ (lent_output (accept (b, bytes)) out).1
    → OutputAccepted (accept (b, bytes)) out exit a
accepted_bytes {A} b bytes out exit a e f =
    elim (dec_le (length bytes) (length out)) [
      | yes k ↦ fitting k (e ∙ rw (le-leb (length bytes) (length out) k)) (f ∙ rw (le-leb (length bytes) (length out) k))
      | no k ↦
          absurd (let x : ◌≡◌ {A = Outcome A} (accept a) (refuse 20) = e ∙ rw (lt-leb (length bytes) (length out) (omega arith)) in
          let z : ◌≡◌ {A = ℕ} 0 1 = cc in omega arith)
    ]
  where
    fitting : length bytes ≤ length out → ◌≡◌ {A = Outcome A} (accept a) (accept b) → exit ≡ overlay bytes out
        → OutputAccepted (accept (b, bytes)) out exit a
    fitting k x y = let s : a ≡ b = cc in record { bytes = bytes; given = rw s; fits = k; holds = y }

pub output_accepted : {A : Type 0} (o : Outcome (A × List ℕ)) (out exit : List ℕ) (a : A)
    → accept a ≡ (lent_output o out).0 → exit ≡ (lent_output o out).1 → OutputAccepted o out exit a
output_accepted (accept (b, bytes)) out exit a e f = accepted_bytes b bytes out exit a e f
output_accepted (refuse n) out exit a e f = let z : ◌≡◌ {A = ℕ} 0 1 = cc in absurd (omega arith)

-- it was refused, and every result fits: the outcome is that refusal
pub output_not_accepted : {A : Type 0} (o : Outcome (A × List ℕ)) (out : List ℕ) (n : ℕ)
    → ((a : A) (b : List ℕ) → o ≡ accept (a, b) → length b ≤ length out)
    → refuse n ≡ (lent_output o out).0 → o ≡ refuse n
output_not_accepted {A} (accept (a, b)) out n fits e =
    let x : ◌≡◌ {A = Outcome A} (refuse n) (accept a) = e ∙ rw (le-leb (length b) (length out) (fits a b refl)) in
    let z : ◌≡◌ {A = ℕ} 0 1 = cc in
    absurd (omega arith)
output_not_accepted (refuse m) out n fits e = let z : m ≡ n = cc in ap refuse z
