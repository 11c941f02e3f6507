-- An output that is long enough, and an input that is not too long.
use Prim.Native.Nat.{ℕ, ◌^◌, ◌≤◌}
use mathlib.Core.Path.{◌≡◌, refl, sym, ◌∙◌}
use mathlib.Core.List.{List}
use native.Mathlib.Omega.{arith}
use native.Mathlib.Decide.{dec_le}
use lib.ListN.{length}
use borrow.Author.Tests.{le-leb}
use Rattle.parse.specs.Outcome.{Outcome, accept, refuse, lent_input}
use Rattle.parse.proofs.Lent.{lent_too_long, lent_within}
use Rattle.output_lengths.specs.Lengths.{Suffices}
use Rattle.output_lengths.proofs.NotShort.{NotShort}

pub suffices : (n : ℕ) (o : Outcome (List ℕ)) → NotShort o → ((b : List ℕ) → o ≡ accept b → length b ≤ n) → Suffices n o
suffices n (accept b) never h =
    record {
      long = h;
      answer = λ out k. let l = h b refl in rw (le-leb (length b) (length out) (omega arith));
      not_short = λ out k e. let l = h b refl in let z : ◌≡◌ {A = ℕ} 0 20 = rw (le-leb (length b) (length out) (omega arith)) at e in omega arith;
    }
suffices n (refuse e) never h = record { long = h; answer = λ out k. refl; not_short = λ out k. never }

-- what was accepted of an input
pub lent_accepted : {A : Type 0} (s : List ℕ) (o : Outcome A) (a : A) → lent_input s o ≡ accept a → (length s ≤ 2 ^ 30) × (o ≡ accept a)
lent_accepted s o a e =
    elim (dec_le (length s) (2 ^ 30)) [
      | yes k ↦ (k, sym (lent_within s o k) ∙ e)
      | no k ↦ absurd (let x = sym (lent_too_long s o (omega arith)) ∙ e in let z : ◌≡◌ {A = ℕ} 0 1 = cc in omega arith)
    ]
