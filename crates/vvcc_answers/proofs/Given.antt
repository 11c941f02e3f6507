-- Laws of the answers: which struct of numbers an outcome is, and what a caller's numbers ask for.
use Prim.Native.Nat.{ℕ}
use mathlib.Core.Path.{◌≡◌, ap, ◌∙◌}
use mathlib.Core.List.{List}
use Rattle.std.specs.Prelude.{Option}
use borrow.Author.Tests.{ne_eqb}
use Rattle.parse.specs.Outcome.{Outcome, refuse, lent_output, counted}
use Rattle.access_unit.specs.declared.StartCodes.{StartCodes}
use Rattle.access_unit.specs.declared.StartCodes.TheVariants.{Short}
use Rattle.vvcc_answers.specs.Answers.{written_answer, written_given, codes_from}
use Rattle.vvcc_answers.specs.declared.VvccWritten.{VvccWritten}

pub short_codes : (n : ℕ) → (n ≡ 0 → ⊥) → Short ≡ codes_from n
short_codes n e = rw (ne_eqb n 0 e)

-- a refusal leaves the output as it is
pub given_refused : (o : Outcome (List ℕ)) (out : List ℕ) (n : ℕ) (r : VvccWritten) → r ≡ written_answer (refuse n) → o ≡ refuse n
    → (r, out) ≡ written_given o out
given_refused o out n r f e = rw (e, f)

-- what the called function returned, and what it left in the output
pub given_by : (o : Outcome (List ℕ)) (out exit : List ℕ) (w : Outcome ℕ) (r : VvccWritten) → r ≡ written_answer w
    → (w, exit) ≡ lent_output (counted o) out → (r, exit) ≡ written_given o out
given_by o out exit w r f e =
    ap (λ (x : VvccWritten). (x, exit)) f ∙ ap (λ (y : Outcome ℕ × List ℕ). (written_answer y.0, y.1)) e

-- what the called function returned for the start codes and the target that the caller asks for, and what it left in the output
pub given_choice : (f : StartCodes → Option ℕ → Outcome (List ℕ)) (c codes : StartCodes) (t tols : Option ℕ) (out exit : List ℕ) (w : Outcome ℕ)
    (r : VvccWritten) → r ≡ written_answer w → (w, exit) ≡ lent_output (counted (f c t)) out → c ≡ codes → t ≡ tols
    → (r, exit) ≡ written_given (f codes tols) out
given_choice f c codes t tols out exit w r g e k h = given_by (f codes tols) out exit w r g (rw (k, h) at e)
