-- What a `?` returns where it was given a refusal: that refusal. And steps of a walk that are asked for what they found alone.
use Prim.Native.Nat.{ℕ}
use mathlib.Core.Path.{◌≡◌, sym, ap, ◌∙◌}
use native.Mathlib.Omega.{arith}
use Rattle.std.specs.Prelude.{Option, Some, None, Result, Ok, Err, IsErrAnd}
use Rattle.std.specs.Result.{result_unwrap_or}
use Rattle.std.proofs.lemmas.Result.{err_from_is_err_and}
use Rattle.error.specs.Refusals.{number_of}
use Rattle.error.specs.declared.Refusal.{Refusal}
use Rattle.parse.specs.Answers.{answer_of}
use Rattle.parse.specs.Outcome.{Outcome, refuse}

module _ {A : Type 0} (r : Result A Refusal) (e : Refusal) (h : IsErrAnd r (λ y. y ≡ e)) where
  pub passed_on : r ≡ Err e
  passed_on = let p = err_from_is_err_and r h in p.1 ∙ ap Err p.2

  pub passed_answer : answer_of r ≡ refuse (number_of e)
  passed_answer = ap answer_of passed_on

  -- beside an output that is as it was
  pub passed_output : {B : Type 0} (out : B) → ◌≡◌ {A = Outcome A × B} (answer_of r, out) (refuse (number_of e), out)
  passed_output out = ap (λ (o : Outcome A). (o, out)) passed_answer

-- `step.unwrap_or(None)`: what the step found, or that it found nothing
module _ {A : Type 0} where
  pub step_some : (r : Result (Option A) Refusal) (o : Option A) (a : A) → o ≡ result_unwrap_or r None → o ≡ Some a → r ≡ Ok (Some a)
  step_some (Ok p) o a e f = ap Ok (sym e ∙ f)
  step_some (Err n) o a e f = let z : ◌≡◌ {A = ℕ} 0 1 = cc in absurd (omega arith)

  pub step_none : (r : Result (Option A) Refusal) (o : Option A) → o ≡ result_unwrap_or r None → o ≡ None → (a : A) → r ≡ Ok (Some a) → ⊥
  step_none (Ok p) o e f a g = let z : ◌≡◌ {A = ℕ} 0 1 = cc in omega arith
  step_none (Err n) o e f a g = let z : ◌≡◌ {A = ℕ} 0 1 = cc in omega arith
