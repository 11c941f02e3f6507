-- Laws of a walk, turn by turn: what is left from a place on, with what was counted or passed before, makes up the answer.
use Prim.Native.Nat.{ℕ, zero, suc, ◌+◌, ◌-◌, ◌<◌}
use mathlib.Core.Path.{◌≡◌, refl, sym, ap, ◌∙◌}
use mathlib.Core.List.{List, []}
use native.Mathlib.Omega.{arith}
use Rattle.parse.specs.Outcome.{Outcome, accept, refuse}
use Rattle.parse.specs.inner.Walk.{more}
use Rattle.boxes.specs.Walk.{count_found, found}
use Rattle.boxes.specs.declared.Span.{Span}
use Rattle.boxes.proofs.Walk.{plus, total, count_more, found_here, found_next}

-- counting, with n counted before; t is the answer
module _ (n : ℕ) (t : Outcome ℕ) (o : Outcome (List Span)) (whole : plus n (count_found o) ≡ t) where
  pub count_on : (a : Span) (rest : Outcome (List Span)) → o ≡ more a rest → plus (n + 1) (count_found rest) ≡ t
  count_on a rest e = sym (count_more n a rest) ∙ ap (λ (o : Outcome (List Span)). plus n (count_found o)) (sym e) ∙ whole

  pub count_end : o ≡ accept [] → accept n ≡ t
  count_end e = ap accept (omega arith) ∙ ap (λ (o : Outcome (List Span)). plus n (count_found o)) (sym e) ∙ whole

  pub count_refused : (k : ℕ) → o ≡ refuse k → refuse k ≡ t
  count_refused k e = ap (λ (o : Outcome (List Span)). plus n (count_found o)) (sym e) ∙ whole

-- finding, with i units to pass; the unit x is the answer
module _ (i : ℕ) (x : Span) (o : Outcome (List Span)) (there : i < total o) (whole : found o i ≡ x) (a : Span) (rest : Outcome (List Span))
    (e : o ≡ more a rest) where
  pub find_here : i ≡ 0 → a ≡ x
  find_here z = go i z there whole
    where
      go : (i : ℕ) → i ≡ 0 → i < total o → found o i ≡ x → a ≡ x
      go zero z h w = sym (found_here a rest (rw e at h)) ∙ (rw e at w)
      go (suc i) z h w = absurd (omega arith)

  pub find_on : (i ≡ 0 → ⊥) → (i - 1 < total rest) × (found rest (i - 1) ≡ x)
  find_on z = go i z there whole
    where
      go : (i : ℕ) → (i ≡ 0 → ⊥) → i < total o → found o i ≡ x → (i - 1 < total rest) × (found rest (i - 1) ≡ x)
      go zero z h w = absurd (z refl)
      go (suc i) z h w =
          let r = found_next a rest i (rw e at h) in
          let l : suc i - 1 ≡ i = omega arith in
          rw l (r.0, r.1 ∙ (rw e at w))
