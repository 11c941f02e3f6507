-- What one step of a walk does to the count and to the unit found as number k. One set of laws for lists, items and streams.
use Prim.Native.Nat.{ℕ, suc, ◌+◌, ◌≤◌, ◌<◌}
use native.Mathlib.Omega.{arith}
use native.Mathlib.Decide.{dec_le}
use mathlib.Core.Path.{◌≡◌, refl, sym, ap, ◌∙◌}
use mathlib.Core.List.{List, [], ◌∷◌, ◌++◌, append-nil, append_assoc}
use lib.Dec.{eqb}
use lib.ListN.{length, get_or, length-append, get_or-append, get_or-eq_default}
use lib.Seq.{get_or_at}
use borrow.Author.Tests.{eq-eqb, ne_eqb}
use Rattle.std.specs.Prelude.{if◌then◌else◌}
use Rattle.parse.specs.Outcome.{Outcome, accept, refuse}
use Rattle.parse.specs.inner.Walk.{more}
use Rattle.boxes.specs.Parts.{nowhere}
use Rattle.boxes.specs.Walk.{count_found, found}
use Rattle.boxes.specs.declared.Span.{Span}

-- a count with n counted before
abbrev pub plus : ℕ → Outcome ℕ → Outcome ℕ
plus n (accept m) = accept (n + m)
plus n (refuse e) = refuse e

-- how many are found, 0 on a refusal
abbrev pub total : {A : Type 0} → Outcome (List A) → ℕ
total (accept xs) = length xs
total (refuse e) = 0

pub plus_zero : (o : Outcome ℕ) → plus 0 o ≡ o
plus_zero (accept m) = ap accept (omega arith)
plus_zero (refuse e) = refl

module _ {A : Type 0} where
  pub count_more : (n : ℕ) (a : A) (o : Outcome (List A)) → plus n (count_found (more a o)) ≡ plus (n + 1) (count_found o)
  count_more n a (accept xs) = ap accept (omega arith)
  count_more n a (refuse e) = refl

pub found_here : (a : Span) (o : Outcome (List Span)) → 0 < total (more a o) → found (more a o) 0 ≡ a
found_here a (accept xs) h = refl
found_here a (refuse e) h = absurd (omega arith)

pub found_next : (a : Span) (o : Outcome (List Span)) (i : ℕ) → suc i < total (more a o)
    → (i < total o) × (found o i ≡ found (more a o) (suc i))
found_next a (accept xs) i h = (omega arith, refl)
found_next a (refuse e) i h = absurd (omega arith)

-- ### a walk that keeps what it has passed: what is done, and what is left after it

abbrev pub after : List Span → Outcome (List Span) → Outcome (List Span)
after done (accept us) = accept (done ++ us)
after done (refuse e) = refuse e

pub after_nil : (o : Outcome (List Span)) → after [] o ≡ o
after_nil (accept us) = refl
after_nil (refuse e) = refl

module _ (done : List Span) (left whole : Outcome (List Span)) (so : after done left ≡ whole) where
  pub done_more : (a : Span) (rest : Outcome (List Span)) → left ≡ more a rest → after (done ++ (a ∷ [])) rest ≡ whole
  done_more a rest e = go rest ∙ ap (after done) (sym e) ∙ so
    where
      go : (o : Outcome (List Span)) → after (done ++ (a ∷ [])) o ≡ after done (more a o)
      go (accept us) = ap accept (append_assoc done (a ∷ []) us)
      go (refuse e) = refl

  pub done_end : left ≡ accept [] → accept done ≡ whole
  done_end e = ap accept (sym (append-nil done)) ∙ ap (after done) (sym e) ∙ so

  pub done_refused : (n : ℕ) → left ≡ refuse n → refuse n ≡ whole
  done_refused n e = ap (after done) (sym e) ∙ so
