-- Steps one after another: the first refusal is that of the whole (SCOPE 4.7).
use Rattle.std.specs.Prelude.{ℕ, Option, None, Some}
use Rattle.parse.specs.Outcome.{Outcome, accept, refuse, and_then}

infixl 20 ◌>>=◌
infixl 20 ◌>>◌
abbrev pub ◌>>=◌ : {A B : Type 0} → Outcome A → (A → Outcome B) → Outcome B
◌>>=◌ o f = and_then o f

abbrev pub ◌>>◌ : {A B : Type 0} → Outcome A → Outcome B → Outcome B
◌>>◌ o p = and_then o (λ a. p)

-- the value where there is one, else refused with e
abbrev pub or_refuse : {A : Type 0} → ℕ → Option A → Outcome A
or_refuse e (Some a) = accept a
or_refuse e None = refuse e
