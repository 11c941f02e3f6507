-- What a call returns, and what it leaves in the output that it was lent (SCOPE 6.1).
use Rattle.std.specs.Prelude.{ℕ, ◌^◌, ◌≤◌, ◌≡◌, List, ◌++◌, leb, length, drop, if◌then◌else◌}

-- a value, or a refusal by its number (SCOPE 6.2)
pub data Outcome (A : Type 0) : Type 0 where
  accept : A → Outcome A
  refuse : ℕ → Outcome A

-- what f makes of the value, or the refusal
abbrev pub and_then : {A B : Type 0} → Outcome A → (A → Outcome B) → Outcome B
and_then (accept a) f = f a
and_then (refuse e) f = refuse e

-- an input of more than 2^30 bytes is 23, before every other refusal
abbrev pub lent_input : {A : Type 0} → List ℕ → Outcome A → Outcome A
lent_input s o = if leb (length s) (2 ^ 30) then o else refuse 23

-- the output with a result at its front, every other byte or entry as it was
abbrev pub overlay : {A : Type 0} → List A → List A → List A
overlay result out = result ++ drop (length result) out

-- What a call with a result of bytes returns, and what its output holds afterwards. The call returns a value beside the bytes.
-- 20 exactly when the result is longer than the output, after every other refusal. On a refusal no byte changes.
abbrev pub lent_output : {A : Type 0} → Outcome (A × List ℕ) → List ℕ → Outcome A × List ℕ
lent_output (accept (a, bytes)) out = if leb (length bytes) (length out) then (accept a, overlay bytes out) else (refuse 20, out)
lent_output (refuse e) out = (refuse e, out)

-- a result of bytes alone: their count is returned
abbrev pub counted : Outcome (List ℕ) → Outcome (ℕ × List ℕ)
counted (accept bytes) = accept (length bytes, bytes)
counted (refuse e) = refuse e

-- A call that writes is accepted with any output that is long enough: it returns a, and its bytes are at the front of the output.
abbrev pub Writes : {A : Type 0} → Outcome (A × List ℕ) → A → List ℕ → Type 0
Writes o a bytes = (out : List ℕ) → length bytes ≤ length out → lent_output o out ≡ (accept a, overlay bytes out)
