-- Parsers: reading a list of bytes from a position on. The position is a place, which counts bytes, for fields of bytes (SCOPE 3.1), and
-- counts bits for fields of bits (SCOPE 3.5).
use Rattle.std.specs.Prelude.{ℕ, zero, suc, Bool, List, [], ◌∷◌, leb, length, if◌then◌else◌}
use Rattle.parse.specs.Outcome.{Outcome, accept, refuse}

-- a value and the position after it, or a refusal's number
pub data Parsed (A : Type 0) : Type 0 where
  value : A → ℕ → Parsed A
  refused : ℕ → Parsed A

-- what f makes of the value and the position, or the refusal
abbrev pub bind : {A B : Type 0} → Parsed A → (A → ℕ → Parsed B) → Parsed B
bind (value a p) f = f a p
bind (refused e) f = refused e

-- a function of the bytes and the position to read from
abbrev pub Parser : Type 0 → Type 0
Parser A = List ℕ → ℕ → Parsed A

-- one read after another: the second depends on the first one's value (>>=), or does not (>>)
infixl 20 ◌>>=◌
infixl 20 ◌>>◌
abbrev pub ◌>>=◌ : {A B : Type 0} → Parser A → (A → Parser B) → Parser B
◌>>=◌ P f s p = bind (P s p) (λ a q. f a s q)

abbrev pub ◌>>◌ : {A B : Type 0} → Parser A → Parser B → Parser B
◌>>◌ P Q s p = bind (P s p) (λ a q. Q s q)

-- the value a, without reading
abbrev pub give : {A : Type 0} → A → Parser A
give a s p = value a p

-- refused with e
abbrev pub refusing : {A : Type 0} → ℕ → Parser A
refusing e s p = refused e

-- refused with e where the test holds; else reading goes on
abbrev pub refuse_if : Bool → ℕ → Parser (Unit {0})
refuse_if b e = if b then refusing e else give tt

-- the position itself
abbrev pub here : Parser ℕ
here s p = value p p

-- P n times, one after another
unfoldable pub times : {A : Type 0} → ℕ → Parser A → Parser (List A)
times zero P = give []
times (suc n) P = do
  a ← P
  rest ← times n P
  give (a ∷ rest)

-- P repeated up to the end of the bytes, at most f times
unfoldable pub many_up_to : {A : Type 0} → ℕ → Parser A → Parser (List A)
many_up_to zero P s p = value [] p
many_up_to (suc f) P s p =
    if leb (length s) p then value [] p
    else bind (P s p) (λ a q. bind (many_up_to f P s q) (λ rest r. value (a ∷ rest) r))

-- P repeated up to the end of the bytes; where P takes at least one byte there are no more turns than bytes
unfoldable pub many : {A : Type 0} → Parser A → Parser (List A)
many P s p = many_up_to (length s) P s p

-- the result of reading, without the position after it
abbrev pub outcome : {A : Type 0} → Parsed A → Outcome A
outcome (value a p) = accept a
outcome (refused e) = refuse e

-- the result of reading, with the number n for every refusal
abbrev pub outcome_or : {A : Type 0} → ℕ → Parsed A → Outcome A
outcome_or n (value a p) = accept a
outcome_or n (refused e) = refuse n
