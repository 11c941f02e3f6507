-- Big-endian numbers of whole bytes, read at a place and written (SCOPE 3.1).
use Rattle.std.specs.Prelude.{ℕ, zero, suc, ◌+◌, ◌*◌, ◌/◌, ◌%◌, ◌<◌, List, [], ◌∷◌, ◌++◌, leb, ltb, eqb, length, get_or, take, Bool, ◌||◌, if◌then◌else◌}
use Rattle.parse.specs.Parse.{value, refused, Parser, ◌>>=◌}
use Rattle.boxes.specs.declared.Span.{Span}

-- the number of the w bytes from place p on, the first the highest
unfoldable pub be : List ℕ → ℕ → ℕ → ℕ
be s p zero = 0
be s p (suc w) = be s p w * 256 + get_or s (p + w) 0

-- the w bytes of a number, the highest first
unfoldable pub to_be : ℕ → ℕ → List ℕ
to_be zero n = []
to_be (suc w) n = to_be w (n / 256) ++ (n % 256 ∷ [])

-- a field of w bytes at place p: 1 where p + w is above the length
unfoldable pub uint : ℕ → Parser ℕ
uint w s p = if leb (p + w) (length s) then value (be s p w) (p + w) else refused 1

-- the next n bytes, as a span: 1 where p + n is above the length
unfoldable pub bytes : ℕ → Parser Span
bytes n s p = if leb (p + n) (length s) then value (record { start = p; len = n }) (p + n) else refused 1

-- a length n of w bytes, then n bytes
unfoldable pub chunk : ℕ → Parser Span
chunk w = do
  n ← uint w
  bytes n

-- the same, written: |u| in w bytes, then u
unfoldable pub to_chunk : ℕ → List ℕ → List ℕ
to_chunk w u = to_be w (length u) ++ u

-- P on the bytes of a span alone; places remain those of the whole
unfoldable pub inside : {A : Type 0} → Span → Parser A → Parser A
inside a P s p = P (take (a.start + a.len) s) a.start

-- a prefix size outside 1 to 4
abbrev pub outside : ℕ → Bool
outside size = eqb size 0 || ltb 4 size

-- every element is a byte
abbrev pub AllBytes : List ℕ → Type 0
AllBytes s = (i : ℕ) → get_or s i 0 < 256
