-- Annex B streams: units between start codes, trailing zeros cut off, empty units left out (SCOPE 3.13; H.266 annex B).
use Rattle.std.specs.Prelude.{ℕ, zero, suc, ◌+◌, ◌-◌, List, [], ◌∷◌, ◌++◌, eqb, length, take, drop, if◌then◌else◌}
use Rattle.parse.specs.Outcome.{Outcome, accept, lent_input}
use Rattle.parse.specs.Parse.{Parsed, value, refused, Parser, many}
use Rattle.boxes.specs.declared.Span.{Span}
use Rattle.start_code.specs.StartCode.{start_code_from}

-- x before what is left of the bytes after it; a zero before nothing is cut off
unfoldable pub trim_onto : ℕ → List ℕ → List ℕ
trim_onto zero [] = []
trim_onto (suc x) [] = suc x ∷ []
trim_onto x (y ∷ r) = x ∷ y ∷ r

-- without trailing zeros
unfoldable pub trim : List ℕ → List ℕ
trim [] = []
trim (x ∷ r) = trim_onto x (trim r)

-- from a start code at p: what follows it up to the next one, or to the end, without trailing zeros
unfoldable pub segment : Parser Span
segment s p =
    let next = start_code_from s (p + 3) in
    value (record { start = p + 3; len = length (trim (take (next - (p + 3)) (drop (p + 3) s))) }) next

-- without the empty ones
unfoldable pub non_empty : List Span → List Span
non_empty [] = []
non_empty (a ∷ xs) = if eqb a.len 0 then non_empty xs else a ∷ non_empty xs

-- what was read; reading segments is never refused
abbrev pub all_read : Parsed (List Span) → List Span
all_read (value xs p) = xs
all_read (refused e) = []

-- the units whose start codes are at or after a place
unfoldable pub stream_units_from : List ℕ → ℕ → List Span
stream_units_from s p = non_empty (all_read (many segment s (start_code_from s p)))

-- `split_annex_b`: 23
unfoldable pub split_stream : List ℕ → Outcome (List Span)
split_stream s = lent_input s (accept (stream_units_from s 0))

-- a start code of three bytes, start_code_prefix_one_3bytes, or of four, with a zero_byte before it (H.266 B.2.1)
pub data StartCode : Type 0 where
  three : StartCode
  four : StartCode

abbrev pub code_bytes : StartCode → List ℕ
code_bytes three = 0 ∷ 0 ∷ 1 ∷ []
code_bytes four = 0 ∷ 0 ∷ 0 ∷ 1 ∷ []

-- written: units, each after its start code; code says which one unit k has
unfoldable pub annex_b : (ℕ → List ℕ → StartCode) → List (List ℕ) → List ℕ
annex_b code [] = []
annex_b code (u ∷ us) = code_bytes (code 0 u) ++ (u ++ annex_b (λ k. code (suc k)) us)
