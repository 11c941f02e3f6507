-- The RBSP of a payload, which is what follows a unit's two header bytes: emulation prevention removed (SCOPE 3.4; H.266 7.3.1.1, the loop
-- over rbsp_byte and emulation_prevention_three_byte).
use Rattle.std.specs.Prelude.{Bool, ◌&&◌, List, [], ◌∷◌, ℕ, ◌+◌, leb, eqb, if◌then◌else◌}
use Rattle.parse.specs.Outcome.{Outcome, accept, lent_input, lent_output, counted}

-- whether b is left out: a 03 after two or more zeros; `n` is how many come directly before b
unfoldable pub drops : ℕ → ℕ → Bool
drops n b = leb 2 n && eqb b 3

-- how many zeros come directly before the byte after b; counting starts again after a 03 that is left out
unfoldable pub next_zeros : ℕ → ℕ → ℕ
next_zeros n b = if eqb b 0 then n + 1 else 0

-- what is kept of bytes that come directly after n zeros
unfoldable pub unescape : ℕ → List ℕ → List ℕ
unescape n [] = []
unescape n (b ∷ bs) =
    if drops n b then unescape (next_zeros n b) bs else b ∷ unescape (next_zeros n b) bs

-- zeros of the header do not count
abbrev pub rbsp : List ℕ → List ℕ
rbsp payload = unescape 0 payload

-- `extract_rbsp`: 23, 20
unfoldable pub extract_rbsp : List ℕ → List ℕ → Outcome ℕ × List ℕ
extract_rbsp payload out = lent_output (counted (lent_input payload (accept (rbsp payload)))) out
