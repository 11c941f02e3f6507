-- What a stream says of the units that it was made of (SCOPE 3.13), for any choice of their start codes. The claims are `SplitsBack`,
-- `SameUnits`, `CountsWhatIsWritten` and `Shorter`.
use Rattle.std.specs.Prelude.{ℕ, suc, ◌+◌, ◌*◌, ◌^◌, ◌≤◌, ◌<◌, ◌≡◌, List, [], ◌∷◌, map, length, get_or}
use Rattle.parse.specs.Outcome.{accept}
use Rattle.boxes.specs.Parts.{held}
use Rattle.boxes.specs.declared.Span.{Span}
use Rattle.start_code.specs.Splittable.{Splittable}
use Rattle.annex_b.specs.Stream.{split_stream, StartCode, three, four, annex_b}

-- no unit is empty, contains 00 00 01 or ends in 00
abbrev pub AllSplittable : List (List ℕ) → Type 0
AllSplittable us = (k : ℕ) → k < length us → Splittable (get_or us k [])

-- splitting s returns these units, in order
pub record SplitsInto (s : List ℕ) (us : List (List ℕ)) : Type 0 where
  pub spans : List Span
  pub splits : split_stream s ≡ accept spans
  pub units : map (held s) spans ≡ us

-- Splitting a stream of at most 2^30 bytes returns exactly the units that it was made of.
abbrev pub SplitsBack : (ℕ → List ℕ → StartCode) → Type 0
SplitsBack code = (us : List (List ℕ)) → AllSplittable us → length (annex_b code us) ≤ 2 ^ 30 → SplitsInto (annex_b code us) us

-- Equal streams were made of equal units.
abbrev pub SameUnits : (ℕ → List ℕ → StartCode) → Type 0
SameUnits code = (us vs : List (List ℕ)) → AllSplittable us → AllSplittable vs → annex_b code us ≡ annex_b code vs → us ≡ vs

-- how many units have a start code of three bytes
abbrev pub one_if_three : StartCode → ℕ
one_if_three three = 1
one_if_three four = 0

unfoldable pub threes : (ℕ → List ℕ → StartCode) → List (List ℕ) → ℕ
threes code [] = 0
threes code (u ∷ us) = one_if_three (code 0 u) + threes (λ k. code (suc k)) us

-- the sum of the lengths of units
unfoldable pub lengths : List (List ℕ) → ℕ
lengths [] = 0
lengths (u ∷ us) = length u + lengths us

-- The length of a stream counts what was written: it is 4 times the number of units plus their lengths, less 1 for each start code of three bytes.
abbrev pub CountsWhatIsWritten : (ℕ → List ℕ → StartCode) → Type 0
CountsWhatIsWritten code = (us : List (List ℕ)) → length (annex_b code us) + threes code us ≡ 4 * length us + lengths us

-- A stream is shorter by exactly that many bytes than the stream of the same units with four bytes throughout.
abbrev pub Shorter : (ℕ → List ℕ → StartCode) → Type 0
Shorter code = (us : List (List ℕ)) → length (annex_b code us) + threes code us ≡ length (annex_b (λ k u. four) us)
