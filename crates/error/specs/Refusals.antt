-- The number of each refusal (SCOPE 6.2).
use Rattle.std.specs.Prelude.{ℕ, ◌≡◌, ◌<◌, ◌⊎◌, Result, MatchResult}
use Rattle.error.specs.declared.Refusal.{Refusal}
use Rattle.error.specs.declared.Refusal.TheVariants as R
use Rattle.error.specs.declared.UnknownNumber.{UnknownNumber}

abbrev pub number_of : Refusal → ℕ
number_of R.Truncated = 1
number_of R.ConstraintLengthZero = 2
number_of R.PrefixSizeThree = 3
number_of R.PrefixSize = 4
number_of R.ZeroLengthUnit = 5
number_of R.UnitTooLongForPrefix = 6
number_of R.BytesLeftOver = 7
number_of R.CompactUnitCount = 8
number_of R.CompactUnitTooLong = 9
number_of R.WrongUnitType = 10
number_of R.BitsRunOut = 11
number_of R.CodeTooLong = 12
number_of R.Subpictures = 13
number_of R.BitDepth = 14
number_of R.SeveralLayers = 15
number_of R.NoVps = 16
number_of R.NoSps = 17
number_of R.NoPtl = 18
number_of R.NothingToWrite = 19
number_of R.BufferTooShort = 20
number_of R.UnitList = 21
number_of R.FieldTooWide = 22
number_of R.InputTooLong = 23
number_of R.NotOneStill = 24
number_of R.ReservedBit = 25
number_of R.ArrayType = 26
number_of R.ConfigurationVersion = 27
number_of R.DirectoryTooShort = 28
number_of R.TooLongToNarrow = 29

-- the refusal that a number is read as, or that no refusal has it
abbrev pub Numbered : ℕ → Result Refusal UnknownNumber → Type 0
Numbered n r = MatchResult r (λ e. number_of e ≡ n) (λ u. (u.0 ≡ n) × ((n ≡ 0) ⊎ (29 < n)))
