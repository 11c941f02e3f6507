-- A list of four units in three arrays, two of them of type 15, with an empty unit: what a directory of six entries holds once it is filled from it,
-- what it then answers, and what directories and totals that were not filled from it answer.
use Prim.Native.Nat.{ℕ, ◌-◌, ◌^◌}
use mathlib.Core.Path.{◌≡◌, refl}
use mathlib.Core.List.{List, [], ◌∷◌, ◌++◌}
use Rattle.std.specs.Prelude.{None, Some}
use lib.ListN.{length, replicate}
use Rattle.parse.specs.Outcome.{accept, refuse}
use Rattle.parse.specs.Parse.{many, many_up_to}
use Rattle.boxes.specs.Bytes.{be, uint, bytes, chunk, inside}
use Rattle.boxes.specs.Places.{nth}
use Rattle.boxes.specs.declared.Span.{Span}
use Rattle.unit_list.specs.UnitList.{array_rest, array, unit_list, decode}
use Rattle.directory.specs.Directory.{entries_of, entries_of_type, table_from, totals_of, fill_directory, sum, in_use, unit_asked, count_asked}
use Rattle.directory.specs.Filled.{AnswersAsWalk}
use Rattle.directory.specs.declared.Asked.TheVariants.{FirstOfType, Number}
use Rattle.directory.specs.declared.Entry.{Entry}
use Rattle.directory.proofs.Filled.{fronts_answer, filled_itself}

-- type 15: AA BB and the empty unit; type 16: CC; type 15 again: DD EE FF
abbrev listed : List ℕ
listed =
    (0x01 ∷ [])
    ++ (0x00 ∷ 0x00 ∷ 0x00 ∷ 0x0C ∷ 0x01 ∷ 0x0F ∷ 0x00 ∷ 0x00 ∷ 0x00 ∷ 0x02 ∷ 0xAA ∷ 0xBB ∷ 0x00 ∷ 0x00 ∷ 0x00 ∷ 0x00 ∷ [])
    ++ (0x00 ∷ 0x00 ∷ 0x00 ∷ 0x07 ∷ 0x00 ∷ 0x10 ∷ 0x00 ∷ 0x00 ∷ 0x00 ∷ 0x01 ∷ 0xCC ∷ [])
    ++ (0x00 ∷ 0x00 ∷ 0x00 ∷ 0x09 ∷ 0x01 ∷ 0x0F ∷ 0x00 ∷ 0x00 ∷ 0x00 ∷ 0x03 ∷ 0xDD ∷ 0xEE ∷ 0xFF ∷ [])

abbrev entry : ℕ → ℕ → ℕ → Entry
entry t offset len = record { unit_type = t; offset = offset; len = len }

abbrev span : ℕ → ℕ → Span
span start len = record { start = start; len = len }

-- its totals: three of type 15, one of type 16
abbrev list_totals : List ℕ
list_totals = replicate 15 0 ++ (3 ∷ 1 ∷ replicate 47 0)

-- a directory that begins with its entries
abbrev begun : List Entry → List Entry
begun rest = entry 15 11 2 ∷ entry 15 17 0 ∷ entry 16 27 1 ∷ entry 15 38 3 ∷ rest

-- a directory of any six entries, and any totals
module _ (a b c d e f : Entry) (totals : List ℕ) where
  -- filled: the last two entries are as they were
  abbrev directory : List Entry
  directory = begun (e ∷ f ∷ [])

  pub filled_so : fill_directory listed (a ∷ b ∷ c ∷ d ∷ e ∷ f ∷ []) totals ≡ (accept 4, (directory, list_totals))
  unfolding many many_up_to be uint bytes chunk inside array_rest array unit_list decode entries_of entries_of_type table_from totals_of fill_directory
  filled_so = refl

  -- three entries are too few, and nothing changes
  pub too_short : fill_directory listed (a ∷ b ∷ c ∷ []) totals ≡ (refuse 28, (a ∷ b ∷ c ∷ [], totals))
  unfolding many many_up_to be uint bytes chunk inside array_rest array unit_list decode entries_of fill_directory
  too_short = refl

  -- it answers as a walk does, and so does every directory that begins with the four entries
  pub answers_so : AnswersAsWalk listed directory list_totals
  answers_so = filled_itself listed (a ∷ b ∷ c ∷ d ∷ e ∷ f ∷ []) directory totals list_totals 4 filled_so

  pub answers_begun : (rest : List Entry) → AnswersAsWalk listed (begun rest) list_totals
  answers_begun rest =
      fronts_answer listed (a ∷ b ∷ c ∷ d ∷ e ∷ f ∷ []) directory totals list_totals 4 filled_so (begun rest) refl

  pub record Answers : Type 0 where
    -- the first of types 15, 16 and 20, numbers 1 and 3, and number 4, which is not in use
    pub first15 : unit_asked (FirstOfType 15) listed directory list_totals ≡ accept (Some (span 11 2))
    pub first16 : unit_asked (FirstOfType 16) listed directory list_totals ≡ accept (Some (span 27 1))
    pub first20 : unit_asked (FirstOfType 20) listed directory list_totals ≡ accept None
    pub number1 : unit_asked (Number 1) listed directory list_totals ≡ accept (Some (span 17 0))
    pub number3 : unit_asked (Number 3) listed directory list_totals ≡ accept (Some (span 38 3))
    pub number4 : unit_asked (Number 4) listed directory list_totals ≡ accept None
    -- how many there are of types 15, 16, 20, and 200, which has no total
    pub count15 : count_asked 15 listed directory list_totals ≡ accept 3
    pub count16 : count_asked 16 listed directory list_totals ≡ accept 1
    pub count20 : count_asked 20 listed directory list_totals ≡ accept 0
    pub count200 : count_asked 200 listed directory list_totals ≡ accept 0

  pub answers : Answers
  unfolding nth entries_of_type sum in_use unit_asked count_asked
  answers = record {
    first15 = refl;
    first16 = refl;
    first20 = refl;
    number1 = refl;
    number3 = refl;
    number4 = refl;
    count15 = refl;
    count16 = refl;
    count20 = refl;
    count200 = refl;
  }

  -- totals that add up to more than the six entries, also by far more than a machine's largest number
  abbrev seven : List ℕ
  seven = replicate 15 0 ++ (3 ∷ 4 ∷ replicate 47 0)

  abbrev huge : List ℕ
  huge = (2 ^ 64 - 1) ∷ (2 ^ 64 - 1) ∷ replicate 62 0

  -- an entry whose part passes the list's end, which has 41 bytes, and one that is all of the list, though no unit is there
  abbrev other : List Entry
  other = entry 15 40 2 ∷ entry 7 0 41 ∷ c ∷ d ∷ e ∷ f ∷ []

  pub record NotFilled : Type 0 where
    pub long : length listed ≡ 41
    pub seven_number : unit_asked (Number 0) listed directory seven ≡ refuse 1
    pub seven_count : count_asked 15 listed directory seven ≡ refuse 1
    pub huge_number : unit_asked (Number 0) listed directory huge ≡ refuse 1
    pub huge_count : count_asked 0 listed directory huge ≡ refuse 1
    pub past_end : unit_asked (Number 0) listed other list_totals ≡ refuse 1
    pub past_end_first : unit_asked (FirstOfType 15) listed other list_totals ≡ refuse 1
    pub whole : unit_asked (Number 1) listed other list_totals ≡ accept (Some (span 0 41))
    pub zeros_number : unit_asked (Number 0) listed directory (replicate 64 0) ≡ accept None
    pub zeros_first : unit_asked (FirstOfType 15) listed directory (replicate 64 0) ≡ accept None
    pub zeros_count : count_asked 15 listed directory (replicate 64 0) ≡ accept 0

  pub not_filled : NotFilled
  unfolding nth entries_of_type sum in_use unit_asked count_asked
  not_filled = record {
    long = refl;
    seven_number = refl;
    seven_count = refl;
    huge_number = refl;
    huge_count = refl;
    past_end = refl;
    past_end_first = refl;
    whole = refl;
    zeros_number = refl;
    zeros_first = refl;
    zeros_count = refl;
  }
