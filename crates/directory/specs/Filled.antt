-- A directory and totals that were filled from a list answer as a walk over the list does (SCOPE 4.12).
use Rattle.std.specs.Prelude.{ℕ, ◌≡◌, List, take}
use Rattle.parse.specs.Outcome.{accept}
use Rattle.boxes.specs.Walk.{count_found, found}
use Rattle.boxes.specs.Places.{nth_found}
use Rattle.unit_list.specs.Answers.{list_units, list_units_of_type}
use Rattle.directory.specs.Directory.{fill_directory, unit_asked, part_asked, count_asked}
use Rattle.directory.specs.declared.Entry.{Entry}
use Rattle.directory.specs.declared.Asked.TheVariants.{FirstOfType, Number}

-- Every question about s to d and totals has the answer of `unit_list`: the first of a type that of `nal_unit_of_type_at` and
-- `nal_unit_of_type` with k 0, the count of a type that of `nal_count_of_type`, number k that of `nal_unit_at` and `nal_unit`.
pub record AnswersAsWalk (s : List ℕ) (d : List Entry) (totals : List ℕ) : Type 0 where
  pub first_at : (t : ℕ) → unit_asked (FirstOfType t) s d totals ≡ nth_found (list_units_of_type t s) 0
  pub first : (t : ℕ) → part_asked (unit_asked (FirstOfType t) s d totals) ≡ found (list_units_of_type t s) 0
  pub count : (t : ℕ) → count_asked t s d totals ≡ count_found (list_units_of_type t s)
  pub number_at : (k : ℕ) → unit_asked (Number k) s d totals ≡ nth_found (list_units s) k
  pub number : (k : ℕ) → part_asked (unit_asked (Number k) s d totals) ≡ found (list_units s) k

-- whatever the directory and the totals held before
abbrev pub FilledAnswers : Type 0
FilledAnswers = (s : List ℕ) (before d : List Entry) (totals_before totals : List ℕ) (n : ℕ)
    → fill_directory s before totals_before ≡ (accept n, (d, totals)) → AnswersAsWalk s d totals

-- Whatever the directory and the totals held before: when filling has stored n entries in d, every directory e that begins with these n answers so.
-- Such are d itself and its first n entries alone (`filled_itself`, `filled_front`), and every front of d between them.
abbrev pub FrontsAnswer : Type 0
FrontsAnswer = (s : List ℕ) (before d : List Entry) (totals_before totals : List ℕ) (n : ℕ)
    → fill_directory s before totals_before ≡ (accept n, (d, totals)) → (e : List Entry) → take n e ≡ take n d → AnswersAsWalk s e totals
