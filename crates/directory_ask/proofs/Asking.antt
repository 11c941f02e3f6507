-- Laws of what is asked, by how many entries are in use.
use Prim.Native.Nat.{ℕ}
use mathlib.Core.Path.{◌≡◌}
use mathlib.Core.List.{List}
use lib.ListN.{length, get_or, take}
use Rattle.parse.specs.Outcome.{accept, refuse}
use Rattle.directory.specs.Directory.{in_use, asked_for, part_of_list, unit_asked, count_asked}
use Rattle.directory.specs.declared.Asked.{Asked}
use Rattle.directory.specs.declared.Entry.{Entry}

module _ (asked : Asked) (s : List ℕ) (d : List Entry) (totals : List ℕ) (n : ℕ) where
  -- the entry that is asked for is looked for among as many entries as are in use
  pub asked_is : accept n ≡ in_use s totals (length d) → part_of_list s (asked_for asked (take n d)) ≡ unit_asked asked s d totals
  unfolding unit_asked
  asked_is e = rw (← e)

  pub asked_refused : refuse n ≡ in_use s totals (length d) → refuse n ≡ unit_asked asked s d totals
  unfolding unit_asked
  asked_refused e = rw (← e)

-- the total of a type is asked for
module _ (t : ℕ) (s : List ℕ) (d : List Entry) (totals : List ℕ) (n : ℕ) where
  pub counted_is : accept n ≡ in_use s totals (length d) → accept (get_or totals t 0) ≡ count_asked t s d totals
  unfolding count_asked
  counted_is e = rw (← e)

  pub count_refused : refuse n ≡ in_use s totals (length d) → refuse n ≡ count_asked t s d totals
  unfolding count_asked
  count_refused e = rw (← e)
