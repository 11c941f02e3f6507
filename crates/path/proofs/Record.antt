-- What is known of a compact record that was read: its units, their number and lengths, its prefix size.
use Prim.Native.Nat.{ℕ, ◌^◌, ◌≤◌}
use mathlib.Core.Path.{◌≡◌, sym, ap, subst}
use mathlib.Core.List.{List, map}
use lib.ListN.{length, length-map}
use borrow.Author.Tests.{le-leb}
use Rattle.parse.specs.Outcome.{accept}
use Rattle.parse.specs.Parse.{value}
use Rattle.boxes.specs.Parts.{held}
use Rattle.boxes.specs.Bytes.{AllBytes}
use Rattle.boxes.specs.declared.Span.{Span}
use Rattle.unit_list.specs.Answers.{list_units}
use Rattle.unit_list.proofs.Encode.{UnitsRead}
use Rattle.grouping.proofs.GroupedFits.{Every}
use Rattle.compact.specs.declared.CompactRead.{CompactRead}
use Rattle.compact.specs.Compact.{compact_record, one_array, parsed_with, parse_compact}
use Rattle.compact.proofs.Facts.{CompactFacts, compact_facts}
use Rattle.expand.proofs.Units.{every_of}
use Rattle.path.specs.Still.{units_in}

pub record Facts (us : List (List ℕ)) (read : CompactRead) (list : List ℕ) : Type 0 where
  pub few : length us ≤ 33
  pub short : Every (λ u. length u ≤ 255) us
  pub all_bytes_lem : Every AllBytes us
  pub size_low : 1 ≤ read.config.length_size
  pub size_high : read.config.length_size ≤ 4
  pub units : UnitsRead list (list_units list) us

-- what reading returns: the number of units, and the length of the list
module _ (C : List ℕ) (read : CompactRead) (list : List ℕ) (spans : List Span) (lent : length C ≤ 2 ^ 30)
    (whole : compact_record C 0 ≡ value (read.config, spans) (length C)) (reads : parse_compact C ≡ accept (read, list)) where
  given : parse_compact C ≡ accept (parsed_with C (read.config, spans))
  unfolding parse_compact
  given = rw (le-leb (length C) (2 ^ 30) lent, whole)

  counts_read : parse_compact C ≡ accept (record { config = read.config; unit_count = length (units_in C); list_length = length list }, list)
  counts_read =
      let x : parsed_with C (read.config, spans) ≡ (read, list) = cc given in
      let z : one_array (map (held C) spans) ≡ list = ap (λ (y : CompactRead × List ℕ). y.1) x in
      rw (← z, whole, length-map spans (held C)) given

module _ (C : List ℕ) (bytes : AllBytes C) (read : CompactRead) (list : List ℕ) (reads : parse_compact C ≡ accept (read, list)) where
  known : CompactFacts C read list
  known = compact_facts C bytes read list reads

  units_are : units_in C ≡ known.units
  units_are = rw known.whole known.held_units_lem

  pub facts : Facts (units_in C) read list
  facts =
      subst (λ (us : List (List ℕ)). Facts us read list) (sym units_are)
      (record {
        few = known.most;
        short = every_of (λ u. length u ≤ 255) known.units (λ k h. known.short k);
        all_bytes_lem = every_of AllBytes known.units (λ k h. known.bytes k);
        size_low = known.size_some;
        size_high = known.size_four;
        units = known.read;
      })

  pub is_read : parse_compact C ≡ accept (record { config = read.config; unit_count = length (units_in C); list_length = length list }, list)
  is_read = counts_read C read list known.spans known.lent known.whole reads
