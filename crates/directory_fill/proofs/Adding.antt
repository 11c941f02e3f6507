-- Laws of the walk that adds the units of a list to the totals of their types: what is added and what is left make the whole.
use Prim.Native.Nat.{ℕ, ◌+◌, ◌-◌, ◌^◌, ◌≤◌, ◌<◌}
use mathlib.Core.Path.{◌≡◌, sym, ap, ◌∙◌}
use mathlib.Core.List.{List, []}
use native.Mathlib.Omega.{arith}
use native.Mathlib.Decide.{ℕ_discrete}
use lib.ListN.{length, get_or, set, replicate, length-set, length-replicate}
use lib.Seq.{get_or-set_same, get_or-set_other}
use Rattle.boxes.specs.declared.Span.{Span}
use Rattle.unit_list.specs.UnitList.{largest_type}
use Rattle.unit_list.specs.declared.ListCursor.{ListCursor}
use Rattle.unit_list.proofs.Turns.{ListTurn}
use Rattle.directory.specs.Directory.{entry_of, totals_of}
use Rattle.directory_fill.specs.inner.Entries.{entries_from, Reads, Adds, totals_plus}
use Rattle.directory_fill.proofs.Reading.{ReadTurn, read_turn}
use Rattle.directory_fill.proofs.TotalsPlus.{zeros_at, plus_zeros, plus_none, plus_more}

module _ (s : List ℕ) (c : ListCursor) (totals₀ : List ℕ) where
  -- the walk from c has come to `here` and has added the units before it
  pub record Adding (here : ListCursor) (totals : List ℕ) : Type 0 where
    pub adds : Adds s here totals
    pub same : totals_plus totals (entries_from s here) ≡ totals_plus totals₀ (entries_from s c)

  module _ (here : ListCursor) (totals : List ℕ) (i : Adding here totals) where
    pub adding_end : entries_from s here ≡ [] → totals ≡ totals_plus totals₀ (entries_from s c)
    adding_end e = sym (plus_none totals i.adds.all) ∙ ap (totals_plus totals) (sym e) ∙ i.same

    -- one turn: the unit's type has a total, which can be one more, and the walk goes on to `next`
    module _ (a : Span) (next : ListCursor) (turn : ListTurn s here a next) where
      abbrev t : ℕ
      t = next.unit_type

      read : ReadTurn s here a next
      read = read_turn s here i.adds.units a next turn

      pub record AddTurn : Type 0 where
        pub small : t ≤ largest_type
        pub few : get_or totals t 0 < 2 ^ 30
        pub less : length s - next.at < length s - here.at
        pub again : Adding next (set totals t (get_or totals t 0 + 1))

      pub adding_turn : AddTurn
      adding_turn =
          record {
            small = read.small;
            few = omega (arith, i.adds.few t, turn.ahead, turn.within, turn.passed.fits.lent);
            less = omega (arith, turn.ahead, turn.within);
            again =
                record {
                  adds =
                      record {
                        units = read.units;
                        all = length-set totals t (get_or totals t 0 + 1) ∙ i.adds.all;
                        few = few;
                      };
                  same =
                      plus_more totals i.adds.all (entry_of t a) (entries_from s next) read.small
                      ∙ ap (totals_plus totals) (sym read.entries) ∙ i.same;
                };
          }
        where
          few : (k : ℕ) → get_or (set totals t (get_or totals t 0 + 1)) k 0 ≤ next.at
          few k =
              elim (ℕ_discrete t k) [
                | yes e ↦ rw (← e, get_or-set_same totals t (get_or totals t 0 + 1) 0 (omega (arith, read.small, i.adds.all)))
                    (omega (arith, i.adds.few t, turn.ahead))
                | no e ↦ rw (get_or-set_other totals t k (get_or totals t 0 + 1) 0 (λ f. e (sym f))) (omega (arith, i.adds.few k, turn.ahead))
              ]

-- zeros, before the first unit is added, and after the last
module _ (s : List ℕ) (c : ListCursor) (zeros : List ℕ) (cleared : zeros ≡ replicate 64 0) where
  pub start_adds : Reads s c → Adds s c zeros
  start_adds h = rw cleared (record { units = h; all = length-replicate {A = ℕ} 64 0; few = λ t. rw (zeros_at t) (omega arith) })

  pub start_totals : (totals : List ℕ) → totals ≡ totals_plus zeros (entries_from s c) → totals ≡ totals_of (entries_from s c)
  start_totals totals h = h ∙ ap (λ (l : List ℕ). totals_plus l (entries_from s c)) cleared ∙ plus_zeros (entries_from s c)
