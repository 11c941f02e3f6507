-- Laws of storing the entries of a list one after another.
use Prim.Native.Nat.{ℕ, suc, ◌+◌, ◌<◌, ◌≤◌}
use mathlib.Core.Path.{◌≡◌, sym, ap, ◌∙◌}
use mathlib.Core.List.{List, [], ◌∷◌, ◌++◌, append_assoc}
use native.Mathlib.Omega.{arith}
use native.Mathlib.Numerals.{add-one}
use lib.ListN.{length, get_or, set, drop, length-append}
use lib.Seq.{append_snoc, set_at, drop-cons}
use Rattle.boxes.specs.declared.Span.{Span}
use Rattle.unit_list.specs.declared.ListCursor.{ListCursor}
use Rattle.unit_list.proofs.Turns.{ListTurn}
use Rattle.directory.specs.Directory.{entry_of}
use Rattle.directory.specs.declared.Entry.{Entry}
use Rattle.directory_fill.specs.inner.Entries.{entries_from, Reads}
use Rattle.directory_fill.proofs.Reading.{ReadTurn, read_turn, entries_turn}

-- one entry more stored after those that are done
stored_next : (done d : List Entry) (k : ℕ) (e : Entry) → k ≡ length done → k < length d
    → set (done ++ drop k d) k e ≡ (done ++ (e ∷ [])) ++ drop (k + 1) d
stored_next done d k e n h =
    let z : Entry = e in
    ap (λ (r : List Entry). set (done ++ r) k e) (drop-cons d k z h)
    ∙ set_at done (get_or d k z) (drop (suc k) d) e k (sym n)
    ∙ sym (append_snoc done e (drop (suc k) d))
    ∙ ap (λ (i : ℕ). (done ++ (e ∷ [])) ++ drop i d) (sym (add-one k))

module _ (s : List ℕ) (c : ListCursor) (d₀ : List Entry) where
  -- the walk from c has come to `here`, and the k entries before it are stored
  pub record Filling (here : ListCursor) (k : ℕ) (d : List Entry) : Type 0 where
    pub done : List Entry
    pub count : k ≡ length done
    pub all : done ++ entries_from s here ≡ entries_from s c
    pub stored : d ≡ done ++ drop k d₀

  -- one entry more: the first of those that are left
  filling_next : (here : ListCursor) (k : ℕ) (d : List Entry) → Filling here k d → k < length d₀ → (e : Entry) (next : ListCursor)
      → entries_from s here ≡ e ∷ entries_from s next → Filling next (k + 1) (set d k e)
  filling_next here k d i room e next f =
      record {
        done = i.done ++ (e ∷ []);
        count = omega (arith, i.count, length-append i.done (e ∷ []));
        all = append_assoc i.done (e ∷ []) (entries_from s next) ∙ ap (λ (es : List Entry). i.done ++ es) (sym f) ∙ i.all;
        stored = ap (λ (x : List Entry). set x k e) i.stored ∙ stored_next i.done d₀ k e i.count room;
      }

  module _ (enough : length d₀ ≤ length (entries_from s c)) (here : ListCursor) (k : ℕ) (d : List Entry) (i : Filling here k d) where
    -- entries are left while slots are
    pub filling_some : k < length d₀ → 0 < length (entries_from s here)
    filling_some room =
        let n : length i.done + length (entries_from s here) ≡ length (entries_from s c)
        = sym (length-append i.done (entries_from s here)) ∙ ap length i.all in
        omega (arith, i.count)

    -- it is that of the unit found, where there are no more slots than units
    pub filling_turn : k < length d₀ → (a : Span) (next : ListCursor) → ListTurn s here a next → Filling next (k + 1) (set d k (entry_of next.unit_type a))
    filling_turn room a next turn = filling_next here k d i room _ next (entries_turn s here a next turn (filling_some room))

  -- and however many slots there are, where the units that are left read; those after the unit found read too
  pub filling_read : (here : ListCursor) (k : ℕ) (d : List Entry) → Filling here k d → Reads s here → k < length d₀ → (a : Span) (next : ListCursor)
      → ListTurn s here a next → Filling next (k + 1) (set d k (entry_of next.unit_type a)) × Reads s next
  filling_read here k d i h room a next turn =
      let t : ReadTurn s here a next = read_turn s here h a next turn in
      (filling_next here k d i room _ next t.entries, t.units)
