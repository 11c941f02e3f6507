-- Laws of an expansion with an output: a refusal, a list that is too long (20), and one that fits.
use Prim.Native.Nat.{ℕ, ◌≤◌, ◌<◌}
use mathlib.Core.Path.{◌≡◌, ap}
use mathlib.Core.List.{List, map}
use native.Mathlib.Omega.{arith}
use lib.ListN.{length}
use lib.Seq.{sets}
use borrow.Author.Tests.{le-leb, lt-leb}
use Rattle.parse.specs.Outcome.{Outcome, accept, refuse, and_then, lent_output}
use Rattle.parse.proofs.General.{sets_front}
use Rattle.boxes.specs.Parts.{held}
use Rattle.boxes.specs.declared.Span.{Span}
use Rattle.unit_list.specs.UnitList.{encode}
use Rattle.unit_list.specs.Answers.{list_units}
use Rattle.grouping.specs.Grouping.{grouped}
use Rattle.grouping.specs.inner.Units.{held_units}
use Rattle.compact.specs.declared.CompactVvcConfig.{CompactVvcConfig}
use Rattle.full.specs.declared.VvcConfig.{VvcConfig}
use Rattle.expand.specs.Expand.{expand_units, to_full}
use Rattle.expand.specs.inner.ParameterSets.{with_units}
use Rattle.expand.specs.declared.Expanded.{Expanded}
use Rattle.expand.specs.declared.Picture.{Picture}

module _ (h : VvcConfig) (us : List (List ℕ)) (out : List ℕ) where
  pub expanded_short : length out < length (encode (grouped us))
      → ◌≡◌ {A = Outcome Expanded × List ℕ} (refuse 20, out) (lent_output (with_units h us) out)
  expanded_short g = rw (lt-leb (length (encode (grouped us))) (length out) g)

  pub expanded_fits : (n : ℕ) (d : List ℕ) → n ≡ length (encode (grouped us)) → n ≤ length out → d ≡ sets out 0 (encode (grouped us))
      → ◌≡◌ {A = Outcome Expanded × List ℕ} (accept (record { head = h; list_length = n }), d) (lent_output (with_units h us) out)
  expanded_fits n d l g f =
      let k : length (encode (grouped us)) ≤ length out = rw l at g in
      rw (le-leb (length (encode (grouped us))) (length out) k, l, f, sets_front out (encode (grouped us)) k)

-- a refusal leaves the output
pub expanded_refused : (o : Outcome (Expanded × List ℕ)) (out : List ℕ) (n : ℕ) → o ≡ refuse n
    → ◌≡◌ {A = Outcome Expanded × List ℕ} (refuse n, out) (lent_output o out)
expanded_refused o out n e = rw e

-- the units of a list that reads, or its refusal
module _ (c : CompactVvcConfig) (pic : Picture) (s : List ℕ) where
  pub list_expanded : (us : List (List ℕ)) → accept us ≡ held_units s (list_units s) → to_full c pic s ≡ expand_units c pic us
  unfolding to_full
  list_expanded us e = go (list_units s) e
    where
      go : (o : Outcome (List Span)) → accept us ≡ held_units s o → and_then o (λ xs. expand_units c pic (map (held s) xs)) ≡ expand_units c pic us
      go (accept xs) g = let z : map (held s) xs ≡ us = cc in ap (expand_units c pic) z
      go (refuse n) g = absurd (let z : ◌≡◌ {A = ℕ} 0 1 = cc in omega arith)

  pub list_refused : (n : ℕ) → refuse n ≡ held_units s (list_units s) → to_full c pic s ≡ refuse n
  unfolding to_full
  list_refused n e = go (list_units s) e
    where
      go : (o : Outcome (List Span)) → refuse n ≡ held_units s o → and_then o (λ xs. expand_units c pic (map (held s) xs)) ≡ refuse n
      go (accept xs) g = absurd (let z : ◌≡◌ {A = ℕ} 0 1 = cc in omega arith)
      go (refuse m) g = let z : m ≡ n = cc in ap refuse z
