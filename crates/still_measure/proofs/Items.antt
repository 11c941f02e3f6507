-- Laws of the item of stored bytes after a record that full write accepts, or refuses.
use Prim.Native.Nat.{ℕ}
use mathlib.Core.Path.{◌≡◌}
use mathlib.Core.List.{List}
use native.Mathlib.Omega.{arith}
use Rattle.parse.specs.Outcome.{Outcome, accept, refuse, and_then}
use Rattle.boxes.specs.Walk.{count_found}
use Rattle.compact.specs.ItemData.{restore}
use Rattle.compact.specs.declared.CompactVvcConfig.{CompactVvcConfig}
use Rattle.full.specs.Write.{serialize_full}
use Rattle.full.specs.declared.VvcConfig.{VvcConfig}
use Rattle.still.specs.inner.Steps.{item_after}

module _ (c : CompactVvcConfig) (h : VvcConfig) (list S : List ℕ) where
  pub item_counted : (m : ℕ) (n : Outcome ℕ) → accept m ≡ count_found (serialize_full h list) → n ≡ count_found (restore c S)
      → n ≡ count_found (item_after c h list S)
  item_counted m n e f = go (serialize_full h list) e
    where
      go : (o : Outcome (List ℕ)) → accept m ≡ count_found o → n ≡ count_found (and_then o (λ _. restore c S))
      go (accept b) e = f
      go (refuse k) e = let z : ◌≡◌ {A = ℕ} 0 1 = cc in absurd (omega arith)

  pub item_refused : (n : ℕ) → refuse n ≡ count_found (serialize_full h list) → refuse n ≡ count_found (item_after c h list S)
  item_refused n e = go (serialize_full h list) e
    where
      go : (o : Outcome (List ℕ)) → refuse n ≡ count_found o → refuse n ≡ count_found (and_then o (λ _. restore c S))
      go (accept b) e = let z : ◌≡◌ {A = ℕ} 0 1 = cc in absurd (omega arith)
      go (refuse k) e = e
