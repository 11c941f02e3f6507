-- Both rules on the bytes that the arrays of a record begin with.
use Prim.Native.Nat.{ℕ, ◌+◌, ◌≤◌, ◌<◌}
use mathlib.Core.Path.{◌≡◌, refl, ap}
use mathlib.Core.Bool.{Bool, true, ◌&&◌}
use mathlib.Core.List.{List}
use native.Mathlib.Omega.{arith}
use lib.ListN.{length, get_or}
use Rattle.parse.specs.Outcome.{Outcome, accept, refuse, and_then}
use Rattle.parse.specs.Parse.{times, outcome}
use Rattle.boxes.proofs.Fields.{uint_there, uint_short}
use Rattle.boxes.proofs.Numbers.{be_one}
use Rattle.full.specs.Rules.{array_reserved, array_typed, array_byte, all, head_reserved}
use Rattle.full.specs.Strict.{holds_or}
use Rattle.full.specs.declared.VvcConfig.{VvcConfig}
use Rattle.record_rules.specs.inner.Rules.{counted_bytes, tested, rules_kept}

module _ (s : List ℕ) (h : VvcConfig) where
  -- there is no count of arrays
  pub kept_countless : (p : ℕ) → length s ≤ p → accept tt ≡ rules_kept s h (outcome (counted_bytes s p))
  unfolding counted_bytes
  kept_countless p l = rw (uint_short 1 s p (omega arith))

  -- what the tests of the arrays say of both rules
  known : (o : Outcome (List ℕ)) (a b : Bool) → accept (a, b) ≡ tested true true o
      → and_then (holds_or 25 (head_reserved s h && a)) (λ _. holds_or 26 b) ≡ rules_kept s h o
  known (accept bs) a b e =
      let p : ◌≡◌ {A = Bool × Bool} (a, b) (all array_reserved bs, all array_typed bs) = cc in
      rw (ap (λ (x : Bool × Bool). x.0) p, ap (λ (x : Bool × Bool). x.1) p)
  known (refuse n) a b e = let z : ◌≡◌ {A = ℕ} 0 1 = cc in absurd (omega arith)

  unknown : (o : Outcome (List ℕ)) → refuse 1 ≡ tested true true o → accept tt ≡ rules_kept s h o
  unknown (accept bs) e = let z : ◌≡◌ {A = ℕ} 0 1 = cc in absurd (omega arith)
  unknown (refuse n) e = refl

  module _ (p n : ℕ) (l : p < length s) (count : n ≡ get_or s p 0) where
    counted_is : counted_bytes s p ≡ times n array_byte s (p + 1)
    unfolding counted_bytes
    counted_is = rw (uint_there 1 s p (omega arith), be_one s p, ← count)

    -- an array runs past the end
    pub kept_short : refuse 1 ≡ tested true true (outcome (times n array_byte s (p + 1))) → accept tt ≡ rules_kept s h (outcome (counted_bytes s p))
    kept_short e = rw counted_is (unknown (outcome (times n array_byte s (p + 1))) e)

    -- all arrays are there
    pub kept_tested : (a b : Bool) → accept (a, b) ≡ tested true true (outcome (times n array_byte s (p + 1)))
        → and_then (holds_or 25 (head_reserved s h && a)) (λ _. holds_or 26 b) ≡ rules_kept s h (outcome (counted_bytes s p))
    kept_tested a b e = rw counted_is (known (outcome (times n array_byte s (p + 1))) a b e)
