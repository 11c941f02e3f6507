-- Strict reading of a record that was read: the two rules, one after the other.
use Prim.Native.Nat.{ℕ}
use mathlib.Core.Path.{◌≡◌, refl, ap}
use mathlib.Core.Bool.{Bool, true, false}
use mathlib.Core.List.{List}
use native.Mathlib.Omega.{arith}
use Rattle.parse.specs.Outcome.{Outcome, accept, refuse, and_then}
use Rattle.parse.specs.Parse.{value, outcome}
use Rattle.full.specs.Read.{FullParsed, parse_full}
use Rattle.full.specs.Rules.{record_array_bytes, reserved_kept, types_kept}
use Rattle.full.specs.Strict.{holds_or, parse_strict}

-- what strict reading returns for a record that was read as x: a is the test of the reserved bits, b of the types
abbrev pub ruled : Bool → Bool → FullParsed × List ℕ → Outcome (FullParsed × List ℕ)
ruled a b x = and_then (holds_or 25 a) (λ _. and_then (holds_or 26 b) (λ _. accept x))

-- strict reading of a record that was read
pub strict_ruled : (s : List ℕ) (r : FullParsed) (list starts : List ℕ) (q : ℕ) → parse_full s ≡ accept (r, list)
    → record_array_bytes s 0 ≡ value starts q → parse_strict s ≡ ruled (reserved_kept s r.head starts) (types_kept starts) (r, list)
unfolding parse_strict
strict_ruled s r list starts q e f = rw (e, f)

-- with the reserved bits kept 25 is not returned
pub kept_passes : (b : Bool) (x : FullParsed × List ℕ) → ruled true b x ≡ refuse 25 → ⊥
kept_passes true x e = let z : ◌≡◌ {A = ℕ} 0 1 = cc in omega arith
kept_passes false x e = let z : ◌≡◌ {A = ℕ} 26 25 = cc in omega arith

-- what is accepted is what was read, and its reserved bits are kept
pub ruled_accepted : (a b : Bool) (x y : FullParsed × List ℕ) → ruled a b x ≡ accept y → (a ≡ true) × (x ≡ y)
ruled_accepted true true x y e = (refl, cc)
ruled_accepted true false x y e = let z : ◌≡◌ {A = ℕ} 0 1 = cc in absurd (omega arith)
ruled_accepted false b x y e = let z : ◌≡◌ {A = ℕ} 0 1 = cc in absurd (omega arith)

-- what strict reading accepts the ordinary reader accepts
pub strict_full : (s : List ℕ) (r : FullParsed) (list : List ℕ) → parse_strict s ≡ accept (r, list) → parse_full s ≡ accept (r, list)
unfolding parse_strict
strict_full s r list e = go (parse_full s) (outcome (record_array_bytes s 0)) e
  where
    go : (o : Outcome (FullParsed × List ℕ)) (w : Outcome (List ℕ))
        → and_then o (λ x. and_then w (λ bs. ruled (reserved_kept s x.0.head bs) (types_kept bs) x)) ≡ accept (r, list) → o ≡ accept (r, list)
    go (refuse n) w f = let z : ◌≡◌ {A = ℕ} 0 1 = cc in absurd (omega arith)
    go (accept x) (refuse n) f = let z : ◌≡◌ {A = ℕ} 0 1 = cc in absurd (omega arith)
    go (accept x) (accept bs) f = ap accept (ruled_accepted (reserved_kept s x.0.head bs) (types_kept bs) x (r, list) f).1
