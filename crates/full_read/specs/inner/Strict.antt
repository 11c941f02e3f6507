-- Internal: the rules of strict reading on a record, by themselves; a law ties them to `parse_strict` (proofs/Strict.antt).
use Rattle.std.specs.Prelude.{ℕ, ◌^◌, List, leb, length, if◌then◌else◌}
use Rattle.parse.specs.Outcome.{Outcome, accept}
use Rattle.parse.specs.Parse.{Parsed, value, refused, outcome}
use Rattle.full.specs.Read.{vvc_head}
use Rattle.full.specs.declared.VvcConfig.{VvcConfig}
use Rattle.record_rules.specs.inner.Rules.{counted_bytes, rules_kept}

-- both rules on a record whose head was read, or none
abbrev pub rules_after : List ℕ → Parsed VvcConfig → Outcome (Unit {0})
rules_after s (value h q) = rules_kept s h (outcome (counted_bytes s q))
rules_after s (refused e) = accept tt

-- the refusal for the first rule that a record breaks; none where it is refused without them
unfoldable pub strict_rules : List ℕ → Outcome (Unit {0})
strict_rules s = if leb (length s) (2 ^ 30) then rules_after s (vvc_head s 0) else accept tt
