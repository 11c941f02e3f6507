-- The bytes of a compact record that is not refused.
use Prim.Native.Nat.{ℕ, ◌≤◌}
use mathlib.Core.Path.{◌≡◌}
use mathlib.Core.Bool.{true}
use mathlib.Core.List.{List, ◌∷◌}
use native.Mathlib.Omega.{arith}
use lib.ListN.{length}
use borrow.Author.Tests.{le-leb, ne_eqb, le-ltb}
use Rattle.parse.specs.Outcome.{accept}
use Rattle.unit_list.specs.UnitList.{encode_units}
use Rattle.compact.specs.Compact.{all_at_most, compact_bytes, compact_first_byte}
use Rattle.compact.specs.declared.CompactVvcConfig.{CompactVvcConfig}

-- when all tests pass
pub bytes_given : (c : CompactVvcConfig) (us : List (List ℕ)) → 1 ≤ c.length_size → c.length_size ≤ 4 → 2 ≤ length us → length us ≤ 33
    → all_at_most 255 us ≡ true
    → compact_bytes c us ≡ accept (compact_first_byte c (length us) ∷ encode_units 1 us)
unfolding compact_bytes
bytes_given c us one four two most h =
    rw (ne_eqb c.length_size 0 (λ e. omega arith), le-ltb 4 c.length_size four, le-leb 2 (length us) two, le-leb (length us) 33 most, h)
