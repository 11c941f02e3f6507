-- General: a flag as a number.
use Rattle.std.specs.Prelude.{Bool, ℕ, if◌then◌else◌}

-- 1 for a flag that is set
abbrev pub bit : Bool → ℕ
bit b = if b then 1 else 0
