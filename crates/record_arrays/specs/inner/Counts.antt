-- Internal: the length of an array's count of units.
use Rattle.std.specs.Prelude.{ℕ, if◌then◌else◌}
use Rattle.record_arrays.specs.Read.{holds_one}
use Rattle.record_arrays.specs.declared.Codec.{Codec}

-- the bytes of num_nalus in an array of type t
abbrev pub count_len : Codec → ℕ → ℕ
count_len c t = if holds_one c t then 0 else 2
