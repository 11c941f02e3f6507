-- Internal: how many bytes of an RBSP suffice for every parameter set that is read here (SCOPE 3.7).
use Rattle.std.specs.Prelude.{ℕ}

abbrev pub rbsp_front : ℕ
rbsp_front = 1132
