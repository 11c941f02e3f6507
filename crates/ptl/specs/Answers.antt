-- The counts of a PTL (SCOPE 3.6).
use Rattle.std.specs.Prelude.{ℕ, ◌+◌, min, max}
use Rattle.ptl.specs.declared.VvcPtlRecord.{VvcPtlRecord}

-- `VvcPtlRecord::num_sublayers`: the level count plus 1, at most 7
abbrev pub num_sublayers_of : VvcPtlRecord → ℕ
num_sublayers_of p = min (p.num_sublayer_levels + 1) 7

-- `VvcPtlRecord::num_bytes_constraint_info`: the number of constraint bytes, at least 1 (none are written as one byte 00)
abbrev pub num_bytes_constraint_info_of : VvcPtlRecord → ℕ
num_bytes_constraint_info_of p = max p.num_bytes_constraint_info 1
