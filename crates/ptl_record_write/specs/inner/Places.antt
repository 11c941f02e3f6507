-- Internal: the first constraint byte as it is written.
use Rattle.std.specs.Prelude.{ℕ, get_or}
use Rattle.ptl.specs.declared.VvcPtlRecord.{VvcPtlRecord}
use Rattle.ptl_record.specs.Write.{constraint_info, with_flag_bits}

-- the two flags, then the low six bits of the PTL's first constraint byte, 0 where it has none
abbrev pub first_constraint_byte : VvcPtlRecord → ℕ
first_constraint_byte p = with_flag_bits p (get_or (constraint_info p) 0 0)
