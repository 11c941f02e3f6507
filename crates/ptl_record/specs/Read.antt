-- The PTL of a full record, read (VvcPTLRecord: ISO/IEC 14496-15 11.2.4.1; SCOPE 3.10). Reserved bits are ignored.
use Rattle.std.specs.Prelude.{ℕ, ◌-◌, ◌/◌, ◌%◌, false, List, ltb, eqb, get_or, if◌then◌else◌}
use Rattle.parse.specs.Parse.{value, bind, Parser, ◌>>=◌, ◌>>◌, give, refuse_if, times}
use Rattle.boxes.specs.Bytes.{uint, bytes}
use Rattle.boxes.specs.Parts.{held}
use Rattle.bit_reader.specs.Bits.{is_set}
use Rattle.ptl.specs.Ptl.{padded, present_flags, levels, without_flags}
use Rattle.ptl.specs.declared.VvcPtlRecord.{VvcPtlRecord}

-- the next n bytes themselves
unfoldable pub octets : ℕ → Parser (List ℕ)
octets n s p = bind (bytes n s p) (λ a q. value (held s a) q)

-- VvcPTLRecord( num_sublayers )
unfoldable pub vvc_ptl_record : ℕ → Parser VvcPtlRecord
vvc_ptl_record sublayers = do
  a ← uint 1  -- reserved 2, num_bytes_constraint_info 6
  refuse_if (eqb (a % 64) 0) 2
  b ← uint 1  -- general_profile_idc 7, general_tier_flag 1
  level ← uint 1  -- general_level_idc
  info ← octets (a % 64)  -- ptl_frame_only_constraint_flag 1, ptl_multilayer_enabled_flag 1, general_constraint_info
  flags ← if ltb 1 sublayers then uint 1 else give 0  -- ptl_sublayer_level_present_flag, ptl_reserved_zero_bit
  idcs ← levels (uint 1) (sublayers - 1) flags  -- sublayer_level_idc
  n ← uint 1  -- ptl_num_sub_profiles
  subs ← times n (uint 4)  -- general_sub_profile_idc
  give (record {
    general_profile_idc = b / 2;
    general_tier_flag = is_set (b % 2);
    general_level_idc = level;
    ptl_frame_only_constraint_flag = is_set (get_or info 0 0 / 128);
    ptl_multilayer_enabled_flag = is_set (get_or info 0 0 / 64 % 2);
    num_bytes_constraint_info = a % 64;
    general_constraint_info = padded 63 0 (without_flags info);
    num_sublayer_levels = sublayers - 1;
    sublayer_level_present_flag = padded 7 false (present_flags (sublayers - 1) flags);
    sublayer_level_idc = padded 7 0 idcs;
    num_sub_profiles = n;
    general_sub_profile_idc = padded 255 0 subs;
  })
