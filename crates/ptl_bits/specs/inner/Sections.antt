-- Internal: profile_tier_level( 1, s ) in the sections that the code reads one by one; `sections`
-- (proofs/Whole.antt) ties them to `profile_tier_level`.
use Rattle.std.specs.Prelude.{false, List, ℕ, ltb, length, if◌then◌else◌}
use Rattle.parse.specs.Parse.{Parser, ◌>>=◌, ◌>>◌, give, here, times}
use Rattle.bit_reader.specs.Bits.{u, is_set}
use Rattle.ptl.specs.Ptl.{padded, present_flags, levels, general_constraints_info, constraint_bytes}
use Rattle.ptl.specs.declared.VvcPtlRecord.{VvcPtlRecord}
use Rattle.ptl_bits.specs.declared.bits.General.{General}
use Rattle.ptl_bits.specs.declared.constraints.Constraints.{Constraints}
use Rattle.ptl_bits.specs.declared.sublayers.Sublayers.{Sublayers}
use Rattle.ptl_bits.specs.declared.sub_profiles.SubProfiles.{SubProfiles}

-- profile, tier and level
unfoldable pub general : Parser General
general = do
  profile ← u 7
  tier ← u 1
  level ← u 8
  give (record { general_profile_idc = profile; general_tier_flag = is_set tier; general_level_idc = level })

-- the two flags and the constraint information
unfoldable pub constraints : Parser Constraints
constraints = do
  from ← here
  frame_only ← u 1
  multilayer ← u 1
  general_constraints_info
  constraint ← constraint_bytes from
  give (record {
    ptl_frame_only_constraint_flag = is_set frame_only;
    ptl_multilayer_enabled_flag = is_set multilayer;
    num_bytes_constraint_info = length constraint;
    general_constraint_info = padded 63 0 constraint;
  })

-- the levels as an array
abbrev pub level_array : Parser ℕ → ℕ → ℕ → Parser (List ℕ)
level_array L m flags = do
  idcs ← levels L m flags
  give (padded 7 0 idcs)

-- the present flags and the levels
unfoldable pub sublayers : ℕ → Parser Sublayers
sublayers s = do
  flags ← if ltb 0 s then u 8 else give 0
  idcs ← levels (u 8) s flags
  give (record { sublayer_level_present_flag = padded 7 false (present_flags s flags); sublayer_level_idc = padded 7 0 idcs })

-- n values as an array
abbrev pub value_array : Parser ℕ → ℕ → Parser (List ℕ)
value_array P n = do
  values ← times n P
  give (padded 255 0 values)

-- the count of sub-profiles, and the sub-profiles
unfoldable pub sub_profiles : Parser SubProfiles
sub_profiles = do
  n ← u 8
  subs ← times n (u 32)
  give (record { num_sub_profiles = n; general_sub_profile_idc = padded 255 0 subs })

-- the PTL that the four sections make up; s is the number of sublayers minus 1
abbrev pub ptl_of_sections : ℕ → General → Constraints → Sublayers → SubProfiles → VvcPtlRecord
ptl_of_sections s g c l u = record {
  general_profile_idc = g.general_profile_idc;
  general_tier_flag = g.general_tier_flag;
  general_level_idc = g.general_level_idc;
  ptl_frame_only_constraint_flag = c.ptl_frame_only_constraint_flag;
  ptl_multilayer_enabled_flag = c.ptl_multilayer_enabled_flag;
  num_bytes_constraint_info = c.num_bytes_constraint_info;
  general_constraint_info = c.general_constraint_info;
  num_sublayer_levels = s;
  sublayer_level_present_flag = l.sublayer_level_present_flag;
  sublayer_level_idc = l.sublayer_level_idc;
  num_sub_profiles = u.num_sub_profiles;
  general_sub_profile_idc = u.general_sub_profile_idc;
}
