-- Profile, tier and level as bits (SCOPE 3.6; H.266 7.3.3.1, profile_tier_level( 1, s ), where the 1 says that the profile is present).
use Rattle.std.specs.Prelude.{Bool, false, List, [], ◌∷◌, ◌++◌, ℕ, zero, suc, ◌-◌, ◌*◌, ◌/◌, ◌%◌, ltb, length, take, drop, replicate, if◌then◌else◌}
use Rattle.parse.specs.Parse.{value, Parser, ◌>>=◌, ◌>>◌, give, here, times}
use Rattle.bit_reader.specs.Bits.{u, is_set, skip, align}
use Rattle.ptl.specs.declared.VvcPtlRecord.{VvcPtlRecord}

-- an array of N elements: the values, and z past them
abbrev pub padded : {A : Type 0} → ℕ → A → List A → List A
padded N z xs = xs ++ replicate (N - length xs) z

-- ptl_sublayer_level_present_flag[ i ] from i = m - 1 down to 0 in the top bits of a byte; as a list from sublayer 0 on
unfoldable pub present_flags : ℕ → ℕ → List Bool
present_flags zero byte = []
present_flags (suc m) byte = present_flags m (byte % 128 * 2) ++ (is_set (byte / 128) ∷ [])

-- sublayer_level_idc[ i ] from i = m - 1 down to 0, each read by L where its flag is set, 0 where not; as a list from sublayer 0 on
unfoldable pub levels : Parser ℕ → ℕ → ℕ → Parser (List ℕ)
levels L zero byte = give []
levels L (suc m) byte = do
  level ← if is_set (byte / 128) then L else give 0
  below ← levels L m (byte % 128 * 2)
  give (below ++ (level ∷ []))

-- the constraint bytes without the two flags before the information: the top two bits of the first are 0
unfoldable pub without_flags : List ℕ → List ℕ
without_flags [] = []
without_flags (b ∷ r) = b % 64 ∷ r

-- the bits that gci_present_flag announces
unfoldable pub constraint_bits : Parser (Unit {0})
constraint_bits = do
  skip 71  -- gci_intra_only_constraint_flag and so on
  n ← u 8  -- gci_num_additional_bits
  skip n

-- general_constraints_info( ) (H.266 7.3.3.2)
unfoldable pub general_constraints_info : Parser (Unit {0})
general_constraints_info = do
  present ← u 1  -- gci_present_flag
  if is_set present then constraint_bits else give tt
  align  -- gci_alignment_zero_bit

-- the constraint bytes: the whole bytes from the position of the frame-only bit up to the alignment
unfoldable pub constraint_bytes : ℕ → Parser (List ℕ)
constraint_bytes from s p = value (without_flags (take (p / 8 - from / 8) (drop (from / 8) s))) p

-- profile_tier_level( 1, s )
unfoldable pub profile_tier_level : ℕ → Parser VvcPtlRecord
profile_tier_level s = do
  profile ← u 7  -- general_profile_idc
  tier ← u 1  -- general_tier_flag
  level ← u 8  -- general_level_idc
  from ← here
  frame_only ← u 1  -- ptl_frame_only_constraint_flag
  multilayer ← u 1  -- ptl_multilayer_enabled_flag
  general_constraints_info
  constraint ← constraint_bytes from
  flags ← if ltb 0 s then u 8 else give 0  -- s ptl_sublayer_level_present_flag, 8 - s ptl_reserved_zero_bit
  sublayers ← levels (u 8) s flags  -- sublayer_level_idc
  n ← u 8  -- ptl_num_sub_profiles
  subs ← times n (u 32)  -- general_sub_profile_idc
  give (record {
    general_profile_idc = profile;
    general_tier_flag = is_set tier;
    general_level_idc = level;
    ptl_frame_only_constraint_flag = is_set frame_only;
    ptl_multilayer_enabled_flag = is_set multilayer;
    num_bytes_constraint_info = length constraint;
    general_constraint_info = padded 63 0 constraint;
    num_sublayer_levels = s;
    sublayer_level_present_flag = padded 7 false (present_flags s flags);
    sublayer_level_idc = padded 7 0 sublayers;
    num_sub_profiles = n;
    general_sub_profile_idc = padded 255 0 subs;
  })

-- all zeros
abbrev pub zero_ptl : VvcPtlRecord
zero_ptl = record {
  general_profile_idc = 0;
  general_tier_flag = false;
  general_level_idc = 0;
  ptl_frame_only_constraint_flag = false;
  ptl_multilayer_enabled_flag = false;
  num_bytes_constraint_info = 0;
  general_constraint_info = replicate 63 0;
  num_sublayer_levels = 0;
  sublayer_level_present_flag = replicate 7 false;
  sublayer_level_idc = replicate 7 0;
  num_sub_profiles = 0;
  general_sub_profile_idc = replicate 255 0;
}
