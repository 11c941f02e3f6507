-- Internal: the values of a PTL record's fields by their places, a byte past the end being 0: those of the definition without its refusals.
use Rattle.std.specs.Prelude.{ℕ, zero, suc, ◌+◌, ◌*◌, ◌/◌, ◌%◌, ◌-◌, Bool, List, [], ◌∷◌, ◌++◌, ltb, get_or, take, drop, if◌then◌else◌}
use Rattle.boxes.specs.Bytes.{be}
use Rattle.bit_reader.specs.Bits.{is_set}
use Rattle.ptl.specs.Ptl.{padded, without_flags}
use Rattle.ptl.specs.declared.VvcPtlRecord.{VvcPtlRecord}

-- the n numbers of four bytes from p on
unfoldable pub words : ℕ → List ℕ → ℕ → List ℕ
words zero s p = []
words (suc n) s p = be s p 4 ∷ words n s (p + 4)

-- how many of the top m flags of a byte are set: that many levels follow it
unfoldable pub levels_len : ℕ → ℕ → ℕ
levels_len zero flags = 0
levels_len (suc m) flags = flags / 128 + levels_len m (flags % 128 * 2)

-- the level after a flag, 0 where it is not set
abbrev pub level_if : ℕ → List ℕ → ℕ → ℕ
level_if flag s p = if is_set flag then get_or s p 0 else 0

-- the levels of sublayers 0 to m - 1, which lie from the highest down
unfoldable pub levels_at : ℕ → ℕ → List ℕ → ℕ → List ℕ
levels_at zero flags s p = []
levels_at (suc m) flags s p = levels_at m (flags % 128 * 2) s (p + flags / 128) ++ (level_if (flags / 128) s p ∷ [])

-- the byte of flags before the levels, 0 for at most one sublayer
abbrev pub flags_at : ℕ → List ℕ → ℕ → ℕ
flags_at sublayers s p = if ltb 1 sublayers then get_or s p 0 else 0

-- where the levels start when that byte is at p
abbrev pub levels_start : ℕ → ℕ → ℕ
levels_start sublayers p = if ltb 1 sublayers then p + 1 else p

-- the place of ptl_num_sub_profiles in the record at `at`, which has n constraint bytes
abbrev pub count_place : List ℕ → ℕ → ℕ → ℕ → ℕ
count_place s at n sublayers = levels_start sublayers (at + 3 + n) + levels_len (sublayers - 1) (flags_at sublayers s (at + 3 + n))

-- the place after the sub-profiles, whose count is at p
abbrev pub ptl_end : List ℕ → ℕ → ℕ
ptl_end s p = p + 1 + get_or s p 0 * 4

-- the record at `at` with n constraint bytes, m levels and the sub-profile count at p; `reads_after`
-- (proofs/Reading.antt) ties it to `vvc_ptl_record`
abbrev pub ptl_fields : List ℕ → ℕ → ℕ → ℕ → List Bool → List ℕ → ℕ → VvcPtlRecord
ptl_fields s at n m present idcs p = record {
  general_profile_idc = get_or s (at + 1) 0 / 2;
  general_tier_flag = is_set (get_or s (at + 1) 0 % 2);
  general_level_idc = get_or s (at + 2) 0;
  ptl_frame_only_constraint_flag = is_set (get_or s (at + 3) 0 / 128);
  ptl_multilayer_enabled_flag = is_set (get_or s (at + 3) 0 / 64 % 2);
  num_bytes_constraint_info = n;
  general_constraint_info = padded 63 0 (without_flags (take n (drop (at + 3) s)));
  num_sublayer_levels = m;
  sublayer_level_present_flag = present;
  sublayer_level_idc = idcs;
  num_sub_profiles = get_or s p 0;
  general_sub_profile_idc = padded 255 0 (words (get_or s p 0) s (p + 1));
}

-- the byte of a level, where there is one
abbrev pub one_level : Bool → ℕ → List ℕ
one_level present level = if present then level ∷ [] else []
