-- The operating point of an OPI as bits (SCOPE 3.12; H.266 7.3.2.2), read from a unit.
use Rattle.std.specs.Prelude.{List, ℕ, drop, if◌then◌else◌, Option, None, Some}
use Rattle.parse.specs.Parse.{Parsed, value, refused, Parser, ◌>>=◌, ◌>>◌, refusing}
use Rattle.rbsp.specs.Rbsp.{rbsp}
use Rattle.bit_reader.specs.Bits.{u, is_set, ue}

-- operating_point_information_rbsp( ) up to opi_ols_idx; refused where the first flag is 0, with a number that no answer shows
unfoldable pub opi_point : Parser ℕ
opi_point = do
  present ← u 1  -- opi_ols_info_present_flag
  u 1  -- opi_htid_info_present_flag
  if is_set present then ue else refusing 0  -- opi_ols_idx

-- the value, or none on a refusal
abbrev pub where_read : {A : Type 0} → Parsed A → Option A
where_read (value a p) = Some a
where_read (refused e) = None

-- the operating point of an OPI unit, from the RBSP after its header; none where it does not read
unfoldable pub opi_ols_idx : List ℕ → Option ℕ
opi_ols_idx unit = where_read (opi_point (rbsp (drop 2 unit)) 0)
