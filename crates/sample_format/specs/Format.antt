-- The chroma format and bit depth of the samples (SCOPE 4.3).
use Rattle.std.specs.Prelude.{ℕ, List, [], ◌∷◌, if◌then◌else◌}
use Rattle.parse.specs.Outcome.{Outcome, accept, refuse, and_then}
use Rattle.boxes.specs.Parts.{held}
use Rattle.boxes.specs.declared.Span.{Span}
use Rattle.unit_list.specs.UnitList.{decode, units_of_type}
use Rattle.sps.specs.Sps.{parse_sps}
use Rattle.full.specs.Answers.{bit_depth_of}
use Rattle.full.specs.declared.VvcConfig.{VvcConfig}
use Rattle.sample_format.specs.declared.SampleFormat.{SampleFormat}

-- the format of a head: 22 for bit_depth_minus8 above 247
unfoldable pub head_format : VvcConfig → Outcome SampleFormat
head_format h = and_then (bit_depth_of h) (λ d. accept (record { chroma_format_idc = h.chroma_format_idc; bit_depth = d }))

-- the format of an SPS, with its refusals
unfoldable pub sps_format_of : List ℕ → Outcome SampleFormat
sps_format_of sps = and_then (parse_sps sps) (λ h. accept (record { chroma_format_idc = h.chroma_format_idc; bit_depth = h.bit_depth }))

-- the format of the first SPS of a list: 17 if there is none, then its refusals
unfoldable pub first_format : List ℕ → List Span → Outcome SampleFormat
first_format list [] = refuse 17
first_format list (a ∷ r) = sps_format_of (held list a)

-- `sample_format`: that of the head with the PTL flag, else that of the first unit in an array of type 15
-- Refusals: 23, 21; PTL flag set: 22; clear: 17 and those of the SPS
unfoldable pub sample_format : VvcConfig → List ℕ → Outcome SampleFormat
sample_format h list =
    and_then (decode list) (λ xs. if h.ptl_present_flag then head_format h else first_format list (units_of_type 15 xs))
