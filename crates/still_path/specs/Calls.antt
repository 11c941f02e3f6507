-- What the two calls of SCOPE 4.7 return for stills that meet the premises of the whole path (SCOPE 5.1). The claim is `WholeCalls`, at the end.
use Rattle.std.specs.Prelude.{ℕ, ◌≤◌, ◌≡◌, ◌↔◌, List, length, Option}
use Rattle.parse.specs.Outcome.{counted, Writes}
use Rattle.expand.specs.declared.Picture.{Picture}
use Rattle.access_unit.specs.declared.StartCodes.{StartCodes}
use Rattle.path.specs.Still.{Still}
use Rattle.path.specs.Path.{Path, Paths}
use Rattle.still.specs.Stills.{still_record, still_stream}

-- One still: both calls are accepted with any output that is long enough. They return the full record and the stream of the path, which splits into
-- the grouped units and 00 41 S.
pub record Calls (codes : StartCodes) (C S : List ℕ) (pic : Picture) (tols : Option ℕ) (path : Path codes C S pic tols) : Type 0 where
  pub record_given : Writes (counted (still_record C pic)) (length path.bytes) path.bytes
  pub stream_given : Writes (counted (still_stream codes C S tols)) (length path.stream) path.stream

-- Two stills: both calls for each, and the streams are equal exactly when S = S' and the grouped units are equal, one by one in order.
pub record TwoCalls (codes : StartCodes) (C S C' S' : List ℕ) (pic pic' : Picture) (tols tols' : Option ℕ) : Type 0 where
  pub paths : Paths codes C S C' S' pic pic' tols tols'
  pub first : Calls codes C S pic tols paths.first
  pub second : Calls codes C' S' pic' tols' paths.second
  pub same : (still_stream codes C S tols ≡ still_stream codes C' S' tols') ↔ ((S ≡ S') × (paths.first.grouped ≡ paths.second.grouped))

-- The claim under a choice of start codes, for any two stills that meet the premises and any targets, with chroma at most 3, depth at most 15 and any
-- dimensions.
abbrev pub WholeCalls : StartCodes → Type 0
WholeCalls codes =
    (C S C' S' : List ℕ) → Still C S → Still C' S'
    → (pic pic' : Picture) → pic.chroma_format_idc ≤ 3 → pic.bit_depth ≤ 15 → pic'.chroma_format_idc ≤ 3 → pic'.bit_depth ≤ 15
    → (tols tols' : Option ℕ) → TwoCalls codes C S C' S' pic pic' tols tols'

-- The claim under either choice.
abbrev pub WholeCallsEither : Type 0
WholeCallsEither = (codes : StartCodes) → WholeCalls codes
