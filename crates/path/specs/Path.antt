-- The claim about the whole path from compact record to split stream (SCOPE 5): `WholePath`, at the end.
use Rattle.std.specs.Prelude.{ℕ, ◌+◌, ◌≤◌, ◌<◌, ◌≡◌, ◌↔◌, List, [], ◌∷◌, ◌++◌, length, get_or, Option}
use Rattle.parse.specs.Outcome.{accept, counted, Writes}
use Rattle.boxes.specs.Parts.{held, nowhere}
use Rattle.boxes.specs.declared.Span.{Span}
use Rattle.annex_b.specs.Stream.{annex_b, split_stream}
use Rattle.grouping.specs.Order.{GroupedAs}
use Rattle.compact.specs.Compact.{parse_compact}
use Rattle.compact.specs.ItemData.{restore}
use Rattle.compact.specs.declared.CompactVvcConfig.{CompactVvcConfig}
use Rattle.full.specs.Read.{parse_full}
use Rattle.full.specs.Write.{serialize_full}
use Rattle.full.specs.declared.VvcConfig.{VvcConfig}
use Rattle.expand.specs.Expand.{to_full}
use Rattle.expand.specs.declared.Picture.{Picture}
use Rattle.access_unit.specs.AccessUnit.{code_of, assemble}
use Rattle.access_unit.specs.declared.StartCodes.{StartCodes}
use Rattle.path.specs.Still.{units_in, Still}

-- One still, with a choice of start codes: every step is accepted, each with the results of the steps before it; and the units of the split stream
-- (SCOPE 5.3).
pub record Path (codes : StartCodes) (C S : List ℕ) (pic : Picture) (tols : Option ℕ) : Type 0 where
  -- compact read of C; expand of what it returned, with the picture
  pub config : CompactVvcConfig
  pub list : List ℕ
  pub reads : Writes (parse_compact C) (record { config = config; unit_count = length (units_in C); list_length = length list }) list
  pub full : VvcConfig
  pub full_list : List ℕ
  pub expands : Writes (to_full config pic list) (record { head = full; list_length = length full_list }) full_list
  -- full write of expand's head and list; full read of those bytes
  pub bytes : List ℕ
  pub writes : Writes (counted (serialize_full full full_list)) (length bytes) bytes
  pub head : VvcConfig
  pub reads_back : Writes (parse_full bytes) (record { head = head; consumed = length bytes; list_length = length full_list }) full_list
  -- restore of S with compact read's flag and prefix size
  pub item : List ℕ
  pub restores : Writes (counted (restore config S)) (length item) item
  -- assemble of full read's head and list, that item and the target, with the choice of start codes
  pub stream : List ℕ
  pub assembles : Writes (counted (assemble codes head full_list item tols)) (length stream) stream
  -- split of the stream
  pub spans : List Span
  pub splits : split_stream stream ≡ accept spans
  -- the grouped units of C (SCOPE 5.2); there is exactly one such list (`one_order`, proofs/OneOrder.antt)
  pub grouped : List (List ℕ)
  pub order : GroupedAs (units_in C) grouped
  -- with n units in C the split has n + 1 units: unit k below n is grouped unit k, and unit n is 00 41 S
  pub count : length spans ≡ length (units_in C) + 1
  pub unit : (k : ℕ) → k < length (units_in C) → held stream (get_or spans k nowhere) ≡ get_or grouped k []
  pub last : held stream (get_or spans (length (units_in C)) nowhere) ≡ 0x00 ∷ 0x41 ∷ S
  -- the stream is these units, each after its start code
  pub is_stream : stream ≡ annex_b (code_of codes) (grouped ++ ((0x00 ∷ 0x41 ∷ S) ∷ []))

-- Two stills, each with its own picture and target, under one choice of start codes: both paths; and the streams are the same bytes exactly when
-- S = S' and the grouped units are equal, one by one in order (SCOPE 5.3).
pub record Paths (codes : StartCodes) (C S C' S' : List ℕ) (pic pic' : Picture) (tols tols' : Option ℕ) : Type 0 where
  pub first : Path codes C S pic tols
  pub second : Path codes C' S' pic' tols'
  pub same : (first.stream ≡ second.stream) ↔ ((S ≡ S') × (first.grouped ≡ second.grouped))

-- The claim under a choice of start codes, for any two stills that meet the premises and any targets, with chroma at most 3, depth at most 15 and any
-- dimensions.
abbrev pub WholePath : StartCodes → Type 0
WholePath codes =
    (C S C' S' : List ℕ) → Still C S → Still C' S'
    → (pic pic' : Picture) → pic.chroma_format_idc ≤ 3 → pic.bit_depth ≤ 15 → pic'.chroma_format_idc ≤ 3 → pic'.bit_depth ≤ 15
    → (tols tols' : Option ℕ) → Paths codes C S C' S' pic pic' tols tols'

-- The claim under either choice.
abbrev pub WholePathEither : Type 0
WholePathEither = (codes : StartCodes) → WholePath codes
