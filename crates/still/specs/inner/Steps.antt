-- Internal: the path from the list of a compact record on, and from the expanded list on.
use Rattle.std.specs.Prelude.{ℕ, ◌≤◌, ◌≡◌, Bool, false, ◌&&◌, List, [], ◌∷◌, ◌++◌, map, eqb, leb, length, if◌then◌else◌, Option}
use Rattle.parse.specs.Outcome.{Outcome, accept, refuse, lent_input}
use Rattle.parse.specs.Steps.{◌>>=◌, ◌>>◌}
use Rattle.boxes.specs.Bytes.{to_chunk, AllBytes}
use Rattle.boxes.specs.Parts.{held}
use Rattle.boxes.specs.declared.Span.{Span}
use Rattle.unit_list.specs.Answers.{list_units, list_units_of_type}
use Rattle.annex_b.specs.Stream.{annex_b}
use Rattle.compact.specs.declared.CompactRead.{CompactRead}
use Rattle.compact.specs.Compact.{parse_compact}
use Rattle.compact.specs.ItemData.{still_unit, restore}
use Rattle.compact.specs.declared.CompactVvcConfig.{CompactVvcConfig}
use Rattle.full.specs.Read.{parse_full}
use Rattle.full.specs.Write.{serialize_full}
use Rattle.full.specs.declared.VvcConfig.{VvcConfig}
use Rattle.expand.specs.declared.Expanded.{Expanded}
use Rattle.expand.specs.Expand.{to_full}
use Rattle.expand.specs.declared.Picture.{Picture}
use Rattle.access_unit.specs.AccessUnit.{code_of, assemble}
use Rattle.access_unit.specs.declared.StartCodes.{StartCodes}
use Rattle.still.specs.Stills.{any_picture}

-- a configuration and a list that compact read returned
pub record ReadFrom (c : CompactVvcConfig) (list : List ℕ) : Type 0 where
  pub compact : List ℕ
  pub bytes : AllBytes compact
  pub read : CompactRead
  pub reads : parse_compact compact ≡ accept (read, list)
  pub config : read.config ≡ c

-- a head and a list to which they expand
pub record ExpandedFrom (c : CompactVvcConfig) (h : VvcConfig) (list : List ℕ) : Type 0 where
  pub compact_list : List ℕ
  pub from : ReadFrom c compact_list
  pub picture : Picture
  -- the picture's values fit their fields
  pub chroma : picture.chroma_format_idc ≤ 3
  pub depth : picture.bit_depth ≤ 15
  pub full : Expanded
  pub expands : to_full c picture compact_list ≡ accept (full, list)
  pub head : full.head ≡ h

-- the record of what compact read returned; `record_read_lem` (proofs/LocalArrays.antt) ties it to `still_record`
abbrev pub record_from : CompactVvcConfig → Picture → List ℕ → Outcome (List ℕ)
record_from c pic list = do
  full ← to_full c pic list
  serialize_full full.0.head full.1

-- the stream of an expanded head and list, from full write on
abbrev pub stream_expanded : StartCodes → CompactVvcConfig → VvcConfig → List ℕ → List ℕ → Option ℕ → Outcome (List ℕ)
stream_expanded codes c h list S tols = do
  bytes ← serialize_full h list
  back ← parse_full bytes
  item ← restore c S
  assemble codes back.0.head back.1 item tols

-- the stream of what compact read returned; `stream_read` (proofs/LocalArrays.antt) ties it to `still_stream`
abbrev pub stream_from : StartCodes → CompactVvcConfig → List ℕ → List ℕ → Option ℕ → Outcome (List ℕ)
stream_from codes c list S tols = do
  full ← to_full c any_picture list
  stream_expanded codes c full.0.head full.1 S tols

-- the item of the stored bytes, if full write accepts the record
abbrev pub item_after : CompactVvcConfig → VvcConfig → List ℕ → List ℕ → Outcome (List ℕ)
item_after c h list S = do
  serialize_full h list
  restore c S

-- there is at most one unit
abbrev pub single : Outcome (List Span) → Bool
single (accept us) = leb (length us) 1
single (refuse n) = false

-- the same item, by what full write can refuse of an expanded list: a prefix size of 3, and two units of type 12 or of type 13, whose arrays have no
-- count. `Ready` (proofs/Lists.antt) has that they are equal
abbrev pub item_unless_refused : CompactVvcConfig → List ℕ → List ℕ → Outcome (List ℕ)
item_unless_refused c list S =
    if eqb c.length_size 3 then refuse 3
    else if single (list_units_of_type 12 list) && single (list_units_of_type 13 list) then restore c S
    else refuse 22

-- the units of the list and the one unit of S, each after its start code
abbrev pub units_stream : StartCodes → List ℕ → List ℕ → Outcome (List ℕ)
units_stream codes list S = do
  us ← list_units list
  accept (annex_b (code_of codes) (map (held list) us ++ (still_unit S ∷ [])))

-- the same, with 23 for the item of S
abbrev pub plain_stream : StartCodes → ℕ → List ℕ → List ℕ → Outcome (List ℕ)
plain_stream codes size list S = lent_input (to_chunk size (still_unit S)) (units_stream codes list S)

-- a prefix size of 1 to 4, and a list with units
pub record Plain (size : ℕ) (list : List ℕ) : Type 0 where
  pub low : 1 ≤ size
  pub high : size ≤ 4
  pub units : List Span
  pub listed : list_units list ≡ accept units
  pub some : 1 ≤ length units
