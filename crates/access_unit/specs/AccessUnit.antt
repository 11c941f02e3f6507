-- The access unit of a still (SCOPE 3.12; ISO/IEC 23008-12 L.2.2.2 and L.2.2.1.2; ISO/IEC 14496-15:2024 11.2.4.2, note 4).
use Rattle.std.specs.Prelude.{ℕ, zero, suc, Bool, true, ◌&&◌, ◌||◌, List, [], ◌∷◌, ◌++◌, map, leb, eqb, if◌then◌else◌, Option, None, Some}
use Rattle.parse.specs.Outcome.{Outcome, accept, refuse, lent_input}
use Rattle.parse.specs.Steps.{◌>>=◌}
use Rattle.boxes.specs.Parts.{held}
use Rattle.boxes.specs.declared.Span.{Span}
use Rattle.nal.specs.Header.{type_or31}
use Rattle.nal.specs.Kinds.{kind_of, is_aud, is_record_of}
use Rattle.nal.specs.declared.UnitKind.{UnitKind}
use Rattle.unit_list.specs.Answers.{list_units}
use Rattle.opi.specs.Opi.{opi_ols_idx}
use Rattle.split.specs.Item.{split_item}
use Rattle.annex_b.specs.Stream.{StartCode, three, four, annex_b}
use Rattle.full.specs.declared.VvcConfig.{VvcConfig}
use Rattle.access_unit.specs.declared.Source.{Source}
use Rattle.access_unit.specs.declared.Source.TheVariants.{OfList, OfItem}
use Rattle.access_unit.specs.declared.StartCodes.{StartCodes}
use Rattle.access_unit.specs.declared.StartCodes.TheVariants.{Four, Short}

-- the target: the caller's; if there is none, the head's operating point where its PTL flag is set; else none
abbrev pub target_of : VvcConfig → Option ℕ → Option ℕ
target_of h (Some t) = Some t
target_of h None = if h.ptl_present_flag then Some h.ols_idx else None

-- a target and an operating point agree unless both are there and differ
abbrev pub agrees : Option ℕ → Option ℕ → Bool
agrees None o = true
agrees (Some t) None = true
agrees (Some t) (Some o) = eqb t o

-- an OPI unit (type 12)
abbrev pub is_opi : List ℕ → Bool
is_opi u = is_record_of 12 (kind_of u)

-- a unit of the item is dropped exactly when it is an OPI unit, there is a target, its operating point reads, and the two differ (SCOPE 3.12)
unfoldable pub keeps : Option ℕ → List ℕ → Bool
keeps target u = if is_opi u then agrees target (opi_ols_idx u) else true

-- the kinds that may lead: AUD and OPI
abbrev pub leading_kind : UnitKind → Bool
leading_kind k = is_aud k || is_record_of 12 k

-- an AUD or OPI unit
unfoldable pub may_lead : List ℕ → Bool
may_lead u = leading_kind (kind_of u)

module _ (item : List ℕ) where
  -- the leading units of the item: those before the first that is neither AUD nor OPI
  unfoldable pub leading : List Span → List Span
  leading [] = []
  leading (a ∷ r) = if may_lead (held item a) then a ∷ leading r else []

  -- the remaining units of the item
  unfoldable pub following : List Span → List Span
  following [] = []
  following (a ∷ r) = if may_lead (held item a) then following r else a ∷ r

  -- the units that are not dropped
  unfoldable pub kept : Option ℕ → List Span → List Span
  kept target [] = []
  kept target (a ∷ r) = if keeps target (held item a) then a ∷ kept target r else kept target r

-- the order: leading units of the item, units of the list, remaining units of the item; dropped ones are left out (SCOPE 3.12)
unfoldable pub arranged : List ℕ → Option ℕ → List Span → List Span → List Source
arranged item target units split =
    map OfItem (kept item target (leading item split))
    ++ (map OfList units
    ++ map OfItem (kept item target (following item split)))

-- 19 for an access unit without units
abbrev pub not_empty : List Source → Outcome (List Source)
not_empty [] = refuse 19
not_empty (u ∷ us) = accept (u ∷ us)

-- the units of the access unit. Refusals: 23, 21, 4, then in byte order 1 and 5, 19
unfoldable pub access_unit : VvcConfig → List ℕ → List ℕ → Option ℕ → Outcome (List Source)
access_unit h list item tols = lent_input item do
  units ← list_units list
  split ← split_item h.length_size item
  not_empty (arranged item (target_of h tols) units split)

-- the bytes of a unit
abbrev pub held_in : List ℕ → List ℕ → Source → List ℕ
held_in list item (OfList a) = held list a
held_in list item (OfItem a) = held item a

-- the start code of a unit other than the first, by the type in its header: with short codes four bytes for types 12 to 18 (OPI, DCI, the parameter
-- sets and APS), three for the others, among them a unit of one byte, which has no type (H.266 B.2.2, zero_byte)
abbrev pub code_of_type : StartCodes → ℕ → StartCode
code_of_type Four t = four
code_of_type Short t = if leb 12 t && leb t 18 then four else three

-- the start code of unit k of a stream: the first has four bytes (H.266 B.2.2)
abbrev pub code_of : StartCodes → ℕ → List ℕ → StartCode
code_of codes zero u = four
code_of codes (suc k) u = code_of_type codes (type_or31 u)

-- `access_unit_annex_b`: each unit after its start code (SCOPE 3.12); with an output 20
unfoldable pub assemble : StartCodes → VvcConfig → List ℕ → List ℕ → Option ℕ → Outcome (List ℕ)
assemble codes h list item tols = do
  us ← access_unit h list item tols
  accept (annex_b (code_of codes) (map (held_in list item) us))
