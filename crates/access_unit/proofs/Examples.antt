-- An access unit with start codes of both lengths, computed by the definitions under both choices, and what the claims say of it.
use Prim.Native.Nat.{ℕ, ◌+◌, ◌*◌}
use mathlib.Core.Path.{◌≡◌, refl}
use mathlib.Core.List.{List, [], ◌∷◌, ◌++◌}
use Rattle.std.specs.Prelude.{None}
use native.Mathlib.Omega.{arith}
use lib.ListN.{length}
use Rattle.parse.specs.Outcome.{accept}
use Rattle.parse.specs.Parse.{many, many_up_to}
use Rattle.boxes.specs.Bytes.{be, uint, bytes, chunk, inside}
use Rattle.start_code.specs.StartCode.{bytes_before}
use Rattle.unit_check.specs.UnitCheck.{ends_in_zero, starts_forbidden, unit_checked}
use Rattle.nal.specs.Kinds.{unit_kind}
use Rattle.unit_list.specs.UnitList.{array_rest, array, unit_list, decode, units_of}
use Rattle.split.specs.Item.{item_unit, item_units, split_item}
use Rattle.annex_b.specs.Stream.{annex_b}
use Rattle.annex_b.specs.RoundTrip.{SplitsInto, threes, lengths}
use Rattle.annex_b.proofs.Checked.{all_checked, all_splittable}
use Rattle.full.specs.Read.{plain_head}
use Rattle.access_unit.specs.AccessUnit.{keeps, may_lead, leading, following, kept, arranged, access_unit, code_of, assemble}
use Rattle.access_unit.specs.declared.StartCodes.TheVariants.{Four, Short}
use Rattle.access_unit.specs.Streams.{Assembly}
use Rattle.access_unit.proofs.Claims.{assembly_splits, assembly_counts}

-- a list with one array of type 15, whose units have types 15, 18 and 19 in their headers, and one has a single byte
abbrev list : List ℕ
list =
    (0x01 ∷ 0 ∷ 0 ∷ 0 ∷ 0x19 ∷ 0x01 ∷ 0x0F ∷ [])
    ++ (0 ∷ 0 ∷ 0 ∷ 2 ∷ 0x00 ∷ 0x79 ∷ [])
    ++ (0 ∷ 0 ∷ 0 ∷ 2 ∷ 0x00 ∷ 0x91 ∷ [])
    ++ (0 ∷ 0 ∷ 0 ∷ 2 ∷ 0x00 ∷ 0x99 ∷ [])
    ++ (0 ∷ 0 ∷ 0 ∷ 1 ∷ 0x07 ∷ [])

-- an item with an AUD (type 20), which leads, and a picture (type 8); lengths of one byte
abbrev item : List ℕ
item = 0x02 ∷ 0x00 ∷ 0xA1 ∷ 0x03 ∷ 0x00 ∷ 0x41 ∷ 0x9A ∷ []

-- the units of the access unit
abbrev units : List (List ℕ)
units =
    (0x00 ∷ 0xA1 ∷ []) ∷ (0x00 ∷ 0x79 ∷ []) ∷ (0x00 ∷ 0x91 ∷ []) ∷ (0x00 ∷ 0x99 ∷ []) ∷ (0x07 ∷ []) ∷ (0x00 ∷ 0x41 ∷ 0x9A ∷ []) ∷ []

-- the first unit and types 12 to 18 after four bytes, the others after three
abbrev short : List ℕ
short =
    (0 ∷ 0 ∷ 0 ∷ 1 ∷ 0x00 ∷ 0xA1 ∷ [])
    ++ (0 ∷ 0 ∷ 0 ∷ 1 ∷ 0x00 ∷ 0x79 ∷ [])
    ++ (0 ∷ 0 ∷ 0 ∷ 1 ∷ 0x00 ∷ 0x91 ∷ [])
    ++ (0 ∷ 0 ∷ 1 ∷ 0x00 ∷ 0x99 ∷ [])
    ++ (0 ∷ 0 ∷ 1 ∷ 0x07 ∷ [])
    ++ (0 ∷ 0 ∷ 1 ∷ 0x00 ∷ 0x41 ∷ 0x9A ∷ [])

made : Assembly Short short units
unfolding many many_up_to be uint bytes chunk inside unit_kind array_rest array unit_list decode units_of item_unit item_units split_item annex_b keeps may_lead
    leading following kept arranged access_unit assemble
made = record { head = plain_head 1; list = list; item = item; tols = None; sources = _; found = refl; given = refl; held = refl }

-- it splits into its units, of which three have three bytes
recovered : SplitsInto short units
unfolding bytes_before starts_forbidden ends_in_zero unit_checked all_checked
recovered = assembly_splits Short short units made (all_splittable units refl) (omega arith)

three_of_six : threes (code_of Short) units ≡ 3
unfolding threes
three_of_six = refl

-- its length counts them: 3 less than 4 times 6 plus the units' 12 bytes
counted : length short + 3 ≡ 4 * 6 + 12
unfolding threes lengths
counted = assembly_counts Short short units made

-- with four bytes throughout
made_four : assemble Four (plain_head 1) list item None ≡ accept (annex_b (λ k. code_of Four 0) units)
unfolding many many_up_to be uint bytes chunk inside unit_kind array_rest array unit_list decode units_of item_unit item_units split_item annex_b keeps may_lead
    leading following kept arranged access_unit assemble
made_four = refl
