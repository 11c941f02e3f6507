-- The kinds of units, by type (SCOPE 3.3; H.266 table 5; ISO/IEC 14496-15 11.2.4.2 for those that a record may have).
use Rattle.std.specs.Prelude.{ℕ, Bool, true, false, ◌&&◌, ◌||◌, List, leb, eqb, if◌then◌else◌}
use Rattle.nal.specs.Header.{type_or31}
use Rattle.nal.specs.declared.UnitKind.{UnitKind}
use Rattle.nal.specs.declared.UnitKind.TheVariants.{PictureData, Record, Aud, Other}

-- the types that a record may have: 12 to 17 and 23
abbrev pub is_record_type : ℕ → Bool
is_record_type t = (leb 12 t && leb t 17) || eqb t 23

-- types 0 to 11 are picture data, 20 is AUD
unfoldable pub unit_kind : ℕ → UnitKind
unit_kind t =
    if leb t 11 then PictureData t
    else if is_record_type t then Record t
    else if eqb t 20 then Aud
    else Other

-- the kind of a unit: that of its type, 31 where byte 1 is absent
abbrev pub kind_of : List ℕ → UnitKind
kind_of u = unit_kind (type_or31 u)

abbrev pub is_picture_data : UnitKind → Bool
is_picture_data (PictureData t) = true
is_picture_data (Record t) = false
is_picture_data Aud = false
is_picture_data Other = false

abbrev pub is_record : UnitKind → Bool
is_record (PictureData t) = false
is_record (Record t) = true
is_record Aud = false
is_record Other = false

abbrev pub is_aud : UnitKind → Bool
is_aud (PictureData t) = false
is_aud (Record t) = false
is_aud Aud = true
is_aud Other = false

-- a record kind of this type
abbrev pub is_record_of : ℕ → UnitKind → Bool
is_record_of t (PictureData x) = false
is_record_of t (Record x) = eqb x t
is_record_of t Aud = false
is_record_of t Other = false
