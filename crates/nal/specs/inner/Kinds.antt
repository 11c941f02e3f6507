-- Internal: types and kinds as the code tells them apart.
use Rattle.std.specs.Prelude.{ℕ, Bool, false, eqb}
use Rattle.nal.specs.declared.UnitKind.{UnitKind}
use Rattle.nal.specs.declared.UnitKind.TheVariants.{PictureData, Record, Aud, Other}

-- how many types there are
abbrev pub unit_types : ℕ
unit_types = 32

-- picture data of this type
abbrev pub is_picture_data_of : ℕ → UnitKind → Bool
is_picture_data_of t (PictureData x) = eqb x t
is_picture_data_of t (Record x) = false
is_picture_data_of t Aud = false
is_picture_data_of t Other = false
