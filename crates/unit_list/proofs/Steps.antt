-- What one step of the walk says, by cases: a unit of an array, an array. W is any fact about the width of the lengths, and goes on to the next
-- cursor; where a walk must go on, the width is at least 1.
use Prim.Native.Nat.{ℕ, ◌+◌, ◌≤◌, ◌<◌}
use mathlib.Core.Path.{◌≡◌, refl, sym}
use mathlib.Core.List.{List, []}
use native.Mathlib.Omega.{arith}
use native.Mathlib.Decide.{dec_le}
use lib.ListN.{length, get_or, take}
use lib.Seq.{take-length, length-take-le}
use Rattle.std.specs.Prelude.{Some, Ok}
use Rattle.parse.specs.Outcome.{accept, refuse}
use Rattle.parse.specs.Parse.{value, refused}
use Rattle.parse.specs.inner.Walk.{more}
use Rattle.boxes.specs.Bytes.{be, chunk}
use Rattle.boxes.specs.declared.Span.{Span}
use Rattle.boxes.proofs.Fields.{chunk_read, chunk_advances}
use Rattle.boxes.proofs.ChunkBytes.{chunk_no_length, chunk_cut, chunk_whole}
use Rattle.unit_list.specs.UnitList.{array, largest_type}
use Rattle.unit_list.specs.inner.Walk.{array_units_from, arrays_from, arrays_stepped, FitsFor, Passed, Entered}
use Rattle.unit_list.specs.declared.ListCursor.{ListCursor}
use Rattle.unit_list.proofs.Arrays.{IsRefused, run_nil, run_step, run_refused, array_no_chunk}
use Rattle.unit_list.proofs.Arrays.{array_short, array_complete, array_type, arrays_step}

-- the units after a cursor
module _ {W : ℕ → Type 0} (s : List ℕ) (c : ListCursor) (fits : FitsFor W s c) where
  whole : length (take c.end s) ≡ c.end
  whole = length-take-le c.end s fits.within

  pub units_end : c.at ≡ c.end → accept [] ≡ array_units_from s c
  units_end e = let l = whole in sym (run_nil (chunk c.width) (take c.end s) c.at 21 (omega arith))

  module _ (left : (c.at ≡ c.end) → ⊥) where
    some_left : c.at < length (take c.end s)
    some_left = let l = whole in let h = fits.before in omega (arith, left)

    pub units_unread : chunk c.width (take c.end s) c.at ≡ refused 1 → refuse 21 ≡ array_units_from s c
    units_unread e = sym (run_refused (chunk c.width) (take c.end s) c.at 21 some_left (rw e tt))

    module _ (a : Span) (e : chunk c.width (take c.end s) c.at ≡ value a (a.start + a.len)) where
      -- the cursor after the unit
      abbrev after_unit : ListCursor
      after_unit = record { at = a.start + a.len; end = c.end; unit_type = c.unit_type; width = c.width }

      unit_inside : a.start + a.len ≤ c.end
      unit_inside = let l = whole in let h = (chunk_read c.width (take c.end s) c.at a (a.start + a.len) e).fits in omega arith

      pub units_next : 1 ≤ c.width → more a (array_units_from s after_unit) ≡ array_units_from s c
      units_next some =
          sym (run_step (chunk c.width) (take c.end s) c.at 21 some_left
          (chunk_advances c.width (take c.end s) some) a
          (a.start + a.len) e)

      pub unit_passed : Passed W c.width s c a after_unit
      unit_passed =
          let b = chunk_read c.width (take c.end s) c.at a (a.start + a.len) e in
          record {
            start = omega (arith, b.start);
            next = refl;
            same = refl;
            fits = record { before = unit_inside; within = fits.within; lent = fits.lent; width = fits.width };
          }

-- the arrays after a cursor's end
module _ (s : List ℕ) (c : ListCursor) where
  pub arrays_end : c.end ≡ length s → accept [] ≡ arrays_from s c
  arrays_end e = sym (run_nil (array c.width) s c.end 21 (omega arith))

  module _ (left : c.end < length s) where
    pub arrays_refused : IsRefused (array c.width s c.end) → refuse 21 ≡ arrays_from s c
    arrays_refused h = sym (run_refused (array c.width) s c.end 21 left h)

    pub arrays_unread : chunk c.width (take (length s) s) c.end ≡ refused 1 → refuse 21 ≡ arrays_from s c
    arrays_unread e =
        let f : chunk c.width s c.end ≡ refused 1 = rw take-length at e in
        arrays_refused (array_no_chunk c.width s c.end (rw f tt))

    module _ (a : Span) (e : chunk c.width (take (length s) s) c.end ≡ value a (a.start + a.len)) where
      read : chunk c.width s c.end ≡ value a (a.start + a.len)
      read = rw take-length at e

      pub arrays_short : a.len < 2 → refuse 21 ≡ arrays_from s c
      arrays_short h = arrays_refused (array_short c.width s c.end a read h)

      pub arrays_complete : 3 < get_or s a.start 0 → refuse 21 ≡ arrays_from s c
      arrays_complete h = arrays_refused (array_complete c.width s c.end a read h)

      module _ (two : 2 ≤ a.len) (one : get_or s a.start 0 ≤ 3) where
        -- the cursor before the array's units
        abbrev first_unit : ListCursor
        first_unit = record { at = a.start + 2; end = a.start + a.len; unit_type = get_or s (a.start + 1) 0; width = c.width }

        pub arrays_type : largest_type < get_or s (a.start + 1) 0 → refuse 21 ≡ arrays_from s c
        arrays_type h = arrays_refused (array_type c.width s c.end a read two one h)

        pub arrays_entered : {W : ℕ → Type 0} → FitsFor W s c → 1 ≤ c.width → get_or s (a.start + 1) 0 ≤ largest_type
            → (arrays_stepped s (Ok (Some (get_or s a.start 0, first_unit))) ≡ arrays_from s c) × Entered W s c (get_or s a.start 0) first_unit
        arrays_entered fits some small =
            let b = chunk_read c.width s c.end a (a.start + a.len) read in (
              sym (arrays_step c.width s some c.end 21 left a read two one small),
              record {
                first = omega (arith, b.start);
                same = refl;
                complete = one;
                unit_type = small;
                fits = record { before = omega arith; within = b.fits; lent = fits.lent; width = fits.width };
              },
            )

    -- no room for the length, the complete byte and the type
    pub arrays_headless : length s < c.end + c.width + 2 → refuse 21 ≡ arrays_from s c
    arrays_headless h =
        elim (dec_le (c.end + c.width) (length s)) [
          | no k ↦ arrays_unread (sym (chunk_no_length c.width s c.end (length s) (omega arith) (omega arith)))
          | yes k ↦
              elim (dec_le (c.end + c.width + be s c.end c.width) (length s)) [
                | no j ↦ arrays_unread (sym (chunk_cut c.width s c.end (length s) (omega arith) k (omega arith)))
                | yes j ↦
                    arrays_short (record { start = c.end + c.width; len = be s c.end c.width })
                    (sym (chunk_whole c.width s c.end (length s) (omega arith) k (be s c.end c.width) refl j)) (omega arith)
              ]
        ]
