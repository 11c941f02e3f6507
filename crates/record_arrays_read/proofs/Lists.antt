-- What reading the arrays of a record returns and writes: a refusal, 20, or the list.
use Prim.Native.Nat.{ℕ, ◌+◌, ◌≤◌, ◌<◌}
use mathlib.Core.Path.{◌≡◌, ap, ◌∙◌}
use mathlib.Core.List.{List}
use native.Mathlib.Omega.{arith}
use lib.ListN.{length, get_or, set}
use lib.Seq.{sets}
use Rattle.parse.specs.Outcome.{Outcome, accept, refuse, lent_output}
use Rattle.parse.specs.Parse.{Parsed, value, refused, times}
use Rattle.parse.proofs.Output.{output_short, output_fits}
use Rattle.boxes.specs.declared.Span.{Span}
use Rattle.boxes.proofs.Fields.{uint_short}
use Rattle.unit_list.specs.UnitList.{Array, encode, held_arrays}
use Rattle.record_arrays.specs.Read.{record_array}
use Rattle.record_arrays.specs.declared.Codec.{Codec}
use Rattle.counted_units.specs.inner.Counted.{room_taken, stored_bytes}
use Rattle.counted_units.proofs.Repeated.{RoomFound, room_found, room_refused}
use Rattle.record_arrays_read.specs.inner.Arrays.{counted_arrays, list_given, arrays_in_list}
use Rattle.record_arrays_read.proofs.RecordArrays.{byte_read}

module _ (k : Codec) (s : List ℕ) (at : ℕ) where
  pub arrays_absent : length s ≤ at → list_given s (counted_arrays k s at) ≡ refuse 1
  unfolding counted_arrays
  arrays_absent h = rw (uint_short 1 s at (omega arith))

  module _ (some : at < length s) (n : ℕ) (is : n ≡ get_or s at 0) where
    arrays_after : counted_arrays k s at ≡ times n (record_array k) s (at + 1)
    unfolding counted_arrays
    arrays_after = rw (byte_read s at some, is)

    pub arrays_refused : (e : ℕ) → refused e ≡ room_taken arrays_in_list s 0 (times n (record_array k) s (at + 1))
        → list_given s (counted_arrays k s at) ≡ refuse e
    arrays_refused e w = ap (list_given s) (arrays_after ∙ room_refused arrays_in_list s (times n (record_array k) s (at + 1)) e w)

    -- the arrays when they are measured
    module _ (room q : ℕ) (w : value room q ≡ room_taken arrays_in_list s 0 (times n (record_array k) s (at + 1))) where
      found : RoomFound arrays_in_list s (times n (record_array k) s (at + 1)) room q
      found = room_found arrays_in_list s (times n (record_array k) s (at + 1)) room q w

      abbrev list : List ℕ
      list = encode (held_arrays s found.what)

      list_long : length list ≡ 1 + room
      unfolding encode
      list_long = let l = found.long in omega arith

      given : list_given s (counted_arrays k s at) ≡ accept ((q, 1 + room), list)
      given = ap (list_given s) (arrays_after ∙ found.read) ∙ ap (λ (l : ℕ). accept ((q, l), list)) list_long

      module _ (out : List ℕ) where
        pub list_too_long : length out < 1 + room
            → ◌≡◌ {A = Outcome (ℕ × ℕ) × List ℕ} (refuse 20, out) (lent_output (list_given s (counted_arrays k s at)) out)
        list_too_long h = let l = list_long in output_short (list_given s (counted_arrays k s at)) out (q, 1 + room) list given (omega arith)

        module _ (h : 1 + room ≤ length out) where
          stored : (d e : List ℕ) → d ≡ set out 0 1 → e ≡ sets d 1 (stored_bytes arrays_in_list s (times n (record_array k) s (at + 1)))
              → e ≡ sets out 0 list
          unfolding encode
          stored d e f g = g ∙ rw f (ap (λ (x : Parsed (List (Array Span))). sets (set out 0 1) 1 (stored_bytes arrays_in_list s x)) found.read)

          pub list_given_lem : (d e : List ℕ) → d ≡ set out 0 1 → e ≡ sets d 1 (stored_bytes arrays_in_list s (times n (record_array k) s (at + 1)))
              → ◌≡◌ {A = Outcome (ℕ × ℕ) × List ℕ} (accept (q, 1 + room), e) (lent_output (list_given s (counted_arrays k s at)) out)
          list_given_lem d e f g =
              let l = list_long in
              output_fits (list_given s (counted_arrays k s at)) out (q, 1 + room) list given e (omega arith) (stored d e f g)
