-- The premises of a still as tests that compute, for stills that are written out.
use Prim.Native.Nat.{ℕ, zero, suc, ◌+◌, ◌-◌, ◌^◌, ◌≤◌, ◌<◌}
use native.Mathlib.Omega.{arith}
use mathlib.Core.Path.{◌≡◌, refl, sym, ◌∙◌, subst}
use mathlib.Core.Bool.{Bool, true, false}
use mathlib.Core.List.{List, [], ◌∷◌}
use lib.Dec.{eqb}
use lib.ListN.{length, get_or}
use borrow.Author.Tests.{eq-eqb, eqb-false}
use Rattle.std.specs.Prelude.{if◌then◌else◌}
use Rattle.parse.specs.Outcome.{accept}
use Rattle.boxes.proofs.AllBytes.{all_bytes, bytes_of}
use Rattle.nal.specs.Header.{type_or31}
use Rattle.start_code.specs.StartCode.{scan}
use Rattle.unit_check.specs.UnitCheck.{ends_in_zero}
use Rattle.start_code.specs.Splittable.{Clean}
use Rattle.start_code.proofs.StartCodes.{none_scan}
use Rattle.unit_check.proofs.Checks.{ends_last}
use Rattle.unit_list.specs.UnitList.{encode}
use Rattle.annex_b.specs.RoundTrip.{AllSplittable}
use Rattle.annex_b.proofs.Checked.{all_checked, all_splittable}
use Rattle.ptl.proofs.Examples.{ptl_of_p}
use Rattle.grouping.specs.Grouping.{having_type, grouped}
use Rattle.grouping.specs.Order.{type_at}
use Rattle.compact.specs.declared.CompactRead.{CompactRead}
use Rattle.compact.specs.Compact.{one_array, parse_compact}
use Rattle.compact.specs.declared.CompactVvcConfig.{CompactVvcConfig}
use Rattle.expand.specs.declared.Expanded.{Expanded}
use Rattle.expand.specs.Expand.{expanded_head, with_list, to_full}
use Rattle.expand.specs.declared.Picture.{Picture}
use Rattle.path.specs.Still.{AtMostOne, units_in, Still}

-- no 00 00 01 inside and no 00 at the end, by the scan and the last byte
pub clean_of : (u : List ℕ) → scan u ≡ length u → ends_in_zero u ≡ false → Clean u
clean_of u n e = record {
  free = λ i a b c d. none_scan u n i (record { inside = a; first = b; second = c; third = d });
  ends = λ h. eqb-false (get_or u (length u - 1) 0) 0 (sym (ends_last u h) ∙ e);
}

-- at most one unit of a type, by their count
fewer : (v : List ℕ) (c : Bool) (us : List (List ℕ)) (n : ℕ) → length (if c then v ∷ us else us) ≤ n → length us ≤ n
fewer v true us n h = omega arith
fewer v false us n h = h

none_at : (t : ℕ) (us : List (List ℕ)) → length (having_type t us) ≤ 0 → (j : ℕ) → j < length us → type_at us j ≡ t → ⊥
unfolding having_type
none_at t [] e j h f = omega arith
none_at t (v ∷ us) e zero h f = let z = eq-eqb (type_or31 v) t f in let n = rw z at e in omega arith
none_at t (v ∷ us) e (suc j) h f = none_at t us (fewer v (eqb (type_or31 v) t) (having_type t us) 0 e) j (omega arith) f

one_at : (t : ℕ) (us : List (List ℕ)) → length (having_type t us) ≤ 1 → AtMostOne t us
unfolding having_type
one_at t [] e i j h k f g = omega arith
one_at t (v ∷ us) e i zero h k f g = omega arith
one_at t (v ∷ us) e zero (suc j) h k f g = let z = eq-eqb (type_or31 v) t f in let n = rw z at e in none_at t us (omega arith) j (omega arith) g
one_at t (v ∷ us) e (suc i) (suc j) h k f g = one_at t us (fewer v (eqb (type_or31 v) t) (having_type t us) 1 e) i j (omega arith) (omega arith) f g

abbrev pub picture : Picture
picture = record { chroma_format_idc = 1; bit_depth = 8; width = 16; height = 8 }

-- C with these units, a prefix size, the PTL of P and the flag clear
module _ (C S : List ℕ) (size : ℕ) (us : List (List ℕ)) where
  abbrev pub config : CompactVvcConfig
  config = record { multi_layer_flag = false; length_size = size }

  abbrev pub read : CompactRead
  read = record { config = config; unit_count = length us; list_length = length (one_array us) }

  abbrev pub full : Expanded × List ℕ
  full = with_list (expanded_head config picture ptl_of_p) (encode (grouped us))

  pub meets : units_in C ≡ us → all_bytes C ≡ true → parse_compact C ≡ accept (read, one_array us)
      → to_full config picture (one_array us) ≡ accept full → (size ≡ 3 → ⊥)
      → length (having_type 12 us) ≤ 1 → length (having_type 13 us) ≤ 1 → all_checked us ≡ true → Clean S → length S ≤ 2 ^ 29
      → 2 + length S < 256 ^ size → Still C S
  meets e b r f n o d c s l p = record {
    bytes = bytes_of C b;
    read = read;
    list = one_array us;
    reads = r;
    picture = picture;
    full = full.0;
    full_list = full.1;
    expands = f;
    plain = refl;
    size = n;
    one_opi = subst (AtMostOne 12) (sym e) (one_at 12 us o);
    one_dci = subst (AtMostOne 13) (sym e) (one_at 13 us d);
    some = λ k h. (splits k h).some;
    clean = λ k h. (splits k h).clean;
    picture_clean = s;
    short = omega arith;
    fits = p;
  }
    where
      splits : AllSplittable (units_in C)
      splits = subst AllSplittable (sym e) (all_splittable us c)
