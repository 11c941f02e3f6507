-- What the length of a compact record says of its units, and what its first bit is.
use Prim.Native.Nat.{ℕ, ◌+◌, ◌*◌, ◌/◌, ◌%◌, ◌≤◌}
use mathlib.Core.Path.{◌≡◌, ap, ◌∙◌}
use mathlib.Core.Bool.{Bool, true, false, not, ◌&&◌}
use mathlib.Core.List.{List, [], ◌∷◌}
use native.Mathlib.Omega.{arith}
use native.Mathlib.Nat.{mul-suc}
use lib.Dec.{leb, eqb}
use lib.ListN.{length, length-append}
use Rattle.std.specs.Prelude.{if◌then◌else◌}
use Rattle.parse.specs.Outcome.{accept, refuse}
use Rattle.parse.specs.Parse.{times}
use Rattle.boxes.specs.Bytes.{uint, chunk, to_chunk, outside}
use Rattle.boxes.proofs.Numbers.{be_one}
use Rattle.unit_list.specs.UnitList.{encode_units}
use Rattle.grouping.proofs.GroupedFits.{units_long}
use Rattle.compact.specs.declared.CompactRead.{CompactRead}
use Rattle.compact.specs.Compact.{at_end, compact_record, all_at_most, compact_bytes, compact_first_byte}
use Rattle.compact.specs.declared.CompactVvcConfig.{CompactVvcConfig}
use Rattle.compact.proofs.Facts.{CompactFacts}
use Rattle.access_unit.specs.inner.Gathered.{lengths}
use Rattle.expand.proofs.Units.{every_of}
use Rattle.output_lengths.specs.Lengths.{longest_compact, multi_layer}
use Rattle.boxes.proofs.Gives.{gives_uint}
use Rattle.boxes.proofs.ChunkBytes.{length_to_chunk}
use Rattle.parse.proofs.Gives.{Gives, gives_value, gives_any, gives_bind}

-- units after lengths of w bytes
pub encoded_long : (w : ℕ) (us : List (List ℕ)) → length (encode_units w us) ≡ w * length us + lengths us
unfolding encode_units lengths
encoded_long w [] = omega arith
encoded_long w (u ∷ us) = omega (arith, length-append (to_chunk w u) (encode_units w us), length_to_chunk w u, encoded_long w us, mul-suc w (length us))

-- one byte, then each unit after one byte
written_long : (c : CompactVvcConfig) (us : List (List ℕ)) (C : List ℕ) → compact_bytes c us ≡ accept C → length C ≡ 1 + length (encode_units 1 us)
unfolding compact_bytes
written_long c us C e =
    go (compact_first_byte c (length us)) (outside c.length_size) (not (leb 2 (length us) && leb (length us) 33)) (not (all_at_most 255 us)) e
  where
    go : (b : ℕ) (x y z : Bool)
        → (if x then refuse 4 else (if y then refuse 8 else (if z then refuse 9 else accept (b ∷ encode_units 1 us)))) ≡ accept C
        → length C ≡ 1 + length (encode_units 1 us)
    go b true y z e = let z : ◌≡◌ {A = ℕ} 0 1 = cc in absurd (omega arith)
    go b false true z e = let z : ◌≡◌ {A = ℕ} 0 1 = cc in absurd (omega arith)
    go b false false true e = let z : ◌≡◌ {A = ℕ} 0 1 = cc in absurd (omega arith)
    go b false false false e = let y : C ≡ b ∷ encode_units 1 us = cc in ap length y ∙ omega arith

module _ (C : List ℕ) where
  gives_compact : Gives (compact_record C 0) (λ r q. r.0.multi_layer_flag ≡ multi_layer C)
  unfolding compact_record
  gives_compact =
      gives_bind (uint 1 C 0) _ (gives_uint C 1 0) (λ b q u.
      gives_bind (times (b % 32 + 2) (chunk 1) C q) _ (gives_any _) (λ us r _.
      gives_bind (at_end C r) _ (gives_any _) (λ _ t _.
      gives_value _ t (ap (λ (n : ℕ). eqb (n / 128) 1) (u.is ∙ be_one C 0)))))

  module _ (r : CompactRead) (list : List ℕ) (f : CompactFacts C r list) where
    pub compact_long : length C ≡ 1 + length f.units + lengths f.units
    compact_long = omega (arith, written_long r.config f.units C f.written, encoded_long 1 f.units)

    -- a record that reads has at most 33 units of 255 bytes
    pub compact_longest : length C ≤ longest_compact
    compact_longest = omega (
      arith,
      written_long r.config f.units C f.written,
      units_long 1 f.units (every_of (λ u. length u ≤ 255) f.units (λ k h. f.short k)),
      f.most,
    )

    pub flag_is : r.config.multi_layer_flag ≡ multi_layer C
    flag_is = gives_compact.at (r.config, f.spans) (length C) f.whole
