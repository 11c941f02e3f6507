-- Worked bytes (SCOPE 7), computed from the definitions.
use Prim.Native.Nat.{ℕ}
use mathlib.Core.Path.{◌≡◌, refl, ◌∙◌}
use mathlib.Core.Bool.{false}
use mathlib.Core.List.{List, [], ◌∷◌}
use native.Mathlib.Omega.{arith}
use lib.ListN.{length}
use Rattle.parse.specs.Outcome.{accept, refuse}
use Rattle.parse.specs.Parse.{many, many_up_to}
use Rattle.boxes.specs.Bytes.{be, to_be, to_chunk, uint, bytes}
use Rattle.split.specs.Item.{item_unit, item_units}
use Rattle.compact.specs.ItemData.{restore, still_unit, strip}
use Rattle.compact.specs.declared.CompactVvcConfig.{CompactVvcConfig}
use Rattle.item_len.proofs.Restored.{restore_unit, prefixed_given, prefixed_long}

-- a configuration with the flag clear
abbrev single : ℕ → CompactVvcConfig
single size = record { multi_layer_flag = false; length_size = size }

-- 00 00 00 03 40 41 9A: the top two bits of the header are ignored
strips : strip (single 4) (0 ∷ 0 ∷ 0 ∷ 3 ∷ 64 ∷ 65 ∷ 154 ∷ []) ≡ accept (154 ∷ [])
unfolding strip item_units many many_up_to item_unit uint bytes be
strips = refl

-- prefix size 1: 253 stored bytes are accepted, 254 are refused with 6
size_one : (S : List ℕ) → length S ≡ 253 → restore (single 1) S ≡ accept (255 ∷ 0 ∷ 65 ∷ S)
unfolding to_chunk to_be
size_one S h =
    let n : length (still_unit S) ≡ 255 = omega arith in
    restore_unit (single 1) S (omega arith) refl ∙ prefixed_given 1 (still_unit S) (omega arith) (omega arith) (omega arith) ∙ rw n

size_one_over : (S : List ℕ) → length S ≡ 254 → restore (single 1) S ≡ refuse 6
size_one_over S h = restore_unit (single 1) S (omega arith) refl ∙ prefixed_long 1 (still_unit S) (omega arith) (omega arith) (omega arith)
