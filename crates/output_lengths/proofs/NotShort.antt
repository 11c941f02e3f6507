-- 20 is not a refusal of a definition itself: only an output adds it.
use Prim.Native.Nat.{ℕ, ◌^◌}
use native.Mathlib.Omega.{arith}
use mathlib.Core.Path.{◌≡◌}
use mathlib.Core.Bool.{Bool, true, false}
use mathlib.Core.List.{List}
use lib.Dec.{leb, eqb}
use lib.ListN.{length}
use Rattle.std.specs.Prelude.{if◌then◌else◌}
use Rattle.parse.specs.Outcome.{Outcome, accept, refuse, and_then, lent_input}
use Rattle.parse.specs.Parse.{Parsed, value, refused, outcome_or}
use Rattle.boxes.specs.Bytes.{outside}
use Rattle.boxes.specs.declared.Span.{Span}
use Rattle.unit_list.specs.UnitList.{Array, unit_list, decode, held_arrays}
use Rattle.compact.specs.ItemData.{still_unit, prefixed, restore}
use Rattle.compact.specs.declared.CompactVvcConfig.{CompactVvcConfig}
use Rattle.full.specs.Write.{full_bytes, record_fits, write_full, serialize_full}
use Rattle.full.specs.declared.VvcConfig.{VvcConfig}

-- a refusal is not 20
abbrev pub NotShort : {A : Type 0} → Outcome A → Type 0
NotShort (accept a) = Unit {0}
NotShort (refuse n) = n ≡ 20 → ⊥

pub not_short_lent : {A : Type 0} (s : List ℕ) (o : Outcome A) → NotShort o → NotShort (lent_input s o)
not_short_lent s o h = go (leb (length s) (2 ^ 30))
  where
    go : (b : Bool) → NotShort (if b then o else refuse 23)
    go true = h
    go false = λ e. omega arith

pub not_short_if : {A : Type 0} (b : Bool) (n : ℕ) (o : Outcome A) → (n ≡ 20 → ⊥) → NotShort o → NotShort (if b then refuse n else o)
not_short_if true n o h k = h
not_short_if false n o h k = k

write_not_short : (h : VvcConfig) (xs : List (Array (List ℕ))) → NotShort (write_full h xs)
unfolding write_full
write_not_short h xs = not_short_if (eqb h.length_size 3) 3 _ (λ e. omega arith) (go (record_fits h xs))
  where
    go : (b : Bool) → NotShort (if b then accept (full_bytes h xs) else refuse 22)
    go true = tt
    go false = λ e. omega arith

pub serialize_not_short : (h : VvcConfig) (list : List ℕ) → NotShort (serialize_full h list)
unfolding serialize_full decode
serialize_not_short h list = go (decode list) (not_short_lent list (outcome_or 21 (unit_list list 0)) (read (unit_list list 0)))
  where
    read : (x : Parsed (List (Array Span))) → NotShort (outcome_or 21 x)
    read (value a p) = tt
    read (refused n) = λ e. omega arith

    go : (o : Outcome (List (Array Span))) → NotShort o → NotShort (and_then o (λ xs. write_full h (held_arrays list xs)))
    go (accept xs) k = write_not_short h (held_arrays list xs)
    go (refuse n) k = k

pub restore_not_short : (c : CompactVvcConfig) (S : List ℕ) → NotShort (restore c S)
unfolding restore
restore_not_short c S = not_short_lent S _ (go c.multi_layer_flag)
  where
    go : (b : Bool) → NotShort (if b then accept S else prefixed c.length_size (still_unit S))
    go true = tt
    go false = not_short_if (outside c.length_size) 4 _ (λ e. omega arith)
        (not_short_if (leb (256 ^ c.length_size) (length (still_unit S))) 6 _ (λ e. omega arith) tt)
