-- The item data of stored bytes: its answers, in the order of their tests.
use Prim.Native.Nat.{ℕ, ◌+◌, ◌^◌, ◌≤◌, ◌<◌}
use native.Mathlib.Omega.{arith}
use mathlib.Core.Path.{◌≡◌, sym, ap, ◌∙◌}
use mathlib.Core.Bool.{true, false}
use mathlib.Core.List.{List}
use lib.ListN.{length}
use borrow.Author.Tests.{le-leb, lt-leb, ne_eqb, le-ltb}
use Rattle.parse.specs.Outcome.{accept, refuse}
use Rattle.boxes.specs.Bytes.{to_chunk}
use Rattle.boxes.specs.Walk.{count_found}
use Rattle.boxes.proofs.ChunkBytes.{length_to_chunk}
use Rattle.compact.specs.ItemData.{still_unit, prefixed, restore}
use Rattle.compact.specs.declared.CompactVvcConfig.{CompactVvcConfig}

-- a unit after its length
module _ (size : ℕ) (u : List ℕ) where
  module _ (one : 1 ≤ size) (four : size ≤ 4) where
    pub prefixed_long : 256 ^ size ≤ length u → prefixed size u ≡ refuse 6
    prefixed_long h = rw (ne_eqb size 0 (λ e. omega arith), le-ltb 4 size four, le-leb (256 ^ size) (length u) h)

    pub prefixed_given : length u < 256 ^ size → prefixed size u ≡ accept (to_chunk size u)
    prefixed_given h = rw (ne_eqb size 0 (λ e. omega arith), le-ltb 4 size four, lt-leb (256 ^ size) (length u) h)

    pub prefixed_length : length u < 256 ^ size → (n : ℕ) → n ≡ size + length u → count_found (prefixed size u) ≡ accept n
    prefixed_length h n e = ap count_found (prefixed_given h) ∙ ap accept (length_to_chunk size u ∙ sym e)

-- the call, by the tests of the input's length and of the flag
module _ (c : CompactVvcConfig) (s : List ℕ) where
  pub restore_too_long : 2 ^ 30 < length s → restore c s ≡ refuse 23
  unfolding restore
  restore_too_long h = rw (lt-leb (length s) (2 ^ 30) h)

  module _ (lent : length s ≤ 2 ^ 30) where
    pub restore_copy : c.multi_layer_flag ≡ true → restore c s ≡ accept s
    unfolding restore
    restore_copy e = rw (le-leb (length s) (2 ^ 30) lent, e)

    pub restore_unit : c.multi_layer_flag ≡ false → restore c s ≡ prefixed c.length_size (still_unit s)
    unfolding restore
    restore_unit e = rw (le-leb (length s) (2 ^ 30) lent, e)
