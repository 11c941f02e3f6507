-- Of an OPI up to its operating point at most the first 9 RBSP bytes are read.
use mathlib.Core.Path.{◌≡◌}
use mathlib.Core.List.{List}
use Prim.Native.Nat.{ℕ}
use lib.Dec.{lit≤}
use lib.ListN.{take}
use Rattle.bit_reader.specs.Bits.{is_set}
use Rattle.bit_reader.proofs.Looks.{LooksWithin, local_u, local_ue, local_refusing, local_more, local_if, local_bind}
use Rattle.opi.specs.Opi.{opi_point}

pub local_opi : LooksWithin 65 opi_point
unfolding opi_point
local_opi =
    local_bind 1 64 (local_u 1) (λ present.
    local_bind 1 63 (local_u 1) (λ _.
    local_if 63 (is_set present) local_ue (local_more 0 63 (lit≤ tt) (local_refusing 0))))

pub opi_looks : (s : List ℕ) → opi_point (take 9 s) 0 ≡ opi_point s 0
opi_looks s = local_opi.same 9 s 0 (lit≤ tt)
