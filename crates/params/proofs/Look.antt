-- A parameter set of which at most the first m RBSP bytes are read can be read from these alone.
use mathlib.Core.Path.{◌≡◌, ap, ◌∙◌}
use mathlib.Core.List.{List}
use Prim.Native.Nat.{ℕ}
use lib.ListN.{length, take}
use Rattle.parse.specs.Parse.{Parser}
use Rattle.rbsp.specs.inner.Front.{Front}
use Rattle.rbsp.proofs.Filling.{front_part}

-- what is read of the front that a fill left in m bytes is what is read of the whole
pub enough : {A : Type 0} (P : Parser A) (m : ℕ) (looks : (s : List ℕ) → P (take m s) 0 ≡ P s 0)
    (bytes o₀ o : List ℕ) (n : ℕ) → length o₀ ≡ m → Front bytes o₀ o n → P (take n o) 0 ≡ P bytes 0
enough P m looks bytes o₀ o n e front = ap (λ (l : List ℕ). P l 0) (front_part bytes o₀ o m n e front) ∙ looks bytes
