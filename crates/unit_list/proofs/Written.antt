-- Stores one after the other, as an array's head and an array are written.
use Prim.Native.Nat.{ℕ, suc, ◌+◌}
use mathlib.Core.Path.{◌≡◌, ap, ◌∙◌}
use mathlib.Core.List.{List, [], ◌∷◌, ◌++◌, append_assoc}
use native.Mathlib.Omega.{arith}
use lib.ListN.{length, set, length-append}
use lib.Seq.{sets}
use Rattle.parse.proofs.General.{sets_append, sets_before}
use Rattle.boxes.specs.Bytes.{to_be, to_chunk}
use Rattle.boxes.proofs.Numbers.{length_to_be}
use Rattle.boxes.proofs.ChunkBytes.{sets_after}

pub head_written_lem : (d e f g : List ℕ) (p w n b t : ℕ) → e ≡ sets d p (to_be w n) → f ≡ set e (p + w) b → g ≡ set f (p + w + 1) t
    → g ≡ sets d p (to_be w n ++ (b ∷ t ∷ []))
head_written_lem d e f g p w n b t x y z =
    let on : p + w + 1 ≡ suc (p + w) = omega arith in
    z ∙ rw (on, y, x) (sets_after d p w n (b ∷ t ∷ []))

-- an array whose units are stored first, from place `to` on, and then its length, complete byte and type before them
pub array_stored : (d e f : List ℕ) (p w n b t to : ℕ) (us : List ℕ) → to ≡ p + w + 2 → n ≡ 2 + length us → e ≡ sets d to us
    → f ≡ sets e p (to_be w n ++ (b ∷ t ∷ [])) → f ≡ sets d p (to_chunk w (b ∷ t ∷ us))
unfolding to_chunk
array_stored d e f p w n b t to us at long x y =
    let head = to_be w n ++ (b ∷ t ∷ []) in
    let l : length head ≡ w + 2 = length-append (to_be w n) (b ∷ t ∷ []) ∙ rw (length_to_be w n) in
    let k : to ≡ p + length head = omega arith in
    let m : n ≡ length (b ∷ t ∷ us) = omega arith in
    y ∙ ap (λ (v : List ℕ). sets v p head) x ∙ sets_before d p to head us (omega arith)
    ∙ ap (λ (v : ℕ). sets (sets d p head) v us) k ∙ sets_append d p head us
    ∙ ap (sets d p) (append_assoc (to_be w n) (b ∷ t ∷ []) us ∙ ap (λ (v : ℕ). to_be w v ++ (b ∷ t ∷ us)) m)
