-- Laws of `sets`, what a run of stores leaves: stores one after the other, in another order, and from the front on.
use Prim.Native.Nat.{ℕ, suc, ◌+◌, ◌-◌, ◌/◌, ◌%◌, ◌≤◌, ◌<◌}
use mathlib.Core.Path.{◌≡◌, refl, sym, ap, ◌∙◌}
use mathlib.Core.List.{List, append_assoc}
use native.Mathlib.Omega.{arith}
use lib.ListN.{length, set, take, drop}
use lib.Seq.{sets, sets-eq, take_at, take-add, length-take-le, drop-drop}
use borrow.Rule.Slice.PartMut.{put_mid, mid_of}
use Rattle.parse.proofs.General.{sets_append, sets_last}
use Rattle.boxes.specs.Bytes.{to_be}
use Rattle.boxes.proofs.Numbers.{length_to_be}

-- bytes copied to the front of a block, and from there to a place, are stored there
pub sets_by_block : (d s z c ys : List ℕ) (i : ℕ) → c ≡ s → i + length s ≤ length d
    → ys ≡ mid_of 0 (length s - 0) (put_mid 0 (length s - 0) z c) → put_mid i (i + length s - i) d ys ≡ sets d i s
sets_by_block d s z c ys i e h f =
    let n : length s - 0 ≡ length s = omega arith in
    let m : i + length s - i ≡ length s = omega arith in
    let g : ys ≡ s = f ∙ rw (e, n) (take_at s (drop (length s) z) (length s) refl) in
    rw (m, g, drop-drop (length s) i d) (sym (append_assoc (take i d) s (drop (i + length s) d)) ∙ sym (sets-eq s d i h))

-- the next bytes of a source after those that are stored
pub sets_next : (d s : List ℕ) (i k n : ℕ) → k ≤ length s → sets (sets d i (take k s)) (i + k) (take n (drop k s)) ≡ sets d i (take (k + n) s)
sets_next d s i k n h =
    let l : k ≡ length (take k s) = sym (length-take-le k s h) in
    ap (λ (j : ℕ). sets (sets d i (take k s)) (i + j) (take n (drop k s))) l
    ∙ sets_append d i (take k s) (take n (drop k s)) ∙ ap (sets d i) (sym (take-add k n s))

-- of the w bytes of a number the last k are stored, and the one before them comes next
last_byte : (d : List ℕ) (i m n : ℕ) → sets (set d (i + m) (n % 256)) i (to_be m (n / 256)) ≡ sets d i (to_be (suc m) n)
unfolding to_be
last_byte d i m n =
    ap (λ (j : ℕ). sets (set d (i + j) (n % 256)) i (to_be m (n / 256))) (sym (length_to_be m (n / 256))) ∙ sets_last d i (to_be m (n / 256)) (n % 256)

pub sets_to_be : (d : List ℕ) (i w k n : ℕ) → k < w
    → sets (set d (i + w - (k + 1)) (n % 256)) i (to_be (w - (k + 1)) (n / 256)) ≡ sets d i (to_be (w - k) n)
sets_to_be d i w k n h =
    let e : w - k ≡ suc (w - (k + 1)) = omega arith in
    let f : i + w - (k + 1) ≡ i + (w - (k + 1)) = omega arith in
    rw (e, f) (last_byte d i (w - (k + 1)) n)
