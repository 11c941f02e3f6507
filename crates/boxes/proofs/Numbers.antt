-- Laws of big-endian numbers of every width: read where they lie, and read after writing.
use Prim.Native.Nat.{ℕ, zero, suc, ◌+◌, ◌*◌, ◌/◌, ◌%◌, ◌^◌, ◌≤◌, ◌<◌}
use mathlib.Core.Path.{◌≡◌, refl, sym, ap, ◌∙◌}
use mathlib.Core.List.{List, [], ◌∷◌, ◌++◌, append-nil, append_assoc}
use native.Mathlib.Omega.{arith}
use native.Mathlib.Nat.{mul_assoc, pow-suc}
use native.Mathlib.Numerals.{add-one}
use lib.ListN.{length, get_or, take, length-append}
use lib.Seq.{get_or-append-add, get_or_at, get_or-take}
use Rattle.boxes.specs.Bytes.{be, to_be, AllBytes}

-- one byte more
pub be_more : (s : List ℕ) (p w : ℕ) → be s p (w + 1) ≡ be s p w * 256 + get_or s (p + w) 0
unfolding be
be_more s p w = rw (add-one w)

pub length_to_be : (w n : ℕ) → length (to_be w n) ≡ w
unfolding to_be
length_to_be zero n = refl
length_to_be (suc w) n = length-append (to_be w (n / 256)) (n % 256 ∷ []) ∙ (let l = length_to_be w (n / 256) in omega arith)

-- four bytes, two and two
pub be_four : (s : List ℕ) (p : ℕ)
    → be s p 4 ≡ (get_or s p 0 * 256 + get_or s (p + 1) 0) * 65536 + (get_or s (p + 2) 0 * 256 + get_or s (p + 3) 0)
unfolding be
be_four s p = let e : p + 0 ≡ p = omega arith in rw e (omega arith)

-- equal bytes, equal numbers
pub be_same : (s t : List ℕ) (p q w : ℕ) → ((i : ℕ) → i < w → get_or s (p + i) 0 ≡ get_or t (q + i) 0) → be s p w ≡ be t q w
unfolding be
be_same s t p q zero h = refl
be_same s t p q (suc w) h =
    let a : be s p w ≡ be t q w = be_same s t p q w (λ i k. h i (omega arith)) in
    let b : get_or s (p + w) 0 ≡ get_or t (q + w) 0 = h w (omega arith) in
    omega arith

-- a number before the end of a list, in the first of two lists, and in the second
pub be_take : (s : List ℕ) (e p w : ℕ) → p + w ≤ e → be (take e s) p w ≡ be s p w
be_take s e p w h = be_same (take e s) s p p w (λ i k. get_or-take e s (p + i) 0 (omega arith))

pub be_after : (s t : List ℕ) (p w : ℕ) → be (s ++ t) (length s + p) w ≡ be t p w
be_after s t p w =
    be_same (s ++ t) t (length s + p) p w
    (λ i k. let e : length s + p + i ≡ length s + (p + i) = omega arith in rw e (get_or-append-add s t (p + i) 0))

-- written, then read: at the front, and after other bytes
pub be_to_be : (w n : ℕ) (t : List ℕ) → n < 256 ^ w → be (to_be w n ++ t) 0 w ≡ n
unfolding be to_be
be_to_be zero n t h = omega arith
be_to_be (suc w) n t h =
    let e : to_be (suc w) n ++ t ≡ to_be w (n / 256) ++ (n % 256 ∷ t) = append_assoc (to_be w (n / 256)) (n % 256 ∷ []) t in
    let a : be (to_be w (n / 256) ++ (n % 256 ∷ t)) 0 w ≡ n / 256 = be_to_be w (n / 256) (n % 256 ∷ t) (omega arith) in
    let b : get_or (to_be w (n / 256) ++ (n % 256 ∷ t)) (0 + w) 0 ≡ n % 256 =
    get_or_at (to_be w (n / 256)) (n % 256) t 0 (0 + w) (let l = length_to_be w (n / 256) in omega arith) in
    let g : be (to_be w (n / 256) ++ (n % 256 ∷ t)) 0 (suc w) ≡ n = omega arith in
    ap (λ (s : List ℕ). be s 0 (suc w)) e ∙ g

pub be_to_be_at : (s : List ℕ) (w n : ℕ) (t : List ℕ) → n < 256 ^ w → be (s ++ (to_be w n ++ t)) (length s) w ≡ n
be_to_be_at s w n t h =
    let e : length s ≡ length s + 0 = omega arith in
    rw e (be_after s (to_be w n ++ t) 0 w ∙ be_to_be w n t h)

-- w bytes make a number below 256 ^ w
pub be_below : (s : List ℕ) (p w : ℕ) → AllBytes s → be s p w < 256 ^ w
unfolding be
be_below s p zero b = omega arith
be_below s p (suc w) b = let a = be_below s p w b in omega (arith, b (p + w))

-- below 256 ^ w, one byte more is below 256 ^ (w + 1); up to four bytes that is below 2 ^ 32
pub below_more : (n w b : ℕ) → n < 256 ^ w → b < 256 → n * 256 + b < 256 ^ (w + 1)
below_more n w b h k = rw (add-one w) (omega arith)

pub below_four : (n w : ℕ) → w ≤ 4 → n < 256 ^ w → n < 2 ^ 32
below_four n zero h k = omega arith
below_four n (suc zero) h k = omega arith
below_four n (suc (suc zero)) h k = omega arith
below_four n (suc (suc (suc zero))) h k = omega arith
below_four n (suc (suc (suc (suc zero)))) h k = omega arith
below_four n (suc (suc (suc (suc (suc w))))) h k = absurd (omega arith)

-- the number of one byte
pub be_one : (s : List ℕ) (p : ℕ) → be s p 1 ≡ get_or s p 0
unfolding be
be_one s p = let e : p + 0 ≡ p = omega arith in rw e (omega arith)

-- a number of two parts: read, and written
more_bytes : (m w : ℕ) → m * 256 ^ suc w ≡ m * 256 ^ w * 256
more_bytes m w = ap (λ (x : ℕ). m * x) (pow-suc 256 w) ∙ sym (mul_assoc m (256 ^ w) 256)

pub be_append : (s : List ℕ) (p v w : ℕ) → be s p (v + w) ≡ be s p v * 256 ^ w + be s (p + v) w
unfolding be
be_append s p v zero = let e : v + 0 ≡ v = omega arith in rw e (omega arith)
be_append s p v (suc w) =
    let e : v + suc w ≡ suc (v + w) = omega arith in
    let f : p + (v + w) ≡ p + v + w = omega arith in
    let a = be_append s p v w in
    let g = more_bytes (be s p v) w in
    rw (e, f) (omega arith)

pub to_be_append : (v w m n : ℕ) → n < 256 ^ w → to_be (v + w) (m * 256 ^ w + n) ≡ to_be v m ++ to_be w n
unfolding to_be
to_be_append v zero m n h =
    let e : v + 0 ≡ v = omega arith in
    let f : m * 1 + n ≡ m = omega arith in
    rw (e, f) (sym (append-nil (to_be v m)))
to_be_append v (suc w) m n h =
    let e : v + suc w ≡ suc (v + w) = omega arith in
    let g : m * 256 ^ suc w ≡ m * 256 ^ w * 256 = more_bytes m w in
    let high : (m * 256 ^ suc w + n) / 256 ≡ m * 256 ^ w + n / 256 = omega arith in
    let low : (m * 256 ^ suc w + n) % 256 ≡ n % 256 = omega arith in
    rw (e, high, low, to_be_append v w m (n / 256) (omega arith)) (append_assoc (to_be v m) (to_be w (n / 256)) (n % 256 ∷ []))
