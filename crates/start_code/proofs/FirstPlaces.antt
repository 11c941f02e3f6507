-- Laws of `bytes_before`: the first place from which on the bytes pass a test.
use Prim.Native.Nat.{ℕ, zero, suc, ◌+◌, ◌-◌, ◌≤◌, ◌<◌, zero-le}
use mathlib.Core.Path.{◌≡◌, refl, sym, ap, ◌∙◌}
use mathlib.Core.Bool.{Bool, true, false}
use mathlib.Core.List.{List, [], ◌∷◌}
use native.Mathlib.Omega.{arith}
use native.Mathlib.Decide.{dec_le}
use lib.ListN.{length, get_or, drop, length-drop, drop_of_length-le}
use lib.Seq.{drop-drop, drop-cons}
use Rattle.std.proofs.lemmas.Bool.{false_from_ne_true}
use Rattle.std.specs.Prelude.{if◌then◌else◌}
use Rattle.start_code.specs.StartCode.{bytes_before}

module _ (test : List ℕ → Bool) where
  -- ### byte by byte

  pub before_nil : bytes_before test [] ≡ 0
  unfolding bytes_before
  before_nil = refl

  pub before_here : (s : List ℕ) → test s ≡ true → bytes_before test s ≡ 0
  unfolding bytes_before
  before_here [] e = refl
  before_here (x ∷ r) e = rw e

  before_suc : (x : ℕ) (r : List ℕ) → bytes_before test (x ∷ r) ≤ suc (bytes_before test r)
  unfolding bytes_before
  before_suc x r = go (test (x ∷ r))
    where
      go : (t : Bool) → (if t then 0 else suc (bytes_before test r)) ≤ suc (bytes_before test r)
      go true = zero-le
      go false = omega arith

  pub before_le : (s : List ℕ) → bytes_before test s ≤ length s
  before_le [] = let e = before_nil in omega arith
  before_le (x ∷ r) = let h = before_suc x r in let k = before_le r in omega arith

  -- below the length the bytes pass the test from that place on
  pub before_found : (s : List ℕ) → bytes_before test s < length s → test (drop (bytes_before test s) s) ≡ true
  unfolding bytes_before
  before_found [] h = absurd (omega arith)
  before_found (x ∷ r) h = go (test (x ∷ r)) refl (before_found r) h
    where
      go : (t : Bool) → test (x ∷ r) ≡ t → (bytes_before test r < length r → test (drop (bytes_before test r) r) ≡ true)
          → (if t then 0 else suc (bytes_before test r)) < length (x ∷ r)
          → test (drop (if t then 0 else suc (bytes_before test r)) (x ∷ r)) ≡ true
      go true e ih k = e
      go false e ih k = ih (omega arith)

  -- and from no place before
  pub before_first : (s : List ℕ) (i : ℕ) → i < bytes_before test s → test (drop i s) ≡ false
  unfolding bytes_before
  before_first [] i h = absurd (omega arith)
  before_first (x ∷ r) zero h = go (test (x ∷ r)) refl h
    where
      go : (t : Bool) → test (x ∷ r) ≡ t → 0 < (if t then 0 else suc (bytes_before test r)) → test (x ∷ r) ≡ false
      go true e k = absurd (omega arith)
      go false e k = e
  before_first (x ∷ r) (suc i) h = before_first r i (let k = before_suc x r in omega arith)

  -- past places where the test fails the search goes on
  pub before_skip : (s : List ℕ) (n : ℕ) → n ≤ length s → ((i : ℕ) → i < n → test (drop i s) ≡ false)
      → bytes_before test s ≡ n + bytes_before test (drop n s)
  unfolding bytes_before
  before_skip s zero h none = omega arith
  before_skip [] (suc n) h none = absurd (omega arith)
  before_skip (x ∷ r) (suc n) h none =
      let e = before_skip r n (omega arith) (λ i k. none (suc i) (omega arith)) in
      let f : test (x ∷ r) ≡ false = none 0 (omega arith) in
      rw f (omega arith)

  -- so it ends at the length where the test holds nowhere
  pub before_none : (s : List ℕ) → ((i : ℕ) → i < length s → test (drop i s) ≡ false) → bytes_before test s ≡ length s
  before_none s none =
      let e = before_skip s (length s) (omega arith) none in
      let d = ap (bytes_before test) (drop_of_length-le s {i = length s} (omega arith)) ∙ before_nil in
      omega arith

  -- ### from place to place

  module _ (s : List ℕ) where
    pub before_on : (i n : ℕ) → i + n ≤ length s → ((j : ℕ) → j < n → test (drop (i + j) s) ≡ false)
        → bytes_before test (drop i s) ≡ n + bytes_before test (drop (i + n) s)
    before_on i n h none =
        let l = length-drop i s in
        let e = before_skip (drop i s) n (omega arith) (λ j k. ap test (drop-drop j i s) ∙ none j k) in
        let d = ap (bytes_before test) (drop-drop n i s) in
        omega arith

    -- one place further
    pub before_next : (i : ℕ) → i < length s → test (drop i s) ≡ false → bytes_before test (drop i s) ≡ suc (bytes_before test (drop (i + 1) s))
    before_next i h off =
        let e = before_on i 1 (omega arith) (λ j k. let z : i + j ≡ i = omega arith in rw z off) in
        omega arith

    -- from where it stopped it stops at once
    pub before_stays : (p : ℕ) → bytes_before test (drop (p + bytes_before test (drop p s)) s) ≡ 0
    before_stays p =
        let n = bytes_before test (drop p s) in
        let l = length-drop p s in
        elim (dec_le (length (drop p s)) n) [
          | yes k ↦ ap (bytes_before test) (drop_of_length-le s {i = p + n} (omega arith)) ∙ before_nil
          | no k ↦ before_here (drop (p + n) s) (ap test (sym (drop-drop n p s)) ∙ before_found (drop p s) (omega arith))
        ]

    -- from anywhere before that place it finds the same
    pub before_from : (p n : ℕ) → n ≤ bytes_before test (drop p s)
        → p + n + bytes_before test (drop (p + n) s) ≡ p + bytes_before test (drop p s)
    before_from p n h =
        let l = before_le (drop p s) in
        let e = before_skip (drop p s) n (omega arith) (λ i k. before_first (drop p s) i (omega arith)) in
        let d = ap (bytes_before test) (drop-drop n p s) in
        omega arith

-- ### tests of two zeros and a byte

-- the next three bytes
pub drop_three : (s : List ℕ) (i : ℕ) → i + 2 < length s → drop i s ≡ get_or s i 0 ∷ get_or s (i + 1) 0 ∷ get_or s (i + 2) 0 ∷ drop (i + 3) s
drop_three s i h =
    let e₁ : suc i ≡ i + 1 = omega arith in
    let e₂ : suc (i + 1) ≡ i + 2 = omega arith in
    let e₃ : suc (i + 2) ≡ i + 3 = omega arith in
    drop-cons s i 0 (omega arith)
    ∙ ap (λ (l : List ℕ). get_or s i 0 ∷ l) (ap (λ (k : ℕ). drop k s) e₁ ∙ drop-cons s (i + 1) 0 (omega arith)
    ∙ ap (λ (l : List ℕ). get_or s (i + 1) 0 ∷ l) (ap (λ (k : ℕ). drop k s) e₂ ∙ drop-cons s (i + 2) 0 h
    ∙ ap (λ (k : ℕ). get_or s (i + 2) 0 ∷ drop k s) e₃))

-- two zeros and a byte of at most m are at place i
pub record ZerosAt (m : ℕ) (s : List ℕ) (i : ℕ) : Type 0 where
  pub inside : i + 2 < length s
  pub first : get_or s i 0 ≡ 0
  pub second : get_or s (i + 1) 0 ≡ 0
  pub third : get_or s (i + 2) 0 ≤ m

-- a test that asks for them
module _ (test : List ℕ → Bool) (m : ℕ) (asks : (s : List ℕ) (i : ℕ) → test (drop i s) ≡ true → ZerosAt m s i) (s : List ℕ) where
  fails_at : (j : ℕ) → (ZerosAt m s j → ⊥) → test (drop j s) ≡ false
  fails_at j none = false_from_ne_true (test (drop j s)) (λ e. none (asks s j e))

  -- past a place where they are not: a third byte that is not 00 is no zero of the next two places
  module _ (i : ℕ) (room : i + 2 < length s) where
    pub before_past : (get_or s (i + 2) 0 ≡ 0 → ⊥) → test (drop i s) ≡ false → bytes_before test (drop i s) ≡ 3 + bytes_before test (drop (i + 3) s)
    before_past some off = before_on test s i 3 (omega arith) none
      where
        none : (j : ℕ) → j < 3 → test (drop (i + j) s) ≡ false
        none zero k = let e : i + 0 ≡ i = omega arith in rw e off
        none (suc zero) k = fails_at (i + 1) (λ z. let e : i + 1 + 1 ≡ i + 2 = omega arith in some (rw e at z.second))
        none (suc (suc zero)) k = fails_at (i + 2) (λ z. some z.first)
        none (suc (suc (suc j))) k = absurd (omega arith)

    -- a byte above m is not their third either
    pub before_jump : m < get_or s (i + 2) 0 → bytes_before test (drop i s) ≡ 3 + bytes_before test (drop (i + 3) s)
    before_jump above = before_past (λ e. omega arith) (fails_at i (λ z. let t = z.third in omega arith))

  -- fewer than three bytes have no room for them
  pub before_end : (i : ℕ) → i ≤ length s → length s - i < 3 → i + bytes_before test (drop i s) ≡ length s
  before_end i h k =
      let l = length-drop i s in
      let e = before_none test (drop i s) (λ j b. ap test (drop-drop j i s) ∙ fails_at (i + j) (λ z. let r = z.inside in omega arith)) in
      omega arith
