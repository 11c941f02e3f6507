-- Bytes that are written for what was read at a place: they lie at that place exactly when a test holds. One part after another.
use Prim.Native.Nat.{ℕ, zero, suc, ◌+◌, ◌-◌, ◌*◌, ◌/◌, ◌%◌, ◌≤◌, ◌<◌}
use mathlib.Core.Path.{◌≡◌, refl, sym, ap, ◌∙◌}
use mathlib.Core.Bool.{Bool, true, ◌&&◌}
use mathlib.Core.List.{List, [], ◌∷◌, ◌++◌}
use native.Mathlib.Omega.{arith}
use native.Mathlib.Decide.{dec_le}
use lib.ListN.{length, get_or, take, drop, length-append, length-drop, get_or-append}
use lib.Seq.{get_or-append-add, get_or-take, get_or-drop, length-take-le}
use Rattle.parse.proofs.General.{both_true}
use Rattle.boxes.specs.Bytes.{be, to_be, AllBytes}
use Rattle.boxes.proofs.Numbers.{length_to_be}
use Rattle.ptl_record.proofs.Standing.{Stands, stands_left, stands_right, stands_head, stands_take}

-- xs, written for what was read of s at p, lies there exactly when ok holds
pub record Rewrites (s : List ℕ) (p : ℕ) (xs : List ℕ) (ok : Bool) : Type 0 where
  pub room : p + length xs ≤ length s
  pub kept : ok ≡ true → Stands s p xs
  pub only : Stands s p xs → ok ≡ true

-- bytes that lie at the front of s are the first bytes of s
pub front_taken : (s xs : List ℕ) (n : ℕ) → length xs ≡ n → Stands s 0 xs → xs ≡ take n s
front_taken s xs n l st = sym (stands_take s 0 xs st) ∙ ap (λ (k : ℕ). take k s) l

-- the first bytes of s lie at its front
pub taken_front : (s xs : List ℕ) (n : ℕ) → length xs ≡ n → 0 + length xs ≤ length s → xs ≡ take n s → Stands s 0 xs
taken_front s xs n l h e = record { room = h; same = at }
  where
    at : (k : ℕ) → k < length xs → get_or s (0 + k) 0 ≡ get_or xs k 0
    at k j =
        let z : 0 + k ≡ k = omega arith in
        rw z (sym (get_or-take n s k 0 (omega arith)) ∙ ap (λ (ys : List ℕ). get_or ys k 0) (sym e))

module _ (s : List ℕ) where
  -- bytes that lie one after another lie there together
  pub stands_join : (p : ℕ) (xs ys : List ℕ) → Stands s p xs → Stands s (p + length xs) ys → Stands s p (xs ++ ys)
  stands_join p xs ys f g =
      let l = length-append xs ys in
      record { room = omega (arith, g.room); same = at }
    where
      at : (k : ℕ) → k < length (xs ++ ys) → get_or s (p + k) 0 ≡ get_or (xs ++ ys) k 0
      at k h =
          let l = length-append xs ys in
          elim (dec_le (length xs) k) [
            | no n ↦ f.same k (omega arith) ∙ sym (get_or-append xs ys 0 k (omega arith))
            | yes n ↦
                (let j : k ≡ length xs + (k - length xs) = omega arith in
                let e : p + k ≡ p + length xs + (k - length xs) = omega arith in
                ap (λ (i : ℕ). get_or s i 0) e
                ∙ g.same (k - length xs) (omega arith)
                ∙ sym (get_or-append-add xs ys (k - length xs) 0)
                ∙ ap (λ (i : ℕ). get_or (xs ++ ys) i 0) (sym j))
          ]

  pub stands_byte : (p x : ℕ) → p < length s → get_or s p 0 ≡ x → Stands s p (x ∷ [])
  stands_byte p x h e = record { room = omega arith; same = at }
    where
      at : (k : ℕ) → k < 1 → get_or s (p + k) 0 ≡ get_or (x ∷ []) k 0
      at zero k = ap (λ (i : ℕ). get_or s i 0) (omega arith) ∙ e
      at (suc i) k = absurd (omega arith)

  -- no bytes
  pub stands_none : (p : ℕ) → p ≤ length s → Stands s p []
  stands_none p h = record { room = omega arith; same = λ k l. absurd (omega arith) }

  -- the n bytes from place p on
  pub stands_part : (p n : ℕ) → p + n ≤ length s → Stands s p (take n (drop p s))
  stands_part p n h =
      let l = length-take-le n (drop p s) (omega (arith, length-drop p s)) in
      record { room = omega arith; same = λ k o. sym (get_or-take n (drop p s) k 0 (omega arith) ∙ get_or-drop p s k 0) }

  -- a number of w bytes
  pub stands_number : AllBytes s → (w p : ℕ) → p + w ≤ length s → Stands s p (to_be w (be s p w))
  unfolding be to_be
  stands_number all zero p h = stands_none p (omega arith)
  stands_number all (suc w) p h =
      let b = all (p + w) in
      let high : (be s p w * 256 + get_or s (p + w) 0) / 256 ≡ be s p w = omega arith in
      let low : get_or s (p + w) 0 ≡ (be s p w * 256 + get_or s (p + w) 0) % 256 = omega arith in
      rw high
      (stands_join p (to_be w (be s p w)) _ (stands_number all w p (omega arith))
      (rw (length_to_be w (be s p w)) (stands_byte (p + w) _ (omega arith) low)))

  -- ---- with a test

  -- bytes that always lie there
  pub rewrites_same : (p : ℕ) (xs : List ℕ) → Stands s p xs → Rewrites s p xs true
  rewrites_same p xs st = record { room = st.room; kept = λ e. st; only = λ t. refl }

  pub rewrites_byte : (p x : ℕ) (ok : Bool) → p < length s → (ok ≡ true → get_or s p 0 ≡ x) → (get_or s p 0 ≡ x → ok ≡ true) → Rewrites s p (x ∷ []) ok
  rewrites_byte p x ok h k o = record { room = omega arith; kept = λ e. stands_byte p x h (k e); only = λ t. o (stands_head s p x [] t) }

  both : (a b : Bool) → a ≡ true → b ≡ true → (a && b) ≡ true
  both a b e f = rw (e, f)

  -- one part after another
  pub rewrites_append : (p : ℕ) (xs ys : List ℕ) (a b : Bool) → Rewrites s p xs a → Rewrites s (p + length xs) ys b → Rewrites s p (xs ++ ys) (a && b)
  rewrites_append p xs ys a b f g =
      let l = length-append xs ys in
      record {
        room = omega (arith, g.room);
        kept = λ e. let t = both_true a b e in stands_join p xs ys (f.kept t.0) (g.kept t.1);
        only = λ st. both a b (f.only (stands_left s p xs ys st)) (g.only (stands_right s p xs ys st));
      }

  -- bytes that always lie there, after others and before others
  pub rewrites_then : (p : ℕ) (xs ys : List ℕ) (a : Bool) → Rewrites s p xs a → Stands s (p + length xs) ys → Rewrites s p (xs ++ ys) a
  rewrites_then p xs ys a f g =
      let l = length-append xs ys in
      record { room = omega (arith, g.room); kept = λ e. stands_join p xs ys (f.kept e) g; only = λ st. f.only (stands_left s p xs ys st) }

  pub rewrites_after : (p : ℕ) (xs ys : List ℕ) (b : Bool) → Stands s p xs → Rewrites s (p + length xs) ys b → Rewrites s p (xs ++ ys) b
  rewrites_after p xs ys b f g =
      let l = length-append xs ys in
      record { room = omega (arith, g.room); kept = λ e. stands_join p xs ys f (g.kept e); only = λ st. g.only (stands_right s p xs ys st) }
