-- An item written from any number of units and split again: the same units, where they were written.
use Prim.Native.Nat.{ℕ, suc, ◌+◌, ◌^◌, ◌≤◌, ◌<◌}
use mathlib.Core.Path.{◌≡◌, refl, sym, ap, ◌∙◌}
use mathlib.Core.List.{List, [], ◌∷◌, ◌++◌, map, append-nil, append_assoc}
use native.Mathlib.Omega.{arith}
use lib.ListN.{length, get_or, length-append, length-map}
use Rattle.parse.specs.Outcome.{accept}
use Rattle.parse.specs.Parse.{value}
use Rattle.boxes.specs.Bytes.{be, to_be, chunk, to_chunk}
use Rattle.boxes.specs.Parts.{held}
use Rattle.boxes.specs.Walk.{count_found}
use Rattle.boxes.specs.declared.Span.{Span}
use Rattle.boxes.proofs.Numbers.{length_to_be}
use Rattle.boxes.proofs.Fields.{chunk_read, chunk_to_chunk, held_to_chunk}
use Rattle.split.specs.Item.{item_units, split_item, to_item}
use Rattle.split.specs.inner.Walk.{item_units_from}
use Rattle.split.proofs.Items.{left_more, left_end, items_left, split_lent}

-- no unit is empty, and the length of each fits `size` bytes
abbrev pub AllFit : ℕ → List (List ℕ) → Type 0
AllFit size us = (k : ℕ) → k < length us → (0 < length (get_or us k [])) × (length (get_or us k []) < 256 ^ size)

-- where the units of an item lie that were written from place p on
unfoldable pub placed : ℕ → ℕ → List (List ℕ) → List Span
placed size p [] = []
placed size p (u ∷ us) = record { start = p + size; len = length u } ∷ placed size (p + size + length u) us

module _ (size : ℕ) (s : List ℕ) where
  -- a unit with its length
  length_chunk : (u : List ℕ) → length (to_chunk size u) ≡ size + length u
  unfolding to_chunk
  length_chunk u = length-append (to_be size (length u)) u ∙ rw (length_to_be size (length u))

  -- units that follow other bytes up to the end of s: they are read there, and s holds them there
  pub made_left : (us : List (List ℕ)) → AllFit size us → (pre : List ℕ) (p : ℕ) → s ≡ pre ++ to_item size us → length pre ≡ p
      → (item_units_from size s p ≡ accept (placed size p us)) × (map (held s) (placed size p us) ≡ us)
  unfolding to_item placed
  made_left [] f pre p e l =
      let n : length s ≡ p = ap length (e ∙ append-nil pre) ∙ l in
      (left_end size s p (omega arith), refl)
  made_left (u ∷ us) f pre p e l =
      let fits = f 0 (omega arith) in
      let c : chunk size s p ≡ value (record { start = p + size; len = length u }) (p + size + length u) =
      rw (e, ← l) (chunk_to_chunk size pre u (to_item size us) fits.1) in
      let h : held s (record { start = p + size; len = length u }) ≡ u = rw (e, ← l) (held_to_chunk size pre u (to_item size us) fits.1) in
      let k = chunk_read size s p (record { start = p + size; len = length u }) (p + size + length u) c in
      let n : be s p size ≡ length u = sym k.len in
      let m : length (pre ++ to_chunk size u) ≡ p + size + length u = omega (arith, length-append pre (to_chunk size u), length_chunk u) in
      let rest = made_left us (λ i o. f (suc i) (omega arith)) (pre ++ to_chunk size u) (p + size + length u)
      (e ∙ sym (append_assoc pre (to_chunk size u) (to_item size us))) m in
      (left_more size s p (omega arith) (λ z. omega arith) (omega arith) ∙ rw (n, rest.0), rw (h, rest.1))

-- what an item of these units is split into
pub record ItemSplit (size : ℕ) (us : List (List ℕ)) : Type 0 where
  pub spans : List Span
  pub read : split_item size (to_item size us) ≡ accept spans
  pub bytes : map (held (to_item size us)) spans ≡ us
  pub count : count_found (split_item size (to_item size us)) ≡ accept (length us)

-- an item that is written from units is split into those units
pub split_made : (size : ℕ) (us : List (List ℕ)) → 1 ≤ size → size ≤ 4 → AllFit size us → length (to_item size us) ≤ 2 ^ 30 → ItemSplit size us
split_made size us one four f l =
    let m = made_left size (to_item size us) us f [] 0 refl refl in
    let r : split_item size (to_item size us) ≡ accept (placed size 0 us) = split_lent size (to_item size us) l
    ∙ items_left size (to_item size us) one four ∙ m.0 in
    let n : length (placed size 0 us) ≡ length us = sym (length-map (placed size 0 us) (held (to_item size us))) ∙ ap length m.1 in
    record { spans = placed size 0 us; read = r; bytes = m.1; count = rw (r, n) }

-- ### one unit

module _ (size : ℕ) (u : List ℕ) (one : 1 ≤ size) (four : size ≤ 4) (some : 0 < length u) (fits : length u < 256 ^ size) where
  made_one : (item_units_from size (to_chunk size u) 0 ≡ accept (record { start = size; len = length u } ∷ []))
      × (map (held (to_chunk size u)) (record { start = size; len = length u } ∷ []) ≡ u ∷ [])
  unfolding to_item placed
  made_one =
      let e : 0 + size ≡ size = omega arith in
      rw e at (made_left size (to_chunk size u) (u ∷ []) (λ k h. let z : k ≡ 0 = omega arith in rw z (some, fits)) [] 0
      (sym (append-nil (to_chunk size u))) refl)

  -- one unit after its length is an item of that unit
  pub split_one : item_units size (to_chunk size u) ≡ accept (record { start = size; len = length u } ∷ [])
  split_one = items_left size (to_chunk size u) one four ∙ made_one.0

  pub held_one : held (to_chunk size u) (record { start = size; len = length u }) ≡ u
  held_one = ap (λ (us : List (List ℕ)). get_or us 0 []) made_one.1
