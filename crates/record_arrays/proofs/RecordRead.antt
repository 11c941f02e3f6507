-- A record read after it was written: a head, the number of arrays and arrays. The head's type, its bytes and what reads it are any.
use Prim.Native.Nat.{ℕ, ◌+◌, ◌^◌, ◌≤◌}
use native.Mathlib.Omega.{arith}
use mathlib.Core.Path.{◌≡◌, refl, sym, ap}
use mathlib.Core.Bool.{true}
use mathlib.Core.List.{List, [], ◌∷◌, ◌++◌, append-nil, append_assoc}
use lib.ListN.{length, length-append}
use Rattle.parse.specs.Parse.{value, Parser}
use Rattle.unit_list.specs.UnitList.{Array, held_arrays}
use Rattle.unit_list.proofs.Arrays.{Sound}
use Rattle.record_arrays.specs.Write.{arrays_bytes, arrays_fit}
use Rattle.record_arrays.specs.inner.Records.{record_with}
use Rattle.record_arrays.specs.declared.Codec.{Codec}
use Rattle.record_arrays.proofs.ArraysRoundTrip.{all_placed_in_record, arrays_read, arrays_held, byte_there}
use Rattle.record_arrays.proofs.RecordLength.{Listed, arrays_lent}

-- the bytes of a head, of the number of arrays and of the arrays
abbrev pub headed_bytes : Codec → List ℕ → List (Array (List ℕ)) → List ℕ
headed_bytes k b xs = b ++ (length xs ∷ []) ++ arrays_bytes k xs

module _ (k : Codec) (b : List ℕ) (xs : List (Array (List ℕ))) where
  before : length (b ++ (length xs ∷ [])) ≡ length b + 1
  before = length-append b (length xs ∷ [])

  pub length_headed : length (headed_bytes k b xs) ≡ length b + 1 + length (arrays_bytes k xs)
  length_headed = omega (arith, length-append (b ++ (length xs ∷ [])) (arrays_bytes k xs), before)

  -- the head is followed by the number of arrays and the arrays
  pub from_head : headed_bytes k b xs ≡ b ++ (length xs ∷ arrays_bytes k xs)
  from_head = append_assoc b (length xs ∷ []) (arrays_bytes k xs)

  from_arrays : headed_bytes k b xs ≡ (b ++ (length xs ∷ [])) ++ (arrays_bytes k xs ++ [])
  from_arrays = ap (λ (x : List ℕ). (b ++ (length xs ∷ [])) ++ x) (sym (append-nil (arrays_bytes k xs)))

  -- a record of at most 255 arrays, written from a list of at most 2^30 bytes, has at most 2^30 bytes
  pub headed_lent : length b ≤ 1104 → length xs ≤ 255 → arrays_fit k xs ≡ true → Listed xs → length (headed_bytes k b xs) ≤ 2 ^ 30
  headed_lent h f e l = omega (arith, length_headed, arrays_lent k (length b) xs h f e l)

  module _ (sound : Sound xs) (fits : arrays_fit k xs ≡ true) where
    -- where P reads the head, the record is read: the head, and arrays that hold those that were written
    pub headed_read : {H : Type 0} (P : Parser H) (h : H) → P (headed_bytes k b xs) 0 ≡ value h (length b)
        → record_with k P (headed_bytes k b xs) 0 ≡ value (h, all_placed_in_record k (length b + 1) xs) (length (headed_bytes k b xs))
    headed_read P h e = rw (
      e,
      byte_there (headed_bytes k b xs) b (arrays_bytes k xs) (length xs) (length b) from_head refl,
      arrays_read k (headed_bytes k b xs) sound (b ++ (length xs ∷ [])) [] (length b + 1) from_arrays before fits,
      sym length_headed,
    )

    pub headed_held : held_arrays (headed_bytes k b xs) (all_placed_in_record k (length b + 1) xs) ≡ xs
    headed_held = arrays_held k (headed_bytes k b xs) sound (b ++ (length xs ∷ [])) [] (length b + 1) from_arrays before fits
