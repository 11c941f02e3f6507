-- The list of one array: its bytes and its length.
use Prim.Native.Nat.{ℕ, ◌+◌}
use mathlib.Core.Path.{◌≡◌, sym, ap, ◌∙◌}
use mathlib.Core.List.{List, [], ◌∷◌, ◌++◌, append-nil, append_assoc}
use native.Mathlib.Omega.{arith}
use lib.ListN.{length, length-append}
use Rattle.boxes.specs.Bytes.{to_be, to_chunk}
use Rattle.boxes.proofs.Numbers.{length_to_be}
use Rattle.unit_list.specs.UnitList.{encode_units, encode_array, encode_arrays, encode}
use Rattle.compact.specs.Compact.{one_array}

-- the bytes before its units
abbrev pub list_head : ℕ → List ℕ
list_head room = to_be 4 (2 + room) ++ (0 ∷ 0 ∷ [])

pub list_bytes : (us : List (List ℕ)) → one_array us ≡ 1 ∷ (list_head (length (encode_units 4 us)) ++ encode_units 4 us)
unfolding encode encode_arrays encode_array to_chunk
list_bytes us =
    let e : length (0 ∷ 0 ∷ encode_units 4 us) ≡ 2 + length (encode_units 4 us) = omega arith in
    rw (append-nil (to_be 4 (length (0 ∷ 0 ∷ encode_units 4 us)) ++ (0 ∷ 0 ∷ encode_units 4 us)), e)
    (ap (λ (l : List ℕ). 1 ∷ l) (sym (append_assoc (to_be 4 (2 + length (encode_units 4 us))) (0 ∷ 0 ∷ []) (encode_units 4 us))))

pub head_long : (room : ℕ) → length (list_head room) ≡ 6
head_long room = length-append (to_be 4 (2 + room)) (0 ∷ 0 ∷ []) ∙ rw (length_to_be 4 (2 + room))

pub list_long : (us : List (List ℕ)) → length (one_array us) ≡ 7 + length (encode_units 4 us)
list_long us =
    let h = head_long (length (encode_units 4 us)) in
    ap length (list_bytes us) ∙ (let l = length-append (list_head (length (encode_units 4 us))) (encode_units 4 us) in omega arith)
