-- A list decoded after encoding: the same arrays, lying where they were written.
use Prim.Native.Nat.{ℕ, ◌+◌, ◌/◌, ◌%◌, ◌^◌, ◌≤◌, ◌<◌}
use mathlib.Core.Path.{◌≡◌, refl, sym, ap, ◌∙◌}
use mathlib.Core.List.{List, [], ◌∷◌, ◌++◌, map, append-nil, append_assoc}
use native.Mathlib.Omega.{arith}
use lib.ListN.{length, get_or, take, length-append}
use lib.Seq.{take_at, get_or_at}
use Rattle.parse.specs.Outcome.{Outcome, accept}
use Rattle.parse.specs.Parse.{value, many, outcome_or}
use Rattle.parse.proofs.Many.{many_nil, many_step}
use Rattle.boxes.specs.Bytes.{to_be, chunk, to_chunk}
use Rattle.boxes.specs.Parts.{held}
use Rattle.boxes.specs.declared.Span.{Span}
use Rattle.boxes.proofs.Numbers.{length_to_be}
use Rattle.boxes.proofs.Fields.{chunk_to_chunk, held_to_chunk, chunk_advances}
use Rattle.boxes.proofs.ChunkBytes.{length_to_chunk}
use Rattle.unit_list.specs.UnitList.{Array, array, largest_type, complete_byte, length_width, decode, units_of, held_array}
use Rattle.unit_list.specs.UnitList.{held_arrays, encode_units, encode_rest, encode_array, encode_arrays, encode_as, encode}
use Rattle.unit_list.specs.Answers.{list_units}
use Rattle.unit_list.proofs.Arrays.{Sound, sound_none, sound_more, array_reads, array_advances}
use Rattle.unit_list.proofs.Left.{width_small, decode_arrays}
use Rattle.unit_list.proofs.Units.{units_held}

-- where the units of an array that is written from p on lie, and where its array's do
unfoldable pub placed_units : ℕ → ℕ → List (List ℕ) → List Span
placed_units w p [] = []
placed_units w p (u ∷ us) = record { start = p + w; len = length u } ∷ placed_units w (p + w + length u) us

abbrev pub placed_array : ℕ → ℕ → Array (List ℕ) → Array Span
placed_array w p a =
    record { complete = a.complete; reserved_bit = a.reserved_bit; unit_type = a.unit_type; units = placed_units w (p + w + 2) a.units }

unfoldable pub placed_arrays : ℕ → ℕ → List (Array (List ℕ)) → List (Array Span)
placed_arrays w p [] = []
placed_arrays w p (a ∷ xs) = placed_array w p a ∷ placed_arrays w (p + length (encode_array w a)) xs

module _ (w : ℕ) (some : 1 ≤ w) (s : List ℕ) where
  -- units that follow others at the end of s
  units_written : (us : List (List ℕ)) (pre : List ℕ) (p : ℕ) → s ≡ pre ++ encode_units w us → length pre ≡ p → length (encode_units w us) < 256 ^ w
      → many (chunk w) s p ≡ value (placed_units w p us) (length s)
  unfolding encode_units placed_units
  units_written [] pre p e l f =
      let n : length s ≡ p = ap length (e ∙ append-nil pre) ∙ l in
      many_nil (chunk w) s p (omega arith) ∙ rw (sym n)
  units_written (u ∷ us) pre p e l f =
      let k = length-append (to_chunk w u) (encode_units w us) in
      let j = length_to_chunk w u in
      let n = ap length e ∙ length-append pre (to_chunk w u ++ encode_units w us) in
      let c : chunk w s p ≡ value (record { start = p + w; len = length u }) (p + w + length u) =
      rw (e, ← l) (chunk_to_chunk w pre u (encode_units w us) (omega arith)) in
      let m : length (pre ++ to_chunk w u) ≡ p + w + length u = omega (arith, length-append pre (to_chunk w u)) in
      many_step (chunk w) s (chunk_advances w s some) p (record { start = p + w; len = length u }) (p + w + length u) (omega arith) c
      ∙ rw (units_written us (pre ++ to_chunk w u) (p + w + length u) (e ∙ sym (append_assoc pre (to_chunk w u) (encode_units w us))) m (omega arith))

module _ (w : ℕ) (s : List ℕ) where
  -- units that lie anywhere in s hold their bytes
  units_hold : (us : List (List ℕ)) (pre post : List ℕ) (p : ℕ) → s ≡ pre ++ (encode_units w us ++ post) → length pre ≡ p
      → length (encode_units w us) < 256 ^ w
      → map (held s) (placed_units w p us) ≡ us
  unfolding encode_units placed_units
  units_hold [] pre post p e l f = refl
  units_hold (u ∷ us) pre post p e l f =
      let k = length-append (to_chunk w u) (encode_units w us) in
      let j = length_to_chunk w u in
      let g : s ≡ pre ++ (to_chunk w u ++ (encode_units w us ++ post)) = e
      ∙ ap (λ (x : List ℕ). pre ++ x) (append_assoc (to_chunk w u) (encode_units w us) post) in
      let h : held s (record { start = p + w; len = length u }) ≡ u = rw (g, ← l) (held_to_chunk w pre u (encode_units w us ++ post) (omega arith)) in
      let m : length (pre ++ to_chunk w u) ≡ p + w + length u = omega (arith, length-append pre (to_chunk w u)) in
      rw (
        h,
        units_hold us (pre ++ to_chunk w u) post (p + w + length u)
            (g ∙ sym (append_assoc pre (to_chunk w u) (encode_units w us ++ post))) m (omega arith),
      )

-- what comes before an array's units
abbrev head_of : ℕ → Array (List ℕ) → List ℕ
head_of w a = to_be w (length (encode_rest w a)) ++ (complete_byte a ∷ a.unit_type ∷ [])

pub length_array : (w : ℕ) (a : Array (List ℕ)) → length (encode_array w a) ≡ w + length (encode_rest w a)
unfolding encode_array
length_array w a = length_to_chunk w (encode_rest w a)

-- the length of each array has room in w bytes
pub data Short (w : ℕ) : List (Array (List ℕ)) → Type 0 where
  short_none : Short w []
  short_more : {a : Array (List ℕ)} {xs : List (Array (List ℕ))} → length (encode_rest w a) < 256 ^ w → Short w xs → Short w (a ∷ xs)

-- as it has where all arrays together are short enough
pub short_all : (w : ℕ) (xs : List (Array (List ℕ))) → length (encode_arrays w xs) < 256 ^ w → Short w xs
unfolding encode_arrays
short_all w [] h = short_none
short_all w (a ∷ xs) h =
    let k = length-append (encode_array w a) (encode_arrays w xs) in
    let l = length_array w a in
    short_more {a = a} {xs = xs} (omega arith) (short_all w xs (omega arith))

-- one array between others
module _ (w : ℕ) (s : List ℕ) (a : Array (List ℕ)) (pre post : List ℕ) (p : ℕ) (e : s ≡ pre ++ (encode_array w a ++ post)) (l : length pre ≡ p)
    (f : length (encode_rest w a) < 256 ^ w) where
  length_head : length (pre ++ head_of w a) ≡ p + w + 2
  length_head = length-append pre (head_of w a)
      ∙ rw (length-append (to_be w (length (encode_rest w a))) (complete_byte a ∷ a.unit_type ∷ []), length_to_be w (length (encode_rest w a)), l)
      (omega arith)

  units_after : pre ++ encode_array w a ≡ (pre ++ head_of w a) ++ encode_units w a.units
  unfolding encode_array to_chunk
  units_after =
      ap (λ (x : List ℕ). pre ++ x)
      (sym (append_assoc (to_be w (length (encode_rest w a))) (complete_byte a ∷ a.unit_type ∷ []) (encode_units w a.units)))
      ∙ sym (append_assoc pre (head_of w a) (encode_units w a.units))

  split : s ≡ (pre ++ head_of w a) ++ (encode_units w a.units ++ post)
  split =
      e ∙ sym (append_assoc pre (encode_array w a) post) ∙ ap (λ (x : List ℕ). x ++ post) units_after
      ∙ append_assoc (pre ++ head_of w a) (encode_units w a.units) post

  pub array_held : held_array s (placed_array w p a) ≡ a
  array_held =
      ap (λ (us : List (List ℕ)). record { complete = a.complete; reserved_bit = a.reserved_bit; unit_type = a.unit_type; units = us })
      (units_hold w s a.units (pre ++ head_of w a) post (p + w + 2) split length_head (omega arith))

  -- its bytes from complete on
  bytes_at_lem : s ≡ (pre ++ to_be w (length (encode_rest w a))) ++ (encode_rest w a ++ post)
  unfolding encode_array to_chunk
  bytes_at_lem =
      e ∙ ap (λ (x : List ℕ). pre ++ x) (append_assoc (to_be w (length (encode_rest w a))) (encode_rest w a) post)
      ∙ sym (append_assoc pre (to_be w (length (encode_rest w a))) (encode_rest w a ++ post))

  before : length (pre ++ to_be w (length (encode_rest w a))) ≡ p + w
  before = length-append pre (to_be w (length (encode_rest w a))) ∙ rw (length_to_be w (length (encode_rest w a)), l)

  complete_at : get_or s (p + w) 0 ≡ complete_byte a
  complete_at =
      rw bytes_at_lem
      (get_or_at (pre ++ to_be w (length (encode_rest w a))) (complete_byte a) (a.unit_type ∷ (encode_units w a.units ++ post)) 0 (p + w) before)

  type_at : get_or s (p + w + 1) 0 ≡ a.unit_type
  type_at =
      let m : length ((pre ++ to_be w (length (encode_rest w a))) ++ (complete_byte a ∷ [])) ≡ p + w + 1 =
      length-append (pre ++ to_be w (length (encode_rest w a))) (complete_byte a ∷ []) ∙ rw before (omega arith) in
      rw bytes_at_lem
      (ap (λ (x : List ℕ). get_or x (p + w + 1) 0)
      (sym (append_assoc (pre ++ to_be w (length (encode_rest w a))) (complete_byte a ∷ []) (a.unit_type ∷ (encode_units w a.units ++ post))))
      ∙ get_or_at ((pre ++ to_be w (length (encode_rest w a))) ++ (complete_byte a ∷ [])) a.unit_type (encode_units w a.units ++ post) 0 (p + w + 1) m)

  rest_at : take (p + w + length (encode_rest w a)) s ≡ (pre ++ head_of w a) ++ encode_units w a.units
  rest_at =
      let k = length_array w a in
      let m : length (pre ++ encode_array w a) ≡ p + w + length (encode_rest w a) = length-append pre (encode_array w a) ∙ rw l (omega arith) in
      rw (e, ← append_assoc pre (encode_array w a) post) (take_at (pre ++ encode_array w a) post (p + w + length (encode_rest w a)) m) ∙ units_after

  module _ (some : 1 ≤ w) (one : a.complete ≤ 1) (bit : a.reserved_bit ≤ 1) (small : a.unit_type ≤ largest_type) where
    pub array_written : array w s p ≡ value (placed_array w p a) (p + length (encode_array w a))
    array_written =
        let k = length_array w a in
        let low : complete_byte a % 2 ≡ a.complete = omega arith in
        let high : complete_byte a / 2 ≡ a.reserved_bit = omega arith in
        let c : chunk w s p ≡ value (record { start = p + w; len = length (encode_rest w a) }) (p + w + length (encode_rest w a)) =
        unfold encode_array in rw (e, ← l) (chunk_to_chunk w pre (encode_rest w a) post (omega arith)) in
        let u = units_written w some (take (p + w + length (encode_rest w a)) s) a.units (pre ++ head_of w a)
        (p + w + 2) rest_at length_head (omega arith) in
        let m : length (take (p + w + length (encode_rest w a)) s) ≡ p + length (encode_array w a) =
        ap length rest_at ∙ length-append (pre ++ head_of w a) (encode_units w a.units) ∙ rw length_head (omega arith) in
        array_reads w s p (record { start = p + w; len = length (encode_rest w a) }) c (omega arith) (rw complete_at (omega arith)) (rw type_at small)
        ∙ rw (u, m, complete_at, type_at, low, high)

-- arrays one after the other
module _ (w : ℕ) (s : List ℕ) where
  arrays_written : 1 ≤ w → {xs : List (Array (List ℕ))} → Sound xs → Short w xs → (pre : List ℕ) (p : ℕ) → s ≡ pre ++ encode_arrays w xs
      → length pre ≡ p → many (array w) s p ≡ value (placed_arrays w p xs) (length s)
  unfolding encode_arrays placed_arrays
  arrays_written some sound_none short_none pre p e l =
      let n : length s ≡ p = ap length (e ∙ append-nil pre) ∙ l in
      many_nil (array w) s p (omega arith) ∙ rw (sym n)
  arrays_written some (sound_more {a = a} {xs = xs} one bit small h) (short_more f g) pre p e l =
      let k = length-append (encode_array w a) (encode_arrays w xs) in
      let n = ap length e ∙ length-append pre (encode_array w a ++ encode_arrays w xs) in
      let j = length_array w a in
      let c = array_written w s a pre (encode_arrays w xs) p e l f some one bit small in
      let m : length (pre ++ encode_array w a) ≡ p + length (encode_array w a) = length-append pre (encode_array w a) ∙ rw l in
      many_step (array w) s (array_advances w s some) p (placed_array w p a) (p + length (encode_array w a)) (omega arith) c
      ∙ rw (arrays_written some h g (pre ++ encode_array w a) (p + length (encode_array w a))
      (e ∙ sym (append_assoc pre (encode_array w a) (encode_arrays w xs))) m)

  arrays_held : {xs : List (Array (List ℕ))} → Short w xs → (pre : List ℕ) (p : ℕ) → s ≡ pre ++ encode_arrays w xs → length pre ≡ p
      → held_arrays s (placed_arrays w p xs) ≡ xs
  unfolding encode_arrays placed_arrays
  arrays_held short_none pre p e l = refl
  arrays_held (short_more {a = a} {xs = xs} f g) pre p e l =
      let m : length (pre ++ encode_array w a) ≡ p + length (encode_array w a) = length-append pre (encode_array w a) ∙ rw l in
      let h = array_held w s a pre (encode_arrays w xs) p e l f in
      let t = arrays_held g (pre ++ encode_array w a) (p + length (encode_array w a))
      (e ∙ sym (append_assoc pre (encode_array w a) (encode_arrays w xs))) m in
      rw (h, t)

-- what is read of s: where it lies, and the bytes that it holds
pub record UnitsRead (s : List ℕ) (o : Outcome (List Span)) (us : List (List ℕ)) : Type 0 where
  pub spans : List Span
  pub read : o ≡ accept spans
  pub bytes : map (held s) spans ≡ us

-- a list of version v decoded after encoding: arrays that hold the same bytes
module _ (v : ℕ) (xs : List (Array (List ℕ))) (short : Short (length_width v) xs) where
  pub held_encoded : held_arrays (encode_as v xs) (placed_arrays (length_width v) 1 xs) ≡ xs
  held_encoded = arrays_held (length_width v) (encode_as v xs) short (v ∷ []) 1 refl refl

  pub decode_encoded : (length_width v ≡ 0 → ⊥) → length (encode_as v xs) ≤ 2 ^ 30 → Sound xs
      → decode (encode_as v xs) ≡ accept (placed_arrays (length_width v) 1 xs)
  decode_encoded known fits sound =
      decode_arrays (encode_as v xs) fits (length_width v) refl known
      ∙ ap (outcome_or 21)
      (arrays_written (length_width v) (encode_as v xs) (let w = width_small v known in omega arith) sound short (v ∷ []) 1 refl refl)

-- a list that a call writes, of version 01, decodes as the arrays that were encoded
module _ (xs : List (Array (List ℕ))) (fits : length (encode xs) ≤ 2 ^ 30) where
  short : Short 4 xs
  unfolding encode
  short = short_all 4 xs (omega arith)

  pub held_encode : held_arrays (encode xs) (placed_arrays 4 1 xs) ≡ xs
  unfolding encode
  held_encode = held_encoded 1 xs short

  module _ (sound : Sound xs) where
    pub decode_encode : decode (encode xs) ≡ accept (placed_arrays 4 1 xs)
    unfolding encode
    decode_encode = decode_encoded 1 xs short (λ e. omega arith) fits sound

    -- and so its units do
    pub units_encode : UnitsRead (encode xs) (list_units (encode xs)) (units_of xs)
    units_encode =
        record {
          spans = units_of (placed_arrays 4 1 xs);
          read = rw decode_encode;
          bytes = units_held (encode xs) (placed_arrays 4 1 xs) ∙ ap units_of held_encode;
        }
