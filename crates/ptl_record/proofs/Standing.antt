-- Where the bytes of a PTL record lie in a list, its fields lie there one after another, and their values are those that were written.
use Prim.Native.Nat.{ℕ, zero, suc, ◌+◌, ◌*◌, ◌/◌, ◌%◌, ◌^◌, ◌≤◌, ◌<◌}
use mathlib.Core.Path.{◌≡◌, refl, sym, ap, ◌∙◌}
use mathlib.Core.Bool.{Bool, true, false}
use mathlib.Core.List.{List, [], ◌∷◌, ◌++◌, append-nil}
use native.Mathlib.Nat.{add-zero, add_assoc}
use native.Mathlib.Omega.{arith}
use lib.ListN.{length, get_or, take, drop, length-append, length-take, length-drop, get_or-append}
use lib.Seq.{get_or-append-add, get_or-take, get_or-drop, ext_get_or}
use Rattle.std.specs.Prelude.{if◌then◌else◌}
use Rattle.parse.specs.Logic.{bit}
use Rattle.parse.proofs.General.{bit_le}
use Rattle.boxes.specs.Bytes.{be, to_be}
use Rattle.boxes.proofs.Numbers.{be_same, be_to_be, length_to_be}
use Rattle.bit_reader.specs.Bits.{is_set}
use Rattle.ptl.specs.Ptl.{present_flags, without_flags}
use Rattle.ptl.specs.declared.VvcPtlRecord.{VvcPtlRecord}
use Rattle.ptl_record.specs.Write.{with_flags, has_level, flag_byte, level_bytes, sub_profile_bytes}
use Rattle.ptl_record.specs.AsWritten.{up_to, level_of}
use Rattle.ptl_record.specs.inner.Places.{words, levels_len, level_if, levels_at, one_level}
use Rattle.ptl_record.proofs.Writing.{levels_split}

-- xs lies in s at place i
pub record Stands (s : List ℕ) (i : ℕ) (xs : List ℕ) : Type 0 where
  pub room : i + length xs ≤ length s
  pub same : (k : ℕ) → k < length xs → get_or s (i + k) 0 ≡ get_or xs k 0

module _ (s : List ℕ) (i : ℕ) (xs ys : List ℕ) (st : Stands s i (xs ++ ys)) where
  pub stands_left : Stands s i xs
  stands_left =
      let e = length-append xs ys in
      record {
        room = omega (arith, st.room);
        same = λ k h. st.same k (omega arith) ∙ get_or-append xs ys 0 k h;
      }

  pub stands_right : Stands s (i + length xs) ys
  stands_right =
      let e = length-append xs ys in
      record {
        room = omega (arith, st.room);
        same = λ k h. rw (add_assoc i (length xs) k) (st.same (length xs + k) (omega arith) ∙ get_or-append-add xs ys k 0);
      }

-- between other lists
pub stands_between : (xs b ys : List ℕ) → Stands (xs ++ (b ++ ys)) (length xs) b
stands_between xs b ys = record {
  room = omega (arith, length-append xs (b ++ ys), length-append b ys);
  same = λ k h. get_or-append-add xs (b ++ ys) k 0 ∙ get_or-append b ys 0 k h;
}

-- the first element of such an xs, and all of it
pub stands_head : (s : List ℕ) (i x : ℕ) (xs : List ℕ) → Stands s i (x ∷ xs) → get_or s i 0 ≡ x
stands_head s i x xs st = rw (add-zero i) at (st.same 0 (omega arith))

pub stands_take : (s : List ℕ) (i : ℕ) (xs : List ℕ) → Stands s i xs → take (length xs) (drop i s) ≡ xs
stands_take s i xs st =
    let l : length (take (length xs) (drop i s)) ≡ length xs =
    length-take (length xs) (drop i s) ∙ omega (arith, length-drop i s, st.room) in
    ext_get_or 0 (take (length xs) (drop i s)) xs l
    (λ k h. get_or-take (length xs) (drop i s) k 0 (omega arith) ∙ get_or-drop i s k 0 ∙ st.same k (omega arith))

-- ---- the constraint bytes

pub is_set_bit : (b : Bool) → is_set (bit b) ≡ b
is_set_bit true = refl
is_set_bit false = refl

pub flags_cleared : (p : VvcPtlRecord) (xs : List ℕ) → without_flags (with_flags p xs) ≡ without_flags xs
unfolding without_flags with_flags
flags_cleared p [] = refl
flags_cleared p (x ∷ xs) =
    ap (λ (b : ℕ). b ∷ xs) (omega (arith, bit_le p.ptl_frame_only_constraint_flag, bit_le p.ptl_multilayer_enabled_flag))

-- ---- the levels

module _ (p : VvcPtlRecord) where
  pub flag_small : (m : ℕ) → flag_byte p m < 256
  unfolding flag_byte
  flag_small zero = omega arith
  flag_small (suc m) = omega (arith, flag_small m, bit_le (has_level p m))

  -- the lowest bit is free as long as there are fewer than seven flags
  flag_even : (m : ℕ) → m < 7 → flag_byte p m % 2 ≡ 0
  unfolding flag_byte
  flag_even zero h = omega arith
  flag_even (suc zero) h = omega (arith, bit_le (has_level p 0))
  flag_even (suc (suc zero)) h = omega (arith, bit_le (has_level p 0), bit_le (has_level p 1))
  flag_even (suc (suc (suc zero))) h = omega (arith, bit_le (has_level p 0), bit_le (has_level p 1), bit_le (has_level p 2))
  flag_even (suc (suc (suc (suc zero)))) h = omega (arith, bit_le (has_level p 0), bit_le (has_level p 1), bit_le (has_level p 2), bit_le (has_level p 3))
  flag_even (suc (suc (suc (suc (suc zero))))) h =
      omega (arith, bit_le (has_level p 0), bit_le (has_level p 1), bit_le (has_level p 2), bit_le (has_level p 3), bit_le (has_level p 4))
  flag_even (suc (suc (suc (suc (suc (suc zero)))))) h = omega (
    arith,
    bit_le (has_level p 0),
    bit_le (has_level p 1),
    bit_le (has_level p 2),
    bit_le (has_level p 3),
    bit_le (has_level p 4),
    bit_le (has_level p 5),
  )
  flag_even (suc (suc (suc (suc (suc (suc (suc m))))))) h = absurd (omega arith)

  -- the top flag, and those below it
  flag_top : (m : ℕ) → flag_byte p (suc m) / 128 ≡ bit (has_level p m)
  unfolding flag_byte
  flag_top m = omega (arith, flag_small m)

  flag_rest : (m : ℕ) → m < 7 → flag_byte p (suc m) % 128 * 2 ≡ flag_byte p m
  unfolding flag_byte
  flag_rest m h = omega (arith, flag_small m, flag_even m h, bit_le (has_level p m))

  pub length_one : (b : Bool) (l : ℕ) → length (one_level b l) ≡ bit b
  length_one true l = refl
  length_one false l = refl

  pub len_back : (m : ℕ) → m < 7 → levels_len m (flag_byte p m) ≡ length (level_bytes p m)
  unfolding levels_len level_bytes
  len_back zero h = refl
  len_back (suc m) h =
      rw (flag_top m, flag_rest m (omega arith), len_back m (omega arith))
      (sym (ap length (levels_split p m) ∙ length-append (one_level (has_level p m) (get_or p.sublayer_level_idc m 0)) (level_bytes p m)
      ∙ ap (λ (k : ℕ). k + length (level_bytes p m)) (length_one (has_level p m) (get_or p.sublayer_level_idc m 0))))

  pub flags_back : (m : ℕ) → m < 7 → present_flags m (flag_byte p m) ≡ up_to m (has_level p)
  unfolding present_flags up_to
  flags_back zero h = refl
  flags_back (suc m) h = rw (flag_top m, flag_rest m (omega arith), flags_back m (omega arith), is_set_bit)

  one_back : (s : List ℕ) (q : ℕ) (b : Bool) (l : ℕ) → Stands s q (one_level b l) → level_if (bit b) s q ≡ (if b then l else 0)
  one_back s q true l st = stands_head s q l [] st
  one_back s q false l st = refl

  pub levels_back : (m : ℕ) → m < 7 → (s : List ℕ) (q : ℕ) → Stands s q (level_bytes p m) → levels_at m (flag_byte p m) s q ≡ up_to m (level_of p)
  unfolding levels_at up_to
  levels_back zero h s q st = refl
  levels_back (suc m) h s q st =
      let o = one_level (has_level p m) (get_or p.sublayer_level_idc m 0) in
      let t = rw (levels_split p m) at st in
      let r = rw (length_one (has_level p m) (get_or p.sublayer_level_idc m 0)) at (stands_right s q o (level_bytes p m) t) in
      let l = stands_left s q o (level_bytes p m) t in
      rw (
        flag_top m,
        flag_rest m (omega arith),
        levels_back m (omega arith) s (q + bit (has_level p m)) r,
        one_back s q (has_level p m) (get_or p.sublayer_level_idc m 0) l,
      )

-- ---- the sub-profiles

pub words_back : (s : List ℕ) (i : ℕ) (vs : List ℕ) → ((k : ℕ) → k < length vs → get_or vs k 0 < 256 ^ 4) → Stands s i (sub_profile_bytes vs)
    → words (length vs) s i ≡ vs
unfolding words sub_profile_bytes
words_back s i [] small st = refl
words_back s i (v ∷ vs) small st =
    let l = stands_left s i (to_be 4 v) (sub_profile_bytes vs) st in
    let n = length_to_be 4 v in
    let r = rw n at (stands_right s i (to_be 4 v) (sub_profile_bytes vs) st) in
    let a : be s i 4 ≡ be (to_be 4 v) 0 4 =
    be_same s (to_be 4 v) i 0 4 (λ k h. l.same k (omega arith) ∙ ap (λ (j : ℕ). get_or (to_be 4 v) j 0) (omega arith)) in
    let b : be (to_be 4 v) 0 4 ≡ v = rw (append-nil (to_be 4 v)) at (be_to_be 4 v [] (small 0 (omega arith))) in
    rw (a, b, words_back s (i + 4) vs (λ k h. small (suc k) (omega arith)) r)
