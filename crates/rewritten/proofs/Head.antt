-- The head of a full record that was read, written again: its bytes lie at the start of the record, except for the reserved bits.
use Prim.Native.Nat.{ℕ, ◌+◌, ◌-◌, ◌*◌, ◌/◌, ◌%◌, ◌≤◌, ◌<◌}
use mathlib.Core.Path.{◌≡◌, refl, sym, ap, ◌∙◌}
use mathlib.Core.Bool.{Bool, true, false, not}
use mathlib.Core.List.{List, [], ◌∷◌, ◌++◌}
use native.Mathlib.Omega.{arith}
use lib.Dec.{eqb}
use lib.ListN.{length, get_or, length-append}
use borrow.Author.Tests.{le-leb, eq-eqb, ne_eqb, eqb-true, eqb-false}
use Rattle.std.specs.Prelude.{if◌then◌else◌}
use Rattle.parse.specs.Logic.{bit}
use Rattle.parse.specs.Parse.{Parsed, bind, give, refuse_if}
use Rattle.parse.proofs.General.{bit_flag}
use Rattle.parse.proofs.Gives.{Gives, gives_value, gives_refused, gives_bind}
use Rattle.boxes.specs.Bytes.{be, to_be, uint, outside, AllBytes}
use Rattle.boxes.proofs.Gives.{gives_uint}
use Rattle.boxes.proofs.Numbers.{be_one, be_below, length_to_be}
use Rattle.boxes.proofs.PrefixSizes.{not_outside}
use Rattle.bit_reader.specs.Bits.{is_set}
use Rattle.ptl.specs.declared.VvcPtlRecord.{VvcPtlRecord}
use Rattle.ptl_record.specs.Read.{vvc_ptl_record}
use Rattle.ptl_record.specs.Write.{ptl_bytes}
use Rattle.full.specs.Read.{plain_head, head_fields, head_with_ptl, vvc_head}
use Rattle.full.specs.Rules.{ptl_reserved, head_reserved}
use Rattle.full.specs.Write.{ptl_part, head_bytes, ptl_part_fits, head_fits}
use Rattle.full.specs.declared.VvcConfig.{VvcConfig}
use Rattle.full.proofs.HeadRoundTrip.{length_part}
use Rattle.rewritten.proofs.Parts.{Rewrites, stands_number, stands_none, rewrites_same, rewrites_byte}
use Rattle.rewritten.proofs.Parts.{rewrites_append, rewrites_then, rewrites_after}
use Rattle.rewritten.proofs.Ptl.{PtlAgain, ptl_again}

-- a head h that was read of s, up to q: it fits, and its bytes lie there exactly when its reserved bits are the standard's
pub record HeadAgain (s : List ℕ) (h : VvcConfig) (q : ℕ) : Type 0 where
  pub fits : head_fits h ≡ true
  pub size : eqb h.length_size 3 ≡ false
  pub next : q ≡ length (head_bytes h)
  pub same : Rewrites s 0 (head_bytes h) (head_reserved s h)

-- a number that is read, and what is read after it
gives_number : {B : Type 0} {Q : B → ℕ → Type 0} (s : List ℕ) (w p : ℕ) (f : ℕ → ℕ → Parsed B)
    → (p + w ≤ length s → Gives (f (be s p w) (p + w)) Q) → Gives (bind (uint w s p) f) Q
gives_number s w p f k =
    gives_bind (uint w s p) f (gives_uint s w p) (λ n q u. let i = u.inside in rw (u.is, u.next) (k (omega (arith, u.next))))

module _ (s : List ℕ) (all : AllBytes s) where
  -- ---- byte 0

  -- the byte, its prefix size, and the test of its reserved bits
  abbrev b : ℕ
  b = get_or s 0 0

  abbrev size : ℕ
  size = b / 2 % 4 + 1

  abbrev first : Bool
  first = eqb (b / 8) 31

  -- it is written as it was read exactly when its reserved bits are 11111
  first_same : 0 < length s → (t : Bool) → is_set (b % 2) ≡ t → Rewrites s 0 ((248 + (size - 1) * 2 + bit t) ∷ []) first
  first_same some t e =
      let c = all 0 in
      let o : bit t ≡ b % 2 = ap bit (sym e) ∙ bit_flag (b % 2) (omega arith) in
      rewrites_byte s 0 (248 + (size - 1) * 2 + bit t) first some
      (λ k. let g = eqb-true (b / 8) 31 k in omega arith) (λ k. eq-eqb (b / 8) 31 (omega arith))

  -- the prefix size is 1 to 4
  size_ok : not (outside size) ≡ true
  size_ok = rw (not_outside size (omega arith) (omega arith))

  -- ---- the fields under the PTL flag

  -- the numbers before the PTL
  abbrev w : ℕ
  w = be s 1 2

  abbrev d : ℕ
  d = be s 3 1

  module _ (p : VvcPtlRecord) where
    -- the bytes of the PTL, and the place after it
    abbrev P : List ℕ
    P = ptl_bytes p (w / 16 % 8)

    abbrev z : ℕ
    z = 4 + length P

    -- what is read
    abbrev h : VvcConfig
    h = head_fields size w d p (be s z 2) (be s (z + 2) 2) (be s (z + 2 + 2) 2)

    module _ (a : PtlAgain s (w / 16 % 8) 4 p z) (end : z + 2 + 2 + 2 ≤ length s) where
      -- every value fits its field
      fields_fit : ptl_part_fits h ≡ true
      unfolding ptl_part_fits
      fields_fit =
          let b = be_below s 1 2 all in let c = all 3 in
          rw (
            le-leb (w / 128) 511 (omega arith),
            le-leb (w / 16 % 8) 7 (omega arith),
            le-leb (w / 4 % 4) 3 (omega arith),
            le-leb (w % 4) 3 (omega arith),
            le-leb (d / 32) 7 (omega (arith, be_one s 3)),
            a.fits,
          )

      -- the parts of the bytes besides the PTL: the first number, the bit depth, the width, the height, the frame rate
      abbrev A : List ℕ
      A = to_be 2 w

      abbrev D : List ℕ
      D = (d / 32 * 32 + 31) ∷ []

      abbrev X : List ℕ
      X = to_be 2 (be s z 2)

      abbrev Y : List ℕ
      Y = to_be 2 (be s (z + 2) 2)

      abbrev Z : List ℕ
      Z = to_be 2 (be s (z + 2 + 2) 2)

      -- where each part ends
      word_end : 1 + length A ≡ 3
      word_end = omega (arith, length_to_be 2 w)

      depth_end : 1 + length (A ++ D) ≡ 4
      depth_end = omega (arith, length-append A D, word_end)

      ptl_end_lem : 1 + length ((A ++ D) ++ P) ≡ z
      ptl_end_lem = omega (arith, length-append (A ++ D) P, depth_end)

      width_end : 1 + length (((A ++ D) ++ P) ++ X) ≡ z + 2
      width_end = omega (arith, length-append ((A ++ D) ++ P) X, length_to_be 2 (be s z 2), ptl_end_lem)

      height_end : 1 + length ((((A ++ D) ++ P) ++ X) ++ Y) ≡ z + 2 + 2
      height_end = omega (arith, length-append (((A ++ D) ++ P) ++ X) Y, length_to_be 2 (be s (z + 2) 2), width_end)

      -- the test of the reserved bits after the bit depth
      abbrev ok : Bool
      ok = eqb (get_or s 3 0 % 32) 31

      -- the bit depth is written as it was read exactly when these are 11111
      depth_same : Rewrites s 3 D ok
      depth_same =
          let e = be_one s 3 in
          rewrites_byte s 3 (d / 32 * 32 + 31) ok (omega arith)
          (λ k. let o = eqb-true (get_or s 3 0 % 32) 31 k in omega arith) (λ k. eq-eqb (get_or s 3 0 % 32) 31 (omega arith))

      -- the fields lie where they were read exactly when the reserved bits are the standard's
      fields_same : Rewrites s 1 (ptl_part h) (ptl_reserved s h)
      unfolding ptl_part
      fields_same =
          let e : w / 128 * 128 + w / 16 % 8 * 16 + w / 4 % 4 * 4 + w % 4 ≡ w = omega arith in
          rw e
          (rewrites_then s 1 ((((A ++ D) ++ P) ++ X) ++ Y) Z _
          (rewrites_then s 1 (((A ++ D) ++ P) ++ X) Y _
          (rewrites_then s 1 ((A ++ D) ++ P) X _
          (rewrites_append s 1 (A ++ D) P ok _
          (rewrites_after s 1 A D ok (stands_number s all 2 1 (omega arith)) (rw word_end depth_same))
          (rw depth_end a.same))
          (rw ptl_end_lem (stands_number s all 2 z (omega arith))))
          (rw width_end (stands_number s all 2 (z + 2) (omega arith))))
          (rw height_end (stands_number s all 2 (z + 2 + 2) end)))

      -- a head with the fields, written again
      with_again : eqb size 3 ≡ false → is_set (b % 2) ≡ true → HeadAgain s h (z + 2 + 2 + 2)
      unfolding head_fits head_bytes head_reserved
      with_again sizes e = record {
        fits = rw (size_ok, fields_fit);
        size = sizes;
        next = omega (arith, length_part h);
        same = rewrites_append s 0 ((248 + (size - 1) * 2 + 1) ∷ []) (ptl_part h) first (ptl_reserved s h)
            (first_same (omega arith) true e) fields_same;
      }

  -- whatever is read with the flag is written again
  gives_with : eqb size 3 ≡ false → is_set (b % 2) ≡ true → Gives (head_with_ptl size s 1) (HeadAgain s)
  unfolding head_with_ptl
  gives_with sizes e =
      gives_number s 2 1 _ (λ _.
      gives_number s 1 3 _ (λ _.
      gives_bind (vvc_ptl_record (w / 16 % 8) s 4) _ (ptl_again s all (w / 16 % 8) 4 (omega arith)) (λ p q a.
      let n = a.next in
      let a' = rw n at a in
      rw n
      (gives_number s 2 (z p) _ (λ _.
      gives_number s 2 (z p + 2) _ (λ _.
      gives_number s 2 (z p + 2 + 2) _ (λ end.
      gives_value _ _ (with_again p a' end sizes e))))))))

  -- ---- the whole head

  -- a head without the flag, written again
  plain_again : 0 < length s → eqb size 3 ≡ false → is_set (b % 2) ≡ false → HeadAgain s (plain_head size) 1
  unfolding head_fits head_bytes head_reserved
  plain_again some sizes e = record {
    fits = rw size_ok;
    size = sizes;
    next = refl;
    same = rewrites_append s 0 ((248 + (size - 1) * 2 + 0) ∷ []) [] first true (first_same some false e)
        (rewrites_same s 1 [] (stands_none s 1 some));
  }

  -- a head with the flag or without it
  gives_either : 0 < length s → eqb size 3 ≡ false → (t : Bool) → is_set (b % 2) ≡ t
      → Gives ((if t then head_with_ptl size else give (plain_head size)) s 1) (HeadAgain s)
  gives_either some sizes true e = gives_with sizes e
  gives_either some sizes false e = gives_value (plain_head size) 1 (plain_again some sizes e)

  -- what is read after byte 0
  gives_rest : 0 < length s → (t : Bool) → eqb (b / 2 % 4) 2 ≡ t
      → Gives (bind (refuse_if t 3 s 1) (λ _ q. (if is_set (b % 2) then head_with_ptl size else give (plain_head size)) s q)) (HeadAgain s)
  gives_rest some true e = gives_refused 3
  gives_rest some false e =
      let n = eqb-false (b / 2 % 4) 2 e in
      gives_either some (ne_eqb size 3 (λ o. n (omega arith))) (is_set (b % 2)) refl

-- a head that is read, written again
pub head_again : (s : List ℕ) → AllBytes s → Gives (vvc_head s 0) (HeadAgain s)
unfolding vvc_head
head_again s all = gives_number s 1 0 _ (λ h. rw (be_one s 0) (gives_rest s all h (eqb (get_or s 0 0 / 2 % 4) 2) refl))
