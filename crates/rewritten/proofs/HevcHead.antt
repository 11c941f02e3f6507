-- The head of an HEVC record that was read, written again: each byte is the one that was read, with the reserved bits of the standard.
use Prim.Native.Nat.{ℕ, zero, suc, ◌+◌, ◌-◌, ◌*◌, ◌/◌, ◌%◌, ◌^◌, ◌≤◌, ◌<◌}
use mathlib.Core.Path.{◌≡◌, refl, sym, ap, ◌∙◌}
use mathlib.Core.Bool.{Bool, true, false}
use mathlib.Core.List.{List, [], ◌∷◌, ◌++◌}
use native.Mathlib.Omega.{arith}
use native.Mathlib.Decide.{dec_le}
use lib.Dec.{eqb}
use lib.ListN.{length, get_or, length-append, get_or-append}
use lib.Seq.{get_or-append-add}
use borrow.Author.Tests.{le-leb, lt-ltb, eq-eqb, ne_eqb, eqb-true, eqb-false}
use Rattle.std.specs.Prelude.{if◌then◌else◌}
use Rattle.parse.specs.Logic.{bit}
use Rattle.parse.proofs.General.{both_true, bit_flag}
use Rattle.parse.proofs.Gives.{Gives, gives_value, gives_refused}
use Rattle.boxes.specs.Bytes.{be, to_be, AllBytes}
use Rattle.boxes.proofs.Numbers.{be_below}
use Rattle.boxes.proofs.PrefixSizes.{not_outside}
use Rattle.hvcc.specs.Read.{hevc_head}
use Rattle.hvcc.specs.Write.{hevc_head_bytes, hevc_head_fits}
use Rattle.hvcc.specs.RoundTrip.{Typed}
use Rattle.hvcc.specs.inner.Fields.{head_fields}
use Rattle.hvcc.specs.declared.HevcConfig.{HevcConfig}
use Rattle.hvcc.proofs.HeadRead.{head_none, head_other, head_short, head_there}
use Rattle.rewritten.specs.Hevc.{standard_byte, head_standard}

-- ---- the reserved bits

-- a choice by the place of a byte, where both alternatives are this number
at_place : (i j x y n : ℕ) → (i ≡ j → x ≡ n) → y ≡ n → (if eqb i j then x else y) ≡ n
at_place i j x y n f e = go (eqb i j) refl
  where
    go : (t : Bool) → eqb i j ≡ t → (if t then x else y) ≡ n
    go true k = f (eqb-true i j k)
    go false k = e

-- a byte without reserved bits
pub standard_free : (i b : ℕ) → (13 ≤ i → i ≤ 18 → ⊥) → standard_byte i b ≡ b
unfolding standard_byte
standard_free i b h = rw (
  ne_eqb i 13 (λ z. h (omega arith) (omega arith)),
  ne_eqb i 15 (λ z. h (omega arith) (omega arith)),
  ne_eqb i 16 (λ z. h (omega arith) (omega arith)),
  ne_eqb i 17 (λ z. h (omega arith) (omega arith)),
  ne_eqb i 18 (λ z. h (omega arith) (omega arith)),
)

module _ (s : List ℕ) (all : AllBytes s) where
  -- the reserved bits of the five bytes that have some are ones
  record Kept : Type 0 where
    segmentation : get_or s 13 0 / 16 ≡ 15
    parallelism : get_or s 15 0 / 4 ≡ 63
    chroma : get_or s 16 0 / 4 ≡ 63
    luma : get_or s 17 0 / 8 ≡ 31
    depth : get_or s 18 0 / 8 ≡ 31

  kept : head_standard s ≡ true → Kept
  unfolding head_standard
  kept e =
      let a = both_true _ _ e in
      let b = both_true _ _ a.1 in
      let c = both_true _ _ b.1 in
      let d = both_true _ _ c.1 in
      record {
        segmentation = eqb-true _ 15 a.0;
        parallelism = eqb-true _ 63 b.0;
        chroma = eqb-true _ 63 c.0;
        luma = eqb-true _ 31 d.0;
        depth = eqb-true _ 31 d.1;
      }

  -- the head's reserved bits are the standard's exactly when each byte is as the standard has it
  pub standard_kept : head_standard s ≡ true → (i : ℕ) → standard_byte i (get_or s i 0) ≡ get_or s i 0
  unfolding standard_byte
  standard_kept e i =
      let k = kept e in
      at_place i 13 _ _ _ (λ z. rw z (omega (arith, all 13, k.segmentation)))
      (at_place i 15 _ _ _ (λ z. rw z (omega (arith, all 15, k.parallelism)))
      (at_place i 16 _ _ _ (λ z. rw z (omega (arith, all 16, k.chroma)))
      (at_place i 17 _ _ _ (λ z. rw z (omega (arith, all 17, k.luma)))
      (at_place i 18 _ _ _ (λ z. rw z (omega (arith, all 18, k.depth))) refl))))

  pub standard_only : ((i : ℕ) → i < 22 → standard_byte i (get_or s i 0) ≡ get_or s i 0) → head_standard s ≡ true
  unfolding head_standard standard_byte
  standard_only f =
      let a = f 13 (omega arith) in
      let b = f 15 (omega arith) in
      let c = f 16 (omega arith) in
      let d = f 17 (omega arith) in
      let g = f 18 (omega arith) in
      rw (
        eq-eqb (get_or s 13 0 / 16) 15 (omega (arith, all 13)),
        eq-eqb (get_or s 15 0 / 4) 63 (omega (arith, all 15)),
        eq-eqb (get_or s 16 0 / 4) 63 (omega (arith, all 16)),
        eq-eqb (get_or s 17 0 / 8) 31 (omega (arith, all 17)),
        eq-eqb (get_or s 18 0 / 8) 31 (omega (arith, all 18)),
      )

  -- ---- the bytes of a head

  -- byte i as the standard has it
  abbrev standard : ℕ → ℕ
  standard i = standard_byte i (get_or s i 0)

  -- xs are those bytes from place p up to q
  record Lies (p q : ℕ) (xs : List ℕ) : Type 0 where
    long : p + length xs ≡ q
    same : (k : ℕ) → k < length xs → get_or xs k 0 ≡ standard (p + k)

  lies_join : {p q r : ℕ} {xs ys : List ℕ} → Lies p q xs → Lies q r ys → Lies p r (xs ++ ys)
  lies_join {p} {q} {r} {xs} {ys} f g = record { long = omega (arith, length-append xs ys, f.long, g.long); same = at }
    where
      at : (k : ℕ) → k < length (xs ++ ys) → get_or (xs ++ ys) k 0 ≡ standard (p + k)
      at k h =
          let l = length-append xs ys in
          let m = f.long in
          elim (dec_le (length xs) k) [
            | no n ↦ get_or-append xs ys 0 k (omega arith) ∙ f.same k (omega arith)
            | yes n ↦
                (let j : k ≡ length xs + (k - length xs) = omega arith in
                let e : q + (k - length xs) ≡ p + k = omega arith in
                ap (λ (i : ℕ). get_or (xs ++ ys) i 0) j
                ∙ get_or-append-add xs ys (k - length xs) 0
                ∙ g.same (k - length xs) (omega arith)
                ∙ ap standard e)
          ]

  lies_byte : (p x : ℕ) → x ≡ standard p → Lies p (p + 1) (x ∷ [])
  lies_byte p x e = record { long = omega arith; same = at }
    where
      at : (k : ℕ) → k < 1 → get_or (x ∷ []) k 0 ≡ standard (p + k)
      at zero h = e ∙ ap standard (omega arith)
      at (suc k) h = absurd (omega arith)

  -- a number whose bytes have no reserved bits
  lies_number : (w p : ℕ) → ((k : ℕ) → k < w → standard (p + k) ≡ get_or s (p + k) 0) → Lies p (p + w) (to_be w (be s p w))
  unfolding be to_be
  lies_number zero p f = record { long = omega arith; same = λ k h. absurd (omega arith) }
  lies_number (suc w) p f =
      let b = all (p + w) in
      let high : (be s p w * 256 + get_or s (p + w) 0) / 256 ≡ be s p w = omega arith in
      let low : (be s p w * 256 + get_or s (p + w) 0) % 256 ≡ get_or s (p + w) 0 = omega arith in
      let e : p + w + 1 ≡ p + suc w = omega arith in
      rw (high, low)
      (lies_join (lies_number w p (λ k h. f k (omega arith)))
      (rw e at (lies_byte (p + w) (get_or s (p + w) 0) (sym (f w (omega arith))))))

  -- min_spatial_segmentation_idc, with the bits before it
  lies_segmentation : Lies 13 15 (to_be 2 (61440 + be s 13 2 % 4096))
  unfolding be to_be standard_byte
  lies_segmentation =
      let a = all 13 in let b = all 14 in
      lies_join
      (lies_byte 13 ((61440 + ((0 + get_or s 13 0) * 256 + get_or s 14 0) % 4096) / 256 % 256) (omega arith))
      (lies_byte 14 ((61440 + ((0 + get_or s 13 0) * 256 + get_or s 14 0) % 4096) % 256) (omega arith))

  -- the bytes that hold a flag
  profile_again : get_or s 1 0 / 64 * 64 + bit (eqb (get_or s 1 0 / 32 % 2) 1) * 32 + get_or s 1 0 % 32 ≡ get_or s 1 0
  profile_again = let b = bit_flag (get_or s 1 0 / 32 % 2) (omega arith) in omega arith

  layers_again : get_or s 21 0 / 64 * 64 + get_or s 21 0 / 8 % 8 * 8 + bit (eqb (get_or s 21 0 / 4 % 2) 1) * 4 + (get_or s 21 0 % 4 + 1 - 1) ≡ get_or s 21 0
  layers_again = let b = bit_flag (get_or s 21 0 / 4 % 2) (omega arith) in omega arith

  bytes_again : get_or s 0 0 ≡ 1 → Lies 0 22 (hevc_head_bytes (head_fields s))
  unfolding hevc_head_bytes standard_byte
  bytes_again first =
      lies_join (lies_join (lies_join (lies_join (lies_join (lies_join (lies_join (lies_join (lies_join (lies_join (lies_join
      (lies_byte 0 1 (sym first))
      (lies_byte 1 _ profile_again))
      (lies_number 4 2 (λ k h. standard_free (2 + k) _ (λ a b. omega arith))))
      (lies_number 6 6 (λ k h. standard_free (6 + k) _ (λ a b. omega arith))))
      (lies_byte 12 (get_or s 12 0) refl))
      lies_segmentation)
      (lies_byte 15 (252 + get_or s 15 0 % 4) refl))
      (lies_byte 16 (252 + get_or s 16 0 % 4) refl))
      (lies_byte 17 (248 + get_or s 17 0 % 8) refl))
      (lies_byte 18 (248 + get_or s 18 0 % 8) refl))
      (lies_number 2 19 (λ k h. standard_free (19 + k) _ (λ a b. omega arith))))
      (lies_byte 21 _ layers_again)

  -- ---- the values

  fits_again : hevc_head_fits (head_fields s) ≡ true
  unfolding hevc_head_fits
  fits_again =
      let a = all 1 in let b = all 21 in
      rw (
        le-leb (get_or s 1 0 / 64) 3 (omega arith),
        le-leb (get_or s 1 0 % 32) 31 (omega arith),
        lt-ltb (be s 6 6) (2 ^ 48) (omega (arith, be_below s 6 6 all)),
        le-leb (be s 13 2 % 4096) 4095 (omega arith),
        le-leb (get_or s 15 0 % 4) 3 (omega arith),
        le-leb (get_or s 16 0 % 4) 3 (omega arith),
        le-leb (get_or s 17 0 % 8) 7 (omega arith),
        le-leb (get_or s 18 0 % 8) 7 (omega arith),
        le-leb (get_or s 21 0 / 64) 3 (omega arith),
        le-leb (get_or s 21 0 / 8 % 8) 7 (omega arith),
        not_outside (get_or s 21 0 % 4 + 1) (omega arith) (omega arith),
      )

  typed_again : Typed (head_fields s)
  typed_again = record {
    compatibility = omega (arith, be_below s 2 4 all);
    level = all 12;
    rate = omega (arith, be_below s 19 2 all);
  }

-- a head h that was read of s, up to q: it fits, and each of its bytes is the one that was read, as the standard has it
pub record HeadAgain (s : List ℕ) (h : HevcConfig) (q : ℕ) : Type 0 where
  pub next : q ≡ 22
  pub room : 22 ≤ length s
  pub fits : hevc_head_fits h ≡ true
  pub typed : Typed h
  pub each : (i : ℕ) → i < 22 → get_or (hevc_head_bytes h) i 0 ≡ standard_byte i (get_or s i 0)

-- a head that is read, written again
pub head_again : (s : List ℕ) → AllBytes s → Gives (hevc_head s 0) (HeadAgain s)
head_again s all =
    elim (dec_le 1 (length s)) [
      | no k ↦ rw (head_none s (omega arith)) (gives_refused 1)
      | yes k ↦ version k (eqb (get_or s 0 0) 1) refl
    ]
  where
    version : 1 ≤ length s → (t : Bool) → eqb (get_or s 0 0) 1 ≡ t → Gives (hevc_head s 0) (HeadAgain s)
    version k false e = rw (head_other s k (eqb-false (get_or s 0 0) 1 e)) (gives_refused 27)
    version k true e =
        let first = eqb-true (get_or s 0 0) 1 e in
        elim (dec_le 22 (length s)) [
          | no n ↦ rw (head_short s first k (omega arith)) (gives_refused 1)
          | yes n ↦
              (let l = bytes_again s all first in
              rw (head_there s first n)
              (gives_value (head_fields s) 22 (record {
                next = refl;
                room = n;
                fits = fits_again s all;
                typed = typed_again s all;
                each = λ i h. l.same i (omega (arith, l.long)) ∙ ap (λ (j : ℕ). standard_byte j (get_or s j 0)) (omega arith);
              })))
        ]
