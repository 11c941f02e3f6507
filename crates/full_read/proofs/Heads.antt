-- The definition of a head by cases: the first byte, the fields under the PTL flag, the fields after the PTL.
use Prim.Native.Nat.{ℕ, ◌+◌, ◌/◌, ◌%◌, ◌≤◌, ◌<◌}
use mathlib.Core.Path.{◌≡◌, refl, sym, ap, ◌∙◌}
use mathlib.Core.List.{List}
use native.Mathlib.Omega.{arith}
use native.Mathlib.Decide.{dec_le}
use lib.ListN.{length, get_or}
use borrow.Author.Tests.{eq-eqb, ne_eqb}
use Rattle.std.specs.Prelude.{Result, Ok, Err}
use Rattle.error.specs.Refusals.{number_of}
use Rattle.error.specs.declared.Refusal.{Refusal}
use Rattle.parse.specs.Parse.{Parsed, value, refused, bind}
use Rattle.parse.specs.inner.Answers.{read_of}
use Rattle.boxes.specs.Bytes.{be, uint}
use Rattle.boxes.proofs.Fields.{uint_there, uint_short}
use Rattle.ptl.specs.declared.VvcPtlRecord.{VvcPtlRecord}
use Rattle.ptl_record.specs.Read.{vvc_ptl_record}
use Rattle.ptl_record.proofs.Reading.{Reach, reach_bind, reach_value, reach_uint, reach_byte}
use Rattle.full.specs.Read.{plain_head, head_with_ptl, vvc_head, head_fields}
use Rattle.full_read.specs.inner.Heads.{sizes_after}

-- after the PTL: three numbers of two bytes
module _ (s : List ℕ) where
  reach_number_to : (p q : ℕ) → p + 2 ≡ q → Reach (length s) (uint 2 s p) (be s p 2) q
  reach_number_to p q e = rw e at (reach_uint s 2 p)

  pub reads_sizes : (size w d : ℕ) (ptl : VvcPtlRecord) (at : ℕ)
      → Reach (length s) (sizes_after size w d ptl s at) (head_fields size w d ptl (be s at 2) (be s (at + 2) 2) (be s (at + 4) 2)) (at + 6)
  unfolding sizes_after
  reads_sizes size w d ptl at =
      reach_bind _ (reach_number_to at (at + 2) refl) (omega arith)
      (λ _. reach_bind _ (reach_number_to (at + 2) (at + 4) (omega arith)) (omega arith)
      (λ _. reach_bind _ (reach_number_to (at + 4) (at + 6) (omega arith)) (omega arith)
      (λ k. reach_value _ _ k)))

-- the fields under the PTL flag, after the first byte
module _ (size : ℕ) (s : List ℕ) where
  no_depth : 3 ≤ length s → length s < 4 → head_with_ptl size s 1 ≡ refused 1
  unfolding head_with_ptl
  no_depth h k = rw (uint_there 2 s 1 h, uint_short 1 s 3 k)

  no_number : length s < 3 → head_with_ptl size s 1 ≡ refused 1
  unfolding head_with_ptl
  no_number h = rw (uint_short 2 s 1 h)

  pub reads_no_ptl : length s < 4 → head_with_ptl size s 1 ≡ refused 1
  reads_no_ptl h =
      elim (dec_le 3 (length s)) [
        | yes k ↦ no_depth k h
        | no k ↦ no_number (omega arith)
      ]

  module _ (there : 4 ≤ length s) where
    after_number : head_with_ptl size s 1 ≡ bind (vvc_ptl_record (be s 1 2 / 16 % 8) s 4) (λ ptl q. sizes_after size (be s 1 2) (be s 3 1) ptl s q)
    unfolding head_with_ptl sizes_after
    after_number = rw (uint_there 2 s 1 (omega arith), uint_there 1 s 3 there)

    -- the PTL is read or refused
    module _ (w : ℕ) (is : w ≡ be s 1 2) (r : Result (VvcPtlRecord × ℕ) Refusal) (f : read_of r ≡ vvc_ptl_record (w / 16 % 8) s 4) where
      known : (x : Result (VvcPtlRecord × ℕ) Refusal) → r ≡ x
          → head_with_ptl size s 1 ≡ bind (read_of x) (λ ptl q. sizes_after size (be s 1 2) (be s 3 1) ptl s q)
      known x e =
          after_number
          ∙ ap (λ (y : Parsed VvcPtlRecord). bind y (λ ptl q. sizes_after size (be s 1 2) (be s 3 1) ptl s q)) (rw (← is) (sym f ∙ ap read_of e))

      pub ptl_read : (ptl : VvcPtlRecord) (q : ℕ) → r ≡ Ok (ptl, q) → head_with_ptl size s 1 ≡ sizes_after size (be s 1 2) (be s 3 1) ptl s q
      ptl_read ptl q e = known (Ok (ptl, q)) e

      pub ptl_refused : (e : Refusal) → r ≡ Err e → head_with_ptl size s 1 ≡ refused (number_of e)
      ptl_refused e h = known (Err e) h

-- the first byte
module _ (s : List ℕ) where
  pub head_none : length s ≡ 0 → vvc_head s 0 ≡ refused 1
  unfolding vvc_head
  head_none h = rw (uint_short 1 s 0 (omega arith))

  module _ (some : 0 < length s) where
    first : uint 1 s 0 ≡ value (get_or s 0 0) 1
    first = (reach_byte s 0).there (omega arith)

    pub head_three : get_or s 0 0 / 2 % 4 ≡ 2 → vvc_head s 0 ≡ refused 3
    unfolding vvc_head
    head_three h = rw (first, eq-eqb (get_or s 0 0 / 2 % 4) 2 h)

    module _ (other : get_or s 0 0 / 2 % 4 ≡ 2 → ⊥) where
      pub head_with_ptl_lem : get_or s 0 0 % 2 ≡ 1 → vvc_head s 0 ≡ head_with_ptl (get_or s 0 0 / 2 % 4 + 1) s 1
      unfolding vvc_head
      head_with_ptl_lem h = rw (first, ne_eqb (get_or s 0 0 / 2 % 4) 2 other, eq-eqb (get_or s 0 0 % 2) 1 h)

      pub head_plain : (get_or s 0 0 % 2 ≡ 1 → ⊥) → vvc_head s 0 ≡ value (plain_head (get_or s 0 0 / 2 % 4 + 1)) 1
      unfolding vvc_head
      head_plain h = rw (first, ne_eqb (get_or s 0 0 / 2 % 4) 2 other, ne_eqb (get_or s 0 0 % 2) 1 h)
