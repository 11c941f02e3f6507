-- The answers to an input, in the order of their tests.
use Prim.Native.Nat.{ℕ, ◌+◌, ◌-◌, ◌≤◌, ◌<◌}
use native.Mathlib.Omega.{arith}
use mathlib.Core.Path.{◌≡◌, sym, ap, ◌∙◌}
use mathlib.Core.List.{List}
use Rattle.std.specs.Prelude.{None}
use lib.ListN.{length, take, drop, length-drop}
use lib.Seq.{take_all, take-length}
use borrow.Author.Tests.{lt-ltb, le-ltb}
use Rattle.parse.specs.Outcome.{refuse}
use Rattle.parse.specs.Parse.{Parsed, value, refused}
use Rattle.boxes.specs.Bytes.{chunk}
use Rattle.boxes.specs.Parts.{held}
use Rattle.boxes.specs.declared.Span.{Span}
use Rattle.boxes.proofs.Fields.{chunk_read}
use Rattle.access_unit.specs.declared.StartCodes.TheVariants.{Four}
use Rattle.still.specs.Stills.{still_stream}
use Rattle.still_input.specs.Input.{input_stream}

module _ (s : List ℕ) where
  pub input_too_long : 65536 < length s → input_stream s ≡ refuse 23
  unfolding input_stream
  input_too_long h = rw (lt-ltb 65536 (length s) h)

  whole : (x : Parsed Span) → x ≡ chunk 2 (take (length s) s) 0 → chunk 2 s 0 ≡ x
  whole x e = sym (e ∙ ap (λ (t : List ℕ). chunk 2 t 0) (take-length s))

  -- the compact record lies in the input
  pub inside : (a : Span) → value a (a.start + a.len) ≡ chunk 2 (take (length s) s) 0 → a.start + a.len ≤ length s
  inside a e = (chunk_read 2 s 0 a (a.start + a.len) (whole (value a (a.start + a.len)) e)).fits

  module _ (short : length s ≤ 65536) where
    pub input_cut : refused 1 ≡ chunk 2 (take (length s) s) 0 → input_stream s ≡ refuse 1
    unfolding input_stream
    input_cut e = rw (le-ltb 65536 (length s) short, whole (refused 1) e)

    pub input_given : (a : Span) (C : List ℕ) → C ≡ held s a → value a (a.start + a.len) ≡ chunk 2 (take (length s) s) 0
        → input_stream s ≡ still_stream Four C (take (length s - (a.start + a.len)) (drop (a.start + a.len) s)) None
    unfolding input_stream
    input_given a C h e =
        let n = a.start + a.len in
        let rest : take (length s - n) (drop n s) ≡ drop n s = take_all (length s - n) (drop n s) (omega (arith, length-drop n s)) in
        rw (le-ltb 65536 (length s) short, whole (value a (a.start + a.len)) e, h, rest)
