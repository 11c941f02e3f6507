-- The steps after expansion: the refusals of full write and restore, and the stream if both accept.
use Prim.Native.Nat.{ℕ, ◌^◌, ◌≤◌, ◌<◌}
use native.Mathlib.Omega.{arith}
use native.Mathlib.Decide.{dec_le}
use mathlib.Core.Path.{◌≡◌, refl, sym, ap, ◌∙◌}
use mathlib.Core.Bool.{true, false}
use Rattle.std.specs.Prelude.{Option}
use mathlib.Core.List.{List, [], ◌∷◌}
use lib.ListN.{length}
use borrow.Author.Tests.{le-leb, lt-leb, eq-eqb}
use Rattle.parse.specs.Outcome.{Outcome, accept, refuse, and_then}
use Rattle.parse.proofs.Lent.{lent_within}
use Rattle.boxes.specs.Bytes.{to_chunk}
use Rattle.boxes.specs.Walk.{count_found}
use Rattle.boxes.specs.declared.Span.{Span}
use Rattle.split.specs.Item.{split_item}
use Rattle.split.proofs.Items.{split_lent}
use Rattle.split.proofs.ItemRoundTrip.{split_one, held_one}
use Rattle.compact.specs.ItemData.{still_unit, restore}
use Rattle.compact.specs.declared.CompactVvcConfig.{CompactVvcConfig}
use Rattle.item_len.proofs.Restored.{restore_unit, prefixed_long, prefixed_given}
use Rattle.full.specs.Write.{serialize_full}
use Rattle.full.specs.declared.VvcConfig.{VvcConfig}
use Rattle.access_unit.specs.AccessUnit.{access_unit, assemble}
use Rattle.access_unit.specs.declared.StartCodes.{StartCodes}
use Rattle.access_unit.proofs.OneUnit.{one_assembled}
use Rattle.still.specs.inner.Steps.{item_unless_refused, plain_stream, stream_expanded}
use Rattle.still.proofs.Lists.{Ready}

-- full write refuses a prefix size of 3
module _ (c : CompactVvcConfig) (list S : List ℕ) where
  pub size_refused : c.length_size ≡ 3 → refuse 3 ≡ count_found (item_unless_refused c list S)
  size_refused e = rw (eq-eqb c.length_size 3 e)

-- the item of stored bytes where the flag is clear: one unit, 00 41 and the bytes
abbrev chunk : CompactVvcConfig → List ℕ → List ℕ
chunk c S = to_chunk c.length_size (still_unit S)

-- what both steps give, under any choice of start codes
module _ (c : CompactVvcConfig) (h : VvcConfig) (list S : List ℕ) (tols : Option ℕ) (ready : Ready c h list) where
  abbrev after : StartCodes → Outcome (List ℕ) → Outcome (List ℕ) → Outcome (List ℕ)
  after codes o x = and_then o (λ _. and_then x (λ item. assemble codes h list item tols))

  module _ (m : ℕ) (e : accept m ≡ count_found (item_unless_refused c list S)) where
    -- both steps are accepted: the item, and its stream
    record Made : Type 0 where
      item : List ℕ
      long : m ≡ length item
      restored : restore c S ≡ accept item
      made : (codes : StartCodes) → stream_expanded codes c h list S tols ≡ assemble codes h list item tols

    steps_made : Made
    steps_made = go (serialize_full h list) refl (restore c S) refl (e ∙ ap count_found (sym (ready.items S)))
      where
        go : (o : Outcome (List ℕ)) → serialize_full h list ≡ o → (x : Outcome (List ℕ)) → restore c S ≡ x
            → accept m ≡ count_found (and_then o (λ _. x)) → Made
        go (refuse n) f x g e = let z : ◌≡◌ {A = ℕ} 0 1 = cc in absurd (omega arith)
        go (accept b) f (refuse n) g e = let z : ◌≡◌ {A = ℕ} 0 1 = cc in absurd (omega arith)
        go (accept b) f (accept i) g e = record {
          item = i;
          long = cc;
          restored = g;
          made = λ codes.
              ready.steps codes S tols ∙ ap (λ (o : Outcome (List ℕ)). after codes o (restore c S)) f ∙ ap (after codes (accept b)) g;
        }

    -- with the flag clear
    module _ (l : length S ≤ 2 ^ 30) (clear : c.multi_layer_flag ≡ false) where
      abbrev size : ℕ
      size = c.length_size

      -- the item, whose unit fits its prefix
      record One : Type 0 where
        fits : length (still_unit S) < 256 ^ size
        long : m ≡ length (chunk c S)
        made : (codes : StartCodes) → stream_expanded codes c h list S tols ≡ assemble codes h list (chunk c S) tols

      one : One
      one =
          let d = steps_made in
          let r = sym (restore_unit c S l clear) ∙ d.restored in
          elim (dec_le (256 ^ size) (length (still_unit S))) [
            | yes k ↦
                let x = prefixed_long size (still_unit S) ready.plain.low ready.plain.high k in
                let z : ◌≡◌ {A = ℕ} 0 1 = cc in
                absurd (omega arith)
            | no k ↦
                let y : length (still_unit S) < 256 ^ size = omega arith in
                let x = prefixed_given size (still_unit S) ready.plain.low ready.plain.high y in
                let z : d.item ≡ chunk c S = cc in
                record {
                  fits = y;
                  long = d.long ∙ ap length z;
                  made = λ codes. d.made codes ∙ ap (λ (i : List ℕ). assemble codes h list i tols) z;
                }
          ]

      -- its length is the one that was measured
      pub plain_item : m ≡ length (to_chunk c.length_size (still_unit S))
      plain_item = one.long

-- the stream under a choice
module _ (codes : StartCodes) (c : CompactVvcConfig) (h : VvcConfig) (list S : List ℕ) (tols : Option ℕ) (ready : Ready c h list) where
  pub stream_refused : (n : ℕ) → refuse n ≡ count_found (item_unless_refused c list S) → stream_expanded codes c h list S tols ≡ refuse n
  stream_refused n e = ready.steps codes S tols ∙ go (serialize_full h list) (restore c S) (e ∙ ap count_found (sym (ready.items S)))
    where
      go : (o x : Outcome (List ℕ)) → refuse n ≡ count_found (and_then o (λ _. x)) → after c h list S tols ready codes o x ≡ refuse n
      go (refuse m) x e = let z : m ≡ n = cc in ap refuse z
      go (accept b) (refuse m) e = let z : m ≡ n = cc in ap refuse z
      go (accept b) (accept i) e = let z : ◌≡◌ {A = ℕ} 0 1 = cc in absurd (omega arith)

  module _ (m : ℕ) (e : accept m ≡ count_found (item_unless_refused c list S)) where
    -- with the flag set the stored bytes are the item
    pub stream_layers : length S ≤ 2 ^ 30 → c.multi_layer_flag ≡ true → stream_expanded codes c h list S tols ≡ assemble codes h list S tols
    unfolding restore
    stream_layers l f =
        let k = steps_made c h list S tols ready m e in
        let r : accept S ≡ accept k.item = sym (lent_within S _ l ∙ rw f) ∙ k.restored in
        let z : S ≡ k.item = cc in
        k.made codes ∙ ap (λ (i : List ℕ). assemble codes h list i tols) (sym z)

    -- with the flag clear it is one unit
    module _ (l : length S ≤ 2 ^ 30) (clear : c.multi_layer_flag ≡ false) where
      abbrev width : ℕ
      width = c.length_size

      too_long : 2 ^ 30 < length (chunk c S) → assemble codes h list (chunk c S) tols ≡ plain_stream codes width list S
      unfolding assemble access_unit
      too_long k = rw (lt-leb (length (chunk c S)) (2 ^ 30) k)

      lent : length (chunk c S) ≤ 2 ^ 30 → assemble codes h list (chunk c S) tols ≡ plain_stream codes width list S
      lent k =
          let f = (one c h list S tols ready m e l clear).fits in
          let a : Span = record { start = width; len = length (still_unit S) } in
          let split : split_item h.length_size (chunk c S) ≡ accept (a ∷ []) =
          rw ready.size
          (split_lent width (chunk c S) k ∙ split_one width (still_unit S) ready.plain.low ready.plain.high (omega arith) f) in
          let holds = held_one width (still_unit S) ready.plain.low ready.plain.high (omega arith) f in
          one_assembled h list (chunk c S) tols ready.plain.units a (still_unit S) ready.plain.listed split holds
          (λ x. omega arith) (λ x. omega arith) codes
          ∙ rw (le-leb (length (chunk c S)) (2 ^ 30) k, ready.plain.listed)

      pub stream_plain : stream_expanded codes c h list S tols ≡ plain_stream codes width list S
      stream_plain =
          (one c h list S tols ready m e l clear).made codes
          ∙ elim (dec_le (length (chunk c S)) (2 ^ 30)) [ yes k ↦ lent k | no k ↦ too_long (omega arith) ]
