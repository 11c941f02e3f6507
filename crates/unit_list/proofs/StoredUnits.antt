-- Laws of a walk that stores the units it finds, each after its length of w bytes: what is stored and what is left make the whole.
use Prim.Native.Nat.{ℕ, ◌+◌, ◌≤◌}
use mathlib.Core.Path.{◌≡◌, refl, ◌∙◌}
use mathlib.Core.List.{List, [], ◌∷◌, ◌++◌}
use native.Mathlib.Omega.{arith}
use lib.ListN.{length, length-append}
use lib.Seq.{sets}
use Rattle.parse.specs.Outcome.{Outcome, accept, refuse}
use Rattle.parse.specs.inner.Walk.{more}
use Rattle.parse.specs.inner.Stores.{bytes_of}
use Rattle.parse.proofs.Stores.{Putting, putting_never, putting_end, putting_room, putting_again}
use Rattle.boxes.specs.Bytes.{to_chunk}
use Rattle.boxes.specs.Parts.{held}
use Rattle.boxes.specs.declared.Span.{Span}
use Rattle.boxes.proofs.Spans.{held_long}
use Rattle.boxes.proofs.ChunkBytes.{length_to_chunk}
use Rattle.unit_list.specs.UnitList.{encode_units}
use Rattle.unit_list.specs.inner.Written.{unit_bytes}

-- a unit inside s after its length, alone and before others
module _ (w : ℕ) (s : List ℕ) (a : Span) (inside : a.start + a.len ≤ length s) where
  pub unit_room : length (to_chunk w (held s a)) ≡ w + a.len
  unit_room = let l = held_long s a inside in length_to_chunk w (held s a) ∙ rw l

  pub room_more : (us : List Span) → length (unit_bytes w s (a ∷ us)) ≡ w + a.len + length (unit_bytes w s us)
  unfolding encode_units
  room_more us = length-append (to_chunk w (held s a)) (unit_bytes w s us) ∙ rw unit_room

pub units_nil : (w : ℕ) (s : List ℕ) → unit_bytes w s [] ≡ []
unfolding encode_units
units_nil w s = refl

pub units_first : (w : ℕ) (s : List ℕ) (a : Span) (us : List Span) → unit_bytes w s (a ∷ us) ≡ to_chunk w (held s a) ++ unit_bytes w s us
unfolding encode_units
units_first w s a us = refl

-- the walk has come to where o is left, to be stored from place `to` of the output on
abbrev pub Copying : ℕ → List ℕ → List ℕ → ℕ → Outcome (List Span) → Outcome (List Span) → List ℕ → ℕ → Type 0
Copying w s out₀ to₀ o₀ o out to = Putting (unit_bytes w s) out₀ to₀ o₀ o out to

module _ (w : ℕ) (s out₀ : List ℕ) (to₀ : ℕ) (o₀ : Outcome (List Span)) where
  module _ (o : Outcome (List Span)) (out : List ℕ) (to : ℕ) (i : Copying w s out₀ to₀ o₀ o out to) where
    pub copying_never : (n : ℕ) → o ≡ refuse n → ⊥
    copying_never n e = putting_never (unit_bytes w s) out₀ to₀ o₀ o out to i n e

    pub copying_done : o ≡ accept [] → (to ≡ to₀ + length (bytes_of (unit_bytes w s) o₀)) × (out ≡ sets out₀ to₀ (bytes_of (unit_bytes w s) o₀))
    copying_done e = putting_end (unit_bytes w s) out₀ to₀ o₀ o out to i (units_nil w s) e

    pub copying_end : o ≡ accept [] → out ≡ sets out₀ to₀ (bytes_of (unit_bytes w s) o₀)
    copying_end e = (copying_done e).1

    module _ (a : Span) (inside : a.start + a.len ≤ length s) (rest : Outcome (List Span)) (e : o ≡ more a rest) where
      pub copying_room : to + w + a.len ≤ length out
      copying_room =
          let h = putting_room (unit_bytes w s) out₀ to₀ o₀ o out to i a (to_chunk w (held s a)) (units_first w s a) rest e in
          omega (arith, unit_room w s a inside)

      pub copying_again : (d : List ℕ) → d ≡ sets out to (to_chunk w (held s a)) → Copying w s out₀ to₀ o₀ rest d (to + w + a.len)
      copying_again d g =
          putting_again (unit_bytes w s) out₀ to₀ o₀ o out to i a (to_chunk w (held s a)) (units_first w s a) rest e d g (to + w + a.len)
          (omega (arith, unit_room w s a inside))
