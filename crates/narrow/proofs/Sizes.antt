-- A list stored in a version.
use Prim.Native.Nat.{ℕ, ◌≤◌}
use mathlib.Core.Path.{◌≡◌, ap, ◌∙◌}
use mathlib.Core.List.{List}
use lib.ListN.{length, set}
use lib.Seq.{sets}
use Rattle.parse.specs.Outcome.{Outcome, accept, lent_output, counted}
use Rattle.parse.specs.inner.Stores.{bytes_of}
use Rattle.parse.proofs.Output.{written_fits}
use Rattle.unit_list.specs.UnitList.{length_width, decode, held_arrays, encode_arrays, encode_as, in_version}
use Rattle.unit_list.specs.inner.Walk.{arrays_from}
use Rattle.list_arrays.specs.inner.Measures.{arrays_laid}
use Rattle.list_arrays.specs.declared.Layout.TheVariants as Y
use Rattle.list_arrays.specs.declared.LengthWidth.{LengthWidth}
use Rattle.narrow.specs.inner.Sizes.{Laid}
use Rattle.narrow.specs.declared.list.ListLayout.{ListLayout}

-- a list with a layout in version v, in an output
module _ (s : List ℕ) (v : ℕ) (l : ListLayout) (h : Laid s v (decode s) l) (out : List ℕ) where
  abbrev bytes : List ℕ
  bytes = encode_as v (held_arrays s h.arrays)

  pub laid_list : in_version v s ≡ accept bytes
  laid_list = rw h.is

  module _ (k : l.len ≤ length out) (w : LengthWidth) (is : w.bytes ≡ length_width v) (d₁ : List ℕ) (e₁ : d₁ ≡ set out 0 v) where
    pub put_done : (d₂ : List ℕ) → d₂ ≡ sets d₁ 1 (bytes_of (arrays_laid (Y.List w) s) (arrays_from s l.arrays.cursor))
        → ◌≡◌ {A = Outcome ℕ × List ℕ} (accept l.len, d₂) (lent_output (counted (in_version v s)) out)
    put_done d₂ e₂ =
        let b : bytes_of (arrays_laid (Y.List w) s) (arrays_from s l.arrays.cursor) ≡ encode_arrays (length_width v) (held_arrays s h.arrays) =
        rw (h.found, is) in
        written_fits (in_version v s) out bytes laid_list l.len d₂ h.long k
        (e₂ ∙ ap (λ (x : List ℕ). sets d₁ 1 x) b ∙ ap (λ (x : List ℕ). sets x 1 (encode_arrays (length_width v) (held_arrays s h.arrays))) e₁)
