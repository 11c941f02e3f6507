-- Laws of an item that is measured and then stored: its length, its parts, and its bytes in the output.
use Prim.Native.Nat.{ℕ, ◌^◌, ◌≤◌}
use mathlib.Core.Path.{◌≡◌, refl, sym, ap, ◌∙◌}
use mathlib.Core.Bool.{Bool, true, false}
use mathlib.Core.List.{List}
use native.Mathlib.Omega.{arith}
use native.Mathlib.Decide.{dec_le}
use lib.Dec.{leb}
use lib.ListN.{length}
use lib.Seq.{sets}
use Rattle.std.specs.Prelude.{if◌then◌else◌}
use Rattle.parse.specs.Outcome.{Outcome, accept, refuse}
use Rattle.boxes.specs.Bytes.{to_chunk, outside}
use Rattle.boxes.specs.Walk.{count_found}
use Rattle.boxes.proofs.PrefixSizes.{size_inside}
use Rattle.compact.specs.ItemData.{still_unit, restore}
use Rattle.compact.specs.declared.CompactVvcConfig.{CompactVvcConfig}
use Rattle.item_data.specs.inner.Still.{restored_bytes, Restores}
use Rattle.item_len.proofs.Restored.{restore_too_long, restore_copy, restore_unit}

-- bytes whose length was measured as n
pub record MeasuredAs (o : Outcome (List ℕ)) (n : ℕ) : Type 0 where
  pub bytes : List ℕ
  pub given : o ≡ accept bytes
  pub long : n ≡ length bytes

pub measured_as : (o : Outcome (List ℕ)) (n : ℕ) → accept n ≡ count_found o → MeasuredAs o n
measured_as (accept bytes) n e = record { bytes = bytes; given = refl; long = cc }
measured_as (refuse m) n e = absurd (let z : ◌≡◌ {A = ℕ} 0 1 = cc in omega arith)

-- stored bytes that restore: the item, and the output that has room for it
module _ (c : CompactVvcConfig) (s out : List ℕ) (r : Restores c s out) where
  pub restores_lent : length s ≤ 2 ^ 30
  restores_lent =
      elim (dec_le (length s) (2 ^ 30)) [
        | yes h ↦ h
        | no h ↦ absurd (let f = restore_too_long c s (omega arith) in let g = r.found in let z : ◌≡◌ {A = ℕ} 0 1 = cc in omega arith)
      ]

  module _ (set : c.multi_layer_flag ≡ true) where
    pub restores_copy : r.item ≡ s
    restores_copy = let f = restore_copy c s restores_lent set in let g = r.found in let x : accept r.item ≡ accept s = sym g ∙ f in cc

    pub stored_copy : (d : List ℕ) → d ≡ sets out 0 s → d ≡ sets out 0 (restored_bytes (restore c s))
    stored_copy d e = e ∙ ap (λ (o : Outcome (List ℕ)). sets out 0 (restored_bytes o)) (sym (restore_copy c s restores_lent set))

  module _ (clear : c.multi_layer_flag ≡ false) where
    -- one unit after its length
    pub restores_unit : (c.length_size ≤ 4) × (r.item ≡ to_chunk c.length_size (still_unit s))
    restores_unit = go (outside c.length_size) (leb (256 ^ c.length_size) (length (still_unit s))) refl
        (sym (restore_unit c s restores_lent clear) ∙ r.found)
      where
        go : (a b : Bool) → outside c.length_size ≡ a
            → (if a then refuse 4 else if b then refuse 6 else accept (to_chunk c.length_size (still_unit s))) ≡ accept r.item
            → (c.length_size ≤ 4) × (r.item ≡ to_chunk c.length_size (still_unit s))
        go true b f e = absurd (let z : ◌≡◌ {A = ℕ} 0 1 = cc in omega arith)
        go false true f e = absurd (let z : ◌≡◌ {A = ℕ} 0 1 = cc in omega arith)
        go false false f e = ((size_inside c.length_size f).1, cc)

    pub stored_unit : (d : List ℕ) (size : ℕ) → size ≡ c.length_size → d ≡ sets out 0 (to_chunk size (still_unit s))
        → d ≡ sets out 0 (restored_bytes (restore c s))
    stored_unit d size e f =
        f ∙ ap (λ (n : ℕ). sets out 0 (to_chunk n (still_unit s))) e ∙ ap (sets out 0) (sym restores_unit.1)
        ∙ ap (λ (o : Outcome (List ℕ)). sets out 0 (restored_bytes o)) (sym r.found)
