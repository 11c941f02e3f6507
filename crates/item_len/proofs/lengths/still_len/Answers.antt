-- `lengths::still_len` returns the length of the unit with its prefix, or the first refusal.
use Prim.Native.Nat.{◌^◌, ◌≤◌}
use mathlib.Core.Path.{◌≡◌, sym, ◌∙◌}
use native.Mathlib.Omega.{arith}
use Rattle.boxes.proofs.PrefixSizes.{size_inside}
use Rattle.compact.specs.ItemData.{still_unit}
use Rattle.item_len.proofs.Restored.{prefixed_length}
use Rattle.item_len.proofs.lengths.still_len.Goals as goal

pub returns : goal.returns
returns c =
    let sized : (1 ≤ c.args.length_size) × (c.args.length_size ≤ 4) =
    size_inside _ (sym c.outside.ensures ∙ c.if-outside.false) in
    let limit_at : c.prefix_limit.result ≡ 256 ^ c.args.length_size =
    c.prefix_limit.ensures ∙ rw c.from-size.ensures in
    let a = c.args in
    let z = sized in
    let l = limit_at in
    sym (prefixed_length a.length_size (still_unit a.stored.now) z.0 z.1 (omega (arith, l)) _
    (omega (arith, c.from-size.ensures)))
