-- `still::find_still` finds the payload of an item's one unit, if the unit is a still.
use Prim.Native.Nat.{ℕ, ◌≤◌}
use mathlib.Core.Path.{◌≡◌, sym, ap, ◌∙◌}
use mathlib.Core.List.{[]}
use native.Mathlib.Omega.{arith}
use Rattle.std.specs.Prelude.{Ok}
use Rattle.parse.specs.Outcome.{accept}
use Rattle.parse.specs.inner.Walk.{more}
use Rattle.boxes.proofs.PrefixSizes.{size_inside}
use Rattle.split.specs.Item.{item_units}
use Rattle.split.specs.inner.Walk.{item_units_from}
use Rattle.split.proofs.Items.{Turn, found_unit_lem, found_none, items_outside, items_left, left_end}
use Rattle.compact.specs.ItemData.{only_still}
use Rattle.item_data.proofs.Stills.{none_still, more_after}
use Rattle.item_data.proofs.still.find_still.Goals as goal

pub returns-then-outside : goal.returns-then-outside
returns-then-outside c =
    let a = c.args in
    (ap (only_still a.item.now) (sym (items_outside a.length_size a.item.now (sym c.outside.ensures ∙ c.if-outside.true))), tt)

pub returns-in_default : goal.returns-in_default
returns-in_default c =
    let sized : (1 ≤ c.from.result) × (c.from.result ≤ 4) =
    rw c.from.ensures (size_inside _ (sym c.outside.ensures ∙ c.if-outside.false)) in
    let left_at : item_units_from c.from.result c.args.item.now 0
    ≡ item_units c.args.length_size c.args.item.now =
    let z = sized in
    sym (items_left c.from.result c.args.item.now z.0 z.1)
    ∙ ap (λ (n : ℕ). item_units n c.args.item.now) c.from.ensures in
    let a = c.args in (
      none_still a.item.now (item_units_from c.from.result a.item.now 0) (found_none _ _ _ c.item_step.result c.item_step.ensures (λ m g. grind arith))
          ∙ ap (only_still a.item.now) (left_at),
      tt,
    )

pub returns-in_default-2 : goal.returns-in_default-2
returns-in_default-2 c =
    let sized : (1 ≤ c.from.result) × (c.from.result ≤ 4) =
    rw c.from.ensures (size_inside _ (sym c.outside.ensures ∙ c.if-outside.false)) in
    let left_at : item_units_from c.from.result c.args.item.now 0
    ≡ item_units c.args.length_size c.args.item.now =
    let z = sized in
    sym (items_left c.from.result c.args.item.now z.0 z.1)
    ∙ ap (λ (n : ℕ). item_units n c.args.item.now) c.from.ensures in
    let a = c.args in (
      none_still a.item.now (item_units_from c.from.result a.item.now 0) (found_none _ _ _ c.item_step.result c.item_step.ensures (λ m g. grind arith))
          ∙ ap (only_still a.item.now) (left_at),
      tt,
    )

pub returns-then-first-item : goal.returns-then-first-item
returns-then-first-item c =
    let unit_at : Turn c.from.result c.args.item.now 0 c.in-Ok-Some.first.unit c.in-Ok-Some.first.next =
    found_unit_lem _ _ _ _ c.item_step.ensures _ (c.in-Ok-Some.is ∙ ap Ok c.in-Ok-Some.field-0-is) in
    let sized : (1 ≤ c.from.result) × (c.from.result ≤ 4) =
    rw c.from.ensures (size_inside _ (sym c.outside.ensures ∙ c.if-outside.false)) in
    let left_at : item_units_from c.from.result c.args.item.now 0
    ≡ item_units c.args.length_size c.args.item.now =
    let z = sized in
    sym (items_left c.from.result c.args.item.now z.0 z.1)
    ∙ ap (λ (n : ℕ). item_units n c.args.item.now) c.from.ensures in
    let a = c.args in
    let u = unit_at in
    (more_after a.item.now c.from.result _ _ (omega arith) ∙ ap (only_still a.item.now) (sym u.rest ∙ left_at), tt)

pub still_of-requires : goal.still_of-requires
still_of-requires c =
    let unit_at : Turn c.from.result c.args.item.now 0 c.in-Ok-Some.first.unit c.in-Ok-Some.first.next =
    found_unit_lem _ _ _ _ c.item_step.ensures _ (c.in-Ok-Some.is ∙ ap Ok c.in-Ok-Some.field-0-is) in
    let u = unit_at in omega arith

pub returns : goal.returns
returns c =
    let unit_at : Turn c.from.result c.args.item.now 0 c.in-Ok-Some.first.unit c.in-Ok-Some.first.next =
    found_unit_lem _ _ _ _ c.item_step.ensures _ (c.in-Ok-Some.is ∙ ap Ok c.in-Ok-Some.field-0-is) in
    let sized : (1 ≤ c.from.result) × (c.from.result ≤ 4) =
    rw c.from.ensures (size_inside _ (sym c.outside.ensures ∙ c.if-outside.false)) in
    let left_at : item_units_from c.from.result c.args.item.now 0
    ≡ item_units c.args.length_size c.args.item.now =
    let z = sized in
    sym (items_left c.from.result c.args.item.now z.0 z.1)
    ∙ ap (λ (n : ℕ). item_units n c.args.item.now) c.from.ensures in
    let a = c.args in
    let u = unit_at in
    let e : item_units_from c.from.result a.item.now c.in-Ok-Some.first.next ≡ accept [] = left_end _ _ _ (omega arith) in (
      c.still_of.ensures.0
          ∙ ap (only_still a.item.now) (ap (more c.in-Ok-Some.first.unit) (sym e) ∙ sym u.rest ∙ left_at),
      c.still_of.ensures.1,
    )
