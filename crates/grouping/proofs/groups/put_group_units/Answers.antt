-- `put_group_units` stores the units of a type. Invariant: those stored and those left are the whole.
use Prim.Native.Nat.{ℕ, ◌+◌, ◌≤◌}
use mathlib.Core.Path.{sym, ap, ◌∙◌}
use mathlib.Core.List.{List}
use native.Mathlib.Omega.{arith}
use lib.ListN.{length}
use lib.Seq.{sets}
use Rattle.boxes.specs.Bytes.{to_chunk}
use Rattle.boxes.specs.Parts.{held}
use Rattle.grouping.proofs.OfType.{stored_room, stored_same, stored_other, stored_end}
use Rattle.grouping.proofs.groups.put_group_units.Goals as goal

pub returns : goal.returns
returns c =
    stored_end _ _ _ _ _ _ _ c.loop-unit.invariant.1 c.in-None.ensures.steps

pub put_unit-requires : goal.put_unit-requires
put_unit-requires c =
    let u = c.in-Some.ensures.steps in
    let room_here : c.loop-unit.to + 4 + c.in-Some.unit.len ≤ length c.loop-unit.out =
    omega (arith, u.long, stored_room _ _ _ _ _ _ _ c.loop-unit.invariant.1 _ _ _ _ u.turn c.requires (sym u.type_is ∙ c.if-found-t.true)) in
    (rw (← c.loop-unit.invariant.0) u.inside, omega arith, room_here)

pub loop-unit-preserved-then-found-t : goal.loop-unit-preserved-then-found-t
loop-unit-preserved-then-found-t c =
    let u = c.in-Some.ensures.steps in
    let i = c.loop-unit.invariant in (
      u.same ∙ i.0,
      stored_same _ _ _ _ _ _ _ i.1 _ _ _ _ u.turn (sym u.type_is ∙ c.if-found-t.true) _ u.long _
          (c.put_unit.ensures ∙ ap (λ (s : List ℕ). sets c.loop-unit.out c.loop-unit.to (to_chunk 4 (held s c.in-Some.unit))) (sym i.0)),
    )

pub loop-unit-preserved : goal.loop-unit-preserved
loop-unit-preserved c =
    let u = c.in-Some.ensures.steps in
    let i = c.loop-unit.invariant in
    (u.same ∙ i.0, stored_other _ _ _ _ _ _ _ i.1 _ _ _ _ u.turn (λ e. c.if-found-t.false (u.type_is ∙ e)))
