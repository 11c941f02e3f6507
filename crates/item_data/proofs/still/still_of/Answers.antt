-- `still::still_of` finds the payload of the unit at a span, if its header is that of a still.
use Prim.Native.Nat.{◌+◌, ◌/◌}
use mathlib.Core.Path.{◌≡◌, sym, ◌∙◌}
use native.Mathlib.Omega.{arith}
use lib.Dec.{eqb}
use lib.ListN.{get_or}
use borrow.Author.Tests.{eqb-true, eqb-false}
use Rattle.nal.proofs.UnitKinds.{picture_data_of}
use Rattle.item_data.proofs.Stills.{one_layer, one_type, one_still}
use Rattle.item_data.proofs.still.still_of.Goals as goal

pub returns-then-first-ne0 : goal.returns-then-first-ne0
returns-then-first-ne0 c =
    (one_layer c.args.item.now c.args.a c.requires (omega arith) c.if-first-ne0.true, tt)

pub returns-then-not-is_picture_data_of : goal.returns-then-not-is_picture_data_of
returns-then-not-is_picture_data_of c =
    let tested : let a = c.args in
    c.is_picture_data_of.result ≡ eqb (get_or a.item.now (a.a.start + 1) 0 / 8) 8 =
    c.is_picture_data_of.ensures ∙ picture_data_of 8 _ (omega arith) in (
      one_type c.args.item.now c.args.a c.requires (omega arith)
          (eqb-false _ 8 (sym (tested) ∙ c.if-not-is_picture_data_of.true)),
      tt,
    )

pub returns : goal.returns
returns c =
    let tested : let a = c.args in
    c.is_picture_data_of.result ≡ eqb (get_or a.item.now (a.a.start + 1) 0 / 8) 8 =
    c.is_picture_data_of.ensures ∙ picture_data_of 8 _ (omega arith) in
    let e = c.if-a-lt2.false in
    let t = eqb-true _ 8 (sym (tested) ∙ c.if-not-is_picture_data_of.false) in
    (one_still c.args.item.now c.args.a c.requires (omega arith) c.if-first-ne0.false t c.if-second-ne1.false, omega arith)
