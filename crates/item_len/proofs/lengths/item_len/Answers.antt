-- `lengths::item_len` returns the length of the item: 23, that of a copy, or that of the unit with its prefix.
use mathlib.Core.Path.{sym, ap, ◌∙◌}
use native.Mathlib.Omega.{arith}
use Rattle.boxes.specs.Walk.{count_found}
use Rattle.item_len.proofs.Restored.{restore_too_long, restore_copy, restore_unit}
use Rattle.item_len.proofs.lengths.item_len.Goals as goal

pub returns-then-stored-gt-LARGEST_INPUT : goal.returns-then-stored-gt-LARGEST_INPUT
returns-then-stored-gt-LARGEST_INPUT c =
    let a = c.args in ap count_found (sym (restore_too_long a.config a.stored.now (omega arith)))

pub returns-then-config : goal.returns-then-config
returns-then-config c =
    let a = c.args in
    ap count_found (sym (restore_copy a.config a.stored.now (omega arith) c.if-config.true))

pub returns : goal.returns
returns c =
    let a = c.args in
    c.still_len.ensures ∙ ap count_found (sym (restore_unit a.config a.stored.now (omega arith) c.if-config.false))
