-- `entries::fitting` counts the units of a list, and refuses more than the directory has room for.
use mathlib.Core.Path.{sym, ap, ◌∙◌}
use native.Mathlib.Omega.{arith}
use Rattle.parse.specs.Answers.{answer_of}
use Rattle.directory.specs.Directory.{list_entries}
use Rattle.directory_fill.proofs.Fitting.{count_entries, fitting_short, fitting_room}
use Rattle.directory_fill.proofs.entries.fitting.Goals as goal

pub returns-then-room-n : goal.returns-then-room-n
returns-then-room-n c =
    let a = c.args in
    fitting_short (list_entries a.list.now) a.room c.in_ok-n.n
    (count_entries a.list.now ∙ sym c.nal_count.ensures ∙ ap answer_of c.in_ok-n.was) (omega arith)

pub returns : goal.returns
returns c =
    let a = c.args in
    fitting_room (list_entries a.list.now) a.room c.in_ok-n.n
    (count_entries a.list.now ∙ sym c.nal_count.ensures ∙ ap answer_of c.in_ok-n.was) (omega arith)
