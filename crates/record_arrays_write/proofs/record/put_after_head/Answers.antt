-- `put_after_head` stores what follows the head where the layout is known; a refusal leaves the output unchanged.
use mathlib.Core.Path.{sym, subst}
use mathlib.Core.List.{List}
use Prim.Native.Nat.{ℕ}
use Rattle.unit_list.specs.UnitList.{decode}
use Rattle.record_arrays_write.specs.inner.Record.{Sizes, Laid, PutsLaid}
use Rattle.record_arrays_write.proofs.Records.{sizes_laid}
use Rattle.record_arrays_write.proofs.record.put_after_head.Goals as goal

pub put_laid-requires : goal.put_laid-requires
put_laid-requires c =
    let a = c.args in
    let l = sizes_laid a.codec a.list.now a.head (decode a.list.now) c.in_ok-l.l
    (subst (Sizes a.codec a.list.now a.head (decode a.list.now)) c.in_ok-l.was c.record_size.ensures) in
    subst (λ (s : List ℕ). Laid a.codec s c.in_ok-l.l) (sym l.same) l

pub returns : goal.returns
returns c =
    let a = c.args in
    let f = subst (Sizes a.codec a.list.now a.head (decode a.list.now)) c.in_ok-l.was c.record_size.ensures in
    let l = sizes_laid a.codec a.list.now a.head (decode a.list.now) c.in_ok-l.l f in
    let p = subst (λ (s : List ℕ). PutsLaid a.codec s c.in_ok-l.l a.out.now c.put_laid.result c.put_laid.new.out) l.same c.put_laid.ensures in
    λ h w. p h _ (f h w)
