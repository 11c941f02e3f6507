-- `record_len` returns the length of a record, or its refusal.
use Prim.Native.Nat.{ℕ}
use mathlib.Core.Path.{sym, ap, subst}
use Rattle.parse.proofs.PassedOn.{passed_on}
use mathlib.Core.List.{List}
use Rattle.parse.specs.Outcome.{Outcome}
use Rattle.boxes.specs.Walk.{count_found}
use Rattle.record_arrays.specs.declared.Codec.TheVariants.{Vvc}
use Rattle.record_arrays_write.specs.inner.Record.{SizeOf}
use Rattle.record_arrays_write.proofs.Records.{size_refused, size_counted}
use Rattle.full.specs.Write.{serialize_full}
use Rattle.full_write.specs.inner.Head.{head_written}
use Rattle.full_write.proofs.Records.{serialize_record}
use Rattle.full_write.proofs.record_len.Goals as goal

pub returns-in_err-layout : goal.returns-in_err-layout
returns-in_err-layout c =
    let a = c.args in
    let size : SizeOf Vvc a.list.now (head_written a.head) (serialize_full a.head a.list.now) c.record_size.result =
    subst (λ (o : Outcome (List ℕ)). SizeOf Vvc a.list.now (head_written a.head) o c.record_size.result)
    (serialize_record a.head a.list.now) (c.record_size.ensures (head_written a.head) c.head_size-size.ensures.0) in
    rw (passed_on c.from_residual.result _ c.from_residual.ensures.1)
    (ap count_found (sym (size_refused Vvc a.list.now (head_written a.head) (serialize_full a.head a.list.now) c.record_size.result
    size _ c.in_err-layout.was)))

pub returns : goal.returns
returns c =
    let a = c.args in
    let size : SizeOf Vvc a.list.now (head_written a.head) (serialize_full a.head a.list.now) c.record_size.result =
    subst (λ (o : Outcome (List ℕ)). SizeOf Vvc a.list.now (head_written a.head) o c.record_size.result)
    (serialize_record a.head a.list.now) (c.record_size.ensures (head_written a.head) c.head_size-size.ensures.0) in
    size_counted Vvc a.list.now (head_written a.head) (serialize_full a.head a.list.now) c.record_size.result size
    c.in_ok-layout.layout c.in_ok-layout.was
