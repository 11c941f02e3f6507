-- `put_array` stores an array: its units first, then its length, complete byte and type before them.
use Prim.Native.Nat.{ℕ}
use mathlib.Core.Path.{◌≡◌, ap}
use native.Mathlib.Omega.{arith}
use Rattle.parse.specs.Parse.{outcome}
use Rattle.record_arrays_read.proofs.RecordArrays.{HeadAt, head_short, head_at, array_refused, stores_units, head_room, stored_array}
use Rattle.record_arrays_read.proofs.list.put_array.Goals as goal

pub returns-in_default : goal.returns-in_default
returns-in_default c =
    let e = ap outcome (array_refused c.args.codec c.args.«record».now c.args.at 1
    (head_short c.args.codec c.args.«record».now c.args.at c.array_head.result c.array_head.ensures c.in_default.is)) in
    let f = c.requires.1.found in
    absurd (let z : ◌≡◌ {A = ℕ} 0 1 = cc in omega arith)

pub put_units-stored-requires : goal.put_units-stored-requires
put_units-stored-requires c =
    let found : let a = c.args in
    HeadAt a.codec a.«record».now a.at c.in-Some.head c.in-Some.units =
    head_at _ _ _ c.array_head.result c.array_head.ensures _ _ c.in-Some.is in
    let h = found in
    (omega arith, c.requires.0, h.inside, stores_units c.args.codec c.args.«record».now c.args.at _ _ h.read _ c.args.to c.requires.1)

pub put_array_head-requires : goal.put_array_head-requires
put_array_head-requires c =
    let found : let a = c.args in
    HeadAt a.codec a.«record».now a.at c.in-Some.head c.in-Some.units =
    head_at _ _ _ c.array_head.result c.array_head.ensures _ _ c.in-Some.is in
    head_room c.args.codec c.args.«record».now c.args.at _ _ (found).read _ c.args.to c.requires.1 _ c.put_units-stored.result c.put_units-stored.ensures

pub returns : goal.returns
returns c =
    let found : let a = c.args in
    HeadAt a.codec a.«record».now a.at c.in-Some.head c.in-Some.units =
    head_at _ _ _ c.array_head.result c.array_head.ensures _ _ c.in-Some.is in
    stored_array c.args.codec c.args.«record».now c.args.at _ _ (found).read _ c.args.to c.requires.1 _ c.put_units-stored.result c.put_units-stored.ensures _
    c.put_array_head.ensures
