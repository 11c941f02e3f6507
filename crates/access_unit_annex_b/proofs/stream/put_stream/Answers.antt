-- `stream::put_stream` stores the stream of an access unit: leading units, the list's units, the rest.
use mathlib.Core.Path.{◌≡◌}
use native.Mathlib.Omega.{arith}
use Rattle.unit_list.proofs.Turns.{walk_list, walk_units, walk_refused}
use Rattle.access_unit_annex_b.proofs.Putting.{puts_listable, lead_le, puts_zero, puts_leading, puts_listed, puts_following, put_whole}
use Rattle.access_unit_annex_b.proofs.stream.put_stream.Goals as goal

pub returns-in_default : goal.returns-in_default
returns-in_default c =
    let a = c.args in
    absurd (puts_listable a.codes a.length_size a.target a.list.now a.item.now a.sizes a.out.now c.requires _
    (walk_refused _ _ c.start.ensures _ c.in_default.is))

pub put_number-requires : goal.put_number-requires
put_number-requires c =
    let a = c.args in
    puts_zero a.codes a.length_size a.target a.list.now a.item.now a.sizes a.out.now c.requires _
    c.from-size.ensures

pub put_kept-led-requires : goal.put_kept-led-requires
put_kept-led-requires c =
    let wide_at : c.from-size.result ≡ c.args.length_size =
    c.from-size.ensures in
    let a = c.args in
    puts_leading a.codes a.length_size a.target a.list.now a.item.now a.sizes a.out.now c.requires _ (wide_at)
    _ c.put_number.ensures

pub put_units-ends-requires : goal.put_units-ends-requires
put_units-ends-requires c =
    let wide_at : c.from-size.result ≡ c.args.length_size =
    c.from-size.ensures in
    let a = c.args in
    let t = c.start.ensures in
    rw (walk_list _ _ t _ c.in-Ok.is)
    (puts_listed a.codes a.length_size a.target a.list.now a.item.now a.sizes a.out.now c.requires _ (wide_at)
    _ c.put_number.ensures _ _ c.put_kept-led.ensures _ (walk_units _ _ t _ c.in-Ok.is))

pub overflow_sub-rest : goal.overflow_sub-rest
overflow_sub-rest c =
    let wide_at : c.from-size.result ≡ c.args.length_size =
    c.from-size.ensures in
    let a = c.args in
    let l = lead_le a.codes a.length_size a.target a.list.now a.item.now a.sizes a.out.now c.requires _ (wide_at) in
    omega arith

pub put_kept-requires : goal.put_kept-requires
put_kept-requires c =
    let wide_at : c.from-size.result ≡ c.args.length_size =
    c.from-size.ensures in
    let a = c.args in
    puts_following a.codes a.length_size a.target a.list.now a.item.now a.sizes a.out.now c.requires _ (wide_at)
    _ c.put_number.ensures _ _ c.put_kept-led.ensures _ (walk_units _ _ c.start.ensures _ c.in-Ok.is) _ _
    (rw (walk_list _ _ c.start.ensures _ c.in-Ok.is) at c.put_units-ends.ensures)

pub returns : goal.returns
returns c =
    let wide_at : c.from-size.result ≡ c.args.length_size =
    c.from-size.ensures in
    let a = c.args in
    put_whole a.codes a.length_size a.target a.list.now a.item.now a.sizes a.out.now c.requires _ (wide_at)
    _ c.put_number.ensures _ _ c.put_kept-led.ensures _ (walk_units _ _ c.start.ensures _ c.in-Ok.is) _ _
    (rw (walk_list _ _ c.start.ensures _ c.in-Ok.is) at c.put_units-ends.ensures) _ _ c.put_kept.ensures
