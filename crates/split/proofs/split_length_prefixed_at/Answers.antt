-- `split_length_prefixed_at` says where unit k of an item lies: the units are counted first, so that a refusal after unit k is found.
use mathlib.Core.Path.{◌≡◌, sym, ap, ◌∙◌}
use native.Mathlib.Omega.{arith}
use Rattle.parse.specs.Answers.{answer_of}
use Rattle.parse.specs.Outcome.{accept}
use Rattle.boxes.specs.Walk.{count_found}
use Rattle.boxes.proofs.Places.{place_past, place_there}
use Rattle.split.specs.Item.{split_item}
use Rattle.split.proofs.Items.{split_sound}
use Rattle.split.proofs.split_length_prefixed_at.Goals as goal
use Rattle.split.proofs.split_length_prefixed_at.Goals.{In_ok-count}

-- the count is that of the units
counted : (c : In_ok-count) → accept c.in_ok-count.count ≡ count_found (split_item c.args.length_size c.args.item.now)
counted c = sym (ap answer_of c.in_ok-count.was) ∙ c.split_length_prefixed_count.ensures

pub returns-then-count-k : goal.returns-then-count-k
returns-then-count-k c =
    let a = c.args in
    (place_past (split_item a.length_size a.item.now) a.k _ (sym (counted (goal.at.returns-then-count-k c).In_ok-count)) (omega arith), tt)

pub item_unit-requires : goal.item_unit-requires
item_unit-requires c =
    let s = split_sound _ _ _ (sym (counted (goal.at.item_unit-requires c).In_ok-count)) in
    let w : c.from.result ≡ c.args.length_size = c.from.ensures in
    rw w (s.some, s.four, s.lent, record { count = _; counted = s.counted; within = omega arith })

pub returns : goal.returns
returns c =
    let a = c.args in
    let s = split_sound _ _ _ (sym (counted (goal.at.returns c).In_ok-count)) in
    let w : c.from.result ≡ a.length_size = c.from.ensures in (
      place_there (split_item a.length_size a.item.now) a.k _ (ap count_found s.whole ∙ s.counted) (omega arith) c.item_unit.result
          (rw (s.whole, ← w) c.item_unit.ensures.0),
      c.item_unit.ensures.1,
    )
