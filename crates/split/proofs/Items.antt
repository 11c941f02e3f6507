-- Laws of items: the unit at a place by cases, the walk from it, and where the units of an accepted item lie.
use Prim.Native.Nat.{ℕ, ◌+◌, ◌^◌, ◌≤◌, ◌<◌}
use mathlib.Core.Path.{◌≡◌, refl, sym, ap, ◌∙◌}
use mathlib.Core.Logic.{◌⊎◌, ⊎_elim, inl, inr}
use mathlib.Core.Bool.{true, false}
use Rattle.std.specs.Prelude.{Option, None, Some, Result, Ok, Err}
use mathlib.Core.List.{List, [], ◌∷◌}
use native.Mathlib.Omega.{arith}
use native.Mathlib.Decide.{dec_le}
use lib.ListN.{length}
use borrow.Author.Tests.{le-leb, lt-leb, eq-eqb, ne_eqb, lt-ltb}
use Rattle.parse.specs.Answers.{answer_of}
use Rattle.error.specs.Refusals.{number_of}
use Rattle.error.specs.declared.Refusal.{Refusal}
use Rattle.parse.specs.Outcome.{Outcome, accept, refuse}
use Rattle.parse.specs.Parse.{Parsed, value, refused, many}
use Rattle.parse.specs.inner.Walk.{more}
use Rattle.parse.proofs.Many.{Advances, many_nil, many_bad, many_step, many_induction}
use Rattle.parse.proofs.Binds.{outcome_more}
use Rattle.boxes.specs.Bytes.{be, outside}
use Rattle.boxes.specs.Walk.{count_found}
use Rattle.boxes.specs.declared.Span.{Span}
use Rattle.boxes.proofs.Walk.{total}
use Rattle.boxes.proofs.Fields.{uint_there, uint_short, bytes_there, bytes_short}
use Rattle.boxes.proofs.PrefixSizes.{not_outside}
use Rattle.split.specs.Item.{item_unit, item_units, split_item}
use Rattle.split.specs.Answers.{unit_read, item_step, next_item_unit}
use Rattle.split.specs.inner.Walk.{item_units_from, UnitAhead, Onward}
use Rattle.split.specs.declared.NextUnit.{NextUnit}
use Rattle.split.proofs.Spans.{Apart}

-- ### the unit at a place

module _ (size : ℕ) (s : List ℕ) (p : ℕ) where
  -- the length runs past the end
  unit_no_length : length s < p + size → item_unit size s p ≡ refused 1
  unfolding item_unit
  unit_no_length h = rw (uint_short size s p h)

  module _ (there : p + size ≤ length s) where
    unit_zero : be s p size ≡ 0 → item_unit size s p ≡ refused 5
    unfolding item_unit
    unit_zero e = rw (uint_there size s p there, eq-eqb (be s p size) 0 e)

    module _ (any : be s p size ≡ 0 → ⊥) where
      -- the bytes run past the end
      unit_no_bytes : length s < p + size + be s p size → item_unit size s p ≡ refused 1
      unfolding item_unit
      unit_no_bytes h = rw (uint_there size s p there, ne_eqb (be s p size) 0 any, bytes_short (be s p size) s (p + size) h)

      pub unit_there : p + size + be s p size ≤ length s
          → item_unit size s p ≡ value (record { start = p + size; len = be s p size }) (p + size + be s p size)
      unfolding item_unit
      unit_there h = rw (uint_there size s p there, ne_eqb (be s p size) 0 any, bytes_there (be s p size) s (p + size) h)

  -- what a unit that was read says
  pub record Read (a : Span) (q : ℕ) : Type 0 where
    pub start : a.start ≡ p + size
    pub ahead : p < a.start
    pub some : 0 < a.len
    pub next : q ≡ a.start + a.len
    pub fits : q ≤ length s

  never : (e : ℕ) (a : Span) (q : ℕ) → item_unit size s p ≡ refused e → item_unit size s p ≡ value a q → Read a q
  never e a q w v = let z : ◌≡◌ {A = ℕ} 0 1 = cc in absurd (omega arith)

  -- a length of no bytes would be 0
  prefix_some : (be s p size ≡ 0 → ⊥) → 0 < size
  unfolding be
  prefix_some any = elim (dec_le size 0) [ yes z ↦ (let e : size ≡ 0 = omega arith in absurd (any (rw e refl))) | no z ↦ omega arith ]

  unit_is : (a : Span) (q : ℕ) → (be s p size ≡ 0 → ⊥) → p + size + be s p size ≤ length s
      → ◌≡◌ {A = Parsed Span} (value (record { start = p + size; len = be s p size }) (p + size + be s p size)) (value a q) → Read a q
  unit_is a q any fits e =
      let y : record { start = p + size; len = be s p size } ≡ a = cc in
      let z : p + size + be s p size ≡ q = cc in
      let b : a.start ≡ p + size = ap (λ (b : Span). b.start) (sym y) in
      let l : a.len ≡ be s p size = ap (λ (b : Span). b.len) (sym y) in
      record { start = b; ahead = omega (arith, prefix_some any); some = omega arith; next = omega arith; fits = omega arith }

  pub unit_read_lem : (a : Span) (q : ℕ) → item_unit size s p ≡ value a q → Read a q
  unit_read_lem a q e =
      elim (dec_le (p + size) (length s)) [
        | no k ↦ never 1 a q (unit_no_length (omega arith)) e
        | yes k ↦
            elim (dec_le (be s p size) 0) [
              | yes z ↦ never 5 a q (unit_zero k (omega arith)) e
              | no z ↦
                  elim (dec_le (p + size + be s p size) (length s)) [
                    | no b ↦ never 1 a q (unit_no_bytes k (λ w. z (omega arith)) (omega arith)) e
                    | yes b ↦ unit_is a q (λ w. z (omega arith)) b (sym (unit_there k (λ w. z (omega arith)) b) ∙ e)
                  ]
            ]
      ]

pub unit_advances : (size : ℕ) (s : List ℕ) → Advances (item_unit size) s
unit_advances size s p a q e = let r = unit_read_lem size s p a q e in omega arith

-- ### the walk from a place

module _ (size : ℕ) (s : List ℕ) where
  pub left_end : (p : ℕ) → length s ≤ p → item_units_from size s p ≡ accept []
  unfolding item_units_from
  left_end p h = rw (many_nil (item_unit size) s p h)

  left_bad : (p e : ℕ) → p < length s → item_unit size s p ≡ refused e → item_units_from size s p ≡ refuse e
  unfolding item_units_from
  left_bad p e h w = rw (many_bad (item_unit size) s p e h w)

  pub left_step : (p : ℕ) (a : Span) (q : ℕ) → p < length s → item_unit size s p ≡ value a q → item_units_from size s p ≡ more a (item_units_from size s q)
  unfolding item_units_from
  left_step p a q h w = rw (many_step (item_unit size) s (unit_advances size s) p a q h w) (outcome_more a (many (item_unit size) s q))

  pub left_more : (p : ℕ) → p + size ≤ length s → (be s p size ≡ 0 → ⊥) → p + size + be s p size ≤ length s
      → item_units_from size s p ≡ more (record { start = p + size; len = be s p size }) (item_units_from size s (p + size + be s p size))
  left_more p there any h = left_step p _ _ (omega (arith, prefix_some size s p any)) (unit_there size s p there any h)

  -- ### where the units lie

  pub left_apart : (p : ℕ) (xs : List Span) → 1 ≤ size → p ≤ length s → item_units_from size s p ≡ accept xs → Apart (length s) p xs
  left_apart p xs one = many_induction (item_unit size) s (unit_advances size s) M nil bad step p xs
    where
      M : ℕ → Type 0
      M p = (xs : List Span) → p ≤ length s → item_units_from size s p ≡ accept xs → Apart (length s) p xs

      nil : (p : ℕ) → length s ≤ p → M p
      nil p h xs l e = let z : [] ≡ xs = cc (left_end p h) in rw (← z) (Apart.none l)

      bad : (p e : ℕ) → p < length s → item_unit size s p ≡ refused e → M p
      bad p e h w xs l v = let x = left_bad p e h w in let z : ◌≡◌ {A = ℕ} 0 1 = cc in absurd (omega arith)

      go : (p : ℕ) (a : Span) (q : ℕ) → Read size s p a q
          → ((ys : List Span) → q ≤ length s → item_units_from size s q ≡ accept ys → Apart (length s) q ys)
          → (o : Outcome (List Span)) → item_units_from size s q ≡ o → (xs : List Span) → more a o ≡ accept xs → Apart (length s) p xs
      go p a q r ih (refuse e) w xs v = let z : ◌≡◌ {A = ℕ} 0 1 = cc in absurd (omega arith)
      go p a q r ih (accept ys) w xs v =
          let z : a ∷ ys ≡ xs = cc in
          let n : q ≡ a.start + a.len = r.next in
          let h : p < a.start = omega (arith, r.start) in
          rw (← z) (Apart.more h r.some (rw n at (ih ys r.fits w)))

      step : (p : ℕ) (a : Span) (q : ℕ) → p < length s → item_unit size s p ≡ value a q → M q → M p
      step p a q h w ih xs l v = go p a q (unit_read_lem size s p a q w) ih (item_units_from size s q) refl xs (sym (left_step p a q h w) ∙ v)

-- ### the answers, in the order of their tests

module _ (size : ℕ) (s : List ℕ) where
  pub items_outside : outside size ≡ true → item_units size s ≡ refuse 4
  unfolding item_units
  items_outside h = rw h

  pub items_size : (size ≡ 0) ⊎ (4 < size) → item_units size s ≡ refuse 4
  unfolding item_units
  items_size = ⊎_elim (λ h. rw (eq-eqb size 0 h)) (λ h. rw (ne_eqb size 0 (λ e. omega arith), lt-ltb 4 size h))

  pub items_left : 0 < size → size ≤ 4 → item_units size s ≡ item_units_from size s 0
  unfolding item_units item_units_from
  items_left h k = rw (not_outside size h k)

  pub split_too_long : 2 ^ 30 < length s → split_item size s ≡ refuse 23
  unfolding split_item
  split_too_long h = rw (lt-leb (length s) (2 ^ 30) h)

  pub split_lent : length s ≤ 2 ^ 30 → split_item size s ≡ item_units size s
  unfolding split_item
  split_lent h = rw (le-leb (length s) (2 ^ 30) h)

-- ### a step over an item, in the order of its tests

module _ (size : ℕ) (s : List ℕ) (p : ℕ) where
  pub step_end : length s ≤ p → item_step size s p ≡ accept None
  unfolding item_step
  step_end h = rw (le-leb (length s) p h)

  module _ (inside : p < length s) where
    step_here : item_step size s p ≡ unit_read (item_unit size s p)
    unfolding item_step
    step_here = rw (lt-leb (length s) p inside)

    pub step_no_length : length s < p + size → item_step size s p ≡ refuse 1
    step_no_length h = step_here ∙ ap unit_read (unit_no_length size s p h)

    module _ (there : p + size ≤ length s) where
      pub step_zero : be s p size ≡ 0 → item_step size s p ≡ refuse 5
      step_zero e = step_here ∙ ap unit_read (unit_zero size s p there e)

      module _ (any : be s p size ≡ 0 → ⊥) where
        pub step_no_bytes : length s < p + size + be s p size → item_step size s p ≡ refuse 1
        step_no_bytes h = step_here ∙ ap unit_read (unit_no_bytes size s p there any h)

        pub step_there : p + size + be s p size ≤ length s
            → item_step size s p ≡ accept (Some (record { unit = record { start = p + size; len = be s p size }; next = p + size + be s p size }))
        step_there h = step_here ∙ ap unit_read (unit_there size s p there any h)

  pub next_too_long : 2 ^ 30 < length s → next_item_unit size s p ≡ refuse 23
  unfolding next_item_unit
  next_too_long h = rw (lt-leb (length s) (2 ^ 30) h)

  module _ (lent : length s ≤ 2 ^ 30) where
    pub next_outside : outside size ≡ true → next_item_unit size s p ≡ refuse 4
    unfolding next_item_unit
    next_outside h = rw (le-leb (length s) (2 ^ 30) lent, h)

    pub next_step : outside size ≡ false → next_item_unit size s p ≡ item_step size s p
    unfolding next_item_unit
    next_step h = rw (le-leb (length s) (2 ^ 30) lent, h)

-- ### what a step says

-- of the units from the place that it started from
abbrev pub walked : ℕ → List ℕ → Outcome (Option NextUnit) → Outcome (List Span)
walked size s (accept None) = accept []
walked size s (accept (Some n)) = more n.unit (item_units_from size s n.next)
walked size s (refuse e) = refuse e

module _ (size : ℕ) (s : List ℕ) (p : ℕ) where
  read_left : p < length s → (x : Parsed Span) → item_unit size s p ≡ x → walked size s (unit_read x) ≡ item_units_from size s p
  read_left h (value a q) e = sym (left_step size s p a q h e)
  read_left h (refused n) e = sym (left_bad size s p n h e)

  walk_step : walked size s (item_step size s p) ≡ item_units_from size s p
  walk_step =
      elim (dec_le (length s) p) [
        | yes k ↦ ap (walked size s) (step_end size s p k) ∙ sym (left_end size s p k)
        | no k ↦ ap (walked size s) (step_here size s p (omega arith)) ∙ read_left (omega arith) (item_unit size s p) refl
      ]

-- a turn of a walk: the unit found from place p on, before what is left after it
pub record Turn (size : ℕ) (s : List ℕ) (p : ℕ) (a : Span) (next : ℕ) : Type 0 where
  pub here : UnitAhead s p a next
  pub rest : item_units_from size s p ≡ more a (item_units_from size s next)

-- where the unit lies that a step found
step_ahead : (size : ℕ) (s : List ℕ) (p : ℕ) (a : Span) (next : ℕ) → item_step size s p ≡ accept (Some (record { unit = a; next = next }))
    → UnitAhead s p a next
step_ahead size s p a next e =
    elim (dec_le (length s) p) [
      | yes k ↦ absurd (let x = sym (step_end size s p k) ∙ e in let z : ◌≡◌ {A = ℕ} 0 1 = cc in omega arith)
      | no k ↦ go (item_unit size s p) refl (sym (step_here size s p (omega arith)) ∙ e)
    ]
  where
    go : (x : Parsed Span) → item_unit size s p ≡ x → unit_read x ≡ accept (Some (record { unit = a; next = next })) → UnitAhead s p a next
    go (refused n) h f = let z : ◌≡◌ {A = ℕ} 0 1 = cc in absurd (omega arith)
    go (value b q) h f =
        let n : ◌≡◌ {A = NextUnit} (record { unit = b; next = q }) (record { unit = a; next = next }) = cc in
        let r = unit_read_lem size s p a next (h ∙ ap (λ (m : NextUnit). value m.unit m.next) n) in
        record { some = r.some; ahead = r.ahead; after = r.next; inside = r.fits }

module _ (size : ℕ) (s : List ℕ) (p : ℕ) (r : Result (Option NextUnit) Refusal) (said : answer_of r ≡ item_step size s p) where
  found_left : walked size s (answer_of r) ≡ item_units_from size s p
  found_left = ap (walked size s) said ∙ walk_step size s p

  found_as : (x : Result (Option NextUnit) Refusal) → r ≡ x → item_units_from size s p ≡ walked size s (answer_of x)
  found_as x e = sym found_left ∙ ap (λ (y : Result (Option NextUnit) Refusal). walked size s (answer_of y)) e

  pub found_unit_lem : (m : NextUnit) → r ≡ Ok (Some m) → Turn size s p m.unit m.next
  found_unit_lem m e = record { here = step_ahead size s p m.unit m.next (sym said ∙ ap answer_of e); rest = found_as (Ok (Some m)) e }

  pub found_end : r ≡ Ok None → item_units_from size s p ≡ accept []
  found_end e = found_as (Ok None) e

  pub found_refusal : (e : Refusal) → r ≡ Err e → item_units_from size s p ≡ refuse (number_of e)
  found_refusal e w = found_as (Err e) w

-- it lies ahead, if there is one
pub found_onward : (size : ℕ) (s : List ℕ) (p : ℕ) (r : Result (Option NextUnit) Refusal) → answer_of r ≡ item_step size s p → Onward s p r
found_onward size s p (Ok (Some m)) e = step_ahead size s p m.unit m.next (sym e)
found_onward size s p (Ok None) e = tt
found_onward size s p (Err x) e = tt

-- a step that found no unit: there is none
pub found_none : (size : ℕ) (s : List ℕ) (p : ℕ) (r : Result (Option NextUnit) Refusal) → answer_of r ≡ item_step size s p
    → ((m : NextUnit) → r ≡ Ok (Some m) → ⊥) → total (item_units_from size s p) ≡ 0
found_none size s p (Ok (Some m)) e k = absurd (k m refl)
found_none size s p (Ok None) e k = ap total (sym (found_left size s p (Ok None) e))
found_none size s p (Err x) e k = ap total (sym (found_left size s p (Err x) e))

-- what an accepted split says of its input, and of what is left from the first place on
pub record Sound (size : ℕ) (s : List ℕ) (n : ℕ) : Type 0 where
  pub some : 1 ≤ size
  pub four : size ≤ 4
  pub lent : length s ≤ 2 ^ 30
  pub whole : split_item size s ≡ item_units_from size s 0
  pub counted : count_found (item_units_from size s 0) ≡ accept n

pub split_sound : (size : ℕ) (s : List ℕ) (n : ℕ) → count_found (split_item size s) ≡ accept n → Sound size s n
split_sound size s n e =
    elim (dec_le (length s) (2 ^ 30)) [
      | no k ↦ never 23 (split_too_long size s (omega arith))
      | yes k ↦
          elim (dec_le size 0) [
            | yes z ↦ never 4 (split_lent size s k ∙ items_size size s (inl (omega arith)))
            | no z ↦
                elim (dec_le size 4) [
                  | no f ↦ never 4 (split_lent size s k ∙ items_size size s (inr (omega arith)))
                  | yes f ↦ (
                      let w = split_lent size s k ∙ items_left size s (omega arith) f in
                      record { some = omega arith; four = f; lent = k; whole = w; counted = rw w at e })
                ]
          ]
    ]
  where
    never : (m : ℕ) → split_item size s ≡ refuse m → Sound size s n
    never m w = let z : ◌≡◌ {A = ℕ} 0 1 = cc (ap count_found w) in absurd (omega arith)

-- ### a walk by `next_item_unit` finds the units of `split_length_prefixed`, or its refusal

module _ (size : ℕ) (s : List ℕ) (lent : length s ≤ 2 ^ 30) (low : 0 < size) (four : size ≤ 4) where
  pub cursor_start : split_item size s ≡ item_units_from size s 0
  cursor_start = split_lent size s lent ∙ items_left size s low four

  pub cursor_step : (p : ℕ) → item_units_from size s p ≡ walked size s (next_item_unit size s p)
  cursor_step p = sym (walk_step size s p) ∙ ap (walked size s) (sym (next_step size s p lent (not_outside size low four)))

-- ### where the units of an accepted item lie: one after another inside it

module _ (size : ℕ) (s : List ℕ) (xs : List Span) where
  pub items_apart : item_units size s ≡ accept xs → Apart (length s) 0 xs
  items_apart e =
      elim (dec_le size 0) [
        | yes z ↦ never (inl (omega arith))
        | no z ↦
            elim (dec_le size 4) [
              | no f ↦ never (inr (omega arith))
              | yes f ↦ left_apart size s 0 xs (omega arith) (omega arith) (sym (items_left size s (omega arith) f) ∙ e)
            ]
      ]
    where
      never : (size ≡ 0) ⊎ (4 < size) → Apart (length s) 0 xs
      never h = let w = items_size size s h in let z : ◌≡◌ {A = ℕ} 0 1 = cc in absurd (omega arith)

  pub split_apart : split_item size s ≡ accept xs → Apart (length s) 0 xs
  split_apart e = let w = split_sound size s (length xs) (ap count_found e) in items_apart (sym (split_lent size s w.lent) ∙ e)
