-- Laws of streams: the units from a place on, unit by unit. A walk that goes on after each unit finds exactly these.
use Prim.Native.Nat.{ℕ, zero, suc, ◌+◌, ◌-◌, ◌^◌, ◌≤◌, ◌<◌}
use mathlib.Core.Path.{◌≡◌, refl, sym, ap, ◌∙◌}
use mathlib.Core.List.{List, [], ◌∷◌}
use Rattle.std.specs.Prelude.{None, Some, Option, Result, Ok, Err}
use Rattle.error.specs.declared.Refusal.{Refusal}
use Rattle.parse.specs.Answers.{answer_of}
use mathlib.Core.Logic.{◌⊎◌, ⊎_elim, inl, inr}
use native.Mathlib.Omega.{arith}
use native.Mathlib.Decide.{dec_le}
use lib.ListN.{length, take, drop, length-take, length-drop}
use borrow.Author.Tests.{le-leb, lt-leb, eq-eqb, ne_eqb}
use Rattle.parse.specs.Outcome.{Outcome, accept, refuse, lent_input}
use Rattle.parse.specs.Parse.{value, many}
use Rattle.parse.specs.inner.Walk.{more}
use Rattle.parse.proofs.Many.{Advances, many_nil, many_step, many_induction}
use Rattle.boxes.specs.Places.{nth_found}
use Rattle.boxes.specs.declared.Span.{Span}
use Rattle.boxes.proofs.Places.{nth_here, nth_next}
use Rattle.start_code.specs.StartCode.{scan, start_code_from}
use Rattle.start_code.proofs.StartCodes.{scan_le, scan_found, scan_stays, scan_from}
use Rattle.split.specs.inner.Walk.{UnitAhead}
use Rattle.split.specs.declared.NextUnit.{NextUnit}
use Rattle.annex_b.specs.Stream.{trim, segment, non_empty, all_read, stream_units_from, split_stream}
use Rattle.annex_b.specs.Answers.{first_next, next_given}
use Rattle.annex_b.proofs.Trim.{trim_le}

module _ (s : List ℕ) where
  -- a start code has three bytes
  pub code_room : (q : ℕ) → scan (drop q s) ≡ 0 → q < length s → q + 3 ≤ length s
  code_room q z h =
      let l : length (drop q s) ≡ length s - q = length-drop q s in
      let c = scan_found (drop q s) (omega arith) in
      omega (arith, c.inside)

  -- ### the walk over segments

  segment_advances : Advances segment s
  unfolding segment
  segment_advances p a q e = let z : start_code_from s (p + 3) ≡ q = cc in omega arith

  -- reading segments is never refused
  record Walked (p : ℕ) : Type 0 where
    spans : List Span
    after : ℕ
    walked : many segment s p ≡ value spans after

  all_walked : (p : ℕ) → Walked p
  unfolding segment
  all_walked =
      many_induction segment s segment_advances Walked
      (λ p h. record { spans = []; after = p; walked = many_nil segment s p h })
      (λ p e h w. let z : ◌≡◌ {A = ℕ} 0 1 = cc in absurd (omega arith))
      (λ p a q h w ih. record { spans = a ∷ ih.spans; after = ih.after; walked = rw (many_step segment s segment_advances p a q h w, ih.walked) })

  all_step : (p : ℕ) (a : Span) (q : ℕ) → p < length s → segment s p ≡ value a q → all_read (many segment s p) ≡ a ∷ all_read (many segment s q)
  all_step p a q h w = let r = all_walked q in rw (many_step segment s segment_advances p a q h w, r.walked)

  -- ### the units from a place on

  pub units_end : (p : ℕ) → length s ≤ p → stream_units_from s p ≡ []
  unfolding stream_units_from non_empty
  units_end p h = rw (many_nil segment s (start_code_from s p) (omega arith))

  -- those from the next start code on
  pub units_scan : (p : ℕ) → stream_units_from s (start_code_from s p) ≡ stream_units_from s p
  unfolding stream_units_from
  units_scan p =
      let z = scan_stays s p in
      let e : start_code_from s (start_code_from s p) ≡ start_code_from s p = omega arith in
      rw e

  -- how many of the bytes between two places are left when trailing zeros are cut off
  abbrev pub between : ℕ → ℕ → ℕ
  between start c = length (trim (take (c - start) (drop start s)))

  between_le : (start c : ℕ) → (between start c ≤ c - start) × (between start c ≤ length s - start)
  between_le start c =
      let t = trim_le (take (c - start) (drop start s)) in
      let l = length-take (c - start) (drop start s) in
      let d = length-drop start s in
      (omega arith, omega arith)

  -- the units that are left where one begins at `start` and the next start code is at c
  abbrev pub begun : ℕ → ℕ → List Span
  begun start c = non_empty (record { start = start; len = between start c } ∷ all_read (many segment s c))

  begun_empty : (start c : ℕ) → between start c ≡ 0 → begun start c ≡ non_empty (all_read (many segment s c))
  unfolding non_empty
  begun_empty start c z = rw (eq-eqb (between start c) 0 z)

  -- the segment after a start code
  module _ (q : ℕ) (here : scan (drop q s) ≡ 0) (inside : q < length s) where
    abbrev pub segment_len : ℕ
    segment_len = between (q + 3) (start_code_from s (q + 3))

    units_read_lem : stream_units_from s q ≡ begun (q + 3) (start_code_from s (q + 3))
    unfolding stream_units_from segment
    units_read_lem =
        let e : start_code_from s q ≡ q = omega arith in
        rw e (ap non_empty (all_step q (record { start = q + 3; len = segment_len }) (start_code_from s (q + 3)) inside refl))

    settled : start_code_from s (start_code_from s (q + 3)) ≡ start_code_from s (q + 3)
    settled = let z = scan_stays s (q + 3) in omega arith

    -- it is cut at the next start code
    pub segment_le : segment_len ≤ scan (drop (q + 3) s)
    segment_le = omega (arith, (between_le (q + 3) (start_code_from s (q + 3))).0)

    pub units_empty : segment_len ≡ 0 → stream_units_from s (start_code_from s (q + 3)) ≡ stream_units_from s q
    unfolding stream_units_from non_empty
    units_empty z = rw settled (sym (units_read_lem ∙ rw (eq-eqb segment_len 0 z)))

    pub units_unit : 0 < segment_len → stream_units_from s q ≡ record { start = q + 3; len = segment_len } ∷ stream_units_from s (q + 3 + segment_len)
    unfolding stream_units_from non_empty
    units_unit h = rw (scan_from s (q + 3) segment_len segment_le) (units_read_lem ∙ rw (ne_eqb segment_len 0 (λ z. omega arith)))

  -- a unit, with the next start code and the length that were found
  module _ (q : ℕ) (here : scan (drop q s) ≡ 0) (inside : q < length s) (next len : ℕ) (stops : next ≡ start_code_from s (q + 3))
      (cuts : len ≡ between (q + 3) next) where
    pub step_unit : 0 < len → stream_units_from s q ≡ record { start = q + 3; len = len } ∷ stream_units_from s (q + 3 + len)
    step_unit h = let e : len ≡ segment_len q here inside = cuts ∙ rw stops in rw e (units_unit q here inside (omega arith))

  -- ### the walk from start code to start code

  -- a walk from place `from` on is in the unit that begins at `start`, and there is no start code from there up to i
  pub record Walking (from start i : ℕ) : Type 0 where
    pub begins : start ≤ length s
    pub inside : i ≤ length s
    pub ahead : begun start (start_code_from s i) ≡ stream_units_from s from

  -- before the first start code: from the end on there are no bytes
  pub walk_begins : (from : ℕ) → from ≤ length s → Walking from (length s) from
  unfolding stream_units_from
  walk_begins from h =
      let n = (between_le (length s) (start_code_from s from)).1 in
      record { begins = omega arith; inside = h; ahead = begun_empty (length s) (start_code_from s from) (omega arith) }

  module _ (from start i : ℕ) (w : Walking from start i) where
    -- past places where no start code is
    pub walk_on : (j : ℕ) → j ≤ length s → start_code_from s i ≡ start_code_from s j → Walking from start j
    walk_on j h e = record { begins = w.begins; inside = h; ahead = ap (begun start) (sym e) ∙ w.ahead }

    -- past a start code, where no byte is left before it
    pub walk_code : (here : scan (drop i s) ≡ 0) → i + 2 < length s → between start i ≡ 0 → Walking from (i + 3) (i + 3)
    unfolding stream_units_from
    walk_code here room z =
        let e : start_code_from s i ≡ i = omega arith in
        let y : between start (start_code_from s i) ≡ 0 = rw e z in
        record {
          begins = omega arith;
          inside = omega arith;
          ahead = sym (units_read_lem i here (omega arith)) ∙ sym (begun_empty start (start_code_from s i) y) ∙ w.ahead;
        }

    -- the unit that is left before the next start code or the end is the first from `from` on
    module _ (c len : ℕ) (stops : start_code_from s i ≡ c) (cuts : len ≡ between start c) where
      found : begun start c ≡ stream_units_from s from
      found = ap (begun start) (sym stops) ∙ w.ahead

      pub walk_unit : 0 < len → first_next (non_empty (record { start = start; len = len } ∷ [])) ≡ first_next (stream_units_from s from)
      unfolding non_empty
      walk_unit h = rw (← found, cuts, ne_eqb (between start c) 0 (λ z. omega arith))

      pub walk_end : length s ≤ c → first_next (non_empty (record { start = start; len = len } ∷ [])) ≡ first_next (stream_units_from s from)
      walk_end h = rw (← found, cuts, many_nil segment s c h)

  -- ### unit by unit

  -- the first unit from a place on, before those from the place after it on; or there is none
  pub data View (p : ℕ) : Type 0 where
    ends : stream_units_from s p ≡ [] → View p
    unit : (a : Span) → UnitAhead s p a (a.start + a.len) → stream_units_from s p ≡ a ∷ stream_units_from s (a.start + a.len) → View p

  -- a first unit from a place on is the first from an earlier place on, if there is none between
  earlier : (p q : ℕ) → p ≤ q → stream_units_from s q ≡ stream_units_from s p → View q → View p
  earlier p q h e (View.ends z) = View.ends (sym e ∙ z)
  earlier p q h e (View.unit a f w) = View.unit a (record { some = f.some; ahead = omega arith; after = refl; inside = f.inside }) (sym e ∙ w)

  -- at a start code
  view_code : (q : ℕ) → scan (drop q s) ≡ 0 → q < length s → ((r : ℕ) → q < r → View r) → View q
  view_code q z i later =
      elim (dec_le (segment_len q z i) 0) [
        | yes k ↦ earlier q (start_code_from s (q + 3)) (omega arith) (units_empty q z i (omega arith)) (later (start_code_from s (q + 3)) (omega arith))
        | no k ↦ (
            let r = code_room q z i in
            let l = segment_le q z i in
            let m = scan_le (drop (q + 3) s) in
            let n = length-drop (q + 3) s in
            View.unit (record { start = q + 3; len = segment_len q z i })
            (record { some = omega arith; ahead = omega arith; after = refl; inside = omega arith }) (units_unit q z i (omega arith)))
      ]

  view_within : (f p : ℕ) → length s ≤ p + f → View p
  view_within zero p h = View.ends (units_end p (omega arith))
  view_within (suc f) p h =
      elim (dec_le (length s) (start_code_from s p)) [
        | yes k ↦ View.ends (sym (units_scan p) ∙ units_end (start_code_from s p) k)
        | no k ↦ earlier p (start_code_from s p) (omega arith) (units_scan p)
            (view_code (start_code_from s p) (scan_stays s p) (omega arith) (λ r l. view_within f r (omega arith)))
      ]

  pub view : (p : ℕ) → View p
  view p = view_within (length s) p (omega arith)

  -- the cursor: from the place after a unit on come the units after it
  pub record Onwards (p : ℕ) (a : Span) (rest : List Span) : Type 0 where
    pub here : UnitAhead s p a (a.start + a.len)
    pub rest_from : stream_units_from s (a.start + a.len) ≡ rest

  pub units_after : (p : ℕ) (a : Span) (rest : List Span) → stream_units_from s p ≡ a ∷ rest → Onwards p a rest
  units_after p a rest e = go (view p)
    where
      go : View p → Onwards p a rest
      go (View.ends z) = let x : ◌≡◌ {A = ℕ} 0 1 = cc in absurd (omega arith)
      go (View.unit b f w) =
          let x : b ≡ a = cc in
          let y : stream_units_from s (b.start + b.len) ≡ rest = cc in
          rw (← x) (record { here = f; rest_from = y })

  pub cursor : (p : ℕ) (a : Span) (rest : List Span) → stream_units_from s p ≡ a ∷ rest → stream_units_from s (a.start + a.len) ≡ rest
  cursor p a rest e = (units_after p a rest e).rest_from

  -- ### what the calls answer

  -- the units of a lent stream from a place on
  abbrev pub stream_left : ℕ → Outcome (List Span)
  stream_left p = lent_input s (accept (stream_units_from s p))

  pub split_whole : split_stream s ≡ stream_left 0
  unfolding split_stream
  split_whole = refl

  -- the only refusal is 23
  pub split_lent : length s ≤ 2 ^ 30 → split_stream s ≡ accept (stream_units_from s 0)
  split_lent h = split_whole ∙ rw (le-leb (length s) (2 ^ 30) h)

  pub given_too_long : (p : ℕ) → 2 ^ 30 < length s → next_given s p ≡ refuse 23
  given_too_long p h = rw (lt-leb (length s) (2 ^ 30) h)

  pub given_lent : (p : ℕ) (xs : List Span) → length s ≤ 2 ^ 30 → stream_units_from s p ≡ xs → next_given s p ≡ accept (first_next xs)
  given_lent p xs h e = rw (le-leb (length s) (2 ^ 30) h, e)

  pub left_lent : (p : ℕ) → length s ≤ 2 ^ 30 → stream_left p ≡ accept (stream_units_from s p)
  left_lent p h = rw (le-leb (length s) (2 ^ 30) h)

  -- a turn of a walk: the unit found from place p on, before those from place b on
  pub record Passed (p : ℕ) (a : Span) (b : ℕ) : Type 0 where
    pub lent : length s ≤ 2 ^ 30
    pub here : UnitAhead s p a b
    pub rest : stream_units_from s p ≡ a ∷ stream_units_from s b

  module _ (p : ℕ) (a : Span) (b : ℕ) (turn : Passed p a b) where
    pub passed_more : stream_left p ≡ more a (stream_left b)
    passed_more = rw (left_lent p turn.lent, left_lent b turn.lent) (ap accept turn.rest)

    pub passed_here : (k : ℕ) → k ≡ 0 → accept (Some a) ≡ nth_found (stream_left p) k
    passed_here k z = rw (left_lent p turn.lent, turn.rest) (ap accept (nth_here a (stream_units_from s b) k z))

    pub passed_next : (k : ℕ) → (k ≡ 0 → ⊥) → nth_found (stream_left b) (k - 1) ≡ nth_found (stream_left p) k
    passed_next k z = rw (left_lent p turn.lent, left_lent b turn.lent, turn.rest) (ap accept (nth_next a (stream_units_from s b) k z))

  -- what the next unit says
  given_is : (p : ℕ)
      → ((2 ^ 30 < length s) × (next_given s p ≡ refuse 23)) ⊎ ((length s ≤ 2 ^ 30) × (next_given s p ≡ accept (first_next (stream_units_from s p))))
  given_is p =
      elim (dec_le (length s) (2 ^ 30)) [
        | yes k ↦ inr (k, given_lent p _ k refl)
        | no k ↦ inl (omega arith, given_too_long p (omega arith))
      ]

  first_none : (xs : List Span) → first_next xs ≡ None → xs ≡ []
  first_none [] e = refl
  first_none (x ∷ xs) e = let z : ◌≡◌ {A = ℕ} 0 1 = cc in absurd (omega arith)

  first_some : (p : ℕ) (a : Span) (b : ℕ) (xs : List Span) → length s ≤ 2 ^ 30 → stream_units_from s p ≡ xs
      → first_next xs ≡ Some (record { unit = a; next = b }) → Passed p a b
  first_some p a b [] h e w = let z : ◌≡◌ {A = ℕ} 0 1 = cc in absurd (omega arith)
  first_some p a b (x ∷ xs) h e w =
      let y : ◌≡◌ {A = NextUnit} (record { unit = x; next = x.start + x.len }) (record { unit = a; next = b }) = cc in
      let u : x ≡ a = ap (λ (n : NextUnit). n.unit) y in
      let v : x.start + x.len ≡ b = ap (λ (n : NextUnit). n.next) y in
      let r = units_after p x xs e in
      rw (← u, ← v) (record { lent = h; here = r.here; rest = e ∙ ap (λ (l : List Span). x ∷ l) (sym r.rest_from) })

  module _ (p : ℕ) (r : Result (Option NextUnit) Refusal) (said : answer_of r ≡ next_given s p) where
    pub next_passed : (m : NextUnit) → r ≡ Ok (Some m) → Passed p m.unit m.next
    next_passed m e =
        let w : accept (Some m) ≡ next_given s p = ap answer_of (sym e) ∙ said in
        ⊎_elim (λ h. let v = h.1 in let z : ◌≡◌ {A = ℕ} 0 1 = cc in absurd (omega arith))
        (λ h. let v = h.1 in first_some p m.unit m.next (stream_units_from s p) h.0 refl cc) (given_is p)

    pub next_ended : r ≡ Ok None → stream_left p ≡ accept []
    next_ended e =
        let w : accept None ≡ next_given s p = ap answer_of (sym e) ∙ said in
        ⊎_elim (λ h. let v = h.1 in let z : ◌≡◌ {A = ℕ} 0 1 = cc in absurd (omega arith))
        (λ h. let v = h.1 in left_lent p h.0 ∙ ap accept (first_none (stream_units_from s p) cc)) (given_is p)
