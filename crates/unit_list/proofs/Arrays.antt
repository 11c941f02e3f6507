-- Laws of an array and of a run of arrays: how their steps read, and where what is read lies.
use Prim.Native.Nat.{ℕ, zero, suc, ◌+◌, ◌≤◌, ◌<◌}
use mathlib.Core.Path.{◌≡◌, refl, sym, ap, ◌∙◌}
use mathlib.Core.List.{List, [], ◌∷◌, ◌++◌}
use mathlib.Core.Logic.{⊎_elim}
use native.Mathlib.Omega.{arith}
use native.Mathlib.Decide.{dec_le}
use lib.ListN.{length, get_or, take}
use lib.Seq.{get_or-take, length-take-le}
use borrow.Author.Tests.{lt-ltb, le-ltb}
use Rattle.parse.specs.Outcome.{accept, refuse, and_then}
use Rattle.parse.specs.Parse.{Parsed, value, refused, bind, Parser, many, outcome_or}
use Rattle.parse.specs.inner.Walk.{more}
use Rattle.parse.proofs.Many.{Advances, many_nil, many_bad, many_step, many_induction}
use Rattle.boxes.specs.Bytes.{uint, chunk, inside}
use Rattle.boxes.specs.Parts.{nowhere}
use Rattle.boxes.specs.declared.Span.{Span}
use Rattle.boxes.proofs.Fields.{uint_there, uint_short, chunk_read, chunk_advances}
use Rattle.boxes.proofs.Numbers.{be_one}
use Rattle.unit_list.specs.UnitList.{Array, array, array_rest, array_with, largest_type, units_of}
use Rattle.unit_list.specs.inner.Walk.{TwoOrFour}

-- each array's complete, reserved bit and type are small
pub data Sound {U : Type 0} : List (Array U) → Type 0 where
  sound_none : Sound []
  sound_more : {a : Array U} {xs : List (Array U)} → a.complete ≤ 1 → a.reserved_bit ≤ 1 → a.unit_type ≤ largest_type → Sound xs → Sound (a ∷ xs)

-- a length of two or four bytes has from two to four
pub two_to_four : (w : ℕ) → TwoOrFour w → (2 ≤ w) × (w ≤ 4)
two_to_four w h = ⊎_elim (λ e. (omega arith, omega arith)) (λ e. (omega arith, omega arith)) h

-- a refusal to read, whatever its number
abbrev pub IsRefused : {A : Type 0} → Parsed A → Type 0
IsRefused (value a p) = ⊥
IsRefused (refused e) = Unit {0}

module _ {A : Type 0} (P : Parser A) (s : List ℕ) (p : ℕ) (n : ℕ) (more_left : p < length s) where
  -- a run stops at the first refusal, and goes on after what was read
  pub run_refused : IsRefused (P s p) → outcome_or n (many P s p) ≡ refuse n
  run_refused h = go (P s p) refl h
    where
      go : (x : Parsed A) → P s p ≡ x → IsRefused x → outcome_or n (many P s p) ≡ refuse n
      go (value a q) e h = absurd h
      go (refused m) e h = rw (many_bad P s p m more_left e)

  pub run_step : Advances P s → (a : A) (q : ℕ) → P s p ≡ value a q → outcome_or n (many P s p) ≡ more a (outcome_or n (many P s q))
  run_step adv a q e = ap (outcome_or n) (many_step P s adv p a q more_left e) ∙ go (many P s q)
    where
      go : (x : Parsed (List A)) → outcome_or n (bind x (λ rest r. value (a ∷ rest) r)) ≡ more a (outcome_or n x)
      go (value rest r) = refl
      go (refused m) = refl

pub run_nil : {A : Type 0} (P : Parser A) (s : List ℕ) (p n : ℕ) → length s ≤ p → outcome_or n (many P s p) ≡ accept []
run_nil P s p n h = rw (many_nil P s p h)

-- what holds at the end of a run, and before each thing read where it holds after it, holds of every run that reads
module _ {A : Type 0} (P : Parser A) (s : List ℕ) (adv : Advances P s) (N : ℕ → List A → ℕ → Type 0) (nil : (p : ℕ) → length s ≤ p → N p [] p)
    (step : (p : ℕ) (a : A) (q : ℕ) (xs : List A) (r : ℕ) → P s p ≡ value a q → N q xs r → N p (a ∷ xs) r) where
  pub run_value : (p : ℕ) (xs : List A) (r : ℕ) → many P s p ≡ value xs r → N p xs r
  run_value =
      many_induction P s adv (λ p. (xs : List A) (r : ℕ) → many P s p ≡ value xs r → N p xs r)
      (λ p h xs r e. end_here p h xs r (sym (many_nil P s p h) ∙ e))
      (λ p n h x xs r e. absurd (let y = sym (many_bad P s p n h x) ∙ e in let z : ◌≡◌ {A = ℕ} 0 1 = cc in omega arith))
      (λ p a q h x m xs r e. go p a q x m (many P s q) refl xs r (sym (many_step P s adv p a q h x) ∙ e))
    where
      end_here : (p : ℕ) → length s ≤ p → (xs : List A) (r : ℕ) → ◌≡◌ {A = Parsed (List A)} (value [] p) (value xs r) → N p xs r
      end_here p h xs r e =
          let x : [] ≡ xs = cc in
          let y : p ≡ r = cc in
          rw (← x, ← y) (nil p h)

      go : (p : ℕ) (a : A) (q : ℕ) → P s p ≡ value a q → ((xs : List A) (r : ℕ) → many P s q ≡ value xs r → N q xs r)
          → (o : Parsed (List A)) → many P s q ≡ o → (xs : List A) (r : ℕ) → bind o (λ rest r. value (a ∷ rest) r) ≡ value xs r → N p xs r
      go p a q x m (refused n) f xs r e = absurd (let z : ◌≡◌ {A = ℕ} 0 1 = cc in omega arith)
      go p a q x m (value rest t) f xs r e =
          let y : a ∷ rest ≡ xs = cc in
          let z : t ≡ r = cc in
          rw (← y, ← z) (step p a q rest t x (m rest t f))

-- the room that chunks take with their lengths of w bytes
unfoldable pub room : ℕ → List Span → ℕ
room w [] = 0
room w (a ∷ us) = w + a.len + room w us

pub room_append : (w : ℕ) (us vs : List Span) → room w (us ++ vs) ≡ room w us + room w vs
unfolding room
room_append w [] vs = omega arith
room_append w (a ∷ us) vs = let e = room_append w us vs in omega arith

-- what lies from p on within n bytes: all of it together, and each
pub record Lies (w n p : ℕ) (us : List Span) : Type 0 where
  pub together : p + room w us ≤ n
  pub each : (k : ℕ) → (get_or us k nowhere).start + (get_or us k nowhere).len ≤ n

each_append : (n : ℕ) (us vs : List Span) → ((k : ℕ) → (get_or us k nowhere).start + (get_or us k nowhere).len ≤ n)
    → ((k : ℕ) → (get_or vs k nowhere).start + (get_or vs k nowhere).len ≤ n)
    → (k : ℕ) → (get_or (us ++ vs) k nowhere).start + (get_or (us ++ vs) k nowhere).len ≤ n
each_append n [] vs h g k = g k
each_append n (a ∷ us) vs h g zero = h 0
each_append n (a ∷ us) vs h g (suc k) = each_append n us vs (λ j. h (suc j)) g k

pub lies_append : (w n p q : ℕ) (us vs : List Span) → Lies w q p us → q ≤ n → Lies w n q vs → Lies w n p (us ++ vs)
lies_append w n p q us vs a h b =
    record {
      together = rw (room_append w us vs) (let x = a.together in let y = b.together in omega arith);
      each = each_append n us vs (λ k. let x = a.each k in omega arith) b.each;
    }

pub lies_nil : (w n p : ℕ) → p ≤ n → Lies w n p []
unfolding room
lies_nil w n p h = record { together = omega arith; each = λ k. omega arith }

-- a run of chunks ends at the end, and lies before it
module _ (w : ℕ) (s : List ℕ) (some : 1 ≤ w) where
  pub record Run (p : ℕ) (us : List Span) (r : ℕ) : Type 0 where
    pub end : r ≡ length s
    pub lies : Lies w (length s) p us

  chunks_turn : (p : ℕ) (a : Span) (q : ℕ) → chunk w s p ≡ value a q → (us : List Span) (r : ℕ) → Run q us r → Run p (a ∷ us) r
  unfolding room
  chunks_turn p a q e us r h =
      let c = chunk_read w s p a q e in
      record {
        end = h.end;
        lies = record { together = let x = h.lies.together in omega arith; each = go };
      }
    where
      go : (k : ℕ) → (get_or (a ∷ us) k nowhere).start + (get_or (a ∷ us) k nowhere).len ≤ length s
      go zero = let c = chunk_read w s p a q e in omega arith
      go (suc k) = h.lies.each k

  pub chunks_run : (p : ℕ) → p ≤ length s → (us : List Span) (r : ℕ) → many (chunk w) s p ≡ value us r → Run p us r
  chunks_run p h us r e =
      run_value (chunk w) s (chunk_advances w s some) (λ p us r. p ≤ length s → Run p us r)
      (λ p g h. record { end = omega arith; lies = lies_nil w (length s) p h })
      (λ p a q us r x m h. chunks_turn p a q x us r (m (chunk_read w s p a q x).fits))
      p us r e h

-- one array, by the chunk that its rest is
module _ (w : ℕ) (s : List ℕ) (p : ℕ) where
  pub array_no_chunk : IsRefused (chunk w s p) → IsRefused (array w s p)
  unfolding array
  array_no_chunk h = go (chunk w s p) h
    where
      go : (x : Parsed Span) → IsRefused x → IsRefused (bind x (λ a q. inside a (array_rest w) s q))
      go (value a q) h = absurd h
      go (refused n) h = tt

  module _ (a : Span) (e : chunk w s p ≡ value a (a.start + a.len)) where
    fits : a.start + a.len ≤ length s
    fits = (chunk_read w s p a (a.start + a.len) e).fits

    -- its rest ends with it
    rest_long : length (take (a.start + a.len) s) ≡ a.start + a.len
    rest_long = length-take-le (a.start + a.len) s fits

    byte_there : (i : ℕ) → i < a.start + a.len → uint 1 (take (a.start + a.len) s) i ≡ value (get_or s i 0) (i + 1)
    byte_there i h =
        let l = rest_long in
        uint_there 1 (take (a.start + a.len) s) i (omega arith)
        ∙ rw (be_one (take (a.start + a.len) s) i, get_or-take (a.start + a.len) s i 0 h)

    byte_short : (i : ℕ) → a.start + a.len ≤ i → uint 1 (take (a.start + a.len) s) i ≡ refused 1
    byte_short i h = let l = rest_long in uint_short 1 (take (a.start + a.len) s) i (omega arith)

    pub array_complete : 3 < get_or s a.start 0 → IsRefused (array w s p)
    unfolding array inside array_rest
    array_complete h =
        elim (dec_le a.len 0) [
          | yes k ↦ rw (e, byte_short a.start (omega arith)) tt
          | no k ↦ rw (e, byte_there a.start (omega arith), lt-ltb 3 (get_or s a.start 0) h) tt
        ]

    pub array_short : a.len < 2 → IsRefused (array w s p)
    unfolding array inside array_rest
    array_short h =
        elim (dec_le a.len 0) [
          | yes k ↦ rw (e, byte_short a.start (omega arith)) tt
          | no k ↦
              elim (dec_le (get_or s a.start 0) 3) [
                | yes j ↦ rw (e, byte_there a.start (omega arith), le-ltb 3 (get_or s a.start 0) j, byte_short (a.start + 1) (omega arith)) tt
                | no j ↦ array_complete (omega arith)
              ]
        ]

    module _ (two : 2 ≤ a.len) (complete : get_or s a.start 0 ≤ 3) where
      pub array_type : largest_type < get_or s (a.start + 1) 0 → IsRefused (array w s p)
      unfolding array inside array_rest
      array_type h = rw (
        e,
        byte_there a.start (omega arith),
        le-ltb 3 (get_or s a.start 0) complete,
        byte_there (a.start + 1) (omega arith),
        lt-ltb largest_type (get_or s (a.start + 1) 0) h,
      ) tt

      -- an array with its units
      abbrev pub headed : List Span → Array Span
      headed us = array_with (get_or s a.start 0) (get_or s (a.start + 1) 0) us

      module _ (small : get_or s (a.start + 1) 0 ≤ largest_type) where
        pub array_reads : array w s p ≡ bind (many (chunk w) (take (a.start + a.len) s) (a.start + 2)) (λ us r. value (headed us) r)
        unfolding array inside array_rest
        array_reads =
            let two_on : a.start + 1 + 1 ≡ a.start + 2 = omega arith in
            rw (
              e,
              byte_there a.start (omega arith),
              le-ltb 3 (get_or s a.start 0) complete,
              byte_there (a.start + 1) (omega arith),
              le-ltb largest_type (get_or s (a.start + 1) 0) small,
              two_on,
            )

not_refused : {A : Type 0} (o : Parsed A) (x : A) (q : ℕ) → o ≡ value x q → IsRefused o → ⊥
not_refused (value a p) x q e h = h
not_refused (refused n) x q e h = let z : ◌≡◌ {A = ℕ} 0 1 = cc in omega arith

module _ (w : ℕ) (s : List ℕ) (some : 1 ≤ w) where
  -- what an array that was read says: it ends inside s, and its units lie before its end
  pub record ArrayRead (p : ℕ) (x : Array Span) (q : ℕ) : Type 0 where
    pub next : p < q
    pub fits : q ≤ length s
    pub complete : x.complete ≤ 1
    pub reserved : x.reserved_bit ≤ 1
    pub unit_type : x.unit_type ≤ largest_type
    pub lies : Lies w q p x.units

  -- the units of an array whose head is good end where it does
  module _ (p : ℕ) (a : Span) (e : chunk w s p ≡ value a (a.start + a.len)) (two : 2 ≤ a.len) where
    units_run : (us : List Span) (r : ℕ) → many (chunk w) (take (a.start + a.len) s) (a.start + 2) ≡ value us r
        → (r ≡ a.start + a.len) × Lies w (a.start + a.len) p us
    units_run us r f =
        let l : length (take (a.start + a.len) s) ≡ a.start + a.len = rest_long w s p a e in
        let c = chunk_read w s p a (a.start + a.len) e in
        let h = chunks_run w (take (a.start + a.len) s) some (a.start + 2) (omega arith) us r f in
        let x = h.lies.together in
        (h.end ∙ l, record { together = omega arith; each = λ k. let y = h.lies.each k in omega arith })

  pub array_read : (p : ℕ) (x : Array Span) (q : ℕ) → array w s p ≡ value x q → ArrayRead p x q
  array_read p x q e = chunked (chunk w s p) refl
    where
      units : (a : Span) → chunk w s p ≡ value a (a.start + a.len) → 2 ≤ a.len → get_or s a.start 0 ≤ 3 → get_or s (a.start + 1) 0 ≤ largest_type
          → (o : Parsed (List Span)) → many (chunk w) (take (a.start + a.len) s) (a.start + 2) ≡ o
          → bind o (λ us r. value (array_with (get_or s a.start 0) (get_or s (a.start + 1) 0) us) r) ≡ value x q
          → ArrayRead p x q
      units a c two one small (refused n) f g = absurd (let z : ◌≡◌ {A = ℕ} 0 1 = cc in omega arith)
      units a c two one small (value us r) f g =
          let y : array_with (get_or s a.start 0) (get_or s (a.start + 1) 0) us ≡ x = cc in
          let z : r ≡ q = cc in
          let b = chunk_read w s p a (a.start + a.len) c in
          let h = units_run p a c two us r f in
          let i : a.start + a.len ≡ q = omega arith in
          rw (← y, ← i) (record { next = omega arith; fits = b.fits; complete = omega arith; reserved = omega arith; unit_type = small; lies = h.1 })

      headed_well : (a : Span) → chunk w s p ≡ value a (a.start + a.len) → ArrayRead p x q
      headed_well a c =
          elim (dec_le 2 a.len) [
            | no k ↦ absurd (not_refused (array w s p) x q e (array_short w s p a c (omega arith)))
            | yes two ↦
                elim (dec_le (get_or s a.start 0) 3) [
                  | no k ↦ absurd (not_refused (array w s p) x q e (array_complete w s p a c (omega arith)))
                  | yes one ↦
                      elim (dec_le (get_or s (a.start + 1) 0) largest_type) [
                        | no k ↦ absurd (not_refused (array w s p) x q e (array_type w s p a c two one (omega arith)))
                        | yes small ↦
                            units a c two one small (many (chunk w) (take (a.start + a.len) s) (a.start + 2)) refl
                            (sym (array_reads w s p a c two one small) ∙ e)
                      ]
                ]
          ]

      chunked : (o : Parsed Span) → chunk w s p ≡ o → ArrayRead p x q
      chunked (refused n) c = absurd (not_refused (array w s p) x q e (array_no_chunk w s p (rw c tt)))
      chunked (value a r) c =
          let b = chunk_read w s p a r c in
          let z : r ≡ a.start + a.len = omega arith in
          headed_well a (c ∙ ap (value a) z)

  pub array_advances : Advances (array w) s
  array_advances p x q e = (array_read p x q e).next

  -- the arrays from one on whose head is good: its units, and the arrays after it
  module _ (p n : ℕ) (left : p < length s) (a : Span) (c : chunk w s p ≡ value a (a.start + a.len)) (two : 2 ≤ a.len)
      (one : get_or s a.start 0 ≤ 3) (small : get_or s (a.start + 1) 0 ≤ largest_type) where
    pub arrays_step : outcome_or n (many (array w) s p)
        ≡ and_then (outcome_or n (many (chunk w) (take (a.start + a.len) s) (a.start + 2)))
        (λ us. more (array_with (get_or s a.start 0) (get_or s (a.start + 1) 0) us)
        (outcome_or n (many (array w) s (a.start + a.len))))
    arrays_step = go (many (chunk w) (take (a.start + a.len) s) (a.start + 2)) refl
      where
        go : (o : Parsed (List Span)) → many (chunk w) (take (a.start + a.len) s) (a.start + 2) ≡ o → outcome_or n (many (array w) s p)
            ≡ and_then (outcome_or n o)
            (λ us. more (array_with (get_or s a.start 0) (get_or s (a.start + 1) 0) us)
            (outcome_or n (many (array w) s (a.start + a.len))))
        go (refused m) f = run_refused (array w) s p n left (rw (array_reads w s p a c two one small, f) tt)
        go (value us r) f =
            let h = units_run p a c two us r f in
            let g : array w s p
            ≡ value (array_with (get_or s a.start 0) (get_or s (a.start + 1) 0) us) (a.start + a.len) =
            array_reads w s p a c two one small ∙ rw (f, h.0) in
            run_step (array w) s p n left array_advances (array_with (get_or s a.start 0) (get_or s (a.start + 1) 0) us)
            (a.start + a.len) g

  -- the arrays of a run lie before the end
  pub arrays_lie : (p : ℕ) → p ≤ length s → (xs : List (Array Span)) (r : ℕ) → many (array w) s p ≡ value xs r → Lies w (length s) p (units_of xs)
  unfolding units_of
  arrays_lie p h xs r e =
      run_value (array w) s array_advances (λ p xs r. p ≤ length s → Lies w (length s) p (units_of xs))
      (λ p g h. lies_nil w (length s) p h)
      (λ p a q xs r x m h. let b = array_read p a q x in lies_append w (length s) p q a.units (units_of xs) b.lies b.fits (m b.fits))
      p xs r e h

  -- and are sound
  pub arrays_sound : (p : ℕ) (xs : List (Array Span)) (r : ℕ) → many (array w) s p ≡ value xs r → Sound xs
  arrays_sound =
      run_value (array w) s array_advances (λ p xs r. Sound xs) (λ p h. sound_none)
      (λ p a q xs r x m. let b = array_read p a q x in sound_more b.complete b.reserved b.unit_type m)
