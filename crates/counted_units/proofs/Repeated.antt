-- Laws of a parser repeated n times whose values are measured and stored one after the other: what is done and what is left are the
-- whole. The same laws serve the units of an array and the arrays of a record.
use Prim.Native.Nat.{ℕ, zero, suc, ◌+◌, ◌*◌, ◌≤◌}
use mathlib.Core.Path.{◌≡◌, refl, sym, ap, ◌∙◌, subst}
use mathlib.Core.List.{List, [], ◌∷◌, ◌++◌}
use native.Mathlib.Omega.{arith}
use lib.ListN.{length, length-append}
use lib.Seq.{sets}
use Rattle.std.specs.Prelude.{Option, Some, None}
use Rattle.parse.specs.Parse.{Parsed, value, refused, bind, Parser, times, outcome}
use Rattle.parse.specs.Outcome.{Outcome, accept}
use Rattle.parse.specs.inner.Walk.{more}
use Rattle.parse.specs.inner.Stores.{bytes_of, Puts}
use Rattle.parse.specs.inner.Answers.{there_of}
use Rattle.parse.proofs.Many.{times_nil, times_step, times_bad}
use Rattle.parse.proofs.Stores.{Putting, putting_never, putting_end, putting_room, putting_again}
use Rattle.parse.proofs.Binds.{outcome_more}
use Rattle.counted_units.specs.inner.Counted.{RoomFits, room_taken, place_after, StoredAt}
use Rattle.counted_units.specs.declared.Stored.{Stored}

-- what a measurement says
module _ {A : Type 0} (f : List ℕ → A → List ℕ) (s : List ℕ) where
  pub record RoomFound (x : Parsed A) (room q : ℕ) : Type 0 where
    pub what : A
    pub read : x ≡ value what q
    pub long : room ≡ length (f s what)

  pub room_found : (x : Parsed A) (room q : ℕ) → value room q ≡ room_taken f s 0 x → RoomFound x room q
  room_found (value a r) room q e =
      let z : q ≡ r = cc in
      let l : room ≡ 0 + length (f s a) = cc in
      record { what = a; read = ap (value a) (sym z); long = omega arith }
  room_found (refused j) room q e = absurd (let z : ◌≡◌ {A = ℕ} 0 1 = cc in omega arith)

  pub room_refused : (x : Parsed A) (e : ℕ) → refused e ≡ room_taken f s 0 x → x ≡ refused e
  room_refused (value a r) e w = absurd (let z : ◌≡◌ {A = ℕ} 0 1 = cc in omega arith)
  room_refused (refused j) e w = let z : j ≡ e = cc in ap refused z

-- the answer of a measurement when it is known
pub record RoomAt (s : List ℕ) (p : ℕ) (x : Parsed ℕ) (n q : ℕ) : Type 0 where
  pub read : value n q ≡ x
  pub inside : q ≤ length s
  pub few : p * 6 + n ≤ q * 6

module _ (s : List ℕ) (p : ℕ) (x : Parsed ℕ) (r : Option (ℕ × ℕ)) (f : (there_of r ≡ x) × RoomFits s p r) where
  pub room_short : r ≡ None → refused 1 ≡ x
  room_short e = sym (ap there_of e) ∙ f.0

  pub room_at : (n q : ℕ) → r ≡ Some (n, q) → RoomAt s p x n q
  room_at n q e =
      let g = subst (λ (r : Option (ℕ × ℕ)). (there_of r ≡ x) × RoomFits s p r) e f in
      record { read = g.0; inside = g.1.0; few = g.1.1 }

-- what was accepted, and the place after it
value_of : {A : Type 0} (x : Parsed A) (a : A) → outcome x ≡ accept a → x ≡ value a (place_after x)
value_of (value b q) a e = let z : b ≡ a = cc in ap (λ c. value c q) z
value_of (refused n) a e = let z : ◌≡◌ {A = ℕ} 0 1 = cc in absurd (omega arith)

-- values of P: the bytes of one, and of many
module _ {A : Type 0} (P : Parser A) (f : List ℕ → A → List ℕ) (F : List ℕ → List A → List ℕ)
    (none : (s : List ℕ) → F s [] ≡ []) (first : (s : List ℕ) (a : A) (xs : List A) → F s (a ∷ xs) ≡ f s a ++ F s xs) (s : List ℕ) where
  -- the length with one more
  room_more : (a : A) (xs : List A) → length (F s (a ∷ xs)) ≡ length (f s a) + length (F s xs)
  room_more a xs = ap length (first s a xs) ∙ length-append (f s a) (F s xs)

  times_done : (n p : ℕ) → n ≤ 0 → times n P s p ≡ value [] p
  times_done zero p h = times_nil P s p
  times_done (suc n) p h = absurd (omega arith)

  -- ### measured
  pub room_done : (k n p : ℕ) → n ≤ 0 → room_taken F s k (times n P s p) ≡ value k p
  room_done k n p h =
      let l = ap length (none s) in
      let e : k + length (F s []) ≡ k = omega arith in
      ap (room_taken F s k) (times_done n p h) ∙ ap (λ (m : ℕ). value m p) e

  -- m values are left after the next
  module _ (n p m : ℕ) (some : n ≡ suc m) where
    pub times_refused : (e : ℕ) → P s p ≡ refused e → times n P s p ≡ refused e
    times_refused e w = rw some (times_bad P s m p e w)

    module _ (a : A) (q : ℕ) (w : P s p ≡ value a q) where
      times_more : times n P s p ≡ bind (times m P s q) (λ rest r. value (a ∷ rest) r)
      times_more = ap (λ (k : ℕ). times k P s p) some ∙ times_step P s m p a q w

      room_bind : (k l : ℕ) → l ≡ k + length (f s a)
          → (x : Parsed (List A)) → room_taken F s l x ≡ room_taken F s k (bind x (λ rest r. value (a ∷ rest) r))
      room_bind k l e (value xs r) = ap (λ (j : ℕ). value j r) (let h = room_more a xs in omega arith)
      room_bind k l e (refused j) = refl

      pub room_next : (k l : ℕ) → l ≡ k + length (f s a) → room_taken F s l (times m P s q) ≡ room_taken F s k (times n P s p)
      room_next k l e = room_bind k l e (times m P s q) ∙ ap (room_taken F s k) (sym times_more)

  -- ### stored
  place_more : (a : A) (x : Parsed (List A)) → place_after (bind x (λ rest r. value (a ∷ rest) r)) ≡ place_after x
  place_more a (value xs r) = refl
  place_more a (refused e) = refl

  -- n values are left, to be read from place p on and stored from place `to` on; x₀ was to be stored from place `start` of out₀ on
  pub record Storing (out₀ : List ℕ) (start : ℕ) (x₀ : Parsed (List A)) (n p : ℕ) (out : List ℕ) (to : ℕ) : Type 0 where
    pub putting : Putting (F s) out₀ start (outcome x₀) (outcome (times n P s p)) out to
    pub place : place_after (times n P s p) ≡ place_after x₀

  module _ (out₀ : List ℕ) (start : ℕ) (x₀ : Parsed (List A)) (n p : ℕ) (out : List ℕ) (to : ℕ) (i : Storing out₀ start x₀ n p out to) where
    pub storing_done : n ≤ 0 → StoredAt F s x₀ out₀ start out (record { from = p; to = to })
    storing_done h =
        let e = times_done n p h in
        let w = putting_end (F s) out₀ start (outcome x₀) (outcome (times n P s p)) out to i.putting (none s) (ap outcome e) in
        record { written = w.1; from = sym (ap place_after e) ∙ i.place; to = w.0 }

    module _ (m : ℕ) (some : n ≡ suc m) where
      -- the next value is there
      pub storing_not_short : (e : ℕ) → P s p ≡ refused e → ⊥
      storing_not_short e w =
          putting_never (F s) out₀ start (outcome x₀) (outcome (times n P s p)) out to i.putting e (ap outcome (times_refused n p m some e w))

      module _ (a : A) (q : ℕ) (w : P s p ≡ value a q) where
        -- the rest after one more
        left : outcome (times n P s p) ≡ more a (outcome (times m P s q))
        left = ap outcome (times_more n p m some a q w) ∙ outcome_more a (times m P s q)

        pub storing_next : (d : List ℕ) → d ≡ sets out to (f s a) → (t : ℕ) → t ≡ to + length (f s a) → Storing out₀ start x₀ m q d t
        storing_next d e t v =
            record {
              putting =
                  putting_again (F s) out₀ start (outcome x₀) (outcome (times n P s p)) out to i.putting a (f s a) (first s a)
                  (outcome (times m P s q)) left d e t v;
              place = sym (place_more a (times m P s q)) ∙ ap place_after (sym (times_more n p m some a q w)) ∙ i.place;
            }

        pub storing_room : to + length (f s a) ≤ length out
        storing_room =
            putting_room (F s) out₀ start (outcome x₀) (outcome (times n P s p)) out to i.putting a (f s a) (first s a)
            (outcome (times m P s q)) left

      one_of : (x : Parsed A) → P s p ≡ x → Puts (f s) (outcome (P s p)) out to
      one_of (value a q) w = record { it = a; found = ap outcome w; room = storing_room a q w }
      one_of (refused e) w = absurd (storing_not_short e w)

      -- the output has room for it
      pub storing_one : Puts (f s) (outcome (P s p)) out to
      storing_one = one_of (P s p) refl

      -- the rest when its bytes are stored
      pub storing_stored : (d : List ℕ) (r : Stored) → StoredAt f s (P s p) out to d r → Storing out₀ start x₀ m r.from d r.to
      storing_stored d r v =
          let o = storing_one in
          let e : d ≡ sets out to (f s o.it) = v.written ∙ ap (λ (x : Outcome A). sets out to (bytes_of (f s) x)) o.found in
          let t : r.to ≡ to + length (f s o.it) = v.to ∙ ap (λ (x : Outcome A). to + length (bytes_of (f s) x)) o.found in
          storing_next o.it r.from (value_of (P s p) o.it o.found ∙ ap (value o.it) (sym v.from)) d e r.to t
