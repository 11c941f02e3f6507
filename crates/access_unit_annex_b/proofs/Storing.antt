-- Laws of storing the stream unit by unit: what is stored and what is left are the whole.
use Prim.Native.Nat.{ℕ, zero, suc, ◌+◌, ◌-◌, ◌≤◌, ◌<◌}
use mathlib.Core.Path.{◌≡◌, refl, sym, ap, ◌∙◌}
use mathlib.Core.List.{List, [], ◌∷◌, ◌++◌, map}
use native.Mathlib.Omega.{arith}
use lib.ListN.{length, take, drop}
use lib.Seq.{sets}
use Rattle.parse.specs.Outcome.{Outcome, accept, refuse}
use Rattle.parse.specs.inner.Walk.{more}
use Rattle.parse.specs.inner.Stores.{bytes_of}
use Rattle.parse.proofs.General.{sets_append}
use Rattle.parse.proofs.Stores.{Putting, putting_end, putting_room, putting_again}
use Rattle.boxes.specs.Bytes.{to_be}
use Rattle.boxes.specs.Parts.{held}
use Rattle.boxes.specs.declared.Span.{Span}
use Rattle.boxes.proofs.Walk.{total}
use Rattle.annex_b.specs.Stream.{StartCode, three, four, code_bytes}
use Rattle.access_unit.specs.inner.Gathered.{later_code, coded, bytes_at}
use Rattle.access_unit.specs.declared.StartCodes.{StartCodes}
use Rattle.access_unit.proofs.Streams.{stream_none, stream_one}

-- a start code is the number 1 in three or four bytes
pub code_number : (c : StartCode) → to_be (length (code_bytes c)) 1 ≡ code_bytes c
unfolding to_be
code_number three = refl
code_number four = refl

-- a start code and a unit, stored one after the other
pub unit_stored : (codes : StartCodes) (d e f u : List ℕ) (p n : ℕ) → n ≡ length (code_bytes (later_code codes u)) → e ≡ sets d p (to_be n 1)
    → f ≡ sets e (p + n) u → f ≡ sets d p (coded codes u)
unit_stored codes d e f u p n l x y =
    let c = later_code codes u in
    y ∙ rw (x, l, code_number c) (sets_append d p (code_bytes c) u)

-- the stream of no units, and of one before others
bytes_nil : (codes : StartCodes) (s : List ℕ) → bytes_at codes s [] ≡ []
bytes_nil codes s = stream_none (later_code codes)

bytes_first : (codes : StartCodes) (s : List ℕ) (a : Span) (us : List Span) → bytes_at codes s (a ∷ us) ≡ coded codes (held s a) ++ bytes_at codes s us
bytes_first codes s a us = stream_one (λ k. later_code codes) (held s a) (map (held s) us)

-- ### the units left in a walk that stores all of them

-- o is left, to be stored from place `to` of the output on
abbrev pub Remaining : StartCodes → List ℕ → List ℕ → ℕ → Outcome (List Span) → Outcome (List Span) → List ℕ → ℕ → Type 0
Remaining codes s out₀ to₀ o₀ o out to = Putting (bytes_at codes s) out₀ to₀ o₀ o out to

module _ (codes : StartCodes) (s out₀ : List ℕ) (to₀ : ℕ) (o₀ o : Outcome (List Span)) (out : List ℕ) (to : ℕ)
    (i : Remaining codes s out₀ to₀ o₀ o out to) where
  pub remaining_end : ((us : List Span) → o ≡ accept us → us ≡ [])
      → (to ≡ to₀ + length (bytes_of (bytes_at codes s) o₀)) × (out ≡ sets out₀ to₀ (bytes_of (bytes_at codes s) o₀))
  remaining_end h =
      let f = i.puts.found in
      putting_end (bytes_at codes s) out₀ to₀ o₀ o out to i (bytes_nil codes s) (f ∙ ap accept (h i.puts.it f))

  module _ (a : Span) (left : Outcome (List Span)) (e : o ≡ more a left) where
    pub remaining_room : to + length (coded codes (held s a)) ≤ length out
    remaining_room = putting_room (bytes_at codes s) out₀ to₀ o₀ o out to i a (coded codes (held s a)) (bytes_first codes s a) left e

    pub remaining_more : (after : List ℕ) (next : ℕ) → next ≡ to + length (coded codes (held s a)) → after ≡ sets out to (coded codes (held s a))
        → Remaining codes s out₀ to₀ o₀ left after next
    remaining_more after next f g =
        putting_again (bytes_at codes s) out₀ to₀ o₀ o out to i a (coded codes (held s a)) (bytes_first codes s a) left e after g next f

-- ### a walk that stores the first units only: how many are left, and what comes after them

-- the one found before those that are left
record Front (a : Span) (o : Outcome (List Span)) (us : List Span) : Type 0 where
  pub tail : List Span
  pub left : o ≡ accept tail
  pub is : us ≡ a ∷ tail

front : (a : Span) (o : Outcome (List Span)) (us : List Span) → more a o ≡ accept us → Front a o us
front a (accept xs) us e = record { tail = xs; left = refl; is = let z : a ∷ xs ≡ us = cc in sym z }
front a (refuse n) us e = absurd (let z : ◌≡◌ {A = ℕ} 0 1 = cc in omega arith)

pub record FirstLeft (codes : StartCodes) (s out₀ : List ℕ) (to₀ : ℕ) (o₀ then o : Outcome (List Span)) (left : ℕ) (out : List ℕ)
    (to : ℕ) : Type 0 where
  pub rest : List Span
  pub found : o ≡ accept rest
  pub enough : left ≤ length rest
  pub next : accept (drop left rest) ≡ then
  pub storing : Remaining codes s out₀ to₀ o₀ (accept (take left rest)) out to

module _ (codes : StartCodes) (s out₀ : List ℕ) (to₀ : ℕ) (o₀ then o : Outcome (List Span)) where
  pub first_end : (left : ℕ) (out : List ℕ) (to : ℕ) → FirstLeft codes s out₀ to₀ o₀ then o left out to → left ≤ 0
      → (to ≡ to₀ + length (bytes_of (bytes_at codes s) o₀)) × (out ≡ sets out₀ to₀ (bytes_of (bytes_at codes s) o₀)) × (o ≡ then)
  first_end zero out to i h =
      let w = putting_end (bytes_at codes s) out₀ to₀ o₀ (accept []) out to i.storing (bytes_nil codes s) refl in
      (w.0, w.1, i.found ∙ i.next)
  first_end (suc l) out to i h = absurd (omega arith)

  module _ (a : Span) (o' : Outcome (List Span)) (e : o ≡ more a o') where
    pub first_room : (left : ℕ) (out : List ℕ) (to : ℕ) → FirstLeft codes s out₀ to₀ o₀ then o left out to → 0 < left
        → to + length (coded codes (held s a)) ≤ length out
    first_room zero out to i h = absurd (omega arith)
    first_room (suc l) out to i h =
        let f = front a o' i.rest (sym e ∙ i.found) in
        let r = accept (take l f.tail) in
        remaining_room codes s out₀ to₀ o₀ (more a r) out to (rw f.is at i.storing) a r refl

    pub first_more : (left : ℕ) (out : List ℕ) (to : ℕ) → FirstLeft codes s out₀ to₀ o₀ then o left out to → 0 < left
        → (after : List ℕ) (next : ℕ) → next ≡ to + length (coded codes (held s a)) → after ≡ sets out to (coded codes (held s a))
        → FirstLeft codes s out₀ to₀ o₀ then o' (left - 1) after next
    first_more zero out to i h after next p q = absurd (omega arith)
    first_more (suc l) out to i h after next p q =
        let f = front a o' i.rest (sym e ∙ i.found) in
        let k = ap length f.is in
        let r = accept (take l f.tail) in
        let z : suc l - 1 ≡ l = omega arith in
        rw z (record {
          rest = f.tail;
          found = f.left;
          enough = omega (arith, k, i.enough);
          next = rw f.is at i.next;
          storing = remaining_more codes s out₀ to₀ o₀ (more a r) out to (rw f.is at i.storing) a r refl after next p q;
        })

  -- a unit that is not stored
  pub first_on : (o' : Outcome (List Span)) → o ≡ o' → (left : ℕ) (out : List ℕ) (to : ℕ) → FirstLeft codes s out₀ to₀ o₀ then o left out to
      → FirstLeft codes s out₀ to₀ o₀ then o' left out to
  first_on o' e left out to i = record { rest = i.rest; found = sym e ∙ i.found; enough = i.enough; next = i.next; storing = i.storing }

  -- a unit is left, so one is found
  pub first_some : (left : ℕ) (out : List ℕ) (to : ℕ) → FirstLeft codes s out₀ to₀ o₀ then o left out to → 0 < left → total o ≡ 0 → ⊥
  first_some left out to i h z = let t = ap total i.found in omega (arith, t, i.enough)
