-- The tests of the bytes that arrays begin with, one after another.
use Prim.Native.Nat.{ℕ, zero, suc, ◌≤◌}
use mathlib.Core.Path.{◌≡◌, refl, sym, ap, ◌∙◌}
use mathlib.Core.Bool.{Bool, true, false, ◌&&◌}
use mathlib.Core.List.{List, ◌∷◌}
use native.Mathlib.Omega.{arith}
use lib.Dec.{leb, eqb}
use lib.ListN.{get_or}
use borrow.Author.Tests.{leb-true, lt-leb, ne_eqb}
use Rattle.std.specs.Prelude.{if◌then◌else◌}
use Rattle.parse.specs.Outcome.{accept, refuse}
use Rattle.parse.specs.Parse.{Parsed, value, refused, bind, times, outcome}
use Rattle.parse.proofs.Many.{times_nil, times_step, times_bad}
use Rattle.boxes.specs.declared.Span.{Span}
use Rattle.nal.specs.Kinds.{is_record_type, unit_kind, is_record}
use Rattle.nal.specs.declared.UnitKind.TheVariants.{PictureData, Record, Aud, Other}
use Rattle.unit_list.specs.UnitList.{Array}
use Rattle.record_arrays.specs.Read.{record_array}
use Rattle.record_arrays.specs.declared.Codec.TheVariants.{Vvc}
use Rattle.full.specs.Rules.{array_reserved, array_typed, array_byte, all}
use Rattle.record_rules.specs.inner.Rules.{tested}

-- a record kind has a type that a record may have
kind_is : (t : ℕ) (a b c : Bool) → (a ≡ true → b ≡ false)
    → is_record (if a then PictureData t else if b then Record t else if c then Aud else Other) ≡ b
kind_is t true b c h = sym (h refl)
kind_is t false true c h = refl
kind_is t false false true h = refl
kind_is t false false false h = refl

pub record_type : (t : ℕ) → is_record (unit_kind t) ≡ is_record_type t
unfolding unit_kind
record_type t = kind_is t (leb t 11) (is_record_type t) (eqb t 20)
    (λ e. let h = leb-true t 11 e in rw (lt-leb 12 t (omega arith), ne_eqb t 23 (λ z. omega arith)))

and_true : (a : Bool) → (a && true) ≡ a
and_true true = refl
and_true false = refl

and_and : (a b c : Bool) → ((a && b) && c) ≡ (a && (b && c))
and_and true b c = refl
and_and false b c = refl

module _ (s : List ℕ) where
  -- the byte of an array that is read, and of one that is not
  byte_read : (p : ℕ) (x : Array Span) (q : ℕ) → record_array Vvc s p ≡ value x q → array_byte s p ≡ value (get_or s p 0) q
  unfolding array_byte
  byte_read p x q e = rw e

  byte_refused : (p e : ℕ) → record_array Vvc s p ≡ refused e → array_byte s p ≡ refused e
  unfolding array_byte
  byte_refused p e f = rw f

  module _ (a b : Bool) where
    -- no array is left
    pub tested_all : (n p : ℕ) → n ≤ 0 → tested a b (outcome (times n array_byte s p)) ≡ accept (a, b)
    unfolding all
    tested_all zero p h = rw (times_nil array_byte s p, and_true a, and_true b)
    tested_all (suc n) p h = absurd (omega arith)

    one_more : (c : ℕ) (x : Parsed (List ℕ)) → tested (a && array_reserved c) (b && array_typed c) (outcome x)
        ≡ tested a b (outcome (bind x (λ rest r. value (c ∷ rest) r)))
    unfolding all
    one_more c (value bs r) = rw (and_and a (array_reserved c) (all array_reserved bs), and_and b (array_typed c) (all array_typed bs))
    one_more c (refused e) = refl

    -- m arrays are left after the next
    module _ (n p m : ℕ) (some : n ≡ suc m) where
      -- it runs past the end
      pub tested_short : (e : ℕ) → record_array Vvc s p ≡ refused e → tested a b (outcome (times n array_byte s p)) ≡ refuse e
      tested_short e f = rw (some, times_bad array_byte s m p e (byte_refused p e f))

      -- it is read, up to place q
      pub tested_next : (x : Array Span) (q : ℕ) → record_array Vvc s p ≡ value x q
          → tested (a && array_reserved (get_or s p 0)) (b && array_typed (get_or s p 0)) (outcome (times m array_byte s q))
          ≡ tested a b (outcome (times n array_byte s p))
      tested_next x q e =
          one_more (get_or s p 0) (times m array_byte s q)
          ∙ rw some (ap (λ (y : Parsed (List ℕ)). tested a b (outcome y)) (sym (times_step array_byte s m p (get_or s p 0) q (byte_read p x q e))))
