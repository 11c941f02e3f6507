-- Laws of the sublayers' flags and levels: loops that fill an array from the end down.
use mathlib.Core.Path.{◌≡◌, refl, ap, sym, ◌∙◌}
use mathlib.Core.Bool.{Bool, false}
use mathlib.Core.List.{List, [], ◌∷◌, ◌++◌}
use Prim.Native.Nat.{ℕ, zero, suc, ◌*◌, ◌/◌, ◌%◌, ◌≤◌, ◌<◌}
use native.Mathlib.Omega.{arith}
use lib.ListN.{length, drop, set, replicate, length-set, length-append}
use Rattle.std.specs.Prelude.{if◌then◌else◌, Ok, Err}
use Rattle.error.specs.declared.Refusal.{Refusal}
use Rattle.parse.specs.Parse.{Parsed, value, refused, bind, Parser, give}
use Rattle.parse.proofs.Binds.{first_read}
use Rattle.bit_reader.specs.Bits.{u, is_set}
use Rattle.bit_reader.specs.inner.Reader.{Reads}
use Rattle.bit_reader.specs.declared.reader.BitReader.{BitReader}
use Rattle.bit_reader.proofs.Chain.{read_value, read_refused}
use Rattle.ptl.specs.Ptl.{padded, present_flags, levels}
use Rattle.ptl_bits.specs.inner.Sections.{level_array}
use Rattle.std.proofs.lemmas.List.{drop-replicate}
use Rattle.ptl.proofs.Arrays.{snoc_store}

-- a read that is not done where a test fails
abbrev pub byte_if : Bool → Parser ℕ
byte_if b = if b then u 8 else give 0

-- ---- the flags
pub flags_length : (m byte : ℕ) → length (present_flags m byte) ≡ m
unfolding present_flags
flags_length zero byte = refl
flags_length (suc m) byte = rw (length-append, flags_length m (byte % 128 * 2)) (omega arith)

-- those of the first i sublayers are in the byte, and the others are stored
pub record Flagged (flags m : ℕ) (present : List Bool) (byte i : ℕ) : Type 0 where
  pub small : byte < 256
  pub long : length present ≡ 7
  pub done : present_flags i byte ++ drop i present ≡ padded 7 false (present_flags m flags)

pub flags_start : (flags m : ℕ) → flags < 256 → Flagged flags m (replicate 7 false) flags m
flags_start flags m h = record { small = h; long = refl; done = rw (drop-replicate m 7 false, flags_length m flags) }

module _ (flags m : ℕ) (present : List Bool) (byte i : ℕ) (f : Flagged flags m present byte i) where
  pub flags_on : (j : ℕ) → i ≡ suc j → i ≤ 7 → Flagged flags m (set present j (is_set (byte / 128))) (byte % 128 * 2) j
  unfolding present_flags
  flags_on j e few =
      let g : present_flags (suc j) byte ++ drop (suc j) present ≡ padded 7 false (present_flags m flags) =
      ap (λ k. present_flags k byte ++ drop k present) (sym e) ∙ f.done in
      record {
        small = omega arith;
        long = length-set present j (is_set (byte / 128)) ∙ f.long;
        done = sym (snoc_store (present_flags j (byte % 128 * 2)) j present (is_set (byte / 128)) (omega arith)) ∙ g;
      }

  pub flags_end : i ≡ 0 → present ≡ padded 7 false (present_flags m flags)
  unfolding present_flags
  flags_end e = ap (λ j. present_flags j byte ++ drop j present) (sym e) ∙ f.done

-- ---- the levels

-- as many levels as sublayers
pub levels_length : (L : Parser ℕ) (s : List ℕ) (m byte p : ℕ) (ls : List ℕ) (q : ℕ) → levels L m byte s p ≡ value ls q → length ls ≡ m
unfolding levels
levels_length L s zero byte p ls q e = let z : [] ≡ ls = cc in ap length (sym z)
levels_length L s (suc m) byte p ls q e =
    first_read ((if is_set (byte / 128) then L else give 0) s p) _ e (λ v a g f.
    first_read (levels L m (byte % 128 * 2) s a) _ f (λ below t h k.
    let z : below ++ (v ∷ []) ≡ ls = cc in
    let n = levels_length L s m (byte % 128 * 2) a below t h in
    ap length (sym z) ∙ rw (length-append, n) (omega arith)))

-- levels, before those stored
abbrev pub in_front_of : List ℕ → Parsed (List ℕ) → Parsed (List ℕ)
in_front_of l x = bind x (λ below t. value (below ++ l) t)

-- those of the first i sublayers are still to be read, and the others are stored
pub record Levelled (L : Parser ℕ) (a : BitReader) (flags m : ℕ) (stored : List ℕ) (b : BitReader) (byte i : ℕ) : Type 0 where
  pub small : byte < 256
  pub long : length stored ≡ 7
  pub bytes : b.src ≡ a.src
  pub done : level_array L m flags a.src.now a.pos.0 ≡ in_front_of (drop i stored) (levels L i byte a.src.now b.pos.0)

pub levels_start : (L : Parser ℕ) (a : BitReader) (flags m : ℕ) → flags < 256 → Levelled L a flags m (replicate 7 0) a flags m
levels_start L a flags m h = record { small = h; long = refl; bytes = refl; done = go (levels L m flags a.src.now a.pos.0) refl }
  where
    go : (x : Parsed (List ℕ)) → levels L m flags a.src.now a.pos.0 ≡ x
        → bind x (λ ls q. value (padded 7 0 ls) q) ≡ in_front_of (drop m (replicate 7 0)) x
    go (value ls q) e = rw (drop-replicate {X = ℕ} m 7 0, levels_length L a.src.now m flags a.pos.0 ls q e)
    go (refused r) e = refl

regroup : (x : Parsed (List ℕ)) (v : ℕ) (l l' : List ℕ) → ((xs : List ℕ) → (xs ++ (v ∷ [])) ++ l ≡ xs ++ l')
    → in_front_of l (in_front_of (v ∷ []) x) ≡ in_front_of l' x
regroup (value a q) v l l' h = ap (λ (k : List ℕ). value k q) (h a)
regroup (refused r) v l l' h = refl

module _ (L : Parser ℕ) (s : List ℕ) (byte j p : ℕ) (l : List ℕ) where
  level_read : (v q : ℕ) → (if is_set (byte / 128) then L else give 0) s p ≡ value v q
      → in_front_of l (levels L (suc j) byte s p) ≡ in_front_of l (in_front_of (v ∷ []) (levels L j (byte % 128 * 2) s q))
  unfolding levels
  level_read v q h = rw h

  level_refused : (n : ℕ) → (if is_set (byte / 128) then L else give 0) s p ≡ refused n → in_front_of l (levels L (suc j) byte s p) ≡ refused n
  unfolding levels
  level_refused n h = rw h

module _ (L : Parser ℕ) (a : BitReader) (flags m : ℕ) (stored : List ℕ) (b : BitReader) (byte i : ℕ)
    (f : Levelled L a flags m stored b byte i) where
  module _ (j : ℕ) (e : i ≡ suc j) (c : BitReader) where
    next : level_array L m flags a.src.now a.pos.0 ≡ in_front_of (drop (suc j) stored) (levels L (suc j) byte a.src.now b.pos.0)
    next = f.done ∙ ap (λ k. in_front_of (drop k stored) (levels L k byte a.src.now b.pos.0)) e

    -- one more level
    pub levels_on : (v : ℕ) → Reads (if is_set (byte / 128) then L else give 0) b c (Ok v) → i ≤ 7
        → Levelled L a flags m (set stored j v) c (byte % 128 * 2) j
    levels_on v h few = record {
      small = omega arith;
      long = length-set stored j v ∙ f.long;
      bytes = h.bytes ∙ f.bytes;
      done = next
          ∙ level_read L a.src.now byte j b.pos.0 (drop (suc j) stored) v c.pos.0 (read_value f.bytes h)
          ∙ regroup (levels L j (byte % 128 * 2) a.src.now c.pos.0) v _ _ (λ xs. snoc_store xs j stored v (omega arith));
    }

    pub levels_refused : (r : Refusal) → Reads (if is_set (byte / 128) then L else give 0) b c (Err r) → Reads (level_array L m flags) a c (Err r)
    levels_refused r h = record {
      bytes = h.bytes ∙ f.bytes;
      answer = sym (next ∙ level_refused L a.src.now byte j b.pos.0 (drop (suc j) stored) _ (read_refused f.bytes h));
    }

  pub levels_end : i ≡ 0 → Reads (level_array L m flags) a b (Ok stored)
  unfolding levels
  levels_end e = record {
    bytes = f.bytes;
    answer = sym (f.done ∙ ap (λ k. in_front_of (drop k stored) (levels L k byte a.src.now b.pos.0)) e);
  }
