-- Laws of the sub-profiles: a loop of reads that fills an array from the front on.
use mathlib.Core.Path.{◌≡◌, refl, ap, sym, ◌∙◌}
use mathlib.Core.List.{List, [], ◌∷◌, ◌++◌, append-nil}
use Prim.Native.Nat.{ℕ, suc, ◌+◌, ◌-◌, ◌≤◌, ◌<◌}
use native.Mathlib.Nat.{sub-zero}
use native.Mathlib.Numerals.{add-one}
use native.Mathlib.Omega.{arith}
use lib.ListN.{length, take, drop, set, replicate, length-set, take-append-drop}
use lib.Seq.{take-suc-set, drop-set-lt, drop-drop, append_snoc, length-take-le}
use Rattle.std.specs.Prelude.{Ok, Err}
use Rattle.error.specs.declared.Refusal.{Refusal}
use Rattle.parse.specs.Parse.{Parsed, value, refused, bind, Parser, times}
use Rattle.bit_reader.specs.inner.Reader.{Reads}
use Rattle.bit_reader.specs.declared.reader.BitReader.{BitReader}
use Rattle.bit_reader.proofs.Chain.{read_value, read_refused}
use Rattle.ptl.specs.Ptl.{padded}
use Rattle.ptl_bits.specs.inner.Sections.{value_array}

-- values, after those stored
abbrev pub behind : List ℕ → Parsed (List ℕ) → Parsed (List ℕ)
behind l x = bind x (λ rest t. value (l ++ rest) t)

-- k values are stored, and the others are still to be read
pub record Going (P : Parser ℕ) (a : BitReader) (n : ℕ) (values : List ℕ) (b : BitReader) (k : ℕ) : Type 0 where
  pub long : length values ≡ 255
  pub bytes : b.src ≡ a.src
  pub done : times n P a.src.now a.pos.0 ≡ behind (take k values) (times (n - k) P a.src.now b.pos.0)
  pub clear : drop k values ≡ replicate (255 - k) 0

pub going_start : (P : Parser ℕ) (a : BitReader) (n : ℕ) → Going P a n (replicate 255 0) a 0
going_start P a n = record { long = refl; bytes = refl; done = rw sub-zero (all (times n P a.src.now a.pos.0)); clear = refl }
  where
    all : (x : Parsed (List ℕ)) → x ≡ behind [] x
    all (value l q) = refl
    all (refused r) = refl

regroup : (x : Parsed (List ℕ)) (l l' : List ℕ) (v : ℕ) → l' ≡ l ++ (v ∷ [])
    → behind l (bind x (λ rest t. value (v ∷ rest) t)) ≡ behind l' x
regroup (value a q) l l' v e = rw (e, append_snoc l v a)
regroup (refused r) l l' v e = refl

module _ (P : Parser ℕ) (s : List ℕ) (g p : ℕ) (l : List ℕ) where
  one_read : (v q : ℕ) (l' : List ℕ) → l' ≡ l ++ (v ∷ []) → P s p ≡ value v q → behind l (times (suc g) P s p) ≡ behind l' (times g P s q)
  unfolding times
  one_read v q l' e h = rw h (regroup (times g P s q) l l' v e)

  one_refused : (r : ℕ) → P s p ≡ refused r → behind l (times (suc g) P s p) ≡ refused r
  unfolding times
  one_refused r h = rw h

module _ (P : Parser ℕ) (a : BitReader) (n : ℕ) (values : List ℕ) (b : BitReader) (k : ℕ) (f : Going P a n values b k) (fits : n ≤ 255) where
  module _ (h : k < n) (c : BitReader) where
    next : times n P a.src.now a.pos.0 ≡ behind (take k values) (times (suc (n - (k + 1))) P a.src.now b.pos.0)
    next = let e : n - k ≡ suc (n - (k + 1)) = omega arith in f.done ∙ ap (λ g. behind (take k values) (times g P a.src.now b.pos.0)) e

    -- one more value
    pub going_on : (v : ℕ) → Reads P b c (Ok v) → Going P a n (set values k v) c (k + 1)
    going_on v r = record {
      long = length-set values k v ∙ f.long;
      bytes = r.bytes ∙ f.bytes;
      done = next
          ∙ one_read P a.src.now (n - (k + 1)) b.pos.0 (take k values) v c.pos.0 (take (k + 1) (set values k v))
          (rw add-one (take-suc-set values k v (omega arith))) (read_value f.bytes r);
      clear = drop-set-lt (k + 1) values k v (omega arith) ∙ sym (drop-drop 1 k values) ∙ ap (drop 1) (f.clear ∙ ap (λ m. replicate m 0) more);
    }
      where
        more : 255 - k ≡ suc (255 - (k + 1))
        more = omega arith

    pub going_refused : (e : Refusal) → Reads P b c (Err e) → Reads (value_array P n) a c (Err e)
    going_refused e r = record {
      bytes = r.bytes ∙ f.bytes;
      answer = sym (ap (λ x. bind x (λ l q. value (padded 255 0 l) q))
          (next ∙ one_refused P a.src.now (n - (k + 1)) b.pos.0 (take k values) _ (read_refused f.bytes r)));
    }

  pub going_end : n ≤ k → k ≤ n → Reads (value_array P n) a b (Ok values)
  unfolding times
  going_end h h' =
      let e : n - k ≡ 0 = omega arith in
      let w : padded 255 0 (take k values ++ []) ≡ values =
      rw (append-nil, length-take-le k values (omega arith), ← f.clear, take-append-drop k values) in
      record {
        bytes = f.bytes;
        answer = sym (ap (λ x. bind x (λ l q. value (padded 255 0 l) q)) (f.done ∙ ap (λ g. behind (take k values) (times g P a.src.now b.pos.0)) e)
            ∙ ap (λ (l : List ℕ). value l b.pos.0) w);
      }
