-- Laws of a read through a reader, as a parser at the bytes of the reader that a chain began with.
use mathlib.Core.Path.{◌≡◌, ap, sym, ◌∙◌}
use mathlib.Core.List.{List}
use Prim.Native.Nat.{ℕ}
use denote.Ref.{Bor}
use Rattle.std.specs.Prelude.{Ok, Err}
use Rattle.error.specs.Refusals.{number_of}
use Rattle.error.specs.declared.Refusal.{Refusal}
use Rattle.parse.specs.Parse.{value, refused, Parser}
use Rattle.bit_reader.specs.inner.Reader.{Reads}
use Rattle.bit_reader.specs.declared.reader.BitReader.{BitReader}

module _ {A : Type 0} {P : Parser A} {b c : BitReader} {t : Bor (List ℕ)} (same : b.src ≡ t) where
  pub read_value : {v : A} → Reads P b c (Ok v) → P t.now b.pos.0 ≡ value v c.pos.0
  read_value h = sym (h.answer ∙ ap (λ (s : Bor (List ℕ)). P s.now b.pos.0) same)

  pub read_refused : {e : Refusal} → Reads P b c (Err e) → P t.now b.pos.0 ≡ refused (number_of e)
  read_refused h = sym (h.answer ∙ ap (λ (s : Bor (List ℕ)). P s.now b.pos.0) same)
