-- Internal: a read through the bit reader as a parser at the reader's bytes and position.
use Rattle.std.specs.Prelude.{◌≡◌, Result, IsErr}
use Rattle.error.specs.declared.Refusal.{Refusal}
use Rattle.parse.specs.Parse.{value, Parser}
use Rattle.bit_reader.specs.Bits.{align}
use Rattle.bit_reader.specs.inner.Answers.{read_to}
use Rattle.bit_reader.specs.declared.reader.BitReader.{BitReader}

-- P read through a reader: the answer is that of P, and the reader is left over the same bytes, after what was read.
-- On a refusal nothing is said of the position: of several reads the first may have been done.
pub record Reads {A : Type 0} (P : Parser A) (before after : BitReader) (r : Result A Refusal) : Type 0 where
  pub bytes : after.src ≡ before.src
  pub answer : read_to after.pos.0 r ≡ P before.src.now before.pos.0

-- one read: on a refusal the reader stays where it was
pub record Steps {A : Type 0} (P : Parser A) (before after : BitReader) (r : Result A Refusal) : Type 0 where
  pub reads : Reads P before after r
  pub stays : IsErr r → after ≡ before

-- the reader over the same bytes at the next whole byte
pub record AlignedFrom (before after : BitReader) : Type 0 where
  pub bytes : after.src ≡ before.src
  pub place : align before.src.now before.pos.0 ≡ value tt after.pos.0
