-- Bits of a list of bytes at a bit position, the highest bit of each byte first (SCOPE 3.5; H.266 7.2, read_bits; 9.2, u(n) and ue(v)).
use Rattle.std.specs.Prelude.{Bool, List, ℕ, zero, suc, ◌+◌, ◌-◌, ◌*◌, ◌/◌, ◌%◌, ◌^◌, leb, eqb, length, get_or, if◌then◌else◌}
use Rattle.parse.specs.Parse.{value, refused, Parser, ◌>>=◌, give, refusing}

-- bit p of the bytes
abbrev pub bit_at : List ℕ → ℕ → ℕ
bit_at s p = get_or s (p / 8) 0 / 2 ^ (7 - p % 8) % 2

-- the number of the n bits from p on
unfoldable pub bits_at : List ℕ → ℕ → ℕ → ℕ
bits_at s p zero = 0
bits_at s p (suc n) = bits_at s p n * 2 + bit_at s (p + n)

-- u(n): 11 where the bits run out
unfoldable pub u : ℕ → Parser ℕ
u n s p = if leb (p + n) (8 * length s) then value (bits_at s p n) (p + n) else refused 11

-- whether a flag, u(1), is set
abbrev pub is_set : ℕ → Bool
is_set b = eqb b 1

-- n bits passed over
unfoldable pub skip : ℕ → Parser (Unit {0})
skip n s p = if leb (p + n) (8 * length s) then value tt (p + n) else refused 11

-- the next position that is a multiple of 8, or the same
unfoldable pub align : Parser (Unit {0})
align s p = value tt ((p + 7) / 8 * 8)

-- the number of zeros before the next 1, which is passed too; z zeros were counted before, and the f-th one from here is refused with 12
unfoldable pub zeros_before_one : ℕ → ℕ → Parser ℕ
zeros_before_one z zero = refusing 12
zeros_before_one z (suc f) = do
  b ← u 1
  if is_set b then give z else zeros_before_one (z + 1) f

-- ue(v): z zeros, a 1, z bits with the number v; the value is 2^z - 1 + v. The 32nd zero is 12
unfoldable pub ue : Parser ℕ
ue = do
  z ← zeros_before_one 0 32
  v ← u z
  give (2 ^ z - 1 + v)
