-- The sections make up profile_tier_level( 1, s ).
use mathlib.Core.Path.{◌≡◌, refl}
use mathlib.Core.List.{List}
use Prim.Native.Nat.{ℕ, ◌+◌, ◌%◌, ◌<◌}
use native.Mathlib.Omega.{arith}
use Rattle.std.specs.Prelude.{Ok}
use Rattle.parse.specs.Parse.{Parsed, value, bind}
use Rattle.parse.proofs.Binds.{bind_bind, first_read}
use Rattle.bit_reader.specs.Bits.{u}
use Rattle.bit_reader.specs.inner.Reader.{Reads}
use Rattle.bit_reader.specs.declared.reader.BitReader.{BitReader}
use Rattle.bit_reader.proofs.Chain.{read_value}
use Rattle.bit_reader.proofs.Numbers.{u_read}
use Rattle.ptl.specs.Ptl.{profile_tier_level, constraint_bytes}
use Rattle.ptl_bits.specs.inner.Sections.{general, constraints, sublayers, sub_profiles, ptl_of_sections}
use Rattle.ptl.specs.declared.VvcPtlRecord.{VvcPtlRecord}
use Rattle.ptl_bits.specs.declared.bits.General.{General}

-- one section after the other
abbrev pub in_sections : ℕ → List ℕ → ℕ → Parsed VvcPtlRecord
in_sections m s p = bind (general s p)
    (λ g a. bind (constraints s a) (λ c b. bind (sublayers m s b) (λ l d. bind (sub_profiles s d) (λ v q. value (ptl_of_sections m g c l v) q))))

pub sections : (m : ℕ) (s : List ℕ) (p : ℕ) → profile_tier_level m s p ≡ in_sections m s p
unfolding profile_tier_level general constraints sublayers sub_profiles constraint_bytes
sections m s p = simp bind_bind

-- ---- the first section ends two bytes on
pub record Headed (p : ℕ) (g : General) (q : ℕ) : Type 0 where
  pub profile : g.general_profile_idc < 128
  pub level : g.general_level_idc < 256
  pub next : q ≡ p + 16

pub general_read : (s : List ℕ) (p : ℕ) (g : General) (q : ℕ) → general s p ≡ value g q → Headed p g q
unfolding general
general_read s p g q h =
    first_read (u 7 s p) _ h (λ profile a e f. first_read (u 1 s a) _ f (λ tier b k i. first_read (u 8 s b) _ i (λ level d l j.
    let x = u_read 7 s p profile a e in
    let y = u_read 1 s a tier b k in
    let z = u_read 8 s b level d l in
    let n : d ≡ q = cc in
    let v : profile ≡ g.general_profile_idc = cc in
    let w : level ≡ g.general_level_idc = cc in
    record { profile = omega arith; level = omega arith; next = omega arith })))

-- so the next one starts at a whole byte where it does
pub general_place : {a b : BitReader} {g : General} → Reads general a b (Ok g) → a.pos.0 % 8 ≡ 0 → b.pos.0 % 8 ≡ 0
general_place {a} {b} {g} h e = let n = general_read a.src.now a.pos.0 g b.pos.0 (read_value refl h) in omega arith
