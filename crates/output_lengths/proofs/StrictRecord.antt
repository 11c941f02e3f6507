-- `vvcc_strict_record`: the scratch that suffices.
use Prim.Native.Nat.{ℕ, ◌≤◌}
use mathlib.Core.Path.{◌≡◌, refl, ap}
use mathlib.Core.List.{List}
use native.Mathlib.Omega.{arith}
use lib.ListN.{length}
use borrow.Author.Tests.{le-leb}
use Rattle.parse.specs.Outcome.{Outcome, accept, refuse}
use Rattle.full.specs.Read.{FullParsed}
use Rattle.full.specs.Strict.{parse_strict}
use Rattle.full.proofs.Ruled.{strict_full}
use Rattle.output_lengths.specs.Lengths.{scratch_room, ReadSuffices}
use Rattle.output_lengths.proofs.FullRecord.{full_read}
use Rattle.output_lengths.proofs.NotShort.{NotShort}
use Rattle.output_lengths.proofs.Refusals.{strict_not_short}

-- a list that is not longer than n
read_suffices : (n : ℕ) (o : Outcome (FullParsed × List ℕ)) → NotShort o
    → ((r : FullParsed) (list : List ℕ) → o ≡ accept (r, list) → length list ≤ n) → ReadSuffices n o
read_suffices n (accept (r, list)) never h =
    let l = h r list refl in
    record {
      long = h;
      answer = λ scratch k. rw (le-leb (length list) (length scratch) (omega arith));
      not_short = λ scratch k e. let z : ◌≡◌ {A = ℕ} 0 20 = rw (le-leb (length list) (length scratch) (omega arith)) at e in omega arith;
    }
read_suffices n (refuse e) never h = record { long = h; answer = λ scratch k. refl; not_short = λ scratch k. never }

-- four times the record
pub strict_suffices : (rec : List ℕ) → ReadSuffices (scratch_room rec) (parse_strict rec)
strict_suffices rec = read_suffices (scratch_room rec) (parse_strict rec) (strict_not_short rec) (λ r list e.
    let f = full_read rec r list (strict_full rec r list e) in
    let l = ap length f.is in
    omega (arith, f.fits.few))
