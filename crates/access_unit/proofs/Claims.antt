-- The claims about the stream of an access unit, from those about any stream.
use Prim.Native.Nat.{ℕ, ◌+◌}
use mathlib.Core.Path.{◌≡◌, sym, ap, ◌∙◌, subst}
use mathlib.Core.List.{List, map}
use Rattle.std.specs.Prelude.{Option}
use native.Mathlib.Omega.{arith}
use lib.ListN.{length}
use Rattle.parse.specs.Outcome.{accept}
use Rattle.annex_b.specs.Stream.{four, annex_b}
use Rattle.annex_b.specs.RoundTrip.{SplitsInto, threes}
use Rattle.annex_b.proofs.RoundTrip.{splits_back, same_units, counts_what_is_written, no_threes, shorter}
use Rattle.full.specs.declared.VvcConfig.{VvcConfig}
use Rattle.access_unit.specs.declared.Source.{Source}
use Rattle.access_unit.specs.AccessUnit.{access_unit, held_in, code_of, assemble}
use Rattle.access_unit.specs.Streams.{Assembly, AssemblySplits, AssemblySame, AssemblyCounts, FourCounts, ShortIsShorter}
use Rattle.access_unit.specs.declared.StartCodes.{StartCodes}
use Rattle.access_unit.specs.declared.StartCodes.TheVariants.{Four, Short}
use Rattle.access_unit.proofs.Streams.{four_throughout}

-- the stream is that of the units
module _ (codes : StartCodes) (h : VvcConfig) (list item : List ℕ) (tols : Option ℕ) (us : List Source)
    (found : access_unit h list item tols ≡ accept us) (s : List ℕ) (given : assemble codes h list item tols ≡ accept s) where
  is_stream : s ≡ annex_b (code_of codes) (map (held_in list item) us)
  unfolding assemble
  is_stream =
      let e : accept s ≡ accept (annex_b (code_of codes) (map (held_in list item) us)) = sym given ∙ rw found in
      cc

is_assembled : (codes : StartCodes) (s : List ℕ) (us : List (List ℕ)) → Assembly codes s us → s ≡ annex_b (code_of codes) us
is_assembled codes s us a =
    is_stream codes a.head a.list a.item a.tols a.sources a.found s a.given ∙ ap (annex_b (code_of codes)) a.held

pub assembly_splits : (codes : StartCodes) → AssemblySplits codes
assembly_splits codes s us a h small =
    let e = is_assembled codes s us a in
    subst (λ (t : List ℕ). SplitsInto t us) (sym e) (splits_back (code_of codes) us h (omega (arith, ap length e)))

pub assembly_same : (codes : StartCodes) → AssemblySame codes
assembly_same codes s us vs a b h k = same_units (code_of codes) us vs h k (sym (is_assembled codes s us a) ∙ is_assembled codes s vs b)

pub assembly_counts : AssemblyCounts
assembly_counts codes s us a = ap (λ (t : List ℕ). length t + threes (code_of codes) us) (is_assembled codes s us a) ∙ counts_what_is_written (code_of codes) us

pub four_counts : FourCounts
four_counts s us a =
    omega (
      arith,
      ap length (is_assembled Four s us a),
      ap length (four_throughout us),
      counts_what_is_written (λ k u. four) us,
      no_threes us,
    )

pub short_is_shorter : (h : VvcConfig) (list item : List ℕ) (tols : Option ℕ) → ShortIsShorter h list item tols
unfolding assemble
short_is_shorter h list item tols = record {
  refused = λ n e codes. rw e;
  long = λ us e s t x y.
      let vs = map (held_in list item) us in
      omega (
        arith,
        ap length (is_stream Short h list item tols us e s x),
        ap length (is_stream Four h list item tols us e t y),
        shorter (code_of Short) vs,
        ap length (four_throughout vs),
      );
}
