-- The answers of the calls, from an access unit that was measured: its count, its stream and the stream's length.
use Prim.Native.Nat.{ℕ, ◌+◌}
use mathlib.Core.Path.{◌≡◌, sym, ap, ◌∙◌}
use mathlib.Core.List.{List}
use Rattle.std.specs.Prelude.{Option}
use lib.ListN.{length}
use Rattle.parse.specs.Outcome.{Outcome, accept, refuse, and_then}
use Rattle.boxes.specs.Walk.{count_found}
use Rattle.full.specs.declared.VvcConfig.{VvcConfig}
use Rattle.access_unit.specs.AccessUnit.{target_of, access_unit, assemble}
use Rattle.access_unit.specs.inner.Gathered.{Gathered, gather, in_order, sources, gathered_bytes}
use Rattle.access_unit.specs.declared.StartCodes.{StartCodes}
use Rattle.access_unit_sizes.specs.declared.sizes.Sizes.{Sizes}
use Rattle.access_unit_sizes.proofs.Gathering.{Known}
use Rattle.access_unit.proofs.Order.{order_length, access_unit_sources, assemble_gathered}

-- ### the count

module _ (h : VvcConfig) (list item : List ℕ) (tols target : Option ℕ) (is : target ≡ target_of h tols) where
  pub access_unit_is : sources h.length_size target list item ≡ access_unit h list item tols
  access_unit_is = rw is (access_unit_sources h list item tols)

  pub count_unknown : (n : ℕ) → gather h.length_size target list item ≡ refuse n → refuse n ≡ count_found (access_unit h list item tols)
  count_unknown n e =
      ap (λ (o : Outcome Gathered). count_found (and_then o (λ g. accept (in_order item g)))) (sym e) ∙ ap count_found access_unit_is

module _ (codes : StartCodes) (h : VvcConfig) (list item : List ℕ) (tols target : Option ℕ) (is : target ≡ target_of h tols) where
  pub count_known : (v : Sizes) → Known codes h.length_size target list item v
      → accept (v.listed + v.kept) ≡ count_found (access_unit h list item tols)
  count_known v n =
      let e : v.listed + v.kept ≡ length n.parts.units + length n.parts.kept = ap (λ (w : Sizes). w.listed + w.kept) n.sized in
      ap accept (e ∙ sym (order_length item n.parts))
      ∙ ap (λ (o : Outcome Gathered). count_found (and_then o (λ g. accept (in_order item g)))) (sym n.found)
      ∙ ap count_found (access_unit_is h list item tols target is)

  -- ### the stream

  assembled : assemble codes h list item tols
      ≡ and_then (gather h.length_size target list item) (λ g. accept (gathered_bytes codes list item (accept g)))
  assembled = rw is (assemble_gathered codes h list item tols)

  pub assemble_unknown : (n : ℕ) → gather h.length_size target list item ≡ refuse n → assemble codes h list item tols ≡ refuse n
  assemble_unknown n e = assembled ∙ rw e

  -- its bytes and its length
  pub record Assembled (v : Sizes) : Type 0 where
    pub bytes : List ℕ
    pub found : gathered_bytes codes list item (gather h.length_size target list item) ≡ bytes
    pub given : assemble codes h list item tols ≡ accept bytes
    pub long : v.len ≡ length bytes

  pub assemble_known : (v : Sizes) → Known codes h.length_size target list item v → Assembled v
  assemble_known v n =
      record {
        bytes = gathered_bytes codes list item (accept n.parts);
        found = rw n.found;
        given = assembled ∙ rw n.found;
        long = ap (λ (w : Sizes). w.len) n.sized;
      }

  -- the stream's length
  pub length_known : (v : Sizes) → Known codes h.length_size target list item v → accept v.len ≡ count_found (assemble codes h list item tols)
  length_known v k = let m = assemble_known v k in ap accept m.long ∙ ap count_found (sym m.given)

  pub length_unknown : (n : ℕ) → gather h.length_size target list item ≡ refuse n → refuse n ≡ count_found (assemble codes h list item tols)
  length_unknown n e = ap count_found (sym (assemble_unknown n e))
