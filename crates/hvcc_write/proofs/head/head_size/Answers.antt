-- `head_size` returns 22, or the refusal of a head that does not fit.
use mathlib.Core.Path.{sym, ◌∙◌}
use native.Mathlib.Omega.{arith}
use Rattle.hvcc.specs.Write.{hevc_head_bytes}
use Rattle.hvcc.proofs.HeadRoundTrip.{length_head}
use Rattle.hvcc_write.proofs.head.head_size.Goals as goal

pub returns : goal.returns
returns c =
    let h = c.args.h in (
      record {
        bytes = hevc_head_bytes h;
        is = rw (sym c.head_fits.ensures ∙ c.if-not-head_fits.false);
        long = sym (length_head h);
      },
      omega arith,
    )
