-- Internal: the head of a full record before its arrays are known.
use Rattle.std.specs.Prelude.{ℕ, List, eqb, if◌then◌else◌}
use Rattle.parse.specs.Outcome.{Outcome, accept, refuse}
use Rattle.full.specs.Write.{head_bytes, head_fits}
use Rattle.full.specs.declared.VvcConfig.{VvcConfig}

-- the bytes of a head. Refusals: 3, 22
abbrev pub head_written : VvcConfig → Outcome (List ℕ)
head_written h =
    if eqb h.length_size 3 then refuse 3
    else if head_fits h then accept (head_bytes h)
    else refuse 22
