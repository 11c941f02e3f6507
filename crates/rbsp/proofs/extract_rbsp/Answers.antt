-- `extract_rbsp` leaves the RBSP in the lent output, or refuses with 23 or 20 and leaves the output unchanged.
use native.Mathlib.Omega.{arith}
use Rattle.rbsp.proofs.Filling.{extract_long, extract_short, extract_done}
use Rattle.rbsp.proofs.extract_rbsp.Goals as goal

pub returns-then-payload-gt-LARGEST_INPUT : goal.returns-then-payload-gt-LARGEST_INPUT
returns-then-payload-gt-LARGEST_INPUT c =
    extract_long _ _ (omega arith)

pub returns-then-out-rbsp_len : goal.returns-then-out-rbsp_len
returns-then-out-rbsp_len c =
    extract_short _ _ _ (omega arith) c.rbsp_len.ensures (omega arith)

pub returns : goal.returns
returns c =
    extract_done _ _ _ _ _ (omega arith) c.rbsp_len.ensures (omega arith) c.fill_rbsp.ensures
