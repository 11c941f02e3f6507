-- Internal: the head of a full record read.
use Rattle.std.specs.Prelude.{ℕ}
use Rattle.parse.specs.Parse.{Parser, ◌>>=◌, give}
use Rattle.boxes.specs.Bytes.{uint}
use Rattle.ptl.specs.declared.VvcPtlRecord.{VvcPtlRecord}
use Rattle.full.specs.Read.{head_fields}
use Rattle.full.specs.declared.VvcConfig.{VvcConfig}

-- the rest of a head after its PTL; `ptl_read` (proofs/Heads.antt) ties it to `head_with_ptl`
unfoldable pub sizes_after : ℕ → ℕ → ℕ → VvcPtlRecord → Parser VvcConfig
sizes_after size w d ptl = do
  width ← uint 2
  height ← uint 2
  rate ← uint 2
  give (head_fields size w d ptl width height rate)
