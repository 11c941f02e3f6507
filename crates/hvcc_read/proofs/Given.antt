-- The laws about reading a record (record_arrays_read, proofs/Given.antt) hold for this one.
use Prim.Native.Nat.{ℕ}
use mathlib.Core.Path.{refl}
use mathlib.Core.List.{List}
use Rattle.record_arrays.specs.declared.Codec.TheVariants.{Hevc}
use Rattle.record_arrays_read.proofs.Given.{ReadsRecord}
use Rattle.hvcc.specs.Read.{hevc_head, hevc_record, parse_hevc}

pub reads_record : (s : List ℕ) → ReadsRecord Hevc hevc_head s (parse_hevc s)
unfolding parse_hevc hevc_record
reads_record s = record { same = refl }
