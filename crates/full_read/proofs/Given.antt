-- The laws about reading a record (record_arrays_read, proofs/Given.antt) hold for this one.
use Prim.Native.Nat.{ℕ}
use mathlib.Core.Path.{refl}
use mathlib.Core.List.{List}
use Rattle.record_arrays.specs.declared.Codec.TheVariants.{Vvc}
use Rattle.record_arrays_read.proofs.Given.{ReadsRecord}
use Rattle.full.specs.Read.{vvc_head, vvc_record, parse_full}

pub reads_record : (s : List ℕ) → ReadsRecord Vvc vvc_head s (parse_full s)
unfolding parse_full vvc_record
reads_record s = record { same = refl }
