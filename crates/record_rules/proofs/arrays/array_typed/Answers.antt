-- `array_typed` tests the type in an array's byte.
use mathlib.Core.Path.{◌∙◌}
use Rattle.record_rules.proofs.Tested.{record_type}
use Rattle.record_rules.proofs.arrays.array_typed.Goals as goal

pub returns : goal.returns
returns c =
    c.is_record_nal_type.ensures ∙ rw c.unit_type_of-unit_type.ensures (record_type _)
