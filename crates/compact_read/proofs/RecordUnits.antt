-- Laws of the units of a compact record, measured and stored as a list.
use Prim.Native.Nat.{ℕ, zero, suc, ◌+◌, ◌*◌, ◌≤◌}
use mathlib.Core.Path.{◌≡◌, ap, ◌∙◌}
use mathlib.Core.List.{List, [], ◌∷◌, ◌++◌, map}
use native.Mathlib.Omega.{arith}
use lib.ListN.{length, set}
use lib.Seq.{sets}
use Rattle.parse.specs.Outcome.{Outcome, accept, refuse}
use Rattle.parse.specs.Parse.{Parsed, times, outcome}
use Rattle.parse.specs.inner.Stores.{bytes_of, Puts}
use Rattle.parse.proofs.General.{sets_append}
use Rattle.parse.proofs.Gives.{Gives, gives_value, gives_bind}
use Rattle.boxes.specs.Bytes.{chunk, to_be}
use Rattle.boxes.specs.Parts.{held}
use Rattle.boxes.specs.declared.Span.{Span}
use Rattle.boxes.proofs.Fields.{chunk_read}
use Rattle.unit_list.specs.UnitList.{list_width}
use Rattle.unit_list.proofs.StoredUnits.{room_more}
use Rattle.compact.specs.Compact.{one_array}
use Rattle.compact.proofs.OneArray.{list_head, head_long, list_bytes}
use Rattle.counted_units.specs.inner.Counted.{units_in_list}
use Rattle.counted_units.proofs.Repeated.{RoomFound}
use Rattle.counted_units.proofs.UnitsInList.{units_none}
use Rattle.compact_read.specs.inner.Room.{found_list}

-- a unit of n bytes takes 1 + n bytes of the record and 4 + n of the list: at most 4 of the list for each of the record
pub units_fit : (s : List ℕ) (n p : ℕ) → Gives (times n (chunk 1) s p) (λ us q. length (units_in_list s us) + 4 * p ≤ 4 * q)
unfolding times
units_fit s zero p = gives_value [] p (let l = ap length (units_none s) in omega arith)
units_fit s (suc n) p =
    gives_bind (chunk 1 s p) _ (record { at = chunk_read 1 s p }) (λ a r c.
    gives_bind (times n (chunk 1) s r) _ (units_fit s n r) (λ us q h.
    gives_value (a ∷ us) q (omega (arith, c.start, c.len, c.next, h, room_more 4 s a (omega (arith, c.start, c.len, c.next, c.fits)) us))))

-- the list that is stored, by the units that were found
module _ (s : List ℕ) (x : Parsed (List Span)) (room after : ℕ) (m : RoomFound units_in_list s x room after) where
  pub measured_list : found_list s (outcome x) ≡ one_array (map (held s) m.what)
  measured_list = ap (λ (y : Parsed (List Span)). found_list s (outcome y)) m.read

-- the list stored part by part
pub list_stored : (s : List ℕ) (o : Outcome (List Span)) (out d e f : List ℕ) (room to : ℕ) → Puts (units_in_list s) o out to
    → room ≡ length (bytes_of (units_in_list s) o) → d ≡ set out 0 1 → e ≡ sets d 1 (to_be list_width (2 + room) ++ (0 ∷ 0 ∷ []))
    → f ≡ sets e 7 (bytes_of (units_in_list s) o)
    → f ≡ sets out 0 (found_list s o)
list_stored s (refuse n) out d e f room to h l x y z = absurd (let w = h.found in let z : ◌≡◌ {A = ℕ} 0 1 = cc in omega arith)
list_stored s (accept us) out d e f room to h l x y z =
    let k : 1 + length (list_head room) ≡ 7 = omega (arith, head_long room) in
    let a : sets (sets (set out 0 1) 1 (list_head room)) 7 (units_in_list s us) ≡ sets (set out 0 1) 1 (list_head room ++ units_in_list s us) =
    rw k at (sets_append (set out 0 1) 1 (list_head room) (units_in_list s us)) in
    z ∙ rw (y, x, list_bytes (map (held s) us), ← l) a
