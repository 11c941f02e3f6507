-- Parts of lent memory (SCOPE 1): what they hold and where they lie.
use Rattle.std.specs.Prelude.{ℕ, ◌+◌, ◌≡◌, List, take, drop}
use Rattle.std.specs.Borrow.{Bor}
use Rattle.boxes.specs.declared.Span.{Span}

-- the bytes at a span of s
abbrev pub held : List ℕ → Span → List ℕ
held s a = take a.len (drop a.start s)

-- the empty part, start 0 and length 0: what is returned past the last unit and on a refusal
abbrev pub nowhere : Span
nowhere = record { start = 0; len = 0 }

-- r is the part of s at a span: it holds those bytes, and lies in the memory of s, `start` bytes after its first byte
pub record PartOf (r s : Bor (List ℕ)) (a : Span) : Type 0 where
  pub holds : r.now ≡ held s.now a
  pub lies : r.ref_ptr ≡ (s.ref_ptr.0, a.start + s.ref_ptr.1)
