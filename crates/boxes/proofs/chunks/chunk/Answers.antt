-- `chunks::chunk` is the chunk of that width before the end.
use native.Mathlib.Omega.{arith}
use Rattle.boxes.proofs.ChunkBytes.{chunk_no_length, chunk_cut, chunk_whole}
use Rattle.boxes.proofs.chunks.chunk.Goals as goal

pub returns-then-end-at : goal.returns-then-end-at
returns-then-end-at c =
    let a = c.args in
    chunk_no_length a.width a.s.now a.at a.end c.requires.2 (omega arith)

pub returns-then-end-start : goal.returns-then-end-start
returns-then-end-start c =
    let a = c.args in
    chunk_cut a.width a.s.now a.at a.end c.requires.2 (omega arith) (omega arith)

pub returns : goal.returns
returns c =
    let a = c.args in
    chunk_whole a.width a.s.now a.at a.end c.requires.2 (omega arith) c.number-len.result
    c.number-len.ensures.0 (omega arith)
