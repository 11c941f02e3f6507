-- `chunks::put_chunk` leaves the length and the bytes from the place on.
use Rattle.boxes.proofs.ChunkBytes.{chunk_written}
use Rattle.boxes.proofs.chunks.put_chunk.Goals as goal

pub returns : goal.returns
returns c =
    let a = c.args in
    chunk_written a.out.now c.put_number.new.out c.copy.new.out a.src.now a.at a.width c.put_number.ensures c.copy.ensures
