-- The bytes moved are the first of those between the places. Assumes nothing.
use Rattle.scanning.proofs.MovedBytes.{moved_front}
use Rattle.scanning.proofs.keep.Goals as goal

pub returns-clause-buf_after : goal.returns-clause-buf_after
returns-clause-buf_after c =
    let a = c.args in
    rw c.copy_within.ensures.after (moved_front a.buf.now a.from a.end _ c.requires.0 c.requires.1 c.min-kept.ensures)
