-- Client and cell are two texts behind the word. Assumes nothing.
use Rattle.spec.specs.Text.{head_text}
use Rattle.printing.proofs.Texts.{put_then}
use Rattle.reply.proofs.LineEnds.{head_end}
use Rattle.reply.proofs.put_head.Goals as goal

pub returns-in-Read-clause-put : goal.returns-in-Read-clause-put
unfolding head_text
returns-in-Read-clause-put c =
    rw (c.in-Read.is, head_end) (put_then c.put-a-in-Read.ensures c.put_cell.ensures.put)

pub returns-in-Write-clause-put : goal.returns-in-Write-clause-put
unfolding head_text
returns-in-Write-clause-put c =
    rw (c.in-Write.is, head_end) (put_then c.put-a-in-Write.ensures c.put_cell-in-Write.ensures.put)
