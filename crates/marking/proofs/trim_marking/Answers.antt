-- By flags that were both set before, or the old way, where the bytes are not orderly.
use Rattle.serving.proofs.Marking.{judged_end, used_end}
use Rattle.marking.proofs.KeptRows.{trimmed_kept}
use Rattle.marking.proofs.trim_marking.Goals as goal

pub returns-then-from_newest-clause-trimmed : goal.returns-then-from_newest-clause-trimmed
returns-then-from_newest-clause-trimmed c =
    let a = c.args in
    let newest = c.from_newest in
    let orderly = c.if-from_newest.true in
    trimmed_kept a.low a.used a.entries a.rows.now a.commits.now _ _ c.close_up-left.new.buf c.close_up-kept.new.buf
    c.close_up-left.result c.close_up-kept.result
    (judged_end a.low a.used a.entries a.rows.now a.commits.now _ (newest.ensures.judged orderly))
    (used_end a.low a.used a.entries a.rows.now a.commits.now _ (newest.ensures.used orderly))
    c.close_up-left.ensures c.close_up-kept.ensures
