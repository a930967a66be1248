-- `lines::read_said`: the call on the fronts of the buffers, and its line.
-- Assumes nothing.
use mathlib.Core.Path.{sym}
use lib.ListN.{take-append-drop}
use Rattle.spec.specs.Run as call
use Rattle.spec.specs.declared.Form.TheVariants.{Read}
use Rattle.record.specs.Inner.{store_at}
use Rattle.spec.specs.Answers.{answer_of}
use Rattle.lines.proofs.Readings.{reading_printed, value_short}
use Rattle.lines.proofs.FrontRows.{spoken}
use Rattle.lines.proofs.read_said.Goals as goal

pub reading_line-requires-clause-value_len_bound : goal.reading_line-requires-clause-value_len_bound
reading_line-requires-clause-value_len_bound c = rw c.value_named-value.ensures (value_short c.args.rows.now (answer_of c.read-answer.result))

pub returns : goal.returns
returns c =
    let a = c.args in
    spoken (store_at a.r.now) a.rows.now a.commits.now a.versions.now _ _ _ _ (call.Read a.client a.cell) (Read a.client a.cell) c.front-d.result c.front-c.result _ _ _ _ _ _ _
    c.front-d.ensures.front c.front-c.ensures.front (c.read-answer.ensures _ _ _ _)
    (sym (take-append-drop c.front-d.result a.rows.now)) (sym (take-append-drop c.front-c.result a.commits.now)) (rw (reading_printed a.rows.now _ (Read a.client a.cell) (answer_of c.read-answer.result) c.value_named-value.ensures) at c.reading_line.ensures.put) c.reading_line.ensures.upper_bound
