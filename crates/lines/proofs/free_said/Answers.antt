-- `lines::free_said`: the call on the fronts of the buffers, and its line.
-- Assumes nothing.
use mathlib.Core.Path.{sym}
use lib.ListN.{take-append-drop}
use Rattle.spec.specs.Run as call
use Rattle.spec.specs.declared.Form.TheVariants.{Free}
use Rattle.record.specs.Inner.{store_at}
use Rattle.lines.proofs.FrontRows.{spoken}
use Rattle.lines.proofs.free_said.Goals as goal

pub returns : goal.returns
returns c =
    let a = c.args in
    λ v. spoken (store_at a.r.now) a.rows.now a.commits.now v _ _ _ _ call.Free Free c.front-d.result c.front-c.result _ _ _ _ _ _ _
    c.front-d.ensures.front c.front-c.ensures.front (c.free-answer.ensures _ _ _ _ _ _ v)
    (sym (take-append-drop c.front-d.result a.rows.now)) (sym (take-append-drop c.front-c.result a.commits.now)) c.free_line.ensures.put c.free_line.ensures.upper_bound
