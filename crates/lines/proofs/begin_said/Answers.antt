-- `lines::begin_said`: the call on the fronts of the buffers, and its line.
-- Assumes nothing.
use mathlib.Core.Path.{sym}
use lib.ListN.{take-append-drop}
use Rattle.spec.specs.Run as call
use Rattle.spec.specs.declared.Form.TheVariants.{Begin}
use Rattle.record.specs.Inner.{store_at}
use Rattle.lines.proofs.FrontRows.{spoken}
use Rattle.lines.proofs.begin_said.Goals as goal

pub returns-clause-says : goal.returns-clause-says
returns-clause-says c =
    let a = c.args in
    λ v. spoken (store_at a.r.now) a.rows.now a.commits.now v _ _ _ _ (call.Begin a.client) (Begin a.client) c.front-d.result c.front-c.result _ _ _ _ _ _ _
    c.front-d.ensures.front c.front-c.ensures.front (c.begin-answer.ensures.does v)
    (sym (take-append-drop c.front-d.result a.rows.now)) (sym (take-append-drop c.front-c.result a.commits.now)) c.begun_line.ensures.put c.begun_line.ensures.upper_bound
