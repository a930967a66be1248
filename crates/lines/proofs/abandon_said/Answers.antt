-- `lines::abandon_said`: the call on the fronts of the buffers, and its line.
-- Assumes nothing.
use mathlib.Core.Path.{refl, sym}
use lib.ListN.{take-append-drop}
use Rattle.spec.specs.Run as call
use Rattle.spec.specs.declared.Form.TheVariants.{Abandon}
use Rattle.record.specs.Inner.{store_at}
use Rattle.lines.proofs.FrontRows.{spoken}
use Rattle.lines.proofs.abandon_said.Goals as goal

pub returns-clause-says : goal.returns-clause-says
returns-clause-says c =
    let a = c.args in
    λ v. spoken (store_at a.r.now) a.rows.now a.commits.now v _ _ _ _ (call.Abandon a.client) (Abandon a.client) c.front-d.result c.front-c.result _ _ _ _ _ _ _
    c.front-d.ensures.front c.front-c.ensures.front (c.abandon-answer.ensures.does v)
    refl (sym (take-append-drop c.front-c.result a.commits.now)) c.free_line.ensures.put c.free_line.ensures.upper_bound
