-- `lines::set_up_said`: the call on the fronts of the buffers, and its line.
-- Assumes nothing.
use mathlib.Core.Path.{◌≡◌, refl, ap, ◌∙◌}
use Rattle.spec.specs.declared.Form.TheVariants.{SetUp}
use Rattle.spec.specs.Image.{no_versions}
use Rattle.record.specs.Inner.{store_at, whole, no_clients}
use Rattle.lines.proofs.FrontRows.{too_many, set_up_made, set_up_kept}
use Rattle.lines.proofs.set_up_said.Goals as goal

pub returns-then-count-gt1024-clause-says : goal.returns-then-count-gt1024-clause-says
returns-then-count-gt1024-clause-says c =
    let a = c.args in
    too_many (store_at a.r.now) a.rows.now a.commits.now a.versions.now _ _ _ _ (SetUp a.count a.first a.limit) a.count a.first a.limit
    c.if-count-gt1024.true c.free_line.ensures.put c.free_line.ensures.upper_bound

pub returns-in-Ok-clause-says : goal.returns-in-Ok-clause-says
unfolding no_versions
returns-in-Ok-clause-says c =
    let a = c.args in
    let s' = c.zero.new.r in
    let e : store_at s' ≡ whole c.in-Ok.head no_clients = ap (whole s'.head) c.zero.ensures.zeros ∙ ap (λ h. whole h no_clients) c.zero.ensures.head in
    set_up_made (store_at a.r.now) a.rows.now a.commits.now a.versions.now _ _ _ _ (SetUp a.count a.first a.limit) a.count a.first
    a.limit c.front-d.result c.front-c.result (store_at s') _ _ _ _ _ c.if-count-gt1024.false
    c.front-d.ensures.front c.front-c.ensures.front (rw e c.in-Ok.ensures) refl refl c.free_line-in-Ok.ensures.put c.free_line-in-Ok.ensures.upper_bound

pub returns-in-Err-clause-says : goal.returns-in-Err-clause-says
returns-in-Err-clause-says c =
    let a = c.args in
    set_up_kept (store_at a.r.now) a.rows.now a.commits.now a.versions.now _ _ _ _ (SetUp a.count a.first a.limit) a.count a.first
    a.limit c.front-d.result c.front-c.result _ _ _ _ _ _ c.if-count-gt1024.false
    c.front-d.ensures.front c.front-c.ensures.front c.in-Err.ensures refl refl c.free_line-in-Err.ensures.put c.free_line-in-Err.ensures.upper_bound
