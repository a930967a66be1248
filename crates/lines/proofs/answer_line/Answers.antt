-- `lines::answer_line`: each arm is its form's answer.
-- Assumes nothing.
use mathlib.Core.Path.{refl}
use Rattle.spec.specs.Session.{response}
use Rattle.spec.specs.Bytes.{memory_of}
use Rattle.record.specs.Inner.{store_at}
use Rattle.lines.proofs.FrontRows.{by_form}
use Rattle.lines.proofs.answer_line.Goals as goal

pub returns-in-SetUp-clause-says : goal.returns-in-SetUp-clause-says
unfolding response
returns-in-SetUp-clause-says c =
    let a = c.args in
    rw (by_form a.line.now (memory_of (store_at a.r.now) a.rows.now a.commits.now a.versions.now) c.form_of.result _ c.form_of.ensures c.in-SetUp.is)
    c.set_up_said.ensures.says

pub returns-in-Begin-clause-says : goal.returns-in-Begin-clause-says
unfolding response
returns-in-Begin-clause-says c =
    let a = c.args in
    rw (by_form a.line.now (memory_of (store_at a.r.now) a.rows.now a.commits.now a.versions.now) c.form_of.result _ c.form_of.ensures c.in-Begin.is)
    (c.begin_said.ensures.says _)

pub returns-in-Read-clause-says : goal.returns-in-Read-clause-says
unfolding response
returns-in-Read-clause-says c =
    let a = c.args in
    rw (by_form a.line.now (memory_of (store_at a.r.now) a.rows.now a.commits.now a.versions.now) c.form_of.result _ c.form_of.ensures c.in-Read.is)
    c.read_said.ensures

pub returns-in-Write-clause-says : goal.returns-in-Write-clause-says
unfolding response
returns-in-Write-clause-says c =
    let a = c.args in
    rw (by_form a.line.now (memory_of (store_at a.r.now) a.rows.now a.commits.now a.versions.now) c.form_of.result _ c.form_of.ensures c.in-Write.is)
    (c.write_said.ensures.says _)

pub returns-in-Advance-clause-says : goal.returns-in-Advance-clause-says
unfolding response
returns-in-Advance-clause-says c =
    let a = c.args in
    rw (by_form a.line.now (memory_of (store_at a.r.now) a.rows.now a.commits.now a.versions.now) c.form_of.result _ c.form_of.ensures c.in-Advance.is)
    (c.advance_said.ensures.says _)

pub returns-in-Abandon-clause-says : goal.returns-in-Abandon-clause-says
unfolding response
returns-in-Abandon-clause-says c =
    let a = c.args in
    rw (by_form a.line.now (memory_of (store_at a.r.now) a.rows.now a.commits.now a.versions.now) c.form_of.result _ c.form_of.ensures c.in-Abandon.is)
    (c.abandon_said.ensures.says _)

pub returns-in-Trim-clause-says : goal.returns-in-Trim-clause-says
unfolding response
returns-in-Trim-clause-says c =
    let a = c.args in
    rw (by_form a.line.now (memory_of (store_at a.r.now) a.rows.now a.commits.now a.versions.now) c.form_of.result _ c.form_of.ensures c.in-Trim.is)
    (c.trim_said.ensures.says _)

pub returns-in-Free-clause-says : goal.returns-in-Free-clause-says
unfolding response
returns-in-Free-clause-says c =
    let a = c.args in
    rw (by_form a.line.now (memory_of (store_at a.r.now) a.rows.now a.commits.now a.versions.now) c.form_of.result _ c.form_of.ensures c.in-Free.is)
    (c.free_said.ensures _)

pub returns-in-Other-clause-says : goal.returns-in-Other-clause-says
unfolding response
returns-in-Other-clause-says c =
    let a = c.args in
    rw (by_form a.line.now (memory_of (store_at a.r.now) a.rows.now a.commits.now a.versions.now) c.form_of.result _ c.form_of.ensures c.in-Other.is)
    record { memory = refl; text = c.refused_line.ensures.put; room = c.refused_line.ensures.upper_bound }
