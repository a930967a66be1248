-- Any row later among all is any among the rows from i on.
use mathlib.Core.Path.{sym, ap, ◌∙◌}
use native.Mathlib.Omega.{arith}
use Rattle.spec.proofs.Rows.{rows_start}
use Rattle.spec.specs.Share.{any}
use Rattle.spec.specs.Trim.{later}
use Rattle.search.proofs.Folds.{any_step, any_end}
use Rattle.trimming.proofs.any_later.Goals as goal

pub loop-i-init : goal.loop-i-init
loop-i-init c = λ cs h. ap (any _) (rows_start 24 _ _)

pub returns-then-is_later : goal.returns-then-is_later
returns-then-is_later c = λ cs h.
    let a = c.args in
    let loop = c.loop-i in
    sym (loop.invariant cs h ∙ any_step (later cs a.low a.cell a.n) 24 a.used loop.i a.rows.now (omega arith)
    ∙ rw (sym (c.is_later.ensures cs (h.each loop.i (omega arith))) ∙ c.if-is_later.true))

pub loop-i-preserved : goal.loop-i-preserved
loop-i-preserved c = λ cs h.
    let a = c.args in
    let loop = c.loop-i in
    loop.invariant cs h ∙ any_step (later cs a.low a.cell a.n) 24 a.used loop.i a.rows.now (omega arith)
    ∙ rw (sym (c.is_later.ensures cs (h.each loop.i (omega arith))) ∙ c.if-is_later.false)

pub returns : goal.returns
returns c = λ cs h.
    let a = c.args in
    let loop = c.loop-i in
    sym (loop.invariant cs h ∙ any_end (later cs a.low a.cell a.n) 24 a.used loop.i a.rows.now c.loop-i-test.false)
