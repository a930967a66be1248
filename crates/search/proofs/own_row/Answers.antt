-- `search::own_row`: what is asked of all rows is what is asked of the rest, with the rows counted so far.
use Prim.Native.Nat.{◌<◌, ◌+◌}
use mathlib.Core.Path.{sym, ◌∙◌}
use native.Mathlib.Omega.{arith}
use Rattle.search.proofs.Passes.{skip}
use Rattle.search.proofs.Rest.{own_rest, own_start, own-skip, own-found, own-other, own-end}
use Rattle.search.proofs.own_row.Goals as goal

pub loop-i-init : goal.loop-i-init
loop-i-init c =
    let a = c.args in
    let pass = c.next_tag-i.ensures in (
      pass.end,
      pass.hit,
      omega arith,
      own_start a.tag a.cell a.used a.rows.now
          ∙ skip (own_rest a.tag a.cell a.used a.rows.now 0) pass (own-skip a.tag a.cell a.used a.rows.now 0),
    )

pub returns-then-cell_at-cell : goal.returns-then-cell_at-cell
returns-then-cell_at-cell c =
    let a = c.args in
    let loop = c.loop-i in
    let h : loop.i < a.used = omega arith in
    sym (loop.invariant.3 ∙ own-found a.tag a.cell a.used a.rows.now loop.n loop.i h (loop.invariant.1 h)
    (sym c.cell_at.ensures ∙ c.if-cell_at-cell.true))

pub loop-i-preserved : goal.loop-i-preserved
loop-i-preserved c =
    let a = c.args in
    let loop = c.loop-i in
    let pass = c.next_tag-i-in-loop-i.ensures in
    let h : loop.i < a.used = omega arith in (
      pass.end,
      pass.hit,
      omega (arith, pass.start),
      loop.invariant.3
          ∙ own-other a.tag a.cell a.used a.rows.now loop.n loop.i h (loop.invariant.1 h)
          (λ e. c.if-cell_at-cell.false (c.cell_at.ensures ∙ e))
          ∙ skip (own_rest a.tag a.cell a.used a.rows.now (loop.n + 1)) pass
          (own-skip a.tag a.cell a.used a.rows.now (loop.n + 1)),
    )

pub returns : goal.returns
returns c =
    let a = c.args in
    let loop = c.loop-i in
    sym (loop.invariant.3 ∙ own-end a.tag a.cell a.used a.rows.now loop.n loop.i c.loop-i-test.false)
