-- `search::mark_cells`: the marks are those of the rows that it has come by, from the last to the first.
use Prim.Native.Nat.{◌+◌, ◌-◌, ◌<◌}
use mathlib.Core.Path.{◌≡◌}
use native.Mathlib.Omega.{arith}
use Rattle.spec.specs.Rows.{rows_from}
use Rattle.spec.proofs.Rows.{rows_start}
use Rattle.search.specs.Inner.{WrittenMarks}
use Rattle.search.proofs.Marks.{marks_none, mark-hit, marks_back}
use Rattle.search.proofs.mark_cells.Goals as goal

pub loop-i-init : goal.loop-i-init
loop-i-init c =
    let a = c.args in
    let pass = c.last_tagged-i.ensures in (
      pass.end,
      pass.hit,
      marks_back a.tag a.used a.rows.now (omega arith) pass
          (marks_none a.tag a.used a.rows.now a.marks.now c.requires.marks_value),
    )

pub loop-i-preserved : goal.loop-i-preserved
loop-i-preserved c =
    let a = c.args in
    let loop = c.loop-i in
    let pass = c.last_tagged-i-in-loop-i.ensures in
    let h : 0 < loop.i = omega arith in
    let e : loop.i - 1 + 1 ≡ loop.i = omega arith in
    let m : WrittenMarks loop.marks (rows_from 24 a.used (loop.i - 1 + 1) a.rows.now) a.tag = rw e loop.invariant.2 in (
      omega (arith, pass.end),
      pass.hit,
      marks_back a.tag a.used a.rows.now (omega arith) pass
          (rw c.mark.ensures
          (mark-hit a.tag a.used (loop.i - 1) a.rows.now (omega arith) m (loop.invariant.1 h) c.cell_at.result
          c.cell_at.ensures)),
    )

pub returns : goal.returns
returns c =
    let a = c.args in
    let loop = c.loop-i in
    let e : loop.i ≡ 0 = omega arith in
    rw (rows_start 24 a.used a.rows.now, ← e) loop.invariant.2
