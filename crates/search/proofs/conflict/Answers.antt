-- `search::conflict`: the smallest of all rows is the lesser of the smallest so far and that of the rest; rows of cells that the transaction cannot
-- have written are passed over; nothing where no commit is above the snapshot.
use Rattle.std.specs.Prelude.{None}
use Prim.Native.Nat.{◌<◌}
use mathlib.Core.Path.{sym, ◌∙◌}
use native.Mathlib.Omega.{arith}
use Rattle.spec.specs.Rows.{row_at, rows_in, cell_of}
use Rattle.search.proofs.Passes.{skip}
use Rattle.search.proofs.Marks.{row_unmarked}
use Rattle.search.proofs.Clashes.{conflict-none, clash_rest, clash_start, clash-hit, clash-miss, clash-end}
use Rattle.search.proofs.conflict.Goals.{else-has_written, then-has_written}
use Rattle.search.proofs.conflict.Goals as goal

pub returns-then-not-any_above : goal.returns-then-not-any_above
returns-then-not-any_above c = sym (conflict-none _ _ _ _ (sym c.any_above.ensures ∙ c.if-not-any_above.true))

pub loop-i-init : goal.loop-i-init
loop-i-init c =
    let a = c.args in
    let cs = rows_in 8 a.entries a.commits.now in
    clash_start a.tag a.snapshot a.used a.rows.now cs
    ∙ skip (clash_rest a.tag a.snapshot a.used a.rows.now cs None) c.next_marked-i.ensures
    (λ k l m. clash-miss a.tag a.snapshot a.used a.rows.now cs None k l
    (row_unmarked c.mark_cells.ensures (cell_of (row_at 24 k a.rows.now)) m))

pub loop-i-preserved : goal.loop-i-preserved
loop-i-preserved c =
    let a = c.args in
    let cs = rows_in 8 a.entries a.commits.now in
    let loop = c.loop-i in
    let best = c.if-has_written.best in
    let h : loop.i < a.used = omega arith in
    loop.invariant
    ∙ elim c.if-has_written.branch [
      | then-has_written w ↦ clash-hit a.tag a.snapshot a.used a.rows.now cs loop.best loop.i h
          (rw (← c.cell_at.ensures, ← c.has_written.ensures) w.if-has_written.true) best
          (w.best-is ∙ w.lesser_of-best.ensures ∙ rw (w.above_of.ensures, w.commit_of-number.ensures, w.tag_at.ensures))
      | else-has_written w ↦ rw w.best-is (clash-miss a.tag a.snapshot a.used a.rows.now cs loop.best loop.i h
          (rw (← c.cell_at.ensures, ← c.has_written.ensures) w.if-has_written.false))
    ]
    ∙ skip (clash_rest a.tag a.snapshot a.used a.rows.now cs best) c.next_marked-i-in-loop-i.ensures
    (λ k l m. clash-miss a.tag a.snapshot a.used a.rows.now cs best k l
    (row_unmarked c.mark_cells.ensures (cell_of (row_at 24 k a.rows.now)) m))

pub returns : goal.returns
returns c =
    let a = c.args in
    let loop = c.loop-i in
    sym (loop.invariant ∙ clash-end a.tag a.snapshot a.used a.rows.now (rows_in 8 a.entries a.commits.now) loop.best
    loop.i c.loop-i-test.false)
