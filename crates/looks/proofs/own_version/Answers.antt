-- `looks::own_version`: row at is the first own one of the rows from row i on, whatever stands behind row k.
use Prim.Native.Nat.{◌+◌, ◌-◌, ◌<◌}
use mathlib.Core.Path.{◌≡◌, sym, ◌∙◌}
use native.Mathlib.Omega.{arith}
use Rattle.looks.proofs.Sight.{FirstOwn, own_first, own-not-cell, own_past, own_read}
use Rattle.looks.proofs.own_version.Goals.{else-cell_at-cell, then-cell_at-cell}
use Rattle.looks.proofs.own_version.Goals as goal

pub loop-i-init : goal.loop-i-init
loop-i-init c =
    let a = c.args in
    let pass = c.last_tagged-i.ensures in (
      pass.end,
      pass.hit,
      own_past a.tag a.cell a.k a.rows.now a.k c.last_tagged-i.result a.k (omega arith) pass
          (own_first a.tag a.cell a.k a.rows.now a.k (omega arith) c.requires.rows_value c.requires.rows_value_2),
    )

pub loop-i-preserved : goal.loop-i-preserved
loop-i-preserved c =
    let cell = c.cell_at.ensures in
    let loop = c.loop-i in
    let a = c.args in
    let pass = c.last_tagged-i-in-loop-i.ensures in
    let j = loop.i - 1 in
    let h : j < a.k = omega (arith, loop.invariant.0) in
    let e : loop.i ≡ j + 1 = omega arith in
    let own : FirstOwn a.tag a.cell a.k a.rows.now (j + 1) loop.at = rw (← e) loop.invariant.2 in
    let here : FirstOwn a.tag a.cell a.k a.rows.now j c.if-cell_at-cell.at =
    elim c.if-cell_at-cell.branch [
      | then-cell_at-cell w ↦
          rw w.at-is (own_first a.tag a.cell a.k a.rows.now j (omega (arith, h)) (loop.invariant.1 (omega arith))
          (sym cell ∙ w.if-cell_at-cell.true))
      | else-cell_at-cell w ↦
          rw w.at-is (own-not-cell a.tag a.cell a.k a.rows.now j loop.at h own (λ f. w.if-cell_at-cell.false (cell ∙ f)))
    ] in (
      omega (arith, pass.end, h),
      pass.hit,
      own_past a.tag a.cell a.k a.rows.now j c.last_tagged-i-in-loop-i.result c.if-cell_at-cell.at (omega (arith, h)) pass here,
    )

pub returns : goal.returns
returns c =
    let a = c.args in
    let loop = c.loop-i in
    let e : loop.i ≡ 0 = omega (arith, c.loop-i-test.false) in
    own_read a.tag a.cell a.k a.rows.now loop.at (rw (← e) loop.invariant.2)
