-- `search::count_cells`: the cells counted, and marked, are those of the rows that it has come by, from the last to the first.
use Prim.Native.Nat.{ℕ, ◌<◌, ◌-◌, ◌+◌}
use mathlib.Core.Path.{◌≡◌, refl, sym, ap, ◌∙◌}
use mathlib.Core.Bool.{false}
use native.Mathlib.Omega.{arith}
use lib.ListN.{replicate}
use Rattle.spec.specs.Rows.{rows_from}
use Rattle.spec.proofs.Rows.{rows_start}
use Rattle.spec.specs.Share.{cells_of}
use Rattle.search.proofs.Passes.{carry_back}
use Rattle.search.proofs.Folds.{last_one, cells_hit, cells_miss, cells_end}
use Rattle.search.proofs.Marks.{marks_none, marks_back}
use Rattle.search.proofs.count_cells.Goals as goal

pub loop-i-init : goal.loop-i-init
loop-i-init c =
    let a = c.args in
    let pass = c.last_tagged-i.ensures in (
      omega (arith, pass.end),
      pass.hit,
      carry_back (λ k. 0 ≡ cells_of a.tag (rows_from 24 a.used k a.rows.now)) pass
          (λ k l m e. e ∙ sym (cells_miss a.tag 24 a.used k a.rows.now l m))
          (sym (cells_end a.tag 24 a.used a.used a.rows.now (omega arith))),
      marks_back a.tag a.used a.rows.now (omega arith) pass
          (marks_none a.tag a.used a.rows.now (replicate 1024 false) refl),
    )

pub loop-i-preserved : goal.loop-i-preserved
loop-i-preserved c =
    let a = c.args in
    let loop = c.loop-i in
    let pass = c.last_tagged-i-in-loop-i.ensures in
    let h : 0 < loop.i = omega arith in
    let e : loop.i - 1 + 1 ≡ loop.i = omega arith in
    let cells : ℕ → ℕ = λ k. cells_of a.tag (rows_from 24 a.used k a.rows.now) in (
      omega (arith, pass.end, c.count_cell-n.ensures.value, last_one a.tag 24 a.used (loop.i - 1) a.rows.now),
      pass.hit,
      carry_back (λ k. loop.n + c.count_cell-n.result ≡ cells k) pass
          (λ k l m f. f ∙ sym (cells_miss a.tag 24 a.used k a.rows.now (omega arith) m))
          (omega (
            arith,
            c.count_cell-n.ensures.value,
            cells_hit a.tag 24 a.used (loop.i - 1) a.rows.now (omega arith) (loop.invariant.1 h),
            ap cells e,
          )),
      marks_back a.tag a.used a.rows.now (omega arith) pass c.count_cell-n.ensures.written_marks_2,
    )

pub returns : goal.returns
returns c =
    let a = c.args in
    let loop = c.loop-i in
    let e : loop.i ≡ 0 = omega arith in
    rw (rows_start 24 a.used a.rows.now, ← e) loop.invariant.2
