-- By the row's number: above low it stays, else it goes where it is below the newest of its cell.
use mathlib.Core.Path.{sym, ◌∙◌}
use borrow.Author.Tests.{lt-ltb, le-ltb}
use native.Mathlib.Omega.{arith}
use lib.ListN.{get_or}
use Rattle.spec.specs.Rows.{row_at, rows_in}
use Rattle.trimming.proofs.Newest.{stays_above, stays-up-to, stays-newest}
use Rattle.trimming.proofs.stay_flag.Goals as goal

pub returns-then-most-n : goal.returns-then-most-n
returns-then-most-n c = λ cs numbers newest.
    let a = c.args in
    rw (stays_above a.low (rows_in 24 a.used a.rows.now) cs (row_at 24 a.i a.rows.now) _
    (numbers.each a.i c.requires.i_lt_used) c.if-most-n.true)

pub returns-then-n-newest : goal.returns-then-n-newest
returns-then-n-newest c = λ cs numbers newest.
    let a = c.args in
    let cell = c.cell_at-cell in
    rw (
      stays-newest a.low (rows_in 24 a.used a.rows.now) cs (row_at 24 a.i a.rows.now) _
          (numbers.each a.i c.requires.i_lt_used) cell.result cell.ensures
          (omega (arith, c.ranges.low)) c.if-most-n.false a.newest.now newest c.if-cell-lt1024.true,
      lt-ltb (get_or a.numbers.now a.i 0) (get_or a.newest.now cell.result 0) (omega (arith, c.if-n-newest.true)),
    )

pub returns-else-n-newest : goal.returns-else-n-newest
returns-else-n-newest c = λ cs numbers newest.
    let a = c.args in
    let cell = c.cell_at-cell in
    rw (
      stays-newest a.low (rows_in 24 a.used a.rows.now) cs (row_at 24 a.i a.rows.now) _
          (numbers.each a.i c.requires.i_lt_used) cell.result cell.ensures
          (omega (arith, c.ranges.low)) c.if-most-n.false a.newest.now newest c.if-cell-lt1024.true,
      le-ltb (get_or a.numbers.now a.i 0) (get_or a.newest.now cell.result 0) (omega (arith, c.if-n-newest.false)),
    )

pub returns-then-any_later : goal.returns-then-any_later
returns-then-any_later c = λ cs numbers newest.
    let a = c.args in
    let cell = c.cell_at-cell in
    rw (
      stays-up-to a.low (rows_in 24 a.used a.rows.now) cs (row_at 24 a.i a.rows.now) _
          (numbers.each a.i c.requires.i_lt_used) cell.result cell.ensures
          (omega (arith, c.ranges.low)) c.if-most-n.false,
      sym (c.any_later.ensures cs numbers) ∙ c.if-any_later.true,
    )

pub returns-else-any_later : goal.returns-else-any_later
returns-else-any_later c = λ cs numbers newest.
    let a = c.args in
    let cell = c.cell_at-cell in
    rw (
      stays-up-to a.low (rows_in 24 a.used a.rows.now) cs (row_at 24 a.i a.rows.now) _
          (numbers.each a.i c.requires.i_lt_used) cell.result cell.ensures
          (omega (arith, c.ranges.low)) c.if-most-n.false,
      sym (c.any_later.ensures cs numbers) ∙ c.if-any_later.false,
    )
