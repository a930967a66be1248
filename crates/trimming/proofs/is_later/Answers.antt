-- By the cell and the number.
use mathlib.Core.Path.{sym, ◌∙◌}
use borrow.Author.Tests.{eq-eqb, ne_eqb, lt-ltb, le-ltb}
use native.Mathlib.Omega.{arith}
use Rattle.spec.specs.Rows.{row_at, tag_of}
use Rattle.spec.specs.Look.{commit_of}
use Rattle.spec.specs.Trim.{later}
use Rattle.trimming.proofs.Newest.{between_number}
use Rattle.trimming.proofs.is_later.Goals as goal

pub returns-then-cell_at-cell : goal.returns-then-cell_at-cell
unfolding later
returns-then-cell_at-cell c = λ cs e. rw (ne_eqb _ _ (λ z. c.if-cell_at-cell.true (c.cell_at.ensures ∙ z)))

pub returns-then-n-number : goal.returns-then-n-number
unfolding later
returns-then-n-number c = λ cs e.
    rw (
      eq-eqb _ _ (sym c.cell_at.ensures ∙ c.if-cell_at-cell.false),
      between_number c.args.n c.args.low (commit_of (tag_of (row_at 24 c.args.i c.args.rows.now)) cs)
          (omega (arith, c.ranges.low)),
      ← e,
      lt-ltb _ _ c.if-n-number.true,
    )

pub returns-else-n-number : goal.returns-else-n-number
unfolding later
returns-else-n-number c = λ cs e.
    rw (
      eq-eqb _ _ (sym c.cell_at.ensures ∙ c.if-cell_at-cell.false),
      between_number c.args.n c.args.low (commit_of (tag_of (row_at 24 c.args.i c.args.rows.now)) cs)
          (omega (arith, c.ranges.low)),
      ← e,
      le-ltb _ _ c.if-n-number.false,
    )
