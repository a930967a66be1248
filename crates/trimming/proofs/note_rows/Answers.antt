-- The numbers below i are right, and any row later among all is one that is noted or one among the rows from i on.
use Prim.Native.Nat.{ℕ}
use mathlib.Core.Path.{◌≡◌, ap, ◌∙◌}
use lib.ListN.{length-set, length-replicate}
use borrow.Author.Rules.{rules}
use native.Mathlib.Omega.{arith}
use Rattle.spec.specs.Rows.{row_at, rows_in, tag_of}
use Rattle.spec.specs.Look.{commit_of}
use Rattle.trimming.specs.Inner.{number_or}
use Rattle.removal.proofs.Moving.{stored_more}
use Rattle.trimming.proofs.Newest.{newest_start, newest_more, newest_end}
use Rattle.trimming.proofs.note_rows.Goals as goal

pub loop-i-init : goal.loop-i-init
loop-i-init c =
    let a = c.args in
    let zero = c.requires.newest_value in (
      rw zero (length-replicate {A = ℕ} 1024 0),
      search rules,
      c.commit_at-commit.ensures,
      λ k h. absurd (omega arith),
      newest_start (rows_in 8 a.entries a.commits.now) a.low a.used a.rows.now a.newest.now zero,
    )

pub loop-i-preserved : goal.loop-i-preserved
loop-i-preserved c =
    let a = c.args in
    let cs = rows_in 8 a.entries a.commits.now in
    let loop = c.loop-i in
    let tag = c.tag_at-tag.ensures in
    let again = c.commit_again-commit.ensures in
    let number = c.number_or-number in
    let right : number.result ≡ number_or (commit_of (tag_of (row_at 24 loop.i a.rows.now)) cs) =
    number.ensures ∙ ap number_or (again ∙ ap (λ (t : ℕ). commit_of t cs) tag) in (
      c.note.ensures.size,
      simp length-set loop.invariant.1,
      again,
      stored_more (λ k. number_or (commit_of (tag_of (row_at 24 k a.rows.now)) cs)) loop.numbers loop.i number.result (omega arith)
          loop.invariant.3 right,
      newest_more cs a.low a.used a.rows.now loop.newest _ loop.i c.cell_at.result number.result
          (omega (arith, c.ranges.low)) (omega arith) c.cell_at.ensures right c.note.ensures loop.invariant.4,
    )

pub returns-clause-newest : goal.returns-clause-newest
returns-clause-newest c =
    let a = c.args in
    let loop = c.loop-i in
    newest_end (rows_in 8 a.entries a.commits.now) a.low a.used a.rows.now loop.newest loop.i c.loop-i-test.false loop.invariant.4
