-- Before row i the rows of the place are plain; the rest of the chain meets every later row of its tag and cell.
use native.Mathlib.Omega.{arith}
use lib.ListN.{get_or}
use Rattle.orderly.proofs.Single.{RowWalk, row_twice, row_sole, open_passes, open_fails, open_large}
use Rattle.orderly.proofs.Short.{walked_more, walked_row}
use Rattle.orderly.proofs.open_plain_short.Goals.{After-tag_at-tag}
use Rattle.orderly.proofs.open_plain_short.Goals as goal

-- the rest of the chain from row i on
walk : (c : After-tag_at-tag)
    → RowWalk c.args.used c.args.rows.now c.args.follows.now c.loop-i.i c.tag_at-tag.result c.cell_at-cell.result (get_or c.args.follows.now c.loop-i.i 0)
walk c =
    let some = c.requires.some_tag_walk in
    walked_row c.loop-i-test.true (c.loop-i.invariant some.key some.at some.walk) some.walk c.tag_at-tag.ensures c.cell_at-cell.ensures

pub returns-then-cell-ge1024 : goal.returns-then-cell-ge1024
returns-then-cell-ge1024 c = λ key x w.
    open_large c.loop-i.i c.loop-i-test.true c.cell_at-cell.ensures c.if-cell-ge1024.true

pub own_chained-requires-clause-pair_walk : goal.own_chained-requires-clause-pair_walk
own_chained-requires-clause-pair_walk c = (walk (goal.at.own_chained-requires-clause-pair_walk c).After-tag_at-tag).walk

pub returns-then-own_chained : goal.returns-then-own_chained
returns-then-own_chained c = λ key x w.
    open_fails (row_twice (walk (goal.at.returns-then-own_chained c).After-tag_at-tag) c.own_chained.ensures c.if-own_chained.true)

pub loop-i-smaller : goal.loop-i-smaller
loop-i-smaller c =
    let rest = walk (goal.at.loop-i-smaller c).After-tag_at-tag in
    omega (arith, rest.next.start, c.loop-i-test.true)

pub loop-i-preserved : goal.loop-i-preserved
loop-i-preserved c = λ key x w.
    walked_more c.loop-i-test.true (c.loop-i.invariant key x w)
    (row_sole (walk (goal.at.loop-i-preserved c).After-tag_at-tag) c.own_chained.ensures c.if-cell-ge1024.false c.if-own_chained.false)

pub returns : goal.returns
returns c =
    λ key x w. open_passes (λ k h. (c.loop-i.invariant key x w).plain k (omega (arith, c.loop-i-test.false)))
