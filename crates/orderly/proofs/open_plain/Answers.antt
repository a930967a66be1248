-- From row i on the rows that are not committed are plain, and linked by tag and cell; the chain of a row's place meets every later row of its tag
-- and cell.
use Prim.Native.Nat.{ℕ, ◌+◌, ◌-◌}
use mathlib.Core.Path.{◌≡◌, ap, ◌∙◌}
use borrow.Author.Rules.{rules}
use native.Mathlib.Omega.{arith}
use lib.ListN.{get_or}
use Rattle.orderly.specs.Inner.{pair_place, open_place}
use Rattle.orderly.proofs.Single.{RowWalk, row_twice, row_sole, open_fails, open_large}
use Rattle.orderly.proofs.Open.{Tested, OpenRow, tested_none, tested-more, open_at, open-walk}
use Rattle.orderly.proofs.open_plain.Goals.{In-loop-k, After-pair_place-y}
use Rattle.orderly.proofs.open_plain.Goals as goal

pub loop-k-init : goal.loop-k-init
loop-k-init c =
    let a = c.args in
    tested_none a.used a.rows.now a.flags.now _ (search rules)

-- the rows behind row k
past : (c : In-loop-k) → Tested c.args.used c.args.rows.now c.args.flags.now c.loop-k.heads c.loop-k.nexts (c.loop-k.k - 1 + 1)
past c =
    let z : c.loop-k.k - 1 + 1 ≡ c.loop-k.k = omega (arith, c.loop-k-test.true) in
    rw z c.loop-k.invariant

-- row k, which is not committed
row : (c : After-pair_place-y)
    → OpenRow c.args.used c.args.rows.now c.args.flags.now (c.loop-k.k - 1) c.tag_at-tag.result c.cell_at-cell.result c.pair_place-y.result
row c =
    let cell = c.cell_at-cell in
    record {
      alike = c.requires.alike;
      uncommitted = c.if-flags-k-eq1.true;
      tag_is = c.tag_at-tag.ensures;
      cell_is = cell.ensures;
      place_is = c.pair_place-y.ensures.0 ∙ ap (λ (x : ℕ). pair_place x cell.result) c.place_of-x.ensures.0;
      small = c.pair_place-y.ensures.1;
    }

-- and the chain of its place
walk : (c : After-pair_place-y) → Tested c.args.used c.args.rows.now c.args.flags.now c.loop-k.heads c.loop-k.nexts (c.loop-k.k - 1 + 1)
    → RowWalk c.args.used c.args.rows.now c.loop-k.nexts (c.loop-k.k - 1) c.tag_at-tag.result c.cell_at-cell.result
    (get_or c.loop-k.heads c.pair_place-y.result 0)
walk c tested =
    let a = c.args in
    let loop = c.loop-k in
    open-walk a.used a.rows.now a.flags.now loop.heads loop.nexts (loop.k - 1) tested
    c.tag_at-tag.result c.cell_at-cell.result c.pair_place-y.result (row c)

pub returns-then-cell-ge1024 : goal.returns-then-cell-ge1024
returns-then-cell-ge1024 c =
    let tested = past (goal.at.returns-then-cell-ge1024 c).In-loop-k in
    open_large (c.loop-k.k - 1) (omega (arith, tested.end)) c.cell_at-cell.ensures c.if-cell-ge1024.true

pub own_chained-requires-clause-pair_walk : goal.own_chained-requires-clause-pair_walk
own_chained-requires-clause-pair_walk c =
    let at = goal.at.own_chained-requires-clause-pair_walk c in
    (walk at.After-pair_place-y (past at.In-loop-k)).walk

pub returns-then-own_chained : goal.returns-then-own_chained
returns-then-own_chained c =
    let at = goal.at.returns-then-own_chained c in
    open_fails (row_twice (walk at.After-pair_place-y (past at.In-loop-k)) c.own_chained.ensures c.if-own_chained.true)

pub loop-k-preserved-then-flags-k-eq1 : goal.loop-k-preserved-then-flags-k-eq1
loop-k-preserved-then-flags-k-eq1 c =
    let at = goal.at.loop-k-preserved-then-flags-k-eq1 c in
    let a = c.args in
    let loop = c.loop-k in
    let t = past at.In-loop-k in
    tested-more a.used a.rows.now a.flags.now loop.heads loop.nexts (loop.k - 1) t c.link.new.heads
    c.link.new.nexts
    (c.link.ensures.one 1024 (open_place a.flags.now a.rows.now) a.used (omega (arith, t.end))
    (open_at a.used a.rows.now a.flags.now loop.heads loop.nexts (loop.k - 1) t c.tag_at-tag.result c.cell_at-cell.result c.pair_place-y.result
    (row at.After-pair_place-y)) t.linked)
    (row_sole (walk at.After-pair_place-y t) c.own_chained.ensures c.if-cell-ge1024.false c.if-own_chained.false)
