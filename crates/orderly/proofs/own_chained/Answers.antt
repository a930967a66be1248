-- Whether the rows from `from` on have a write of the cell is whether those from i on have one: the walk passes over rows of other places only.
use mathlib.Core.Path.{◌≡◌, sym, ◌∙◌}
use native.Mathlib.Omega.{arith}
use Rattle.spec.specs.Rows.{row_at, tag_of, cell_of}
use Rattle.search.proofs.Folds.{wrote_end}
use Rattle.orderly.proofs.Chains.{chain_next, chain_more}
use Rattle.orderly.proofs.Walks.{own_miss, own_here, pair_skip}
use Rattle.orderly.proofs.own_chained.Goals.{else-tag_at-tag-via-else-tag_at-tag, else-tag_at-tag-via-then-tag_at-tag+else-cell_at-cell}
use Rattle.orderly.proofs.own_chained.Goals as goal

pub returns-then-cell_at-cell : goal.returns-then-cell_at-cell
returns-then-cell_at-cell c =
    let a = c.args in
    let loop = c.loop-i in
    sym (loop.invariant.1 ∙ own_here a.tag a.cell a.used loop.i a.rows.now (omega arith)
    (sym c.tag_at.ensures ∙ c.if-tag_at-tag.true) (sym c.cell_at.ensures ∙ c.if-cell_at-cell.true))

pub loop-i-preserved : goal.loop-i-preserved
loop-i-preserved c =
    let a = c.args in
    let loop = c.loop-i in
    let walk = loop.invariant.0 in
    let h = c.loop-i-test.true in
    -- the row that was met is not the one
    let other : tag_of (row_at 24 loop.i a.rows.now) ≡ a.tag → cell_of (row_at 24 loop.i a.rows.now) ≡ a.cell → ⊥ = λ e f.
    elim c.else-tag_at-tag.branch [
      | else-tag_at-tag-via-then-tag_at-tag+else-cell_at-cell w ↦ w.if-cell_at-cell.false (w.cell_at.ensures ∙ f)
      | else-tag_at-tag-via-else-tag_at-tag w ↦ w.if-tag_at-tag.false (c.tag_at.ensures ∙ e)
    ] in (
      record {
        key = walk.key;
        at = walk.at;
        chain = chain_more walk.key a.used a.nexts.now walk.at loop.i h walk.chain;
        meets = walk.meets;
      },
      loop.invariant.1
          ∙ own_miss a.tag a.cell a.used loop.i a.rows.now h other
          ∙ pair_skip walk (chain_next walk.key a.used a.nexts.now walk.at loop.i h walk.chain),
    )

pub returns : goal.returns
returns c =
    let a = c.args in
    let loop = c.loop-i in
    sym (loop.invariant.1 ∙ wrote_end a.tag a.cell 24 a.used loop.i a.rows.now c.loop-i-test.false)
