-- `search::sharers`: the members so far, and the queued clients that share a cell in the rest of the rows, are all that share one; rows of cells that
-- the transaction cannot have written are passed over.
use Prim.Native.Nat.{◌+◌, ◌<◌, ◌^◌}
use native.Mathlib.Omega.{arith}
use Rattle.spec.specs.Set.{clients}
use Rattle.spec.specs.Rows.{row_at, cell_of}
use Rattle.search.proofs.Passes.{carry}
use Rattle.search.proofs.Marks.{row_unmarked}
use Rattle.search.proofs.Sharing.{Shared, share_none, share_start, share-hit, share-miss, share-end}
use Rattle.search.proofs.sharers.Goals.{else-has_written, then-has_written}
use Rattle.search.proofs.sharers.Goals as goal

pub returns-then-queued-eq0 : goal.returns-then-queued-eq0
returns-then-queued-eq0 c = rw c.if-queued-eq0.true (share_none _)

pub loop-i-init : goal.loop-i-init
loop-i-init c =
    let a = c.args in (
      omega arith,
      carry (Shared a.tag a.queued a.used a.rows.now a.numbers.now 0) c.next_marked-i.ensures
          (λ k l m s. share-miss a.tag a.queued a.used a.rows.now a.numbers.now 0 k s l
          (row_unmarked c.mark_cells.ensures (cell_of (row_at 24 k a.rows.now)) m))
          (share_start a.tag a.queued a.used a.rows.now a.numbers.now),
    )

pub loop-i-preserved : goal.loop-i-preserved
loop-i-preserved c =
    let a = c.args in
    let loop = c.loop-i in
    let found = c.if-has_written.found in
    let h : loop.i < a.used = omega arith in
    let next : (found < 2 ^ clients) × Shared a.tag a.queued a.used a.rows.now a.numbers.now found (loop.i + 1) = elim c.if-has_written.branch [
      | then-has_written w ↦ (
        omega arith,
        share-hit a.tag a.queued a.used a.rows.now a.numbers.now loop.found loop.i loop.invariant.1 h
            (rw (← c.cell_at.ensures, ← c.has_written.ensures) w.if-has_written.true) found
            (λ j. rw (w.found-is, ← w.tag_at.ensures) (w.with_writers-found.ensures j)),
      )
      | else-has_written w ↦ rw w.found-is (
        loop.invariant.0,
        share-miss a.tag a.queued a.used a.rows.now a.numbers.now loop.found loop.i loop.invariant.1 h
            (rw (← c.cell_at.ensures, ← c.has_written.ensures) w.if-has_written.false),
      )
    ] in (
      next.0,
      carry (Shared a.tag a.queued a.used a.rows.now a.numbers.now found) c.next_marked-i-in-loop-i.ensures
          (λ k l m s. share-miss a.tag a.queued a.used a.rows.now a.numbers.now found k s l
          (row_unmarked c.mark_cells.ensures (cell_of (row_at 24 k a.rows.now)) m))
          next.1,
    )

pub returns : goal.returns
returns c =
    let a = c.args in
    let loop = c.loop-i in
    share-end a.tag a.queued a.used a.rows.now a.numbers.now loop.found loop.i loop.invariant.1 c.loop-i-test.false
    c.ranges.queued.fits loop.invariant.0
