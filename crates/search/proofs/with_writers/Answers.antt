-- `search::with_writers`: the members are those of the set, and those of the clients so far that are queued and have the number, eight a turn.
use Prim.Native.Nat.{◌+◌, ◌*◌}
use mathlib.Core.Path.{◌∙◌}
use native.Mathlib.Omega.{arith}
use lib.Dec.{eqb}
use lib.ListN.{get_or}
use Rattle.search.proofs.Sharing.{writers_more, writers_end}
use Rattle.search.proofs.with_writers.Invariants.{writes}
use Rattle.search.proofs.with_writers.Goals as goal

pub loop-j-preserved : goal.loop-j-preserved
loop-j-preserved c =
    let a = c.args in
    let t = c.loop-t.t in
    let loop = c.loop-j in
    rw c.with_writer-out.ensures
    (writers_more a.found (writes a.queued a.numbers.now a.tag) loop.out (8 * t + loop.j) (8 * t + (loop.j + 1)) (omega arith)
    (omega arith) loop.invariant)

pub returns : goal.returns
returns c =
    let a = c.args in
    let loop = c.loop-t in
    λ j. loop.invariant j
    ∙ writers_end a.found a.queued (8 * loop.t) j (eqb (get_or a.numbers.now j 0) a.tag) c.ranges.queued.fits (omega arith)
