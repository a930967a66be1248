-- `search::sharers`: the members so far, and the queued clients that share a cell in the rest of the rows, are all that share one; rows of cells that
-- the transaction cannot have written are passed over.
use Prim.Native.Nat.{◌<◌, ◌-◌, ◌^◌}
use Rattle.spec.specs.Set.{clients}
use Rattle.search.proofs.Sharing.{Shared}
use Rattle.search.proofs.sharers.Given as goal

abbrev pub invariant-loop-i : goal.invariant-loop-i
invariant-loop-i l = (l.found < 2 ^ clients) × Shared l.tag l.queued l.used l.rows l.numbers l.found l.i

abbrev pub decreases-loop-i : goal.decreases-loop-i
decreases-loop-i l = l.used - l.i
