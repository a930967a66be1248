-- `record::smallest_open`: the smallest of the clients passed, eight at a time.
-- Assumes nothing.
use Prim.Native.Nat.{◌*◌, ◌≤◌, ◌-◌}
use Rattle.record.specs.Inner.{SmallestOpen, short_number}
use Rattle.record.proofs.smallest_open.Given as goal

abbrev pub invariant-loop-t : goal.invariant-loop-t
invariant-loop-t l = (l.t ≤ 8) × SmallestOpen l.number l.snapshot (8 * l.t) (short_number l.best)

abbrev pub decreases-loop-t : goal.decreases-loop-t
decreases-loop-t l = 8 - l.t
