-- `record::eight_more`: the smallest of the clients passed.
-- Assumes nothing.
use Prim.Native.Nat.{◌+◌, ◌≤◌, ◌-◌}
use Rattle.record.specs.Inner.{SmallestOpen, short_number}
use Rattle.record.proofs.eight_more.Given as goal

abbrev pub invariant-loop-j : goal.invariant-loop-j
invariant-loop-j l =
    (l.j ≤ 8) × (SmallestOpen l.number l.snapshot l.from (short_number l.best) → SmallestOpen l.number l.snapshot (l.from + l.j) (short_number l.next))

abbrev pub decreases-loop-j : goal.decreases-loop-j
decreases-loop-j l = 8 - l.j
