-- The rows below i rise, each to the next.
use Prim.Native.Nat.{ℕ, ◌-◌, ◌≤◌, ◌<◌}
use Rattle.orderly.specs.Inner.{Rises}
use Rattle.orderly.proofs.both_rise.Given as goal

abbrev pub invariant-loop-i : goal.invariant-loop-i
invariant-loop-i l = (l.i ≤ l.entries) × ((k : ℕ) → k < l.i → Rises l.commits k)

abbrev pub decreases-loop-i : goal.decreases-loop-i
decreases-loop-i l = l.entries - l.i
