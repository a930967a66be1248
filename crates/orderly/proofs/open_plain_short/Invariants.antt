-- Before row i the rows of the place are plain; the rest of the chain meets every later row of its tag and cell.
use Prim.Native.Nat.{ℕ, ◌-◌}
use Rattle.orderly.specs.Inner.{TagWalk}
use Rattle.orderly.proofs.Short.{Walked}
use Rattle.orderly.proofs.open_plain_short.Given as goal

abbrev pub invariant-loop-i : goal.invariant-loop-i
invariant-loop-i l = (key : ℕ → ℕ) (x : ℕ) → TagWalk key x l.used l.rows l.follows l.first → Walked key x l.used l.rows l.follows l.i

abbrev pub decreases-loop-i : goal.decreases-loop-i
decreases-loop-i l = l.used - l.i
