-- `search::last_hit`: the test does not hold of any number from i on, thirty-two a turn, then eight, then one by one.
use Prim.Native.Nat.{ℕ, ◌-◌, ◌≤◌, ◌<◌}
use mathlib.Core.Bool.{false}
use Rattle.search.proofs.last_hit.Given as goal

abbrev pub invariant-loop-j : goal.invariant-loop-j
invariant-loop-j g l = (l.j ≤ 32) × ((k : ℕ) → l.i - l.j ≤ k → k < l.until → goal.F-post g l.hit k false)

abbrev pub invariant-loop-i : goal.invariant-loop-i
invariant-loop-i g l = (l.i ≤ l.until) × ((k : ℕ) → l.i ≤ k → k < l.until → goal.F-post g l.hit k false)

abbrev pub decreases-loop-i : goal.decreases-loop-i
decreases-loop-i g l = l.i

abbrev pub invariant-loop-j-2 : goal.invariant-loop-j-2
invariant-loop-j-2 g l = (l.j ≤ 8) × ((k : ℕ) → l.i - l.j ≤ k → k < l.until → goal.F-post g l.hit k false)

abbrev pub invariant-loop-i-2 : goal.invariant-loop-i-2
invariant-loop-i-2 g l = (l.i ≤ l.until) × ((k : ℕ) → l.i ≤ k → k < l.until → goal.F-post g l.hit k false)

abbrev pub decreases-loop-i-2 : goal.decreases-loop-i-2
decreases-loop-i-2 g l = l.i

abbrev pub invariant-loop-i-3 : goal.invariant-loop-i-3
invariant-loop-i-3 g l = (l.i ≤ l.until) × ((k : ℕ) → l.i ≤ k → k < l.until → goal.F-post g l.hit k false)

abbrev pub decreases-loop-i-3 : goal.decreases-loop-i-3
decreases-loop-i-3 g l = l.i
