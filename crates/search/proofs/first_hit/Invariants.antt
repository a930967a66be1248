-- `search::first_hit`: the test does not hold of any number passed, N a turn and then one by one.
use Prim.Native.Nat.{ℕ, ◌+◌, ◌*◌, ◌≤◌, ◌<◌}
use mathlib.Core.Bool.{false}
use Rattle.search.proofs.first_hit.Given as goal

abbrev pub invariant-loop-j : goal.invariant-loop-j
invariant-loop-j g l = (k : ℕ) → l.from ≤ k → k < l.from + g.row.N * l.t + l.j → goal.F-post g l.hit k false

abbrev pub invariant-loop-t : goal.invariant-loop-t
invariant-loop-t g l = (k : ℕ) → l.from ≤ k → k < l.from + g.row.N * l.t → goal.F-post g l.hit k false

abbrev pub invariant-loop-i : goal.invariant-loop-i
invariant-loop-i g l = (k : ℕ) → l.from ≤ k → k < l.i → goal.F-post g l.hit k false
