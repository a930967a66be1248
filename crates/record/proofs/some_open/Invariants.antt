-- `record::some_open`: while none was open, those passed count nothing.
-- Assumes nothing.
use mathlib.Core.Path.{◌≡◌}
use mathlib.Core.Bool.{false}
use Prim.Native.Nat.{◌+◌, ◌≤◌, ◌-◌}
use Rattle.record.specs.Inner.{AllClosed}
use Rattle.record.proofs.some_open.Given as goal

abbrev pub invariant-loop-j : goal.invariant-loop-j
invariant-loop-j l = (l.j ≤ 8) × (l.open ≡ false → AllClosed l.number l.from (l.from + l.j))

abbrev pub decreases-loop-j : goal.decreases-loop-j
decreases-loop-j l = 8 - l.j
