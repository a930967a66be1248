-- `record::stages_known`: the loop's flag is `known` of the stages passed.
-- Assumes nothing.
use mathlib.Core.Path.{◌≡◌}
use Prim.Native.Nat.{◌≤◌, ◌-◌}
use Rattle.spec.specs.Set.{clients}
use Rattle.spec.specs.Bytes.{known}
use Rattle.record.proofs.stages_known.Given as goal

abbrev pub invariant-loop-i : goal.invariant-loop-i
invariant-loop-i l = (l.i ≤ clients) × (l.ok ≡ known l.stage l.i)

abbrev pub decreases-loop-i : goal.decreases-loop-i
decreases-loop-i l = clients - l.i
