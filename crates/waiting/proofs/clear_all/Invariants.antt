-- `waiting::clear_all`: the bit is cleared in the lists passed.
-- Assumes nothing.
use mathlib.Core.Path.{◌≡◌}
use mathlib.Core.List.{◌++◌, map}
use Prim.Native.Nat.{ℕ}
use lib.ListN.{take, drop}
use Rattle.spec.specs.Set.{remove}
use Rattle.waiting.proofs.clear_all.Given as goal

abbrev pub invariant-loop-list : goal.invariant-loop-list
invariant-loop-list l = l.list-items ≡ map (λ (w : ℕ). remove w l.client) (take l.list-index l.initial.list-items) ++ drop l.list-index l.initial.list-items
