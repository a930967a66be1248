-- `waiting::others`: the set so far is that of the clients passed that are in the queue; at the end the client itself is left out.
-- Assumes nothing.
use mathlib.Core.Path.{◌≡◌}
use lib.ListN.{get_or}
use Rattle.spec.specs.Set.{collect}
use Rattle.spec.specs.Steps.{queued}
use Rattle.waiting.proofs.others.Given as goal

abbrev pub invariant-loop-i : goal.invariant-loop-i
invariant-loop-i l = l.out ≡ collect (λ j. queued l.queue (get_or l.stage j 0)) l.i
