-- `waiting::look`: the clients of the list are looked at from the lowest on; what is left of the list is known client by client.
-- Assumes nothing.
use lib.ListN.{get_or}
use Rattle.spec.specs.Steps.{struck}
use Rattle.waiting.proofs.Looking.{Looked}
use Rattle.waiting.proofs.look.Given as goal

abbrev pub invariant-loop-rest : goal.invariant-loop-rest
invariant-loop-rest l = Looked (λ j. struck l.queue l.own (get_or l.stage j 0) (get_or l.number j 0)) l.list l.out l.rest

abbrev pub decreases-loop-rest : goal.decreases-loop-rest
decreases-loop-rest l = l.rest
