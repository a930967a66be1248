-- From row i on all are linked, but for the head of the run that row i begins.
use Rattle.orderly.proofs.InOrder.{Along}
use Rattle.orderly.proofs.link_in_order.Given as goal

abbrev pub invariant-loop-k : goal.invariant-loop-k
invariant-loop-k l =
    Along l.used l.entries l.rows l.commits l.firsts l.follows l.at l.run l.last l.k
