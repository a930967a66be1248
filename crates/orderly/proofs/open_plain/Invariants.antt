-- From row i on the rows that are not committed are plain, and linked by tag and cell; the chain of a row's place meets every later row of its tag
-- and cell.
use Rattle.orderly.proofs.Open.{Tested}
use Rattle.orderly.proofs.open_plain.Given as goal

abbrev pub invariant-loop-k : goal.invariant-loop-k
invariant-loop-k l = Tested l.used l.rows l.flags l.heads l.nexts l.k
