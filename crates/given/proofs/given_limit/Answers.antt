-- `given::given_limit`: 0 stands for the default limit.
-- Assumes nothing.
use borrow.Author.Tests.{eq-eqb, ne_eqb}
use Rattle.given.proofs.given_limit.Goals as goal

pub returns-then-limit-eq0 : goal.returns-then-limit-eq0
returns-then-limit-eq0 c = rw (eq-eqb _ 0 c.if-limit-eq0.true)

pub returns-else-limit-eq0 : goal.returns-else-limit-eq0
returns-else-limit-eq0 c = rw (ne_eqb _ 0 c.if-limit-eq0.false)
