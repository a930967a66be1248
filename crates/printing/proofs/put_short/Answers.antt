-- The digits are one byte, or two. Assumes nothing.
use Rattle.printing.proofs.Texts.{decimal_one, decimal_two}
use Rattle.printing.proofs.put_short.Goals as goal

pub returns-then-n-lt10-clause-put : goal.returns-then-n-lt10-clause-put
returns-then-n-lt10-clause-put c = rw (decimal_one c.args.n c.if-n-lt10.true) c.put.ensures

pub returns-clause-put : goal.returns-clause-put
returns-clause-put c = rw (decimal_two c.args.n c.if-n-lt10.false c.requires.n_bound) c.put_pair.ensures
