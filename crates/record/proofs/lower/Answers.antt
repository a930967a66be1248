-- `record::lower`: the smaller of two snapshots, or the one there is.
-- Assumes nothing.
use native.Mathlib.Omega.{arith}
use borrow.Author.Tests.{eq-eqb, ne_eqb}
use Rattle.spec.specs.Numbers.{lesser}
use Rattle.record.proofs.Smallest.{lesser_new, lesser_old}
use Rattle.record.proofs.lower.Goals as goal

pub returns-then-number-eq0 : goal.returns-then-number-eq0
unfolding lesser
returns-then-number-eq0 c = rw (eq-eqb c.args.number 0 c.if-number-eq0.true)

pub returns-then-s-best : goal.returns-then-s-best
returns-then-s-best c =
    let a = c.args in
    rw (ne_eqb a.number 0 c.if-number-eq0.false) (lesser_new a.snapshot a.best (omega arith) c.if-s-best.true)

pub returns-else-s-best : goal.returns-else-s-best
returns-else-s-best c =
    let a = c.args in
    rw (ne_eqb a.number 0 c.if-number-eq0.false) (lesser_old a.snapshot a.best (omega arith) c.if-s-best.false)
