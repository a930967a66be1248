use mathlib.Core.Path.{sym, ◌∙◌}
use native.Mathlib.Omega.{arith}
use borrow.Author.Tests.{lt-ltb, le-ltb}
use Rattle.spec.specs.Set.{clients, insert}
use Rattle.spec.proofs.Sets.{member-false, one_shifted, add-lt}
use Rattle.sets.proofs.with.Goals as goal

pub returns-then-client-ge-LIMIT : goal.returns-then-client-ge-LIMIT
unfolding insert
returns-then-client-ge-LIMIT c = rw (le-ltb c.args.client clients (omega arith))

pub returns-then-has : goal.returns-then-has
unfolding insert
returns-then-has c =
    let a = c.args in
    rw (lt-ltb a.client clients (omega arith), sym c.has.ensures, c.if-has.true)

pub overflow_add-result : goal.overflow_add-result
overflow_add-result c =
    let a = c.args in
    rw (one_shifted clients a.client (omega arith))
    (record {
      fits = add-lt clients a.set a.client c.ranges.set.fits (omega arith)
          (member-false _ _ (sym c.has.ensures ∙ c.if-has.false));
    })

pub returns : goal.returns
unfolding insert
returns c =
    let a = c.args in
    rw (one_shifted clients a.client (omega arith), lt-ltb a.client clients (omega arith), sym c.has.ensures, c.if-has.false)
