-- `waiting::look`: the clients of the list are looked at from the lowest on; what is left of the list is known client by client.
-- Assumes nothing.
use mathlib.Core.Path.{sym, ◌∙◌}
use native.Mathlib.Omega.{arith}
use Rattle.spec.specs.Set.{clients}
use Rattle.waiting.proofs.Looking.{lowest, remove-lt, looked_struck, looked_stays, looked_all}
use Rattle.waiting.proofs.look.Goals as goal

pub loop-rest-smaller-then-strikes : goal.loop-rest-smaller-then-strikes
loop-rest-smaller-then-strikes c =
    let member = lowest clients c.loop-rest.rest c.loop-rest-test.true c.loop-rest.invariant.rest_fits in
    omega (arith, remove-lt _ _ member.inside, c.without-rest.ensures)

pub loop-rest-preserved-then-strikes : goal.loop-rest-preserved-then-strikes
loop-rest-preserved-then-strikes c =
    looked_struck _ _ _ _ _ c.loop-rest.invariant _ c.without-rest.ensures
    _ c.without-out.ensures (sym c.strikes.ensures ∙ c.if-strikes.true)

pub loop-rest-smaller : goal.loop-rest-smaller
loop-rest-smaller c =
    let member = lowest clients c.loop-rest.rest c.loop-rest-test.true c.loop-rest.invariant.rest_fits in
    omega (arith, remove-lt _ _ member.inside, c.without-rest.ensures)

pub loop-rest-preserved : goal.loop-rest-preserved
loop-rest-preserved c =
    looked_stays _ _ _ _ _ c.loop-rest.invariant _ c.without-rest.ensures (sym c.strikes.ensures ∙ c.if-strikes.false)

pub returns : goal.returns
returns c = looked_all _ _ _ _ (omega arith) c.loop-rest.invariant c.loop-rest-test.false
