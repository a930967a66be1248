-- `waiting::others`: the set so far is that of the clients passed that are in the queue; at the end the client itself is left out.
-- Assumes nothing.
use mathlib.Core.Path.{◌≡◌, refl, sym, ap, ◌∙◌}
use Prim.Native.Nat.{ℕ}
use native.Mathlib.Omega.{arith}
use native.Mathlib.Numerals.{add-one}
use Rattle.spec.specs.Set.{clients, insert, remove, collect}
use Rattle.spec.proofs.Sets.{collect_others}
use Rattle.waiting.proofs.others.Goals.{else-in_queue, then-in_queue}
use Rattle.waiting.proofs.others.Goals as goal

pub loop-i-init : goal.loop-i-init
unfolding collect
loop-i-init c = refl

pub loop-i-preserved : goal.loop-i-preserved
unfolding collect
loop-i-preserved c =
    let loop = c.loop-i in
    rw (add-one loop.i, sym c.in_queue.ensures)
    (elim c.if-in_queue.branch [
      | then-in_queue w ↦ rw w.if-in_queue.true (w.out-is ∙ w.with-out.ensures ∙ ap (λ (x : ℕ). insert clients x loop.i) loop.invariant)
      | else-in_queue w ↦ rw w.if-in_queue.false (w.out-is ∙ loop.invariant)
    ])

pub returns : goal.returns
returns c =
    let loop = c.loop-i in
    let a = c.args in
    let e : loop.i ≡ clients = omega arith in
    c.without.ensures ∙ ap (λ (x : ℕ). remove x a.client) (rw e at loop.invariant) ∙ collect_others _ a.client
