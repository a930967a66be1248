-- What is left to answer, behind what was answered, is all that is to be answered; a chunk that answers no line finds none, since out has room.
-- Assumes nothing.
use Prim.Native.Nat.{◌≤◌}
use mathlib.Core.Path.{◌≡◌, ◌∙◌, refl}
use lib.ListN.{length}
use native.Mathlib.Omega.{arith}
use borrow.Author.Rules.{rules}
use Rattle.spec.specs.Bytes.{memory_of}
use Rattle.step.proofs.Draining.{stuck, ended}
use Rattle.step.proofs.drain.Goals as goal

pub loop-from-init : goal.loop-from-init
loop-from-init g c = (omega arith, refl, refl, refl, refl, refl)

pub returns-then-c-from-clause-emptied : goal.returns-then-c-from-clause-emptied
returns-then-c-from-clause-emptied g c =
    let l = c.loop-from in
    let a = c.args in
    let w₀ = memory_of a.store.now a.rows.now a.commits.now a.versions.now in
    let w = memory_of l.store l.rows l.commits l.versions in
    let k = c.chunk-c.new in
    let w' = memory_of k.store k.rows k.commits k.versions in
    let same : length l.out ≡ length a.out.now = l.invariant.1 in
    let room : 90 ≤ length k.out = omega (arith, same, c.chunk-c.auto.out, c.requires) in
    stuck a.buf.now w₀ w w' l.from c.chunk-c.result.from l.out k.out c.chunk-c.result.used l.invariant.4 l.invariant.5 c.chunk-c.ensures
    c.if-c-from.true room

pub loop-from-preserved : goal.loop-from-preserved
loop-from-preserved g c =
    let l = c.loop-from in
    let k = c.chunk-c in
    (k.ensures.within, search rules, search rules, search rules, k.ensures.state ∙ l.invariant.4, k.ensures.rest ∙ l.invariant.5)

pub returns-clause-emptied : goal.returns-clause-emptied
returns-clause-emptied g c =
    let l = c.loop-from in
    let a = c.args in
    let w₀ = memory_of a.store.now a.rows.now a.commits.now a.versions.now in
    let w = memory_of l.store l.rows l.commits l.versions in
    ended a.buf.now w₀ w l.from l.invariant.4 l.invariant.5 l.invariant.0 c.loop-from-test.false
