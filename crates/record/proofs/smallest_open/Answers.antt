-- `record::smallest_open`: the smallest of the clients passed, eight at a time.
-- Assumes nothing.
use mathlib.Core.Path.{◌≡◌, refl, sym, ◌∙◌}
use Prim.Native.Nat.{◌*◌, ◌+◌}
use native.Mathlib.Omega.{arith}
use borrow.Author.Rules.{rules}
use borrow.Author.Tests.{lt-ltb, le-ltb}
use Rattle.spec.specs.Numbers.{smallest}
use Rattle.spec.specs.Calls.{readers}
use Rattle.record.specs.Inner.{short_number}
use Rattle.record.proofs.smallest_open.Goals.{else-some_open, then-some_open}
use Rattle.record.proofs.smallest_open.Goals as goal

pub loop-t-init : goal.loop-t-init
unfolding readers smallest short_number
loop-t-init c = (search rules, λ x n s. refl)

pub loop-t-preserved : goal.loop-t-preserved
loop-t-preserved c =
    let l = c.loop-t in
    let z : 8 * (l.t + 1) ≡ 8 * l.t + 8 = omega arith in (
      search rules,
      λ x n s. rw z
          (elim c.if-some_open.branch [ then-some_open w ↦ rw w.best-is (w.eight_more-best.ensures l.invariant.1 x n s) | else-some_open w ↦ rw w.best-is (l.invariant.1 x n s ∙ sym (c.some_open.ensures w.if-some_open.false x n)) ]),
    )

pub returns-then-best-lt-NO_SNAPSHOT : goal.returns-then-best-lt-NO_SNAPSHOT
unfolding short_number
returns-then-best-lt-NO_SNAPSHOT c =
    let e : c.loop-t.t ≡ 8 = omega arith in
    rw (e, lt-ltb c.loop-t.best 4294967296 c.if-best-lt-NO_SNAPSHOT.true) at c.loop-t.invariant.1

pub returns-else-best-lt-NO_SNAPSHOT : goal.returns-else-best-lt-NO_SNAPSHOT
unfolding short_number
returns-else-best-lt-NO_SNAPSHOT c =
    let e : c.loop-t.t ≡ 8 = omega arith in
    rw (e, le-ltb c.loop-t.best 4294967296 (omega (arith, c.if-best-lt-NO_SNAPSHOT.false))) at c.loop-t.invariant.1
