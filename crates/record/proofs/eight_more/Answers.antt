-- `record::eight_more`: the smallest of the clients passed.
-- Assumes nothing.
use mathlib.Core.Path.{◌≡◌}
use Prim.Native.Nat.{◌+◌}
use native.Mathlib.Omega.{arith}
use borrow.Author.Rules.{rules}
use Rattle.record.proofs.Smallest.{one_lower}
use Rattle.record.proofs.eight_more.Goals as goal

pub loop-j-init : goal.loop-j-init
loop-j-init c = let z : c.args.from + 0 ≡ c.args.from = omega arith in (search rules, λ f. rw z f)

pub loop-j-preserved : goal.loop-j-preserved
loop-j-preserved c =
    let loop = c.loop-j in
    let a = c.args in (
      search rules,
      λ f. one_lower a.number.now a.snapshot.now (a.from + loop.j) loop.next c.lower-next.result (omega arith)
          c.lower-next.ensures (loop.invariant.1 f),
    )

pub returns : goal.returns
returns c =
    let same : c.loop-j.j ≡ 8 = omega arith in
    rw same at c.loop-j.invariant.1
