-- `record::some_open`: while none was open, those passed count nothing.
-- Assumes nothing.
use mathlib.Core.Path.{◌≡◌}
use Prim.Native.Nat.{ℕ, ◌+◌}
use native.Mathlib.Omega.{arith}
use borrow.Author.Rules.{rules}
use Rattle.record.proofs.Smallest.{closed_more}
use Rattle.record.proofs.some_open.Goals.{else-number-from-ne0, then-number-from-ne0}
use Rattle.record.proofs.some_open.Goals as goal

pub loop-j-init : goal.loop-j-init
loop-j-init c = let z : c.args.from + 0 ≡ c.args.from = omega arith in (search rules, λ e x n. rw z)

pub loop-j-preserved : goal.loop-j-preserved
loop-j-preserved c =
    let a = c.args in
    let loop = c.loop-j in (
      search rules,
      elim c.if-number-from-ne0.branch [ then-number-from-ne0 w ↦ λ e. let o : ◌≡◌ {A = ℕ} 0 1 = cc in absurd (omega arith) | else-number-from-ne0 w ↦ λ e. closed_more a.number.now a.from (a.from + loop.j) (omega arith) w.if-number-from-ne0.false (loop.invariant.1 (cc)) ],
    )

pub returns : goal.returns
returns c =
    let same : c.loop-j.j ≡ 8 = omega arith in
    rw same at c.loop-j.invariant.1
