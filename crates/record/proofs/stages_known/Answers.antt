-- `record::stages_known`: the loop's flag is `known` of the stages passed.
-- Assumes nothing.
use mathlib.Core.Path.{◌≡◌, refl, ◌∙◌}
use native.Mathlib.Omega.{arith}
use native.Mathlib.Numerals.{add-one}
use borrow.Author.Rules.{rules}
use borrow.Author.Tests.{lt-ltb, le-ltb}
use lib.ListN.{get_or}
use Rattle.spec.specs.Set.{clients}
use Rattle.spec.specs.Bytes.{known}
use Rattle.spec.proofs.Ends.{known_next}
use Rattle.record.proofs.stages_known.Goals.{else-stage-i-gt13, then-stage-i-gt13}
use Rattle.record.proofs.stages_known.Goals as goal

pub loop-i-init : goal.loop-i-init
unfolding known
loop-i-init c = (search rules, refl)

pub loop-i-preserved : goal.loop-i-preserved
loop-i-preserved c =
    let l = c.args.stage.now in
    let loop = c.loop-i in (
      search rules,
      rw (add-one loop.i, known_next l loop.i)
          (elim c.if-stage-i-gt13.branch [ then-stage-i-gt13 w ↦ rw (lt-ltb 13 (get_or l loop.i 0) w.if-stage-i-gt13.true) w.ok-is | else-stage-i-gt13 w ↦ rw (le-ltb 13 (get_or l loop.i 0) w.if-stage-i-gt13.false) (w.ok-is ∙ loop.invariant.1) ]),
    )

pub returns : goal.returns
returns c = let e : c.loop-i.i ≡ clients = omega arith in rw e at c.loop-i.invariant.1
