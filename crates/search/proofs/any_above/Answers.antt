-- `search::any_above`: what is looked for in all committed rows was found or is looked for in the rest.
use mathlib.Core.Path.{sym, ap, ◌∙◌}
use mathlib.Core.Bool.{or-false}
use native.Mathlib.Omega.{arith}
use lib.Dec.{ltb}
use Rattle.std.proofs.lemmas.Grind.{common_steps}
use Rattle.std.proofs.Math.Bool.{or_assoc}
use Rattle.spec.specs.Rows.{commit_number}
use Rattle.spec.proofs.Rows.{rows_start}
use Rattle.spec.specs.Share.{any}
use Rattle.search.proofs.Folds.{any_step, any_end}
use Rattle.search.proofs.any_above.Goals as goal

pub loop-i-init : goal.loop-i-init
loop-i-init c = ap (any _) (rows_start 8 _ _)

pub loop-i-preserved : goal.loop-i-preserved
loop-i-preserved c =
    let step = any_step (λ r. ltb c.args.s (commit_number r)) 8 c.args.entries c.loop-i.i c.args.commits.now (omega arith) in
    grind (arith, common_steps, or_assoc)

pub returns : goal.returns
returns c =
    let end = any_end (λ r. ltb c.args.s (commit_number r)) 8 c.args.entries c.loop-i.i c.args.commits.now (omega arith) in
    sym (c.loop-i.invariant ∙ rw (end, or-false))
