-- The flags below i are right.
use mathlib.Core.Path.{◌∙◌}
use lib.ListN.{length-set}
use native.Mathlib.Omega.{arith}
use Rattle.std.specs.Prelude.{if◌then◌else◌}
use Rattle.spec.specs.Rows.{row_at, rows_in}
use Rattle.spec.specs.Trim.{in_use}
use Rattle.removal.proofs.Moving.{stored_more}
use Rattle.trimming.proofs.commit_flags.Goals as goal

pub loop-i-preserved : goal.loop-i-preserved
unfolding in_use
loop-i-preserved c =
    let a = c.args in
    let loop = c.loop-i in (
      simp length-set loop.invariant.0,
      stored_more (λ k. if in_use (rows_in 24 a.left a.rows.now) (row_at 8 k a.commits.now) then 1 else 0) loop.flags loop.i
          c.use_flag.result (omega arith) loop.invariant.1
          (c.use_flag.ensures ∙ rw c.commit_tag_at.ensures),
    )
