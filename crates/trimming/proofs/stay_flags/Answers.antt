-- The flags below i are right.
use lib.ListN.{length-set}
use native.Mathlib.Omega.{arith}
use Rattle.std.specs.Prelude.{if◌then◌else◌}
use Rattle.spec.specs.Rows.{row_at, rows_in}
use Rattle.spec.specs.Trim.{stays}
use Rattle.removal.proofs.Moving.{stored_more}
use Rattle.trimming.proofs.stay_flags.Goals as goal

pub loop-i-preserved : goal.loop-i-preserved
loop-i-preserved c =
    let a = c.args in
    let loop = c.loop-i in
    let ds = rows_in 24 a.used a.rows.now in
    let cs = rows_in 8 a.entries a.commits.now in (
      simp length-set loop.invariant.0,
      stored_more (λ k. if stays a.low ds cs (row_at 24 k a.rows.now) then 1 else 0) loop.flags loop.i c.stay_flag.result
          (omega arith) loop.invariant.1
          (c.stay_flag.ensures cs c.note_rows-numbers.ensures.numbers c.note_rows-numbers.ensures.newest),
    )
