-- Each arm is its result, a word and a number. Assumes nothing.
use native.Mathlib.Omega.{arith}
use Rattle.reply.proofs.LineEnds.{put_closed_figure}
use Rattle.reply.proofs.put_progress.Goals as goal

pub returns-in-Stage : goal.returns-in-Stage
returns-in-Stage c =
    rw c.in-Stage.is (record { put = put_closed_figure _ c.put-a.ensures c.put_last.ensures.put; upper_bound = omega arith })

pub returns-in-Waiting : goal.returns-in-Waiting
returns-in-Waiting c =
    rw c.in-Waiting.is (record { put = put_closed_figure _ c.put-a-in-Waiting.ensures c.put_last-in-Waiting.ensures.put; upper_bound = omega arith })

pub returns-in-Conflict : goal.returns-in-Conflict
returns-in-Conflict c =
    rw c.in-Conflict.is (record { put = put_closed_figure _ c.put-a-in-Conflict.ensures c.put_last-in-Conflict.ensures.put; upper_bound = omega arith })

pub returns-in-Done : goal.returns-in-Done
returns-in-Done c =
    rw c.in-Done.is (record { put = put_closed_figure _ c.put-a-in-Done.ensures c.put_last-in-Done.ensures.put; upper_bound = omega arith })
