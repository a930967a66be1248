-- A word and a number. Assumes nothing.
use native.Mathlib.Omega.{arith}
use Rattle.reply.proofs.LineEnds.{put_closed_figure}
use Rattle.reply.proofs.put_dropped.Goals as goal

pub returns : goal.returns
returns c = record { put = put_closed_figure _ c.put-a.ensures c.put_last.ensures.put; upper_bound = omega arith }
