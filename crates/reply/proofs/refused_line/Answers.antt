-- Head and result, one behind the other. Assumes nothing.
use native.Mathlib.Omega.{arith}
use Rattle.reply.proofs.LineEnds.{put_whole_line}
use Rattle.reply.proofs.refused_line.Goals as goal

pub returns : goal.returns
returns c = record { put = put_whole_line _ _ c.put_head-a.ensures.put c.put_refused.ensures.put; upper_bound = omega arith }
