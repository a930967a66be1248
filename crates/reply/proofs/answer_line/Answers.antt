-- Head and result, one behind the other. Assumes nothing.
use Prim.Native.Nat.{◌+◌, ◌≤◌}
use native.Mathlib.Omega.{arith}
use lib.ListN.{length}
use Rattle.reply.proofs.LineEnds.{put_whole_line}
use Rattle.reply.proofs.answer_line.Goals as goal

pub returns-in-Ok-clause-put : goal.returns-in-Ok-clause-put
returns-in-Ok-clause-put g c =
    λ text says.
    let h = c.put_head-a in
    let room : h.result + 50 ≤ length h.new.out = omega arith in
    rw c.in-Ok.is (put_whole_line _ _ h.ensures.put (says _ _ _ _ _ room c.say.ensures))

pub returns-in-Err-clause-put : goal.returns-in-Err-clause-put
returns-in-Err-clause-put g c =
    λ text says. rw (c.in-Err.is, ← c.code_of.ensures) (put_whole_line _ _ c.put_head-a.ensures.put c.put_refused.ensures.put)
