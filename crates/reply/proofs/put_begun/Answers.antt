-- Four texts, one behind the other. Assumes nothing.
use mathlib.Core.List.{append_assoc}
use Rattle.spec.specs.Text.{numbered}
use Rattle.printing.proofs.Texts.{put_then}
use Rattle.reply.proofs.put_begun.Goals as goal

pub returns-clause-put : goal.returns-clause-put
unfolding numbered
returns-clause-put c =
    simp append_assoc
    (put_then c.put-a.ensures (put_then c.put_decimal-b.ensures.put (put_then c.put-c.ensures c.put_last.ensures.put)))
