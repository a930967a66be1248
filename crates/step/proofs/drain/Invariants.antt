-- What is left to answer, behind what was answered, is all that is to be answered; a chunk that answers no line finds none, since out has room.
-- Assumes nothing.
use Prim.Native.Nat.{◌-◌, ◌≤◌}
use mathlib.Core.Path.{◌≡◌}
use lib.ListN.{length, drop}
use Rattle.spec.specs.Bytes.{memory_of}
use Rattle.session.specs.Inner.{lines_of, rest_of}
use Rattle.spec.specs.Session.{memory_after}
use Rattle.step.proofs.drain.Given as goal

abbrev pub invariant-loop-from : goal.invariant-loop-from
invariant-loop-from g l =
    (l.from ≤ length l.buf)
    × (length l.out ≡ length l.initial.out)
    × (length l.rows ≡ length l.initial.rows)
    × (length l.commits ≡ length l.initial.commits)
    × (memory_after (memory_of l.store l.rows l.commits l.versions) (lines_of (drop l.from l.buf))
    ≡ memory_after (memory_of l.initial.store l.initial.rows l.initial.commits l.initial.versions) (lines_of l.buf))
    × (rest_of (drop l.from l.buf) ≡ rest_of l.buf)

abbrev pub decreases-loop-from : goal.decreases-loop-from
decreases-loop-from g l = length l.buf - l.from
