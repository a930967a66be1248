-- No more than 81 bytes are kept, and the memory and the kept bytes are what the chunks read so far lead to from the start.
-- Assumes nothing.
use Prim.Native.Nat.{◌≤◌}
use lib.ListN.{take}
use Rattle.spec.specs.Bytes.{memory_of}
use Rattle.session.specs.Inner.{ProgramAt}
use Rattle.step.proofs.run.Given as goal

abbrev pub invariant-loop : goal.invariant-loop
invariant-loop g l = (l.have ≤ 81) × ProgramAt (memory_of l.store l.rows l.commits l.versions) (take l.have l.buf)
