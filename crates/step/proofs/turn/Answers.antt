-- The memory and the kept bytes after a turn are those that one more chunk leads to.
-- Assumes nothing.
use Prim.Native.Nat.{◌≤◌, ◌<◌}
use mathlib.Core.Bool.{true}
use native.Mathlib.Omega.{arith}
use lib.ListN.{take, length-take}
use Rattle.spec.specs.Bytes.{memory_of}
use Rattle.session.specs.Inner.{Came}
use Rattle.session.proofs.Reaching.{turned}
use Rattle.step.proofs.Turning.{came}
use Rattle.step.proofs.turn.Goals as goal

-- a chunk has come
pub returns-clause-turns : goal.returns-clause-turns
returns-clause-turns g c =
    let n = c.read_after-n.result in
    let a = c.args in
    let on : a.have < n = omega (arith, c.read_after-n.ensures.between.0, c.if-n-have.false) in
    let within : c.in_ok-from.from ≤ n = omega (arith, simp length-take at c.in_ok-from.ensures.within) in
    let w = memory_of a.store.now a.rows.now a.commits.now a.versions.now in
    let d = c.drain.new in
    let w' = memory_of d.store d.rows d.commits d.versions in
    came a.buf.now c.read_after-n.new.buf c.keep.new.buf a.have n c.in_ok-from.from c.keep.result c.read_after-n.ensures.kept on c.read_after-n.ensures.between.1 w w'
    within c.in_ok-from.ensures.emptied c.keep.ensures.buf_after

pub returns-clause-program_at_2 : goal.returns-clause-program_at_2
returns-clause-program_at_2 g c = turned true c.requires.program_at (returns-clause-turns g c)
