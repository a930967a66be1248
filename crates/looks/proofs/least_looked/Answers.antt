-- `looks::least_looked` goes by the test of its definition.
use mathlib.Core.Path.{sym}
use Rattle.looks.proofs.Recent.{from_entry, from_zero}
use Rattle.looks.proofs.least_looked.Goals as goal

pub returns-then-entry-snapshot : goal.returns-then-entry-snapshot
returns-then-entry-snapshot c = sym (from_entry _ _ c.if-entry-snapshot.true)

pub returns-else-entry-snapshot : goal.returns-else-entry-snapshot
returns-else-entry-snapshot c = sym (from_zero _ _ c.if-entry-snapshot.false)
