-- The digits of n are those of the rest before the bytes from the place on. Assumes nothing.
use mathlib.Core.Path.{◌≡◌}
use lib.ListN.{length, drop}
use Rattle.spec.specs.Text.{decimal_on, decimal_of}
use Rattle.printing.proofs.digits_of.Given as goal

abbrev pub invariant-loop-from : goal.invariant-loop-from
invariant-loop-from l = (length l.bytes ≡ 10) × (decimal_of l.n ≡ decimal_on l.from l.rest (drop l.from l.bytes))
