-- The number at the place is the number whose digits up to i have the value acc. Assumes nothing.
use Prim.Native.Nat.{◌≤◌}
use mathlib.Core.Path.{◌≡◌}
use lib.ListN.{drop}
use Rattle.spec.specs.Text.{decimal_at, digits_from}
use Rattle.text.proofs.decimal.Given as goal

abbrev pub invariant-loop-i : goal.invariant-loop-i
invariant-loop-i l = (l.acc ≤ 4294967295) × (decimal_at l.line l.at ≡ digits_from l.acc l.i (drop l.i l.line))
