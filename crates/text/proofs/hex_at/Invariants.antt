-- The digits passed by their largest value, and those still to come. Assumes nothing.
use mathlib.Core.Path.{◌≡◌}
use Rattle.spec.specs.Text.{hex_at}
use Rattle.text.proofs.HexDigits.{hex_from}
use Rattle.text.proofs.hex_at.Given as goal

abbrev pub invariant-loop-i : goal.invariant-loop-i
invariant-loop-i l = hex_at l.line l.at ≡ hex_from l.line l.at l.most l.i
