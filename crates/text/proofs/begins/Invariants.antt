-- The answer from the start is the answer from i on. Assumes nothing.
use mathlib.Core.Path.{◌≡◌}
use lib.ListN.{drop}
use Rattle.spec.specs.Text.{begins}
use Rattle.text.proofs.begins.Given as goal

abbrev pub invariant-loop-i : goal.invariant-loop-i
invariant-loop-i l = begins l.word l.line ≡ begins (drop l.i l.word) (drop l.i l.line)
