-- The text up to o with the digits of the bytes from b on is the whole text. Assumes nothing.
use Prim.Native.Nat.{◌+◌}
use mathlib.Core.Path.{◌≡◌}
use mathlib.Core.List.{◌++◌}
use lib.ListN.{take, drop}
use Rattle.spec.specs.Text.{hex_text}
use Rattle.printing.proofs.put_hex.Given as goal

abbrev pub invariant-loop-b : goal.invariant-loop-b
invariant-loop-b l =
    (l.o ≡ l.at + l.b-index + l.b-index)
    × (take l.o l.out ++ hex_text (drop l.b-index l.value) ≡ take l.at l.initial.out ++ hex_text l.value)
