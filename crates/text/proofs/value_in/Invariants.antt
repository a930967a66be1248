-- The bytes made so far with those of the digits to come are the whole value. Assumes nothing.
use Prim.Native.Nat.{◌+◌, ◌*◌, ◌-◌}
use mathlib.Core.Path.{◌≡◌}
use mathlib.Core.List.{◌++◌}
use lib.ListN.{length, take, drop}
use Rattle.spec.specs.Text.{hex_bytes}
use Rattle.text.proofs.value_in.Given as goal

abbrev pub invariant-loop-i : goal.invariant-loop-i
invariant-loop-i l =
    (length l.v ≡ 16) × (take l.i l.v ++ hex_bytes (16 - l.i) (drop (l.at + 2 * l.i) l.line) ≡ hex_bytes 16 (drop l.at l.line))
