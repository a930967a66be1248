-- The values of the bytes passed. Assumes nothing.
use Prim.Native.Nat.{◌+◌, ◌<◌}
use native.Mathlib.Omega.{arith}
use lib.ListN.{length, length-set}
use Rattle.text.specs.Inner.{HexValue}
use Rattle.text.proofs.HexDigits.{values_more}
use Rattle.text.proofs.digits_at.Goals as goal

pub loop-i-preserved : goal.loop-i-preserved
loop-i-preserved c =
    let l = c.loop-i in
    let a = c.args in
    let h : l.i < length l.d = omega arith in (
      simp length-set l.invariant.0,
      values_more (λ j. HexValue a.line.now (a.at + j)) l.d _ l.i c.hex_of.ensures h l.invariant.1,
    )
