-- The bytes made so far with those of the digits to come are the whole value. Assumes nothing.
use Prim.Native.Nat.{◌+◌, ◌*◌, ◌<◌}
use mathlib.Core.Path.{◌≡◌, ap, ◌∙◌}
use native.Mathlib.Omega.{arith}
use lib.ListN.{length, get_or, length-set}
use borrow.Author.Tests.{le-leb}
use Rattle.spec.specs.Text.{hex_val, value_in}
use Rattle.text.proofs.HexDigits.{bytes_more, bytes_end}
use Rattle.text.proofs.value_in.Goals as goal

pub loop-i-preserved : goal.loop-i-preserved
loop-i-preserved c =
    let l = c.loop-i in
    let a = c.args in
    let d = c.digits_at-d.ensures in
    let h : a.at + 2 * l.i + 1 < length a.line.now = omega arith in
    let e : a.at + (2 * l.i + 1) ≡ a.at + 2 * l.i + 1 = omega arith in
    let z : a.at + 2 * (l.i + 1) ≡ a.at + 2 * l.i + 2 = omega arith in (
      simp length-set l.invariant.0,
      rw z
          (bytes_more _ _ _ _ _ l.invariant.0 l.invariant.1 _ _ (d (2 * l.i) (omega arith)).0
          ((d (2 * l.i + 1) (omega arith)).0 ∙ ap (λ j. hex_val (get_or a.line.now j 0)) e) c.loop-i-test.true h),
    )

pub returns : goal.returns
unfolding value_in
returns c =
    let l = c.loop-i in
    let a = c.args in
    rw (le-leb (a.at + 32) (length a.line.now) (omega arith))
    (bytes_end l.v a.line.now _ (a.at + 2 * l.i) l.i l.invariant.0 l.invariant.1 c.loop-i-test.false (omega arith))
