-- The digits of n are those of the rest before the bytes from the place on. Assumes nothing.
use Prim.Native.Nat.{◌≤◌}
use mathlib.Core.Path.{◌∙◌, refl, sym}
use native.Mathlib.Omega.{arith}
use lib.ListN.{length, length-set}
use Rattle.printing.proofs.Texts.{decimal_start, decimal_more, decimal_last, decimal_end}
use Rattle.printing.proofs.digits_of.Goals as goal

pub loop-from-init : goal.loop-from-init
loop-from-init c = (refl, decimal_start _)

pub returns-then-rest-eq0 : goal.returns-then-rest-eq0
returns-then-rest-eq0 c =
    let l = c.loop-from in
    let k : l.from ≤ length l.bytes = omega arith in
    record {
      whole = sym (l.invariant.1 ∙ decimal_last l.bytes l.from l.rest c.loop-from-test.true k c.if-rest-eq0.true);
      ten = simp length-set l.invariant.0;
      within = omega arith;
    }

pub loop-from-preserved : goal.loop-from-preserved
loop-from-preserved c =
    let l = c.loop-from in
    let k : l.from ≤ length l.bytes = omega arith in
    (simp length-set l.invariant.0, l.invariant.1 ∙ decimal_more l.bytes l.from l.rest c.loop-from-test.true k c.if-rest-eq0.false)

pub returns : goal.returns
returns c =
    let l = c.loop-from in
    record {
      whole = sym (l.invariant.1 ∙ decimal_end l.from l.rest l.bytes c.loop-from-test.false);
      ten = l.invariant.0;
      within = omega arith;
    }
