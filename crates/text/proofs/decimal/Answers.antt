-- The number at the place is the number whose digits up to i have the value acc. Assumes nothing.
use mathlib.Core.Path.{◌≡◌, ◌∙◌, sym, ap}
use native.Mathlib.Omega.{arith}
use lib.ListN.{length}
use Rattle.spec.specs.Text.{digit_val}
use Rattle.text.proofs.Lines.{decimal_none, decimal_other, decimal_first, digits_end, digits_stop, digits_zero, digits_large, digits_more}
use Rattle.text.proofs.decimal.Goals as goal

pub returns-in_err-get : goal.returns-in_err-get
returns-in_err-get c = c.from_residual.ensures ∙ sym (decimal_none _ _ c.in_err-get.ensures.lookup.3)

pub returns-then-first-ge10 : goal.returns-then-first-ge10
returns-then-first-ge10 c =
    let b = c.in_ok-get.ensures.lookup.3 in
    sym (decimal_other _ _ _ (c.digit_of-first.ensures ∙ ap digit_val (b.1 0)) b.0 c.if-first-ge10.true)

pub loop-i-init : goal.loop-i-init
loop-i-init c =
    let b = c.in_ok-get.ensures.lookup.3 in
    (omega arith, decimal_first _ _ _ (c.digit_of-first.ensures ∙ ap digit_val (b.1 0)) b.0 c.if-first-ge10.false)

pub returns-then-d-ge10 : goal.returns-then-d-ge10
returns-then-d-ge10 c =
    sym (c.loop-i.invariant.1
    ∙ digits_stop _ _ _ c.digit_of-d.ensures c.loop-i-test.true _ c.if-d-ge10.true)

pub returns-then-acc-eq0 : goal.returns-then-acc-eq0
returns-then-acc-eq0 c =
    sym (c.loop-i.invariant.1
    ∙ digits_zero _ _ _ c.digit_of-d.ensures c.loop-i-test.true _ c.if-d-ge10.false c.if-acc-eq0.true)

pub returns-then-more : goal.returns-then-more
returns-then-more c =
    sym (c.loop-i.invariant.1
    ∙ digits_large _ _ _ c.digit_of-d.ensures c.loop-i-test.true _ c.if-d-ge10.false
    c.if-acc-eq0.false c.if-more.true)

pub loop-i-preserved : goal.loop-i-preserved
loop-i-preserved c = (
  omega arith,
  c.loop-i.invariant.1
      ∙ digits_more _ _ _ c.digit_of-d.ensures c.loop-i-test.true _ c.if-d-ge10.false
      c.if-acc-eq0.false c.if-more.false,
)

pub returns : goal.returns
returns c =
    let z : c.loop-i.i ≡ length c.args.line.now = omega (arith, c.in_ok-get.ensures.lookup.3.0) in
    rw (← z) (sym (c.loop-i.invariant.1 ∙ digits_end _ _ _ c.loop-i-test.false))
