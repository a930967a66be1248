-- The answer from the start is the answer from i on. Assumes nothing.
use mathlib.Core.Path.{◌∙◌, sym}
use native.Mathlib.Omega.{arith}
use Rattle.text.proofs.Lines.{begins_short, begins_end, begins_more, begins_other}
use Rattle.text.proofs.begins.Goals as goal

pub returns-then-line-word : goal.returns-then-line-word
returns-then-line-word c = sym (begins_short c.args.word.now c.args.line.now c.if-line-word.true)

pub returns-then-word-i : goal.returns-then-word-i
returns-then-word-i c =
    sym (c.loop-i.invariant ∙ begins_other _ _ _ c.loop-i-test.true (omega arith) c.if-word-i.true)

pub loop-i-preserved : goal.loop-i-preserved
loop-i-preserved c = c.loop-i.invariant ∙ begins_more _ _ _ c.loop-i-test.true (omega arith) c.if-word-i.false

pub returns : goal.returns
returns c = sym (c.loop-i.invariant ∙ begins_end _ _ _ c.loop-i-test.false)
