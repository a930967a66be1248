-- The digits passed by their largest value, and those still to come. Assumes nothing.
use Prim.Native.Nat.{◌+◌, ◌≤◌, ◌<◌}
use mathlib.Core.Path.{◌∙◌, sym}
use native.Mathlib.Omega.{arith}
use lib.ListN.{length, drop, length-drop}
use Rattle.text.proofs.HexDigits.{hex_short, hex_start, hex_next, hex_end}
use Rattle.text.proofs.hex_at.Goals.{else-most-d, then-most-d}
use Rattle.text.proofs.hex_at.Goals as goal

pub returns-then-line-lt32 : goal.returns-then-line-lt32
returns-then-line-lt32 c =
    let a = c.args in
    sym (hex_short 32 (drop a.at a.line.now) (simp length-drop (omega arith)))

pub returns-then-line-at : goal.returns-then-line-at
returns-then-line-at c =
    let a = c.args in
    sym (hex_short 32 (drop a.at a.line.now) (simp length-drop (omega arith)))

pub loop-i-preserved : goal.loop-i-preserved
loop-i-preserved c =
    let l = c.loop-i in
    let a = c.args in
    let d = c.hex_of-d in
    let h : a.at + l.i < length a.line.now = omega arith in
    let m : (l.most ≤ c.if-most-d.most) × (d.result ≤ c.if-most-d.most) × (l.most < 16 → d.result < 16 → c.if-most-d.most < 16) =
    elim c.if-most-d.branch [
      | then-most-d w ↦ (omega arith, omega arith, λ p q. omega arith)
      | else-most-d w ↦ (omega arith, omega arith, λ p q. omega arith)
    ] in
    l.invariant ∙ hex_next _ _ _ _ _ _ d.ensures.0 h c.loop-i-test.true m

pub loop-i-init : goal.loop-i-init
loop-i-init c = hex_start c.args.line.now c.args.at

pub returns : goal.returns
returns c = sym (c.loop-i.invariant ∙ hex_end _ _ _ c.loop-i.i (omega arith))
