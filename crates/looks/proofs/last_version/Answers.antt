-- `looks::last_version`: no row from row until on counts.
use Prim.Native.Nat.{◌-◌, ◌<◌}
use mathlib.Core.Path.{refl, sym, ◌∙◌}
use native.Mathlib.Omega.{arith}
use Rattle.spec.specs.Look.{least_looked}
use Rattle.looks.proofs.Sight.{seen_none, seen_same, seen-idle, seen_past_cells, last_own, last_committed}
use Rattle.looks.proofs.last_version.Goals as goal

pub loop-turn-init : goal.loop-turn-init
loop-turn-init c = (omega arith, seen_none)

pub returns-then-i-eq0 : goal.returns-then-i-eq0
returns-then-i-eq0 c =
    let loop = c.loop-turn in
    seen_same (omega (arith, c.if-i-eq0.true)) (seen_past_cells loop.invariant.0 c.last_cell-i.ensures loop.invariant.1)

pub returns-then-writer-tag : goal.returns-then-writer-tag
returns-then-writer-tag c =
    let loop = c.loop-turn in
    let pass = c.last_cell-i.ensures in
    last_own (omega (arith, loop.invariant.0, pass.end)) (pass.hit (omega arith))
    (seen_same (omega arith) (seen_past_cells loop.invariant.0 pass loop.invariant.1)) (sym c.tag_at-writer.ensures ∙ c.if-writer-tag.true)

pub returns-in-Some : goal.returns-in-Some
returns-in-Some c =
    let pass = c.last_cell-i.ensures in
    let loop = c.loop-turn in
    let least = c.least_looked-least.ensures in
    last_committed (omega (arith, loop.invariant.0, pass.end)) (pass.hit (omega arith))
    (seen_same (omega arith) (seen_past_cells loop.invariant.0 pass loop.invariant.1))
    (rw (← c.tag_at-writer.ensures, ← c.commit_of-number.ensures, ← c.up_to.ensures, ← least, ← c.at_least.ensures)
    c.in-Some.is)

pub loop-turn-preserved : goal.loop-turn-preserved
loop-turn-preserved c =
    let tag = c.tag_at-writer.ensures in
    let pass = c.last_cell-i.ensures in
    let loop = c.loop-turn in
    let least = c.least_looked-least.ensures in
    let a = c.args in
    let h : c.last_cell-i.result - 1 < a.used = omega (arith, loop.invariant.0, pass.end) in (
      omega (arith, h),
      seen-idle h (seen_same (omega arith) (seen_past_cells loop.invariant.0 pass loop.invariant.1)) (least_looked a.entry a.snapshot) (λ k x. refl)
          record {
            other = λ e. c.if-writer-tag.false (tag ∙ e);
            none = rw (← tag, ← c.commit_of-number.ensures, ← c.up_to.ensures, ← least, ← c.at_least.ensures)
                c.in_default.is;
          },
    )
