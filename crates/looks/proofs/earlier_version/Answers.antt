-- `looks::earlier_version`: no row seen so far counts, so that no row does whose tag is not committed from least up to the snapshot.
use Prim.Native.Nat.{◌-◌, ◌<◌}
use mathlib.Core.Path.{refl, ◌∙◌}
use native.Mathlib.Decide.{dec_le}
use native.Mathlib.Omega.{arith}
use Rattle.looks.proofs.Recent.{numbered_below}
use Rattle.looks.proofs.Sight.{seen_same, seen-idle, seen_past, new_tag}
use Rattle.looks.proofs.earlier_version.Goals as goal

pub loop-i-init : goal.loop-i-init
loop-i-init c =
    let a = c.args in
    let numbered = c.next_numbered-from.ensures in
    let most = c.most_tag-most in
    let pass = c.not_newer-i.ensures in (
      omega (arith, pass.end, c.requires.until_le_used),
      pass.hit,
      seen_past c.requires.until_le_used a.least (λ k x. refl) (λ t. dec_le t most.result)
          (new_tag (numbered_below a.commits.now a.least numbered) most.ensures) pass c.requires.seen,
    )

pub loop-i-preserved : goal.loop-i-preserved
loop-i-preserved c =
    let loop = c.loop-i in
    let most = c.most_tag-most in
    let numbered = c.next_numbered-from.ensures in
    let a = c.args in
    let tag = c.tag_at-writer.ensures in
    let pass = c.not_newer-i-in-loop-i.ensures in
    let h : loop.i - 1 < a.used = omega (arith, loop.invariant.0) in (
      omega (arith, pass.end, h),
      pass.hit,
      seen_past (omega (arith, h)) a.least (λ k x. refl) (λ t. dec_le t most.result)
          (new_tag (numbered_below a.commits.now a.least numbered) most.ensures) pass
          (seen-idle h (seen_same (omega arith) loop.invariant.2) a.least (λ k x. refl) record {
            other = λ e. c.if-writer-tag.false (tag ∙ e);
            none = rw (← tag, ← c.recent_commit.ensures) c.in_default.is;
          }),
    )
