-- `looks::look_before`: the best of the rows seen is numbered number or above, so that no row counts whose tag is not committed from there on.
use Rattle.std.specs.Prelude.{Some}
use Prim.Native.Nat.{◌-◌, ◌<◌}
use mathlib.Core.Path.{◌≡◌, ◌∙◌}
use native.Mathlib.Decide.{dec_le}
use native.Mathlib.Omega.{arith}
use Rattle.spec.specs.Rows.{row_at, rows_in, tag_of}
use Rattle.spec.specs.Numbers.{at_least, up_to}
use Rattle.spec.specs.Look.{commit_of, least_looked, newer, version_at}
use Rattle.looks.proofs.Recent.{numbered_below, NumberedFrom, bound_serves, newer_from}
use Rattle.looks.proofs.Sight.{seen_same, seen_all, seen-version, seen_past_cells, seen_past, old_tag}
use Rattle.looks.proofs.look_before.Goals as goal

pub returns-then-near-eq0 : goal.returns-then-near-eq0
returns-then-near-eq0 c =
    seen_all c.args.entry (seen_same (omega (arith, c.if-near-eq0.true))
    (seen_past_cells c.requires.at_le_used c.last_cell-near.ensures c.requires.seen))

pub loop-i-init : goal.loop-i-init
loop-i-init c =
    let a = c.args in
    let near = c.last_cell-near in
    let numbered = c.next_numbered-from in
    let least = c.least_tag-least in
    let pass = c.older-i.ensures in (
      omega (arith, pass.end, near.ensures.end, c.requires.at_le_used),
      pass.hit,
      omega arith,
      seen_past (omega (arith, near.ensures.end, c.requires.at_le_used)) a.last.number
          (bound_serves (least_looked a.entry a.snapshot) a.last.number (Some a.last) c.requires.snapshot_bound (omega arith))
          (dec_le least.result) (old_tag (numbered_below a.commits.now a.last.number numbered.ensures) least.ensures) pass
          (seen_past_cells c.requires.at_le_used near.ensures c.requires.seen),
    )

pub loop-i-preserved : goal.loop-i-preserved
loop-i-preserved c =
    let a = c.args in
    let m = least_looked a.entry a.snapshot in
    let loop = c.loop-i in
    let numbered = c.next_numbered-from in
    let least = c.least_tag-least in
    let tag = c.tag_at-writer.ensures in
    let found = c.recent_commit-found.ensures in
    let next = c.newer_of-best.result in
    let k = loop.i - 1 in
    let pass = c.older-i-in-loop-i.ensures in
    let number = up_to a.snapshot (commit_of (tag_of (row_at 24 k a.rows.now)) (rows_in 8 a.entries a.commits.now)) in
    let is : next ≡ newer (version_at k (at_least a.last.number number)) loop.best = c.newer_of-best.ensures ∙ rw (found, tag) in
    let from : NumberedFrom a.last.number next = rw is (newer_from a.last.number k (at_least a.last.number number) loop.best loop.invariant.2) in
    let h : k < a.used = omega (arith, loop.invariant.0) in (
      omega (arith, pass.end, h),
      pass.hit,
      from,
      seen_past (omega (arith, h)) a.last.number (bound_serves m a.last.number next c.requires.snapshot_bound from) (dec_le least.result)
          (old_tag (numbered_below a.commits.now a.last.number numbered.ensures) least.ensures) pass
          (seen-version h (seen_same (omega arith) loop.invariant.3) (λ e. c.if-writer-tag.false (tag ∙ e)) (loop.invariant.1 (omega arith))
          (is ∙ bound_serves m a.last.number loop.best c.requires.snapshot_bound loop.invariant.2 k number)),
    )

pub returns : goal.returns
returns c =
    seen_all c.args.entry
    (seen_same (omega (arith, c.loop-i-test.false)) c.loop-i.invariant.3)
