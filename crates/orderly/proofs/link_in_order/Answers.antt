-- From row i on all are linked, but for the head of the run that row i begins.
use Prim.Native.Nat.{◌+◌, ◌-◌, ◌≤◌}
use mathlib.Core.Path.{◌≡◌, sym}
use native.Mathlib.Omega.{arith}
use Rattle.spec.specs.Rows.{rows_in}
use Rattle.orderly.specs.Inner.{entry_of}
use Rattle.orderly.proofs.TagsRise.{entry_is}
use Rattle.orderly.proofs.InOrder.{along_start, along-same, along-next}
use Rattle.orderly.proofs.link_in_order.Goals.{else-is_below+else-entries-run, then-is_below}
use Rattle.orderly.proofs.link_in_order.Goals as goal

pub loop-k-init : goal.loop-k-init
loop-k-init c =
    let a = c.args in
    let pre = c.requires in
    along_start a.used a.entries a.rows.now a.commits.now pre.used_bound pre.entries_bound a.firsts.now a.follows.now
    pre.firsts_value pre.follows_len

pub loop-k-preserved-then-tag-last : goal.loop-k-preserved-then-tag-last
loop-k-preserved-then-tag-last c =
    let a = c.args in
    let loop = c.loop-k in
    let tag = c.tag_at-tag in
    let same : loop.k - 1 + 1 ≡ loop.k = omega (arith, c.loop-k-test.true) in
    rw same
    (along-same a.used a.entries a.rows.now a.commits.now c.requires.used_bound c.requires.entries_bound loop.firsts loop.follows
    loop.at loop.run loop.last loop.k c.loop-k-test.true loop.invariant tag.result (omega arith) c.if-tag-last.true
    tag.ensures)

pub loop-k-preserved : goal.loop-k-preserved
loop-k-preserved c =
    -- the committed row of the next run
    let found : let a = c.args in
    (c.if-is_below.at ≤ a.entries) × (c.if-is_below.run ≤ a.entries)
    × (entry_of c.tag_at-tag.result (rows_in 8 a.entries a.commits.now) ≡ c.if-is_below.run) = let a = c.args in
    let loop = c.loop-k in
    let tag = c.tag_at-tag.result in
    let up = c.requires.tags_rise in
    elim c.if-is_below.branch [
      | then-is_below v ↦ let below = c.is_below.ensures v.if-is_below.true in (
        omega (arith, v.at-is, loop.invariant.met),
        omega (arith, v.run-is, loop.invariant.met),
        rw v.run-is (entry_is a.entries a.commits.now up tag (loop.at - 1) (omega (arith, below.some, loop.invariant.met)) below.tag_is),
      )
      | else-is_below+else-entries-run v ↦ (
        omega (arith, v.at-is, loop.invariant.met),
        omega (arith, v.run-is, v.if-entries-run.false),
        rw v.run-is (sym (v.near-run.ensures (omega (arith, v.if-entries-run.false)))),
      )
    ] in
    let a = c.args in
    let loop = c.loop-k in
    let tag = c.tag_at-tag in
    let same : loop.k - 1 + 1 ≡ loop.k = omega (arith, c.loop-k-test.true) in
    rw same
    (along-next a.used a.entries a.rows.now a.commits.now c.requires.used_bound c.requires.entries_bound loop.firsts loop.follows
    loop.at loop.run loop.last loop.k c.loop-k-test.true loop.invariant c.if-is_below.at
    c.if-is_below.run tag.result found.0 found.1 found.2 tag.ensures)
