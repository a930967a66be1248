-- The rows from i on are orderly and linked, and `above` is the number of row i.
use Prim.Native.Nat.{◌+◌, ◌-◌, ◌<◌}
use mathlib.Core.Path.{◌≡◌, sym, ap, ◌∙◌}
use mathlib.Core.Bool.{true, false}
use lib.Dec.{ltb}
use borrow.Author.Tests.{lt-ltb, le-ltb}
use native.Mathlib.Omega.{arith}
use Rattle.spec.specs.Rows.{row_at, rows_from, commit_tag, commit_number}
use Rattle.spec.proofs.Rows.{rows_start}
use Rattle.spec.specs.Share.{any}
use Rattle.places.specs.Inner.{place}
use Rattle.orderly.specs.Inner.{tag_place}
use Rattle.spec.specs.Orderly.{under, is_commit_of}
use Rattle.orderly.proofs.Chains.{linked_none}
use Rattle.orderly.proofs.Entries.{from_head, tag_next}
use Rattle.orderly.proofs.Order.{disorder, order_low, order_again, order_more, order_end, under_end, under_step}
use Rattle.orderly.proofs.commits_orderly.Goals as goal

pub loop-k-init : goal.loop-k-init
loop-k-init c =
    let a = c.args in (
      omega arith,
      rw c.requires.heads_value (linked_none (tag_place a.commits.now) a.entries 4096 a.nexts.now c.requires.nexts_len),
      order_end a.entries a.commits.now,
      λ v h. under_end a.entries a.commits.now v ∙ sym (lt-ltb v 4294967296 h),
    )

pub returns-then-above-number-clause-value : goal.returns-then-above-number-clause-value
returns-then-above-number-clause-value c =
    let a = c.args in
    let loop = c.loop-k in
    let number = c.commit_number_at-number in
    let z : loop.k - 1 + 1 ≡ loop.k = omega (arith, c.loop-k-test.true) in
    let h : loop.k - 1 < a.entries = omega (arith, loop.invariant.0, c.loop-k-test.true) in
    let low : under (commit_number (row_at 8 (loop.k - 1) a.commits.now)) (rows_from 8 a.entries (loop.k - 1 + 1) a.commits.now) ≡ false =
    rw (z, ← number.ensures)
    (loop.invariant.3 number.result (omega arith) ∙ le-ltb number.result loop.above (omega (arith, c.if-above-number.true))) in
    sym (disorder a.entries a.commits.now (loop.k - 1) (omega arith) (order_low a.entries a.commits.now (loop.k - 1) h low))

pub returns-then-chained_entry-entries-clause-value : goal.returns-then-chained_entry-entries-clause-value
returns-then-chained_entry-entries-clause-value c =
    let inside : c.loop-k.k - 1 < c.args.entries = omega (arith, c.loop-k.invariant.0, c.loop-k-test.true) in
    let place-small : place c.commit_tag_at-tag.result < 4096 = rw c.place_of-x.ensures.0 at c.place_of-x.ensures.1 in
    let again : let a = c.args in
    let k = c.loop-k.k - 1 in
    any (is_commit_of (commit_tag (row_at 8 k a.commits.now))) (rows_from 8 a.entries (k + 1) a.commits.now)
    ≡ ltb c.chained_entry.result a.entries = let a = c.args in
    let loop = c.loop-k in
    let tag = c.commit_tag_at-tag in
    let z : loop.k - 1 + 1 ≡ loop.k = omega (arith, c.loop-k-test.true) in
    rw (z, ← tag.ensures)
    (tag_next tag.result a.entries a.commits.now loop.k c.chained_entry.result
    (from_head tag.result a.entries a.commits.now loop.heads loop.nexts loop.k c.chained_entry.result
    place-small loop.invariant.1 (rw c.place_of-x.ensures.0 at c.chained_entry.ensures))) in
    let a = c.args in
    let loop = c.loop-k in
    let h = inside in
    sym (disorder a.entries a.commits.now (loop.k - 1) (omega arith)
    (order_again a.entries a.commits.now (loop.k - 1) h
    (again ∙ lt-ltb c.chained_entry.result a.entries c.if-chained_entry-entries.true)))

pub loop-k-preserved : goal.loop-k-preserved
loop-k-preserved c =
    let inside : c.loop-k.k - 1 < c.args.entries = omega (arith, c.loop-k.invariant.0, c.loop-k-test.true) in
    let place-small : place c.commit_tag_at-tag.result < 4096 = rw c.place_of-x.ensures.0 at c.place_of-x.ensures.1 in
    let again : let a = c.args in
    let k = c.loop-k.k - 1 in
    any (is_commit_of (commit_tag (row_at 8 k a.commits.now))) (rows_from 8 a.entries (k + 1) a.commits.now)
    ≡ ltb c.chained_entry.result a.entries = let a = c.args in
    let loop = c.loop-k in
    let tag = c.commit_tag_at-tag in
    let z : loop.k - 1 + 1 ≡ loop.k = omega (arith, c.loop-k-test.true) in
    rw (z, ← tag.ensures)
    (tag_next tag.result a.entries a.commits.now loop.k c.chained_entry.result
    (from_head tag.result a.entries a.commits.now loop.heads loop.nexts loop.k c.chained_entry.result
    place-small loop.invariant.1 (rw c.place_of-x.ensures.0 at c.chained_entry.ensures))) in
    let a = c.args in
    let loop = c.loop-k in
    let number = c.commit_number_at-number in
    let tag = c.commit_tag_at-tag in
    let h = inside in
    let z : loop.k - 1 + 1 ≡ loop.k = omega (arith, c.loop-k-test.true) in
    let low : under (commit_number (row_at 8 (loop.k - 1) a.commits.now)) (rows_from 8 a.entries (loop.k - 1 + 1) a.commits.now) ≡ true =
    rw (z, ← number.ensures)
    (loop.invariant.3 number.result (omega arith)
    ∙ lt-ltb number.result loop.above
    (omega (arith, c.if-above-number.false))) in (
      omega (arith, loop.invariant.0),
      c.link.ensures.one 4096 (tag_place a.commits.now) a.entries h (sym (c.place_of-x.ensures.0 ∙ ap place tag.ensures)) (rw z loop.invariant.1),
      order_more a.entries a.commits.now (loop.k - 1) h low
          (again ∙ le-ltb c.chained_entry.result a.entries c.if-chained_entry-entries.false) (rw z loop.invariant.2),
      λ v l. under_step a.entries a.commits.now v (loop.k - 1) h ∙ rw number.ensures,
    )

pub returns-clause-value : goal.returns-clause-value
returns-clause-value c =
    let a = c.args in
    let loop = c.loop-k in
    let z : loop.k ≡ 0 = omega (arith, c.loop-k-test.false) in
    sym (rw (rows_start 8 a.entries a.commits.now, ← z) loop.invariant.2)
