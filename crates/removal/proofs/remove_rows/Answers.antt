-- Where the transaction has no row all stay; else the rows of others are kept.
use native.Mathlib.Omega.{arith}
use borrow.Author.Rules.{rules}
use Rattle.removal.specs.Inner.{other_tag}
use Rattle.removal.proofs.Moving.{filter_all, left_all, other_yes, other_read, by_test}
use Rattle.removal.proofs.remove_rows.Goals as goal

pub returns-then-first-used : goal.returns-then-first-used
returns-then-first-used c =
    let a = c.args in
    let next = c.next_tag-first.ensures in
    left_all 24 a.used a.rows.now _
    (filter_all (other_tag a.tag) 24 a.used a.rows.now
    (λ k h. other_yes a.tag _ (next.misses k (omega arith) (omega (arith, c.if-first-used.true)))))

pub returns : goal.returns
returns c =
    let a = c.args in
    let next = c.next_tag-first.ensures in
    let kept = c.keep_rows-left.ensures.kept (λ k. other_tag a.tag) (λ k row b h l e. search (rules, other_read))
    (λ k h. other_yes a.tag _ (next.misses k (omega arith) h)) in
    c.free_rows.ensures.left _ a.rows.now (rw (by_test (other_tag a.tag)) at kept) c.keep_rows-left.auto.buf
