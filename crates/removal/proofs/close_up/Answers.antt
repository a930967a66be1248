-- Where no row goes all stay; else the compaction starts at the first that goes.
use native.Mathlib.Omega.{arith}
use borrow.Author.Rules.{rules}
use Rattle.removal.proofs.Moving.{kept_all, left_all, flag_set, flag_kept, by_flags}
use Rattle.removal.proofs.close_up.Goals as goal

pub returns-then-first-used : goal.returns-then-first-used
returns-then-first-used g c =
    let a = c.args in
    let gone = c.first_gone-first.ensures in
    left_all g.row.WIDTH a.used a.buf.now _
    (kept_all a.flags.now g.row.WIDTH a.used a.buf.now (λ k h. gone.misses k (omega arith) (omega (arith, c.if-first-used.true))))

pub returns : goal.returns
returns g c =
    let a = c.args in
    let gone = c.first_gone-first.ensures in
    let kept = c.keep_rows-left.ensures.kept (flag_set a.flags.now) (λ k row b h l e. search rules)
    (λ k h. flag_kept a.flags.now k (gone.misses k (omega arith) h)) in
    c.free_rows.ensures.left _ a.buf.now (rw by_flags at kept) c.keep_rows-left.auto.buf
