-- `search::commit_of`: the number of the row that `next_commit` found.
use Rattle.std.specs.Prelude.{Some}
use mathlib.Core.Path.{sym, ap, ◌∙◌}
use native.Mathlib.Omega.{arith}
use Rattle.search.proofs.Folds.{commit_none, commit_first}
use Rattle.search.proofs.commit_of.Goals as goal

pub returns-then-at-entries : goal.returns-then-at-entries
returns-then-at-entries c =
    let found = c.next_commit-at in
    let a = c.args in
    ap Some c.commit_number_at.ensures
    ∙ sym (commit_first a.tag a.entries a.commits.now found.result c.if-at-entries.true (found.ensures.hit c.if-at-entries.true)
    (λ k b. found.ensures.misses k (omega arith) b))

pub returns : goal.returns
returns c =
    let found = c.next_commit-at in
    let a = c.args in
    sym (commit_none a.tag a.entries a.commits.now (λ k b. found.ensures.misses k (omega arith) (omega (arith, c.if-at-entries.false))))
