use mathlib.Core.Path.{sym, ◌∙◌}
use Rattle.spec.proofs.Laid.{laid_append}
use Rattle.spec.proofs.Bytes.{length-commit_row, lent_tail}
use Rattle.spec.specs.Rows.{commit_row}
use native.Mathlib.Omega.{arith}
use Prim.Native.Nat.{◌*◌}
use Rattle.rows.proofs.append_commit.Goals as goal

pub returns : goal.returns
returns c =
    let a = c.args in
    rw c.write_commit.ensures (lent_tail a.commits.now (commit_row a.number a.tag) (8 * a.used)
    (simp length-commit_row (omega arith))
    ∙ sym (laid_append 8 a.used (commit_row a.number a.tag) a.commits.now (length-commit_row a.number a.tag) (omega arith)))
