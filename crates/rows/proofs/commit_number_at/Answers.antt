use mathlib.Core.Path.{◌∙◌}
use lib.Dec.{lit≤}
use Rattle.spec.specs.Rows.{commit_number}
use Rattle.spec.proofs.Rows.{field_first}
use Rattle.rows.proofs.commit_number_at.Goals as goal

pub returns : goal.returns
unfolding commit_number
returns c =
    let a = c.args in
    c.u32_at.ensures ∙ field_first 4 8 a.i a.commits.now (lit≤ tt)
