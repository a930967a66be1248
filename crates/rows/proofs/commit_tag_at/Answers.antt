use mathlib.Core.Path.{◌∙◌}
use lib.Dec.{lit≤}
use Rattle.spec.specs.Rows.{commit_tag}
use Rattle.spec.proofs.Rows.{field}
use Rattle.rows.proofs.commit_tag_at.Goals as goal

pub returns : goal.returns
unfolding commit_tag
returns c =
    let a = c.args in
    c.u32_at.ensures ∙ field 4 4 8 a.i a.commits.now (lit≤ tt)
