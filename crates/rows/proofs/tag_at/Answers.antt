use mathlib.Core.Path.{◌∙◌}
use lib.Dec.{lit≤}
use Rattle.spec.specs.Rows.{tag_of}
use Rattle.spec.proofs.Rows.{field_first}
use Rattle.rows.proofs.tag_at.Goals as goal

pub returns : goal.returns
unfolding tag_of
returns c =
    let a = c.args in
    c.u32_at.ensures ∙ field_first 4 24 a.i a.rows.now (lit≤ tt)
