use mathlib.Core.Path.{sym, ◌∙◌}
use native.Mathlib.Omega.{arith}
use Rattle.spec.specs.Rows.{with_value}
use Rattle.spec.proofs.Laid.{laid_set}
use Rattle.rows.proofs.replace_value.Goals as goal

pub returns : goal.returns
unfolding with_value
returns c =
    let a = c.args in
    λ n h l. c.put_value.ensures ∙ sym (laid_set 24 n a.i 8 a.value.now a.rows.now h (omega arith) l)
