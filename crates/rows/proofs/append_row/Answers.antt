use mathlib.Core.Path.{sym, ◌∙◌}
use Rattle.spec.proofs.Laid.{laid_append}
use Prim.Native.Nat.{◌*◌}
use native.Mathlib.Omega.{arith}
use Rattle.spec.proofs.Bytes.{lent_tail, length-data_row}
use Rattle.spec.specs.Rows.{data_row}
use Rattle.rows.proofs.append_row.Goals as goal

pub returns : goal.returns
returns c =
    let a = c.args in
    rw c.write_row.ensures
    (lent_tail a.rows.now (data_row a.tag a.cell a.value.now) (24 * a.used) (simp length-data_row (omega arith))
    ∙ sym (laid_append 24 a.used (data_row a.tag a.cell a.value.now) a.rows.now
    (length-data_row a.tag a.cell a.value.now ∙ omega arith) (omega arith)))
