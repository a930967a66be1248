use native.Mathlib.Omega.{arith}
use Rattle.spec.proofs.Bytes.{row_written}
use Rattle.rows.proofs.write_row.Goals as goal

pub returns : goal.returns
returns c =
    rw (
      c.put_value.ensures,
      c.put_u32-2.ensures,
      c.put_u32.ensures,
    )
    (row_written c.args.tag c.args.cell c.args.value.now c.args.row.now (omega arith) (omega arith))
