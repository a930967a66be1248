use Rattle.spec.proofs.Bytes.{commit_written}
use Rattle.rows.proofs.write_commit.Goals as goal

pub returns : goal.returns
returns c =
    rw (c.put_u32-2.ensures, c.put_u32.ensures)
    (commit_written c.args.number c.args.tag c.args.row.now c.requires)
