-- What lies behind the rows that are left is cleared.
use Rattle.removal.proofs.Moving.{freed}
use Rattle.removal.proofs.free_rows.Goals as goal

pub returns : goal.returns
returns g c =
    let a = c.args in
    rw c.clear.ensures (freed g.row.WIDTH a.used a.left a.buf.now c.requires.left_le_used c.requires.used_in_bounds)
