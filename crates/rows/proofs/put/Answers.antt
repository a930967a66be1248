use mathlib.Core.Path.{refl}
use Rattle.rows.proofs.Stored.{bytes_stored}
use Rattle.rows.proofs.put.Goals as goal

pub returns : goal.returns
returns c = rw c.copy_from_slice.ensures.after (bytes_stored c.args.s.now c.args.bytes.now c.args.at _ refl)
