use Rattle.spec.proofs.Rows.{value_part}
use native.Mathlib.Nat.{add-sub_cancel_left}
use Rattle.rows.proofs.value_at.Goals as goal

pub returns : goal.returns
returns c = rw add-sub_cancel_left (value_part c.args.i c.args.rows.now)
