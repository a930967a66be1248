use mathlib.Core.Path.{◌∙◌}
use Rattle.rows.proofs.Stored.{four_written}
use Rattle.rows.proofs.put_u32.Goals as goal

pub returns : goal.returns
returns c = c.put.ensures ∙ rw (c.to_le_bytes.ensures ∙ four_written c.args.x)
