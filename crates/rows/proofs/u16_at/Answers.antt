use mathlib.Core.Path.{◌∙◌}
use borrow.Author.Rules.{rules}
use Rattle.rows.proofs.Stored.{two_read}
use Rattle.rows.proofs.u16_at.Goals as goal

pub returns : goal.returns
returns c = rw c.bytes_at.ensures at (c.from_le_bytes.ensures ∙ two_read c.bytes_at.result (search rules))
