use mathlib.Core.Path.{◌∙◌}
use borrow.Author.Rules.{rules}
use Rattle.rows.proofs.Stored.{four_read}
use Rattle.rows.proofs.u32_at.Goals as goal

pub returns : goal.returns
returns c = rw c.bytes_at.ensures at (c.from_le_bytes.ensures ∙ four_read c.bytes_at.result (search rules))
