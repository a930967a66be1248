-- `writes::write`: what the calls ask that place the row, of the row found or counted.
-- Assumes nothing.
use native.Mathlib.Omega.{arith}
use borrow.Author.Tests.{lt-leb}
use Rattle.search.proofs.Folds.{cells_fewer}
use Rattle.writes.proofs.Outcomes.{found_below, counted}
use Rattle.writes.proofs.write.Goals as goal

pub replace_row-requires-clause-at_lt_used : goal.replace_row-requires-clause-at_lt_used
replace_row-requires-clause-at_lt_used c = found_below _ _ _ _ _ c.in-Row.ensures

pub new_row-requires-clause-rows_value : goal.new_row-requires-clause-rows_value
new_row-requires-clause-rows_value c = lt-leb _ _ (omega (arith, cells_fewer, counted _ _ _ _ c.in-Rows.ensures))
