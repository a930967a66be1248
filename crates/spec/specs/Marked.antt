-- Trim from the newest (document 02, ticket 4): the cells that are served from a committed row on. Data rows are ds, committed rows cs.
-- Assumes nothing.
use Rattle.std.specs.Prelude.{ℕ, ◌≤◌, ◌<◌, ◌≡◌, Bool, true, false, List, length, get_or, leb, ltb}
use Rattle.std.specs.Prelude.{if◌then◌else◌}
use Rattle.spec.specs.Rows.{cells, commit_width, data_rows_in, commit_rows_in, Row, rows_from, commit_number, commit_tag}
use Rattle.spec.specs.Share.{any, wrote}
use Rattle.spec.specs.Orderly.{orderly}

-- ---- "after each committed row the marked cells are exactly those that it or a later one, numbered at most low, wrote"

-- a committed row that is numbered at most low and wrote the cell
unfoldable pub marks_cell : ℕ → List Row → ℕ → Row → Bool
marks_cell low ds x c = if leb (commit_number c) low then wrote ds (commit_tag c) x else false

-- of the committed rows cs, one numbered at most low wrote the cell
unfoldable pub marked : ℕ → List Row → List Row → ℕ → Bool
marked low ds cs x = any (marks_cell low ds x) cs

-- The marks after committed row j, where m committed rows in c are gone through from the last to the first: a cell's mark is 0 while it is not
-- marked, and else one more than the number of the row that marked it. `so_far`: the marked cells are exactly those that row j or a later one,
-- numbered at most low, wrote. `after_each`: so it was after each row k from j on; the cells that were marked then are those with a mark above k.
pub record Marks (low n m : ℕ) (s c : List ℕ) (j : ℕ) (marks : List ℕ) : Type 0 where
  pub size : length marks ≡ cells
  pub so_far : (x : ℕ) → x < cells → ltb 0 (get_or marks x 0) ≡ marked low (data_rows_in n s) (rows_from commit_width m j c) x
  pub after_each : (k x : ℕ) → j ≤ k → x < cells → ltb k (get_or marks x 0) ≡ marked low (data_rows_in n s) (rows_from commit_width m k c) x

-- So it is on all orderly bytes: the marks that a trim leaves in the end show the marked cells after each committed row.
pub record Worked (low n m : ℕ) (s c marks : List ℕ) : Type 0 where
  pub from_newest : orderly (data_rows_in n s) (commit_rows_in m c) ≡ true → Marks low n m s c 0 marks
