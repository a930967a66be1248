-- What the contracts of inner functions need beyond the words of the papers: nobody has to believe it.
-- Assumes nothing.
use Rattle.std.specs.Prelude.{ℕ, ◌+◌, ◌≤◌, ◌<◌, ◌≡◌, List, length, get_or}
use Rattle.std.specs.Prelude.{if◌then◌else◌}
use Rattle.spec.specs.Rows.{data_width, commit_width, data_rows_in, commit_rows_in, row_at, rows_from, tag_of}
use Rattle.spec.specs.Share.{any}
use Rattle.spec.specs.Trim.{stays, in_use, trimmed_rows}
use Rattle.orderly.specs.Inner.{row_entry, Sole}
use Rattle.spec.specs.Orderly.{is_commit_of}

-- ---- What is known while committed rows are gone through from the last to the first, for the inner functions' promises.

-- the data rows' flags after committed row j: those of rows committed by row j or a later one are right, all others are 1
pub record Judged (low n m : ℕ) (s c : List ℕ) (j : ℕ) (flags : List ℕ) : Type 0 where
  pub size : length flags ≡ 1024
  pub each : (i : ℕ) → i < n
      → get_or flags i 0 ≡ (if any (is_commit_of (tag_of (row_at data_width i s))) (rows_from commit_width m j c) then
      (if stays low (data_rows_in n s) (commit_rows_in m c) (row_at data_width i s) then 1 else 0) else 1)

-- the committed rows' flags after committed row j: from row j on they are right, before it they are 0
pub record Used (low n m : ℕ) (s c : List ℕ) (j : ℕ) (uses : List ℕ) : Type 0 where
  pub size : length uses ≡ 1024
  pub before : (k : ℕ) → k < j → get_or uses k 0 ≡ 0
  pub each : (k : ℕ) → j ≤ k → k < m
      → get_or uses k 0 ≡ (if in_use (trimmed_rows low (data_rows_in n s) (commit_rows_in m c)) (row_at commit_width k c) then 1 else 0)

-- The rows that are done after committed row j are plain. `seen` has, of each cell, one more than the number of the last of them that wrote it, 0 for
-- none.
pub record SoFar (n m : ℕ) (s c : List ℕ) (j : ℕ) (seen : List ℕ) : Type 0 where
  pub room : length seen ≡ 1024
  pub fresh : (x k : ℕ) → x < 1024 → k < j → get_or seen x 0 ≡ k + 1 → ⊥
  pub plain : (k : ℕ) → k < n → j ≤ row_entry m c s k → row_entry m c s k < m → Sole n s k
