-- What the contracts of inner functions need beyond the words of the papers: nobody has to believe it.
-- Assumes nothing.
use Rattle.spec.specs.Numbers.{Number}
use Rattle.std.specs.Prelude.{ℕ, ◌<◌, List, Bool, true, false, ◌≡◌, get_or, length, eqb, leb, ltb, None, Some}
use Rattle.spec.specs.Rows.{data_width, commit_width, data_rows_in, commit_rows_in, Row, row_at, tag_of}
use Rattle.removal.specs.Inner.{Left}
use Rattle.spec.specs.Trim.{stays, trimmed_rows, trimmed_commits, later}
use Rattle.std.specs.Prelude.{if◌then◌else◌}
use Rattle.spec.specs.Look.{commit_of}
use Rattle.spec.specs.Share.{any}

-- ---- What a trim leaves of both buffers, for its promise.

-- a trim of n data rows in s and m committed rows in c leaves s' with n' rows and c' with m'
pub record Trimmed (low n m : ℕ) (s c s' c' : List ℕ) (n' m' : ℕ) : Type 0 where
  pub data_rows : Left data_width n (trimmed_rows low (data_rows_in n s) (commit_rows_in m c)) s s' n'
  pub commit_rows : Left commit_width m (trimmed_commits (trimmed_rows low (data_rows_in n s) (commit_rows_in m c)) (commit_rows_in m c)) c c' m'

-- ---- What a trim notes of the data rows before it judges them, for the inner functions' promises.

-- a commit number, and the largest number of 64 bits, which is above all of them, where there is none
unfoldable pub number_or : Number → ℕ
number_or None = 18446744073709551615
number_or (Some n) = n

-- l has the largest number noted for each cell below 1,024 (0 for none), and l' has noted one row more: a row of that cell with that number,
-- which counts where it is at most low
pub record Noted (low cell number : ℕ) (l l' : List ℕ) : Type 0 where
  pub size : length l' ≡ 1024
  pub each : (x m : ℕ) → x < 1024
      → ltb m (get_or l' x 0) ≡ (if ltb m (get_or l x 0) then true else
      (if eqb cell x then (if ltb m number then leb number low else false) else false))

-- the commit number of each of the n data rows in s
pub record Numbers (n : ℕ) (cs : List Row) (s numbers : List ℕ) : Type 0 where
  pub each : (k : ℕ) → k < n → get_or numbers k 0 ≡ number_or (commit_of (tag_of (row_at data_width k s)) cs)

-- the newest commit number up to low of each cell below 1,024 (0 for none): a row of the cell is overtaken where its number is below that
pub record Newest (low : ℕ) (cs ds : List Row) (newest : List ℕ) : Type 0 where
  pub each : (x m : ℕ) → x < 1024 → ltb m (get_or newest x 0) ≡ any (later cs low x m) ds

-- ---- what is judged of one row, whatever the committed rows cs are that the numbers were noted of

-- row i, of that number, is of the cell and committed above n and at most low
abbrev pub IsLater : ℕ → ℕ → ℕ → ℕ → ℕ → List ℕ → Bool → Type 0
IsLater low cell n number i d r = (cs : List Row) → number ≡ number_or (commit_of (tag_of (row_at data_width i d)) cs) → r ≡ later cs low cell n
    (row_at data_width i d)

-- one of the rows is
abbrev pub AnyLater : ℕ → ℕ → ℕ → ℕ → List ℕ → List ℕ → Bool → Type 0
AnyLater low cell n used d numbers r = (cs : List Row) → Numbers used cs d numbers → r ≡ any (later cs low cell n) (data_rows_in used d)

-- whether row i stays, as a flag
abbrev pub StayFlag : ℕ → ℕ → ℕ → List ℕ → List ℕ → List ℕ → ℕ → Type 0
StayFlag low used i d numbers newest r =
    (cs : List Row) → Numbers used cs d numbers → Newest low cs (data_rows_in used d) newest
    → r ≡ (if stays low (data_rows_in used d) cs (row_at data_width i d) then 1 else 0)
