-- What the contracts of inner functions need beyond the words of the papers: nobody has to believe it.
-- Assumes nothing.
use Rattle.std.specs.Prelude.{ℕ, ◌+◌, ◌-◌, ◌≤◌, ◌<◌, ◌≡◌, List, None, Some}
use Rattle.spec.specs.Rows.{data_width, commit_width, Row, row_at, rows_from, tag_of, cell_of, commit_number, commit_tag}
use Rattle.spec.specs.Numbers.{at_least, up_to}
use Rattle.spec.specs.Look.{commit_of, is_own, find, version_from, newest, Lookup, version}

-- r is 1 more than a row of that cell, or 0; the rows from r on to n are of other cells or have tags that cannot count
pub record PassedOver (counts : ℕ → Type 0) (d : List ℕ) (cell n r : ℕ) : Type 0 where
  pub end : r ≤ n
  pub misses : (k : ℕ) → r ≤ k → k < n → counts (tag_of (row_at data_width k d)) → cell_of (row_at data_width k d) ≡ cell → ⊥
  pub hit : 0 < r → cell_of (row_at data_width (r - 1) d) ≡ cell

-- no tag of the committed rows from `from` on, of n, is below r, nor is the reader's number
pub record LeastTag (c : List ℕ) (from n tag r : ℕ) : Type 0 where
  pub own : r ≤ tag
  pub each : (k : ℕ) → from ≤ k → k < n → r ≤ commit_tag (row_at commit_width k c)

-- no tag of the committed rows from `from` on, of n, that are numbered up to s is above r, nor is the reader's number
pub record MostTag (c : List ℕ) (from n tag s r : ℕ) : Type 0 where
  pub own : tag ≤ r
  pub each : (k : ℕ) → from ≤ k → k < n → commit_number (row_at commit_width k c) ≤ s → commit_tag (row_at commit_width k c) ≤ r

-- the committed rows before `from` are numbered below m
abbrev pub NumberedBelow : List ℕ → ℕ → ℕ → Type 0
NumberedBelow c from m = (k : ℕ) → k < from → commit_number (row_at commit_width k c) < m

-- of n rows those from i on have been seen: none is the reader's own, and of the others, numbered from m up to s, the newest is best
pub record Seen (m tag cell s n : ℕ) (d : List ℕ) (cs : List Row) (i : ℕ) (best : Lookup) : Type 0 where
  pub not_own : find (is_own tag cell) i (rows_from data_width n i d) ≡ None
  pub newest_is : newest (version_from m cell s cs) i (rows_from data_width n i d) ≡ best

-- the last row that counts is row `at`: the reader's own, or committed under that number, from m up to s
pub record LastAt (m tag cell s n : ℕ) (d : List ℕ) (cs : List Row) (at number : ℕ) : Type 0 where
  pub within : at < n
  pub of_cell : cell_of (row_at data_width at d) ≡ cell
  pub behind : Seen m tag cell s n d cs (at + 1) None
  pub other : (tag_of (row_at data_width at d) ≡ tag → ⊥) → at_least m (up_to s (commit_of (tag_of (row_at data_width at d)) cs)) ≡ Some number

-- the same, or no row counts
abbrev pub LastVersion : ℕ → ℕ → ℕ → ℕ → ℕ → List ℕ → List Row → Lookup → Type 0
LastVersion m tag cell s n d cs (Some f) = LastAt m tag cell s n d cs f.at f.number
LastVersion m tag cell s n d cs None = Seen m tag cell s n d cs 0 None
