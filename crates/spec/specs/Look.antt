-- The row that a read finds (document 01, "A transaction"): "Read looks for a data row with the reader's tag and that cell; failing that, for
-- the row of that cell whose tag is committed with the largest commit number not above S; failing that it answers Unwritten. If the bytes
-- hold several equal candidates, the first in row order counts, and of several committed rows with one tag the first alone."
-- Data rows are ds, committed rows cs.
-- Assumes nothing.
use Rattle.std.specs.Prelude.{ℕ, ◌+◌, Bool, false, List, [], ◌∷◌, eqb, leb, ltb, get_or, set, Option, Some, None}
use Rattle.std.specs.Prelude.{if◌then◌else◌}
use Rattle.spec.specs.Rows.{Row, tag_of, cell_of, commit_number, commit_tag}
use Rattle.spec.specs.declared.Version.{Version}
use Rattle.spec.specs.Numbers.{Number, at_least, up_to}

-- where a row is, if there is one
abbrev pub Found : Type 0
Found = Option ℕ

-- a data row and the number that it is committed under (0 for an own write), if there is one
abbrev pub Lookup : Type 0
Lookup = Option Version

abbrev pub version : ℕ → ℕ → Version
version i n = record { at = i; number = n }

-- the number that a tag is committed under, none if it is not
unfoldable pub commit_of : ℕ → List Row → Number
commit_of tag [] = None
commit_of tag (c ∷ cs) = if eqb (commit_tag c) tag then Some (commit_number c) else commit_of tag cs

-- a data row of that transaction and that cell
unfoldable pub is_own : ℕ → ℕ → Row → Bool
is_own tag cell r = if eqb (tag_of r) tag then eqb (cell_of r) cell else false

-- of rows numbered from i on, the first that passes
unfoldable pub find : (Row → Bool) → ℕ → List Row → Found
find p i [] = None
find p i (r ∷ rs) = if p r then Some i else find p (i + 1) rs

-- the number that a data row of that cell is committed under, where that is not above s
unfoldable pub version_of : ℕ → ℕ → List Row → Row → Number
version_of cell s cs r = if eqb (cell_of r) cell then up_to s (commit_of (tag_of r) cs) else None

-- the one with the larger number, and the first of equals
unfoldable pub newer : Lookup → Lookup → Lookup
newer None b = b
newer (Some a) None = Some a
newer (Some a) (Some b) = if ltb a.number b.number then Some b else Some a

-- row i under that number, if there is one
unfoldable pub version_at : ℕ → Number → Lookup
version_at i None = None
version_at i (Some n) = Some (version i n)

-- of rows numbered from i on, the one with the largest number
unfoldable pub newest : (Row → Number) → ℕ → List Row → Lookup
newest f i [] = None
newest f i (r ∷ rs) = newer (version_at i (f r)) (newest f (i + 1) rs)

-- the own row, which stands under no commit number, else the other one
unfoldable pub own_or : Found → Lookup → Lookup
own_or (Some i) other = Some (version i 0)
own_or None other = other

-- the row that a reader with that tag and snapshot finds
unfoldable pub look_for : ℕ → ℕ → ℕ → List Row → List Row → Lookup
look_for tag cell s ds cs = own_or (find (is_own tag cell) 0 ds) (newest (version_of cell s cs) 0 ds)

-- ---- Document 02, 3, the version table v, "with one entry for each of the 1,024 cells": "A read that isn't of its own write looks only at commits
-- from the entry up to S if the entry is at most S, and at all up to S otherwise." As S is, the entry is held against the number of the tag's first
-- committed row.

-- the least number that is looked at, for an entry e
unfoldable pub least_looked : ℕ → ℕ → ℕ
least_looked e s = if leb e s then e else 0

-- the number that a data row of that cell is committed under, where that is from m up to s
unfoldable pub version_from : ℕ → ℕ → ℕ → List Row → Row → Number
version_from m cell s cs r = at_least m (version_of cell s cs r)

-- the row that a reader with that tag and snapshot finds, where the cell's entry is e
unfoldable pub look_from : ℕ → ℕ → ℕ → ℕ → List Row → List Row → Lookup
look_from e tag cell s ds cs = own_or (find (is_own tag cell) 0 ds) (newest (version_from (least_looked e s) cell s cs) 0 ds)

-- "If it finds a commit above the entry, it stores that there." An own write stands under no commit number, and is stored nowhere
unfoldable pub versions_after : ℕ → Lookup → List ℕ → List ℕ
versions_after cell None v = v
versions_after cell (Some f) v = if ltb (get_or v cell 0) f.number then set v cell f.number else v
