-- Which rows a trim keeps (document 01, "A transaction"). Data rows are ds, committed rows cs.
-- Assumes nothing.
use Rattle.spec.specs.Numbers.{Number}
use Rattle.std.specs.Prelude.{ℕ, Bool, false, not, List, eqb, leb, ltb, None, Some}
use Rattle.std.specs.Prelude.{if◌then◌else◌}
use Rattle.spec.specs.Rows.{Row, tag_of, cell_of, commit_tag, filter, has_tag}
use Rattle.spec.specs.Look.{commit_of}
use Rattle.spec.specs.Share.{any}

-- a number above n and at most low
unfoldable pub between : ℕ → ℕ → Number → Bool
between n low None = false
between n low (Some m) = if ltb n m then leb m low else false

-- a data row of that cell that is committed above n and at most low
unfoldable pub later : List Row → ℕ → ℕ → ℕ → Row → Bool
later cs low cell n q = if eqb (cell_of q) cell then between n low (commit_of (tag_of q) cs) else false

-- "A committed data row goes if its cell has another with a larger commit number that is at most low."
unfoldable pub overtaken : ℕ → List Row → List Row → ℕ → Number → Bool
overtaken low ds cs cell None = false
overtaken low ds cs cell (Some n) = any (later cs low cell n) ds

unfoldable pub stays : ℕ → List Row → List Row → Row → Bool
stays low ds cs r = not (overtaken low ds cs (cell_of r) (commit_of (tag_of r) cs))

unfoldable pub trimmed_rows : ℕ → List Row → List Row → List Row
trimmed_rows low ds cs = filter (stays low ds cs) ds

-- "Committed rows with no data row left go too."
unfoldable pub in_use : List Row → Row → Bool
in_use ds c = any (has_tag (commit_tag c)) ds

unfoldable pub trimmed_commits : List Row → List Row → List Row
trimmed_commits ds cs = filter (in_use ds) cs
