-- Which bytes a trim works from the newest (document 02, ticket 4). Data rows are ds, committed rows cs.
-- Assumes nothing.
use Rattle.std.specs.Prelude.{ℕ, Bool, true, false, List, [], ◌∷◌, eqb, leb, ltb}
use Rattle.std.specs.Prelude.{if◌then◌else◌}
use Rattle.spec.specs.Rows.{cells, Row, tag_of, cell_of, commit_number, commit_tag}
use Rattle.spec.specs.Share.{any, wrote}

-- ---- "Bytes in which commit numbers don't rise, a committed tag repeats, one tag holds a cell twice or a cell is above 1,023 are worked the old way."

-- the number is below that of the next committed row, if there is one
unfoldable pub under : ℕ → List Row → Bool
under n [] = true
under n (c ∷ cs) = ltb n (commit_number c)

-- a committed row of that transaction
unfoldable pub is_commit_of : ℕ → Row → Bool
is_commit_of tag c = eqb (commit_tag c) tag

-- commit numbers rise from each row to the next, and no later row has a row's tag again
unfoldable pub orderly_commits : List Row → Bool
orderly_commits [] = true
orderly_commits (c ∷ cs) = if under (commit_number c) cs then (if any (is_commit_of (commit_tag c)) cs then false else orderly_commits cs) else false

-- cells are below 1,024, and no later row has a row's tag and cell again
unfoldable pub orderly_rows : List Row → Bool
orderly_rows [] = true
orderly_rows (r ∷ rs) = if leb cells (cell_of r) then false else (if wrote rs (tag_of r) (cell_of r) then false else orderly_rows rs)

-- the bytes that are worked from the newest
unfoldable pub orderly : List Row → List Row → Bool
orderly ds cs = if orderly_commits cs then orderly_rows ds else false
