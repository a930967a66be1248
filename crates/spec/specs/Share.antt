-- Which cells a transaction wrote, with whom it shares one, and with which commits it conflicts (document 01: "a write set is found from the
-- tags of data rows").
-- Data rows are ds, committed rows cs.
-- Assumes nothing.
use Rattle.std.specs.Prelude.{ℕ, ◌+◌, Bool, true, false, List, [], ◌∷◌, map, None}
use Rattle.std.specs.Prelude.{if◌then◌else◌}
use Rattle.spec.specs.Rows.{Row, tag_of, cell_of, has_tag}
use Rattle.spec.specs.Numbers.{smallest, above, Number}
use Rattle.spec.specs.Look.{commit_of, is_own}

-- some row passes
unfoldable pub any : (Row → Bool) → List Row → Bool
any p [] = false
any p (r ∷ rs) = if p r then true else any p rs

-- how many rows pass
unfoldable pub count : (Row → Bool) → List Row → ℕ
count p [] = 0
count p (r ∷ rs) = (if p r then 1 else 0) + count p rs

-- the transaction wrote the cell
unfoldable pub wrote : List Row → ℕ → ℕ → Bool
wrote ds tag cell = any (is_own tag cell) ds

-- how many cells the transaction wrote: of its rows for one cell the last is counted
unfoldable pub cells_of : ℕ → List Row → ℕ
cells_of tag [] = 0
cells_of tag (r ∷ rs) = (if has_tag tag r then (if wrote rs tag (cell_of r) then 0 else 1) else 0) + cells_of tag rs

-- two transactions wrote a common cell
unfoldable pub shares : List Row → ℕ → ℕ → Bool
shares ds a b = any (λ r. if has_tag b r then wrote ds a (cell_of r) else false) ds

-- the number above s that a data row is committed under, where the transaction wrote its cell too
unfoldable pub clash : List Row → List Row → ℕ → ℕ → Row → Number
clash ds cs tag s r = if wrote ds tag (cell_of r) then above s (commit_of (tag_of r) cs) else None

-- "check commits above S for a shared cell": the smallest such commit number
unfoldable pub conflict : ℕ → ℕ → List Row → List Row → Number
conflict tag s ds cs = smallest (map (clash ds cs tag s) ds)
