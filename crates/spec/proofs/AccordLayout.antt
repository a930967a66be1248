-- Document 01's sentences on how rows stand in bytes, in accord with the definitions: rows that are different in every byte.
-- Assumes nothing.
use mathlib.Core.Path.{◌≡◌, refl}
use mathlib.Core.List.{[], ◌∷◌, ◌++◌, flatten}
use lib.ListN.{replicate}
use Rattle.spec.specs.Rows.{spliced, number, bytes_of, data_row, tag_of, cell_of, value_of, with_value, commit_row, commit_number, commit_tag}
use Rattle.spec.specs.Rows.{row_at, rows_in, layout}
use Rattle.spec.proofs.AccordTable.{counting, sixteen, rubbish}

-- ---- "Data buffer: 24-byte rows. Bytes 0 to 3 hold the tag (the writer's transaction number), 4 and 5 the cell, 6 and 7 zero, 8 to 23 the value."
-- "Committed buffer: 8-byte rows, commit number then tag, 4 bytes each. Whole numbers are little-endian, unsigned."

pub data_row_lem : data_row 67305985 513 (0 ∷ 1 ∷ 2 ∷ 3 ∷ 4 ∷ 5 ∷ 6 ∷ 7 ∷ 8 ∷ 9 ∷ 10 ∷ 11 ∷ 12 ∷ 13 ∷ 14 ∷ 15 ∷ [])
    ≡ 1 ∷ 2 ∷ 3 ∷ 4 ∷ 1 ∷ 2 ∷ 0 ∷ 0 ∷ 0 ∷ 1 ∷ 2 ∷ 3 ∷ 4 ∷ 5 ∷ 6 ∷ 7 ∷ 8 ∷ 9 ∷ 10 ∷ 11 ∷ 12 ∷ 13 ∷ 14 ∷ 15 ∷ []
unfolding data_row bytes_of
data_row_lem = refl

pub commit_row_lem : commit_row 67305985 134678021 ≡ 1 ∷ 2 ∷ 3 ∷ 4 ∷ 5 ∷ 6 ∷ 7 ∷ 8 ∷ []
unfolding commit_row bytes_of
commit_row_lem = refl

-- the fields of the row 1, 2, .. 24 and of the row 1, 2, .. 8; and the largest ones
pub fields : (tag_of (counting 24 1) ≡ 67305985) × (cell_of (counting 24 1) ≡ 1541)
    × (value_of (counting 24 1) ≡ 9 ∷ 10 ∷ 11 ∷ 12 ∷ 13 ∷ 14 ∷ 15 ∷ 16 ∷ 17 ∷ 18 ∷ 19 ∷ 20 ∷ 21 ∷ 22 ∷ 23 ∷ 24 ∷ [])
    × (commit_number (counting 8 1) ≡ 67305985) × (commit_tag (counting 8 1) ≡ 134678021)
    × (tag_of (replicate 24 255) ≡ 4294967295) × (cell_of (replicate 24 255) ≡ 65535)
    × (commit_number (replicate 8 255) ≡ 4294967295) × (commit_tag (replicate 8 255) ≡ 4294967295)
unfolding tag_of cell_of value_of commit_number commit_tag number
fields = (refl, refl, refl, refl, refl, refl, refl, refl, refl)

-- "the second write replaces the value in its row", and no other byte of it
pub another_value : with_value (sixteen 64) (counting 24 1) ≡ counting 8 1 ++ sixteen 64
unfolding with_value spliced
another_value = refl

-- ---- "Rows in use are the first ones of each buffer. In each buffer new rows go in directly behind the last one in use. After any removal the others
-- close up in their order and freed bytes become zero": in a buffer of five rows of four bytes

pub first_ones : rows_in 4 2 (counting 20 1) ≡ (1 ∷ 2 ∷ 3 ∷ 4 ∷ []) ∷ (5 ∷ 6 ∷ 7 ∷ 8 ∷ []) ∷ []
unfolding rows_in
first_ones = refl

pub row_by_row : row_at 4 2 (counting 20 1) ≡ 9 ∷ 10 ∷ 11 ∷ 12 ∷ []
unfolding row_at
row_by_row = refl

-- one row was in use, and two are now
pub row_behind : layout 4 1 ((1 ∷ 2 ∷ 3 ∷ 4 ∷ []) ∷ (5 ∷ 6 ∷ 7 ∷ 8 ∷ []) ∷ []) (rubbish 20) ≡ counting 8 1 ++ rubbish 12
unfolding layout flatten
row_behind = refl

-- four rows were in use, and two are now
pub rows_freed : layout 4 4 ((1 ∷ 2 ∷ 3 ∷ 4 ∷ []) ∷ (5 ∷ 6 ∷ 7 ∷ 8 ∷ []) ∷ []) (rubbish 20)
    ≡ 1 ∷ 2 ∷ 3 ∷ 4 ∷ 5 ∷ 6 ∷ 7 ∷ 8 ∷ 0 ∷ 0 ∷ 0 ∷ 0 ∷ 0 ∷ 0 ∷ 0 ∷ 0 ∷ 170 ∷ 170 ∷ 170 ∷ 170 ∷ []
unfolding layout flatten
rows_freed = refl
