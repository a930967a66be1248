-- Ticket 4's sentence on bytes that are worked the old way, in accord with the definitions: literal rows that are orderly or not.
-- Assumes nothing.
use Prim.Native.Nat.{ℕ}
use mathlib.Core.Path.{◌≡◌, refl}
use mathlib.Core.Bool.{true, false}
use mathlib.Core.List.{List, [], ◌∷◌}
use Rattle.spec.specs.Rows.{Row, data_row, commit_row, bytes_of, number, tag_of, cell_of, commit_tag, commit_number}
use Rattle.spec.specs.Look.{is_own}
use Rattle.spec.specs.Share.{any, wrote}
use Rattle.spec.specs.Orderly.{under, is_commit_of, orderly_commits, orderly_rows, orderly}

abbrev value : List ℕ
value = 0 ∷ 1 ∷ 2 ∷ 3 ∷ 4 ∷ 5 ∷ 6 ∷ 7 ∷ 8 ∷ 9 ∷ 10 ∷ 11 ∷ 12 ∷ 13 ∷ 14 ∷ 15 ∷ []

-- a data row of that tag and cell
abbrev row : ℕ → ℕ → Row
row tag cell = data_row tag cell value

-- ---- "Bytes in which commit numbers don't rise, a committed tag repeats, one tag holds a cell twice or a cell is above 1,023 are worked the old way."

-- commit numbers rise, the tags need not
pub rising : orderly [] (commit_row 1 9 ∷ commit_row 2 3 ∷ commit_row 70000 5 ∷ []) ≡ true
unfolding orderly orderly_commits orderly_rows under is_commit_of any commit_tag commit_number number commit_row bytes_of
rising = refl

pub equal_numbers : orderly [] (commit_row 1 1 ∷ commit_row 2 2 ∷ commit_row 2 3 ∷ []) ≡ false
unfolding orderly orderly_commits orderly_rows under is_commit_of any commit_tag commit_number number commit_row bytes_of
equal_numbers = refl

pub falling_numbers : orderly [] (commit_row 2 1 ∷ commit_row 1 2 ∷ commit_row 3 3 ∷ []) ≡ false
unfolding orderly orderly_commits orderly_rows under is_commit_of any commit_tag commit_number number commit_row bytes_of
falling_numbers = refl

-- a tag repeats, next to its row or further on
pub neighbour_tag : orderly [] (commit_row 1 4 ∷ commit_row 2 4 ∷ []) ≡ false
unfolding orderly orderly_commits orderly_rows under is_commit_of any commit_tag commit_number number commit_row bytes_of
neighbour_tag = refl

pub distant_tag : orderly [] (commit_row 1 4 ∷ commit_row 2 5 ∷ commit_row 3 4 ∷ []) ≡ false
unfolding orderly orderly_commits orderly_rows under is_commit_of any commit_tag commit_number number commit_row bytes_of
distant_tag = refl

-- one cell under two tags, two cells under one
pub apart : orderly (row 1 7 ∷ row 2 7 ∷ row 1 8 ∷ []) (commit_row 1 1 ∷ commit_row 2 2 ∷ []) ≡ true
unfolding orderly orderly_commits orderly_rows under is_commit_of any wrote is_own tag_of cell_of commit_tag commit_number number data_row commit_row bytes_of
apart = refl

-- one tag holds a cell twice: committed, and not committed
pub cell_twice : orderly (row 1 7 ∷ row 2 7 ∷ row 1 7 ∷ []) (commit_row 1 1 ∷ []) ≡ false
unfolding orderly orderly_commits orderly_rows under is_commit_of any wrote is_own tag_of cell_of commit_tag commit_number number data_row commit_row bytes_of
cell_twice = refl

pub open_cell_twice : orderly (row 5 7 ∷ row 1 7 ∷ row 5 7 ∷ []) (commit_row 1 1 ∷ []) ≡ false
unfolding orderly orderly_commits orderly_rows under is_commit_of any wrote is_own tag_of cell_of commit_tag commit_number number data_row commit_row bytes_of
open_cell_twice = refl

-- the last cell, and one above it, which an index of ten bits takes for cell 0
pub cell_1023 : orderly (row 1 1023 ∷ []) (commit_row 1 1 ∷ []) ≡ true
unfolding orderly orderly_commits orderly_rows under is_commit_of any wrote is_own tag_of cell_of commit_tag commit_number number data_row commit_row bytes_of
cell_1023 = refl

pub cell_1024 : orderly (row 1 1024 ∷ []) (commit_row 1 1 ∷ []) ≡ false
unfolding orderly orderly_commits orderly_rows under is_commit_of any wrote is_own tag_of cell_of commit_tag commit_number number data_row commit_row bytes_of
cell_1024 = refl
