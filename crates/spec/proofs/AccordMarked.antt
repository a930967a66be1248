-- Ticket 4's sentence on the marked cells, in accord with the definitions: the cells that are served from each of three committed rows on.
-- Assumes nothing.
use Prim.Native.Nat.{ℕ}
use mathlib.Core.Path.{◌≡◌, refl}
use mathlib.Core.Bool.{true, false}
use mathlib.Core.List.{List, [], ◌∷◌}
use Rattle.spec.specs.Rows.{Row, data_row, commit_row, bytes_of, number, tag_of, cell_of, commit_tag, commit_number}
use Rattle.spec.specs.Look.{is_own}
use Rattle.spec.specs.Share.{any, wrote}
use Rattle.spec.specs.Marked.{marks_cell, marked}

abbrev value : List ℕ
value = 0 ∷ 1 ∷ 2 ∷ 3 ∷ 4 ∷ 5 ∷ 6 ∷ 7 ∷ 8 ∷ 9 ∷ 10 ∷ 11 ∷ 12 ∷ 13 ∷ 14 ∷ 15 ∷ []

-- a data row of that tag and cell
abbrev row : ℕ → ℕ → Row
row tag cell = data_row tag cell value

-- ---- "after each committed row the marked cells are exactly those that it or a later one, numbered at most low, wrote"

-- tags 1, 2 and 3 are committed under 1, 2 and 3; tag 4 is not
abbrev ds : List Row
ds = row 1 7 ∷ row 3 9 ∷ row 2 8 ∷ row 4 6 ∷ []

abbrev last : List Row
last = commit_row 3 3 ∷ []

abbrev last_two : List Row
last_two = commit_row 2 2 ∷ last

abbrev all : List Row
all = commit_row 1 1 ∷ last_two

-- where low is 2 the last row marks nothing, the one before it cell 8, the first cell 7 too
pub above_low : marked 2 ds last 9 ≡ false
unfolding marked marks_cell any wrote is_own tag_of cell_of commit_tag commit_number number data_row commit_row bytes_of
above_low = refl

pub at_low : marked 2 ds last_two 8 ≡ true
unfolding marked marks_cell any wrote is_own tag_of cell_of commit_tag commit_number number data_row commit_row bytes_of
at_low = refl

pub not_yet : marked 2 ds last_two 7 ≡ false
unfolding marked marks_cell any wrote is_own tag_of cell_of commit_tag commit_number number data_row commit_row bytes_of
not_yet = refl

pub first_marks : marked 2 ds all 7 ≡ true
unfolding marked marks_cell any wrote is_own tag_of cell_of commit_tag commit_number number data_row commit_row bytes_of
first_marks = refl

pub still : marked 2 ds all 8 ≡ true
unfolding marked marks_cell any wrote is_own tag_of cell_of commit_tag commit_number number data_row commit_row bytes_of
still = refl

pub never : marked 2 ds all 9 ≡ false
unfolding marked marks_cell any wrote is_own tag_of cell_of commit_tag commit_number number data_row commit_row bytes_of
never = refl

-- where low is 3 the last row marks cell 9; what is not committed is marked by none
pub up_to_low : marked 3 ds last 9 ≡ true
unfolding marked marks_cell any wrote is_own tag_of cell_of commit_tag commit_number number data_row commit_row bytes_of
up_to_low = refl

pub not_committed : marked 3 ds all 6 ≡ false
unfolding marked marks_cell any wrote is_own tag_of cell_of commit_tag commit_number number data_row commit_row bytes_of
not_committed = refl
