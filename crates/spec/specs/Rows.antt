-- Rows of fixed width in a buffer of bytes, their fields, and how rows stand in a buffer.
-- Assumes nothing.
use Rattle.std.specs.Prelude.{ℕ, zero, suc, ◌+◌, ◌*◌, ◌-◌, ◌/◌, ◌%◌, Bool, length, take, drop, replicate, eqb}
use mathlib.Core.List.{List, [], ◌∷◌, ◌++◌, flatten}
use Rattle.std.specs.Prelude.{if◌then◌else◌}

-- a row is its bytes
abbrev pub Row : Type 0
Row = List ℕ

-- the n bytes from index `at`
abbrev pub part : ℕ → ℕ → List ℕ → List ℕ
part at n s = take n (drop at s)

-- s with vs in the place of the bytes from index `at`
unfoldable pub spliced : ℕ → List ℕ → List ℕ → List ℕ
spliced at vs s = take at s ++ vs ++ drop (at + length vs) s

-- ---- "Whole numbers are little-endian, unsigned."

unfoldable pub number : List ℕ → ℕ
number [] = 0
number (b ∷ bs) = b + 256 * number bs

-- the k lowest bytes of a number, lowest first
unfoldable pub bytes_of : ℕ → ℕ → List ℕ
bytes_of zero n = []
bytes_of (suc k) n = n % 256 ∷ bytes_of k (n / 256)

-- "Cells: numbers 0 to 1,023."
abbrev pub cells : ℕ
cells = 1024

-- "24-byte rows", "8-byte rows"
abbrev pub data_width : ℕ
data_width = 24

abbrev pub commit_width : ℕ
commit_width = 8

-- ---- "Data buffer: 24-byte rows. Bytes 0 to 3 hold the tag (the writer's transaction number), 4 and 5 the cell, 6 and 7 zero, 8 to 23 the value."

unfoldable pub data_row : ℕ → ℕ → List ℕ → Row
data_row tag cell value = bytes_of 4 tag ++ bytes_of 2 cell ++ (0 ∷ 0 ∷ []) ++ value

unfoldable pub tag_of : Row → ℕ
tag_of r = number (part 0 4 r)

unfoldable pub cell_of : Row → ℕ
cell_of r = number (part 4 2 r)

unfoldable pub value_of : Row → List ℕ
value_of r = part 8 16 r

-- the row with another value
unfoldable pub with_value : List ℕ → Row → Row
with_value v r = spliced 8 v r

-- ---- "Committed buffer: 8-byte rows, commit number then tag, 4 bytes each."

unfoldable pub commit_row : ℕ → ℕ → Row
commit_row n tag = bytes_of 4 n ++ bytes_of 4 tag

unfoldable pub commit_number : Row → ℕ
commit_number c = number (part 0 4 c)

unfoldable pub commit_tag : Row → ℕ
commit_tag c = number (part 4 4 c)

-- ---- rows in a buffer

-- row i of width w
unfoldable pub row_at : ℕ → ℕ → List ℕ → Row
row_at w i s = part (w * i) w s

-- "Rows in use are the first ones of each buffer": the first n rows of width w
unfoldable pub rows_in : ℕ → ℕ → List ℕ → List Row
rows_in w zero s = []
rows_in w (suc n) s = take w s ∷ rows_in w n (drop w s)

-- of a data buffer, and of a committed buffer
abbrev pub data_rows_in : ℕ → List ℕ → List Row
data_rows_in n d = rows_in data_width n d

abbrev pub commit_rows_in : ℕ → List ℕ → List Row
commit_rows_in n c = rows_in commit_width n c

-- those from row i on
unfoldable pub rows_from : ℕ → ℕ → ℕ → List ℕ → List Row
rows_from w n i s = rows_in w (n - i) (drop (w * i) s)

-- A buffer in which n rows of width w were in use, and now the rows rs are: these rows, zero in the rows that were freed, and the bytes
-- behind as they were. "In each buffer new rows go in directly behind the last one in use. After any removal the others close up in their
-- order and freed bytes become zero."
unfoldable pub layout : ℕ → ℕ → List Row → List ℕ → List ℕ
layout w n rs s = flatten rs ++ replicate (w * (n - length rs)) 0 ++ drop (w * (length rs + (n - length rs))) s

-- ---- rows by a test

-- the rows that pass, in their order
unfoldable pub filter : (Row → Bool) → List Row → List Row
filter p [] = []
filter p (r ∷ rs) = if p r then (r ∷ filter p rs) else filter p rs

-- a data row of that transaction
unfoldable pub has_tag : ℕ → Row → Bool
has_tag tag r = eqb (tag_of r) tag
