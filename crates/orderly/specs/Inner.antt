-- What the contracts of inner functions need beyond the words of the papers: nobody has to believe it.
-- Assumes nothing.
use Rattle.std.specs.Prelude.{ℕ, suc, ◌+◌, ◌*◌, ◌-◌, ◌%◌, ◌≤◌, ◌<◌, ◌≡◌, List, [], ◌∷◌, length, get_or, eqb, Bool, true, false}
use Rattle.std.specs.Prelude.{if◌then◌else◌}
use Rattle.spec.specs.Rows.{data_width, commit_width, data_rows_in, commit_rows_in, Row, row_at, tag_of, cell_of, commit_number, commit_tag, rows_from}
use Rattle.search.specs.Inner.{Next}
use Rattle.places.specs.Inner.{place}
use Rattle.spec.specs.Share.{wrote}
use Rattle.spec.specs.Orderly.{orderly_rows}

-- ---- Chains of rows by their places, for the inner functions' promises.

-- Of n rows those from i on are linked: heads has the first one of each place, and nexts, of each row that has a place, the next one of its place;
-- n stands for none. `key k` is the place of row k, among p; a row with a larger key has no place.
pub record Linked (p : ℕ) (key : ℕ → ℕ) (n i : ℕ) (heads nexts : List ℕ) : Type 0 where
  pub size : length heads ≡ p
  pub room : length nexts ≡ 1024
  pub head : (x : ℕ) → x < p → Next (λ k. key k ≡ x) i n (get_or heads x 0)
  pub next : (k : ℕ) → i ≤ k → k < n → key k < p → Next (λ j. key j ≡ key k) (k + 1) n (get_or nexts k 0)

-- Row k, whose place is x, is put in front of the rows behind it, whatever the places of the others are, and however many there are.
pub record Links (x k : ℕ) (heads nexts heads' nexts' : List ℕ) : Type 0 where
  pub one : (p : ℕ) (key : ℕ → ℕ) (n : ℕ) → k < n → key k ≡ x → Linked p key n (k + 1) heads nexts → Linked p key n k heads' nexts'

-- A walk over the rows whose place is x has come to row i: the row itself is one, where there is one, and from each such row on nexts leads to the
-- next.
pub record Chain (key : ℕ → ℕ) (n : ℕ) (nexts : List ℕ) (x i : ℕ) : Type 0 where
  pub end : i ≤ n
  pub here : i < n → key i ≡ x
  pub next : (k : ℕ) → i ≤ k → k < n → key k ≡ x → Next (λ j. key j ≡ x) (k + 1) n (get_or nexts k 0)

-- ---- the places that rows are linked by

-- committed row k of c by its tag
abbrev pub tag_place : List ℕ → ℕ → ℕ
tag_place c k = place (commit_tag (row_at commit_width k c))

-- the first committed row with that tag, as many as there are where no one has it
unfoldable pub entry_of : ℕ → List Row → ℕ
entry_of tag [] = 0
entry_of tag (c ∷ cs) = if eqb (commit_tag c) tag then 0 else suc (entry_of tag cs)

-- data row k of s by the committed row of its tag, of m in c; m where its transaction is not committed
abbrev pub row_entry : ℕ → List ℕ → List ℕ → ℕ → ℕ
row_entry m c s k = entry_of (tag_of (row_at data_width k s)) (commit_rows_in m c)

-- places for committed rows by their numbers, at most 1,024, and one for none
abbrev pub entry_places : ℕ
entry_places = 1040

-- the data rows, all linked by their committed rows
abbrev pub RowsLinked : ℕ → ℕ → List ℕ → List ℕ → List ℕ → List ℕ → Type 0
RowsLinked n m s c firsts follows = Linked entry_places (row_entry m c s) n 0 firsts follows

-- ---- committed rows whose tags rise with their numbers

-- committed row k + 1 of c has a larger number and a larger tag than row k
pub record Rises (c : List ℕ) (k : ℕ) : Type 0 where
  pub number : commit_number (row_at commit_width k c) < commit_number (row_at commit_width (k + 1) c)
  pub tag : commit_tag (row_at commit_width k c) < commit_tag (row_at commit_width (k + 1) c)

-- so it is of each of m committed rows and the next
abbrev pub TagsRise : ℕ → List ℕ → Type 0
TagsRise m c = (k : ℕ) → k + 1 < m → Rises c k

-- the committed row before row `at` has that tag
pub record IsBelow (c : List ℕ) (at tag : ℕ) : Type 0 where
  pub some : 0 < at
  pub tag_is : commit_tag (row_at commit_width (at - 1) c) ≡ tag

-- ---- rows that are not committed

-- the place of a tag and a cell together, by the tag's place
unfoldable pub pair_place : ℕ → ℕ → ℕ
pair_place x cell = (x + cell * 611) % 1024

-- data row k of s by its tag and cell where its transaction is not committed, which flags say; the others have no place
abbrev pub open_place : List ℕ → List ℕ → ℕ → ℕ
open_place flags s k = if eqb (get_or flags k 0) 1 then pair_place (place (tag_of (row_at data_width k s))) (cell_of (row_at data_width k s)) else 1024

-- data rows of one tag have the same flag
pub record Alike (n : ℕ) (s flags : List ℕ) : Type 0 where
  pub size : length flags ≡ 1024
  pub each : (i k : ℕ) → i < n → k < n → tag_of (row_at data_width i s) ≡ tag_of (row_at data_width k s) → get_or flags i 0 ≡ get_or flags k 0

-- A walk over a chain that meets every row of that tag and cell from row i on.
pub record PairWalk (n : ℕ) (s nexts : List ℕ) (tag cell i : ℕ) : Type 0 where
  pub key : ℕ → ℕ
  pub at : ℕ
  pub chain : Chain key n nexts at i
  pub meets : (k : ℕ) → k < n → (key k ≡ at → ⊥) → tag_of (row_at data_width k s) ≡ tag → cell_of (row_at data_width k s) ≡ cell → ⊥

-- ---- Single data rows that are orderly, for the inner functions' promises.

-- a data row of a cell below 1,024 that no later row of its tag has too
pub record Sole (n : ℕ) (s : List ℕ) (k : ℕ) : Type 0 where
  pub small : cell_of (row_at data_width k s) < 1024
  pub alone : wrote (rows_from data_width n (k + 1) s) (tag_of (row_at data_width k s)) (cell_of (row_at data_width k s)) ≡ false

-- What the test of the rows that are not committed says, which are those of place x. They are plain, or not all rows of s are orderly.
pub record OpenTest (key : ℕ → ℕ) (x n : ℕ) (s : List ℕ) (r : Bool) : Type 0 where
  pub plain : r ≡ true → (k : ℕ) → k < n → key k ≡ x → Sole n s k
  pub not_plain : r ≡ false → orderly_rows (data_rows_in n s) ≡ false

-- ---- the rows of one place, walked from the first one on

-- the rows of place x, of n, from the first of them on
pub record Walk (key : ℕ → ℕ) (x n : ℕ) (follows : List ℕ) (first : ℕ) : Type 0 where
  pub start : Next (λ k. key k ≡ x) 0 n first
  pub chain : Chain key n follows x first

-- the same, where the rows of one tag have one place
pub record TagWalk (key : ℕ → ℕ) (x n : ℕ) (s follows : List ℕ) (first : ℕ) : Type 0 where
  pub walk : Walk key x n follows first
  pub alike : (i k : ℕ) → i < n → k < n → tag_of (row_at data_width i s) ≡ tag_of (row_at data_width k s) → key i ≡ key k

-- by some keys
pub record SomeWalk (n : ℕ) (follows : List ℕ) (first : ℕ) : Type 0 where
  pub key : ℕ → ℕ
  pub at : ℕ
  pub walk : Walk key at n follows first

pub record SomeTagWalk (n : ℕ) (s follows : List ℕ) (first : ℕ) : Type 0 where
  pub key : ℕ → ℕ
  pub at : ℕ
  pub walk : TagWalk key at n s follows first

-- flags that are 1 for the rows of place x and 0 for the others
pub record PlaceFlags (key : ℕ → ℕ) (x n : ℕ) (flags : List ℕ) : Type 0 where
  pub size : length flags ≡ 1024
  pub each : (k : ℕ) → k < n → get_or flags k 0 ≡ (if eqb (key k) x then 1 else 0)
