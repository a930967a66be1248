-- What the contracts of inner functions need beyond the words of the papers: nobody has to believe it.
-- Assumes nothing.
use Rattle.std.specs.Prelude.{ℕ, ◌-◌, ◌≤◌, ◌<◌, ◌≡◌, List, length, get_or, Bool, true, false, ◌&&◌, ◌||◌, eqb, ltb, None, Some}
use Rattle.std.specs.Prelude.{if◌then◌else◌}
use Rattle.spec.specs.Set.{clients, member, collect}
use Rattle.spec.specs.Look.{is_own, find, Found}
use Rattle.spec.specs.Share.{count, shares, wrote}
use Rattle.spec.specs.Rows.{has_tag, Row}
use Rattle.search.specs.declared.Own.{Own}
use Rattle.search.specs.declared.Own.TheVariants.{Row as OwnRow, Rows as OwnRows}

-- ---- What a pass over rows finds, for the inner functions' promises.

-- r is the first number from `from` on, and below n, that is a hit, or n where there is none
pub record Next (Hit : ℕ → Type 0) (from n r : ℕ) : Type 0 where
  pub start : from ≤ r
  pub end : r ≤ n
  pub misses : (k : ℕ) → from ≤ k → k < r → Hit k → ⊥
  pub hit : r < n → Hit r

-- r is 1 more than the last number below n that is a hit, or 0 where there is none
pub record Last (Hit : ℕ → Type 0) (n r : ℕ) : Type 0 where
  pub end : r ≤ n
  pub misses : (k : ℕ) → r ≤ k → k < n → Hit k → ⊥
  pub hit : 0 < r → Hit (r - 1)

-- The same of a test's answers, for the passes that any test is passed to: what is said of each number is what the test may
-- answer there.
pub record FirstBy (Answers : ℕ → Bool → Type 0) (from n r : ℕ) : Type 0 where
  pub start : from ≤ r
  pub end : r ≤ n
  pub misses : (k : ℕ) → from ≤ k → k < r → Answers k false
  pub hit : r < n → Answers r true

pub record LastBy (Answers : ℕ → Bool → Type 0) (n r : ℕ) : Type 0 where
  pub end : r ≤ n
  pub misses : (k : ℕ) → r ≤ k → k < n → Answers k false
  pub hit : 0 < r → Answers (r - 1) true

-- marks say of each cell below 1,024 whether the transaction wrote it
pub record WrittenMarks (marks : List Bool) (ds : List Row) (tag : ℕ) : Type 0 where
  pub size : length marks ≡ 1024
  pub each : (x : ℕ) → x < 1024 → get_or marks x false ≡ wrote ds tag x

-- whether by the marks the transaction may have written the cell: one above 1,023 has no mark
abbrev pub may_have : List Bool → ℕ → Bool
may_have marks cell = if ltb cell 1024 then get_or marks cell false else true

-- where the transaction's row for a cell is, or how many rows it has
abbrev pub row_or_count : Found → ℕ → Own
row_or_count (Some i) n = OwnRow i
row_or_count None n = OwnRows n

abbrev pub own_of : ℕ → ℕ → List Row → Own
own_of tag cell ds = row_or_count (find (is_own tag cell) 0 ds) (count (has_tag tag) ds)

-- those of the queued clients, with these numbers, that share a cell with the transaction
abbrev pub sharers_of : ℕ → ℕ → List ℕ → List Row → ℕ
sharers_of queued tag numbers ds = collect (λ j. member queued j && shares ds tag (get_or numbers j 0)) clients

-- the queued clients whose number is the tag have joined those found
abbrev pub Joined : ℕ → ℕ → List ℕ → ℕ → ℕ → Type 0
Joined found queued numbers tag r = (j : ℕ) → member r j ≡ (member found j || (member queued j && eqb (get_or numbers j 0) tag))
