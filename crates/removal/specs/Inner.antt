-- What the contracts of inner functions need beyond the words of the papers: nobody has to believe it.
-- Assumes nothing.
use Rattle.std.specs.Prelude.{ℕ, ◌+◌, ◌*◌, ◌≤◌, ◌<◌, ◌≡◌, Bool, not, length, get_or, drop, eqb}
use Rattle.std.specs.Borrow.{Bor}
use mathlib.Core.List.{List, [], ◌∷◌, ◌++◌, flatten}
use Rattle.std.specs.Prelude.{if◌then◌else◌}
use Rattle.spec.specs.Rows.{rows_in, Row, row_at, layout, has_tag}

-- ---- Rows that are kept by flags, for the inner functions' promises.

-- of rows numbered from i on, those whose flag is not 0
unfoldable pub kept_from : List ℕ → ℕ → List Row → List Row
kept_from flags i [] = []
kept_from flags i (r ∷ rs) = if eqb (get_or flags i 0) 0 then kept_from flags (i + 1) rs else (r ∷ kept_from flags (i + 1) rs)

-- of rows numbered from i on, those that pass a test of number and row
unfoldable pub kept_by : (ℕ → Row → Bool) → ℕ → List Row → List Row
kept_by p i [] = []
kept_by p i (r ∷ rs) = if p i r then (r ∷ kept_by p (i + 1) rs) else kept_by p (i + 1) rs

-- a call that is lent the row answers, for the first n rows of width w, what p says
abbrev pub Says : (ℕ → Bor (List ℕ) → Bool → Type 0) → (ℕ → Row → Bool) → ℕ → ℕ → Type 0
Says post p w n = (k : ℕ) (row : Bor (List ℕ)) (b : Bool) → k < n → length row.now ≡ w → post k row b → b ≡ p k row.now

-- a data row of another transaction
unfoldable pub other_tag : ℕ → Row → Bool
other_tag tag r = not (has_tag tag r)

-- flags that keep the rows that pass a test
pub record Flags (p : Row → Bool) (w n : ℕ) (s flags : List ℕ) : Type 0 where
  pub size : length flags ≡ 1024
  pub each : (k : ℕ) → k < n → get_or flags k 0 ≡ (if p (row_at w k s) then 1 else 0)

-- a buffer s of n rows has become s', with the n' rows rs in use
pub record Left (w n : ℕ) (rs : List Row) (s s' : List ℕ) (n' : ℕ) : Type 0 where
  pub rows : n' ≡ length rs
  pub bytes : s' ≡ layout w n rs s

-- of n rows of width w in s the r rows rs have come to the front of s', and the bytes from row r on are as they were
pub record InFront (w n : ℕ) (rs : List Row) (s s' : List ℕ) (r : ℕ) : Type 0 where
  pub rows : r ≡ length rs
  pub fewer : r ≤ n
  pub bytes : s' ≡ flatten rs ++ drop (w * r) s

-- of n rows of width w in s those from row r on are freed in s': the others are what is left, whatever buffer s₀ they come from
pub record Freed (w n r : ℕ) (s s' : List ℕ) : Type 0 where
  pub left : (rs : List Row) (s₀ : List ℕ) → InFront w n rs s₀ s r → length s ≡ length s₀ → Left w n rs s₀ s' r

-- of n rows of width w in s those whose flag is not 0 are left in s', r of them
abbrev pub FlaggedLeft : ℕ → ℕ → List ℕ → List ℕ → List ℕ → ℕ → Type 0
FlaggedLeft w n flags s s' r = Left w n (kept_from flags 0 (rows_in w n s)) s s' r
