-- What the contracts of inner functions need beyond the words of the papers: nobody has to believe it.
-- Assumes nothing.
use Rattle.std.specs.Prelude.{ℕ, suc, ◌*◌, ◌/◌, ◌%◌, ◌≤◌, ◌<◌, ◌≡◌, List, get_or}

-- a tag's place among 4,096: the multiplier is odd and near 2 ^ 32 divided by the golden ratio, so that tags in a row, or apart by equal steps, spread
unfoldable pub place : ℕ → ℕ
place tag = tag * 2654435769 / 1048576 % 4096

-- at each place, one more than the number of the first of n rows whose tag has that place, and 0 where there is none
pub record Places (tag : ℕ → ℕ) (n : ℕ) (places : List ℕ) : Type 0 where
  pub within : (x : ℕ) → get_or places x 0 ≤ n
  pub filled : (k : ℕ) → k < n → get_or places (place (tag k)) 0 ≡ 0 → ⊥
  pub first : (x k : ℕ) → suc k < get_or places x 0 → place (tag k) ≡ x → ⊥
