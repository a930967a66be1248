-- One row that is not committed. A walk over the rows behind it, which meets every one of its tag and cell, says whether it is the only one.
-- Assumes nothing.
use Prim.Native.Nat.{ℕ, ◌+◌, ◌≤◌, ◌<◌}
use mathlib.Core.Path.{◌≡◌, refl, sym, ◌∙◌}
use mathlib.Core.Bool.{Bool, true, false}
use mathlib.Core.List.{List}
use native.Mathlib.Omega.{arith}
use Rattle.spec.specs.Rows.{row_at, rows_in, rows_from, tag_of, cell_of}
use Rattle.spec.specs.Share.{wrote}
use Rattle.spec.specs.Orderly.{orderly_rows}
use Rattle.search.specs.Inner.{Next}
use Rattle.orderly.specs.Inner.{PairWalk, Sole, OpenTest}
use Rattle.orderly.proofs.Walks.{pair_skip}
use Rattle.orderly.proofs.Order.{differ, displain, plain_large, plain_twice}

-- row k, its tag and its cell, and the walk over the rows behind it, of which r is the first
pub record RowWalk (n : ℕ) (s nexts : List ℕ) (k tag cell r : ℕ) : Type 0 where
  pub here : k < n
  pub tag_is : tag ≡ tag_of (row_at 24 k s)
  pub cell_is : cell ≡ cell_of (row_at 24 k s)
  pub walk : PairWalk n s nexts tag cell r
  pub next : Next (λ j. walk.key j ≡ walk.at) (k + 1) n r

module _ {n : ℕ} {s nexts : List ℕ} {k tag cell r : ℕ} (row : RowWalk n s nexts k tag cell r) {b : Bool}
    (again : b ≡ wrote (rows_from 24 n r s) tag cell) where
  twice : wrote (rows_from 24 n (k + 1) s) (tag_of (row_at 24 k s)) (cell_of (row_at 24 k s)) ≡ b
  twice = rw (← row.tag_is, ← row.cell_is) (pair_skip row.walk row.next ∙ sym again)

  pub row_twice : b ≡ true → orderly_rows (rows_in 24 n s) ≡ false
  row_twice q = displain n s k (omega (arith, row.here)) (plain_twice n s k row.here (twice ∙ q))

  pub row_sole : cell < 1024 → b ≡ false → Sole n s k
  row_sole c q = record { small = rw (← row.cell_is) c; alone = twice ∙ q }

-- ---- what the test says at its end

module _ {key : ℕ → ℕ} {x n : ℕ} {s : List ℕ} where
  pub open_passes : ((k : ℕ) → k < n → key k ≡ x → Sole n s k) → OpenTest key x n s true
  open_passes all = record { plain = λ e. all; not_plain = λ e. absurd (differ refl e) }

  pub open_fails : orderly_rows (rows_in 24 n s) ≡ false → OpenTest key x n s false
  open_fails f = record { plain = λ e. absurd (differ e refl); not_plain = λ e. f }

  -- a row with a large cell
  pub open_large : (k : ℕ) {cell : ℕ} → k < n → cell ≡ cell_of (row_at 24 k s) → 1024 ≤ cell → OpenTest key x n s false
  open_large k h e l = open_fails (displain n s k (omega arith) (plain_large n s k h (omega arith)))
