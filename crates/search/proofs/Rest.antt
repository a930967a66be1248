-- What a search that has come to row i has still to answer: `own_rest n i` is the transaction's row for a cell, or its count, where it has n rows
-- before i and none of them is of that cell.
-- Assumes nothing.
use Prim.Native.Nat.{ℕ, ◌+◌, ◌≤◌, ◌<◌}
use mathlib.Core.Path.{◌≡◌}
use mathlib.Core.List.{List}
use native.Mathlib.Nat.{add-zero, zero-add, add_assoc}
use Rattle.spec.specs.Rows.{tag_of, cell_of, has_tag, row_at, rows_in, rows_from}
use Rattle.spec.proofs.Rows.{rows_start}
use Rattle.search.specs.declared.Own.{Own}
use Rattle.search.specs.declared.Own.TheVariants.{Row as OwnRow, Rows as OwnRows}
use Rattle.spec.specs.Look.{is_own, find}
use Rattle.spec.specs.Share.{count}
use Rattle.search.specs.Inner.{row_or_count}
use Rattle.search.proofs.Folds.{own_yes, own_other_tag, own_other_cell, tag_yes, tag_no, find_hit, find_miss, find_end, count_hit}
use Rattle.search.proofs.Folds.{count_miss, count_end}

module _ (tag cell n : ℕ) (d : List ℕ) where
  pub own_rest : ℕ → ℕ → Own
  own_rest m i = row_or_count (find (is_own tag cell) i (rows_from 24 n i d)) (m + count (has_tag tag) (rows_from 24 n i d))

  pub own_start : row_or_count (find (is_own tag cell) 0 (rows_in 24 n d)) (count (has_tag tag) (rows_in 24 n d)) ≡ own_rest 0 0
  unfolding own_rest
  own_start = rw (rows_start 24 n d, zero-add)

  module _ (m i : ℕ) where
    pub own-skip : i < n → (tag_of (row_at 24 i d) ≡ tag → ⊥) → own_rest m i ≡ own_rest m (i + 1)
    unfolding own_rest
    own-skip h e =
        rw (
          find_miss (is_own tag cell) 24 n i d h (own_other_tag tag cell (row_at 24 i d) e),
          count_miss (has_tag tag) 24 n i d h
              (tag_no tag (row_at 24 i d) e),
        )

    pub own-found : i < n → tag_of (row_at 24 i d) ≡ tag → cell_of (row_at 24 i d) ≡ cell → own_rest m i ≡ OwnRow i
    unfolding own_rest
    own-found h e f = rw (find_hit (is_own tag cell) 24 n i d h (own_yes tag cell (row_at 24 i d) e f))

    pub own-other : i < n → tag_of (row_at 24 i d) ≡ tag → (cell_of (row_at 24 i d) ≡ cell → ⊥) → own_rest m i ≡ own_rest (m + 1) (i + 1)
    unfolding own_rest
    own-other h e f =
        rw (
          find_miss (is_own tag cell) 24 n i d h (own_other_cell tag cell (row_at 24 i d) f),
          count_hit (has_tag tag) 24 n i d h
              (tag_yes tag (row_at 24 i d) e),
          add_assoc,
        )

    pub own-end : n ≤ i → own_rest m i ≡ OwnRows m
    unfolding own_rest
    own-end h = rw (find_end (is_own tag cell) 24 n i d h, count_end (has_tag tag) 24 n i d h, add-zero)
