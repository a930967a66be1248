-- Folds over the rows from row i on: what a row that counts adds, that a row that does not count may be left out, and that past the last row there is
-- nothing.
-- What holds of the rows from the last on, and of those from i on where it holds of those from i + 1 on, holds of all (`to_start`).
-- Assumes nothing.
use Prim.Native.Nat.{ℕ, zero, suc, ◌+◌, ◌≤◌, ◌<◌}
use mathlib.Core.Path.{◌≡◌, refl, ◌∙◌}
use mathlib.Core.Bool.{Bool, true, false}
use mathlib.Core.List.{List, [], ◌∷◌}
use native.Mathlib.Numerals.{add-one}
use native.Mathlib.Omega.{arith}
use lib.Dec.{eqb}
use borrow.Author.Tests.{eq-eqb, ne_eqb}
use Rattle.std.specs.Prelude.{if◌then◌else◌, None, Some}
use Rattle.spec.specs.Rows.{Row, tag_of, cell_of, has_tag, commit_number, commit_tag, row_at, rows_in, rows_from}
use Rattle.spec.proofs.Rows.{rows_start, rows_step, rows_end}
use Rattle.spec.specs.Look.{commit_of, is_own, find}
use Rattle.spec.specs.Share.{any, count, wrote, cells_of}

-- ---- choices

pub if_same : {A : Type 0} (b : Bool) (x : A) → (if b then x else x) ≡ x
if_same true x = refl
if_same false x = refl

pub if_itself : (b : Bool) → (if b then true else false) ≡ b
if_itself true = refl
if_itself false = refl

-- ---- tests of a row

pub own_yes : (tag cell : ℕ) (r : Row) → tag_of r ≡ tag → cell_of r ≡ cell → is_own tag cell r ≡ true
unfolding is_own
own_yes tag cell r e f = rw (eq-eqb _ _ e, eq-eqb _ _ f)

pub own_other_tag : (tag cell : ℕ) (r : Row) → (tag_of r ≡ tag → ⊥) → is_own tag cell r ≡ false
unfolding is_own
own_other_tag tag cell r n = rw (ne_eqb _ _ n)

own_tag : (tag cell : ℕ) (r : Row) → tag_of r ≡ tag → is_own tag cell r ≡ eqb (cell_of r) cell
unfolding is_own
own_tag tag cell r e = rw (eq-eqb _ _ e)

pub own_other_cell : (tag cell : ℕ) (r : Row) → (cell_of r ≡ cell → ⊥) → is_own tag cell r ≡ false
unfolding is_own
own_other_cell tag cell r n = rw (ne_eqb _ _ n) (if_same (eqb (tag_of r) tag) false)

pub tag_yes : (tag : ℕ) (r : Row) → tag_of r ≡ tag → has_tag tag r ≡ true
unfolding has_tag
tag_yes tag r e = eq-eqb _ _ e

pub tag_no : (tag : ℕ) (r : Row) → (tag_of r ≡ tag → ⊥) → has_tag tag r ≡ false
unfolding has_tag
tag_no tag r n = ne_eqb _ _ n

-- ---- folds by a test

pub to_start : (P : ℕ → Type 0) (n : ℕ) → P n → ((i : ℕ) → i < n → P (i + 1) → P i) → P 0
to_start P zero last step = last
to_start P (suc n) last step = to_start P n (step n (omega arith) (rw (add-one n) last)) (λ i h. step i (omega arith))

module _ (p : Row → Bool) (w n i : ℕ) (s : List ℕ) where
  pub any_step : i < n → any p (rows_from w n i s) ≡ (if p (row_at w i s) then true else any p (rows_from w n (i + 1) s))
  unfolding any
  any_step h = rw (rows_step w n i s h)

  pub any_end : n ≤ i → any p (rows_from w n i s) ≡ false
  unfolding any
  any_end h = rw (rows_end w n i s h)

  pub find_hit : i < n → p (row_at w i s) ≡ true → find p i (rows_from w n i s) ≡ Some i
  unfolding find
  find_hit h e = rw (rows_step w n i s h, e)

  pub find_miss : i < n → p (row_at w i s) ≡ false → find p i (rows_from w n i s) ≡ find p (i + 1) (rows_from w n (i + 1) s)
  unfolding find
  find_miss h e = rw (rows_step w n i s h, e)

  pub find_end : n ≤ i → find p i (rows_from w n i s) ≡ None
  unfolding find
  find_end h = rw (rows_end w n i s h)

  pub count_hit : i < n → p (row_at w i s) ≡ true → count p (rows_from w n i s) ≡ 1 + count p (rows_from w n (i + 1) s)
  unfolding count
  count_hit h e = rw (rows_step w n i s h, e)

  pub count_miss : i < n → p (row_at w i s) ≡ false → count p (rows_from w n i s) ≡ count p (rows_from w n (i + 1) s)
  unfolding count
  count_miss h e = rw (rows_step w n i s h, e) (omega arith)

  pub count_end : n ≤ i → count p (rows_from w n i s) ≡ 0
  unfolding count
  count_end h = rw (rows_end w n i s h)

module _ (p : Row → Bool) (w n : ℕ) (s : List ℕ) where
  -- a row passes
  pub any_at : (k : ℕ) → k < n → p (row_at w k s) ≡ true → any p (rows_in w n s) ≡ true
  any_at k h e =
      rw (rows_start w n s)
      (to_start (λ i. any p (rows_from w n i s) ≡ true) k (any_step p w n k s h ∙ rw e)
      (λ i l rest. any_step p w n i s (omega arith) ∙ rw rest (if_same (p (row_at w i s)) true)))

  -- no row passes
  pub any_none : ((k : ℕ) → k < n → p (row_at w k s) ≡ false) → any p (rows_in w n s) ≡ false
  any_none h =
      rw (rows_start w n s)
      (to_start (λ i. any p (rows_from w n i s) ≡ false) n (any_end p w n n s (omega arith)) (λ i l rest. any_step p w n i s l ∙ rw (h i l, rest)))

-- ---- the first committed row with a tag

module _ (tag n : ℕ) (s : List ℕ) where
  pub commit_miss : (i : ℕ) → i < n → (commit_tag (row_at 8 i s) ≡ tag → ⊥) → commit_of tag (rows_from 8 n i s) ≡ commit_of tag (rows_from 8 n (i + 1) s)
  unfolding commit_of
  commit_miss i h ne = rw (rows_step 8 n i s h, ne_eqb _ _ ne)

  pub commit_hit : (i : ℕ) → i < n → commit_tag (row_at 8 i s) ≡ tag → commit_of tag (rows_from 8 n i s) ≡ Some (commit_number (row_at 8 i s))
  unfolding commit_of
  commit_hit i h e = rw (rows_step 8 n i s h, eq-eqb _ _ e)

  pub commit_end : commit_of tag (rows_from 8 n n s) ≡ None
  unfolding commit_of
  commit_end = rw (rows_end 8 n n s (omega arith))

  pub commit_none : ((k : ℕ) → k < n → commit_tag (row_at 8 k s) ≡ tag → ⊥) → commit_of tag (rows_in 8 n s) ≡ None
  commit_none h =
      rw (rows_start 8 n s) (to_start (λ i. commit_of tag (rows_from 8 n i s) ≡ None) n commit_end (λ i l rest. commit_miss i l (h i l) ∙ rest))

  pub commit_first : (k : ℕ) → k < n → commit_tag (row_at 8 k s) ≡ tag → ((j : ℕ) → j < k → commit_tag (row_at 8 j s) ≡ tag → ⊥)
      → commit_of tag (rows_in 8 n s) ≡ Some (commit_number (row_at 8 k s))
  commit_first k h e before =
      rw (rows_start 8 n s)
      (to_start (λ i. commit_of tag (rows_from 8 n i s) ≡ Some (commit_number (row_at 8 k s))) k (commit_hit k h e)
      (λ i l rest. commit_miss i (omega arith) (before i l) ∙ rest))

-- ---- how many cells

module _ (tag w n i : ℕ) (s : List ℕ) where
  pub cells_hit : i < n → tag_of (row_at w i s) ≡ tag
      → cells_of tag (rows_from w n i s) ≡ (if wrote (rows_from w n (i + 1) s) tag (cell_of (row_at w i s)) then 0 else 1) + cells_of tag
      (rows_from w n (i + 1) s)
  unfolding cells_of
  cells_hit h e = rw (rows_step w n i s h, tag_yes tag (row_at w i s) e)

  -- a row adds at most one
  pub last_one : (if wrote (rows_from w n (i + 1) s) tag (cell_of (row_at w i s)) then 0 else 1) ≤ 1
  last_one = go (wrote (rows_from w n (i + 1) s) tag (cell_of (row_at w i s)))
    where
      go : (t : Bool) → (if t then 0 else 1) ≤ 1
      go true = omega arith
      go false = omega arith

  pub cells_miss : i < n → (tag_of (row_at w i s) ≡ tag → ⊥) → cells_of tag (rows_from w n i s) ≡ cells_of tag (rows_from w n (i + 1) s)
  unfolding cells_of
  cells_miss h e = rw (rows_step w n i s h, tag_no tag (row_at w i s) e) (omega arith)

  pub cells_end : n ≤ i → cells_of tag (rows_from w n i s) ≡ 0
  unfolding cells_of
  cells_end h = rw (rows_end w n i s h)

-- no more cells than rows
pub cells_fewer : (tag : ℕ) (rs : List Row) → cells_of tag rs ≤ count (has_tag tag) rs
unfolding cells_of count
cells_fewer tag [] = omega arith
cells_fewer tag (r ∷ rs) = go (has_tag tag r) (wrote rs tag (cell_of r)) (cells_fewer tag rs)
  where
    go : (t u : Bool) → cells_of tag rs ≤ count (has_tag tag) rs
        → (if t then (if u then 0 else 1) else 0) + cells_of tag rs ≤ (if t then 1 else 0) + count (has_tag tag) rs
    go true true h = omega arith
    go true false h = omega arith
    go false u h = omega arith

-- ---- whether the transaction wrote a cell

module _ (tag cell w n i : ℕ) (s : List ℕ) where
  pub wrote_hit : i < n → tag_of (row_at w i s) ≡ tag
      → wrote (rows_from w n i s) tag cell ≡ (if eqb (cell_of (row_at w i s)) cell then true else wrote (rows_from w n (i + 1) s) tag cell)
  unfolding wrote any
  wrote_hit h e = rw (rows_step w n i s h, own_tag tag cell (row_at w i s) e)

  pub wrote_miss : i < n → (tag_of (row_at w i s) ≡ tag → ⊥) → wrote (rows_from w n i s) tag cell ≡ wrote (rows_from w n (i + 1) s) tag cell
  unfolding wrote
  wrote_miss h e = any_step (is_own tag cell) w n i s h ∙ rw (own_other_tag tag cell (row_at w i s) e)

  pub wrote_end : n ≤ i → wrote (rows_from w n i s) tag cell ≡ false
  unfolding wrote
  wrote_end h = any_end (is_own tag cell) w n i s h
