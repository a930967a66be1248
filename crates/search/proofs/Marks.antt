-- The marks of the cells below 1,024 that a transaction wrote, by its rows from row i on: from the last row to the first.
-- Assumes nothing.
use Prim.Native.Nat.{ℕ, ◌+◌, ◌≤◌, ◌<◌}
use mathlib.Core.Path.{◌≡◌, refl, sym, ap, ◌∙◌}
use mathlib.Core.Bool.{Bool, true, false}
use mathlib.Core.List.{List}
use native.Mathlib.Omega.{arith}
use lib.ListN.{length, get_or, set, replicate, length-set, length-replicate, get_or-replicate}
use lib.Seq.{get_or-set_same, get_or-set_other}
use lib.Dec.{eqb, ltb}
use borrow.Author.Tests.{eqb-true, eqb-false, lt-ltb, le-ltb, ltb-true}
use Rattle.std.specs.Prelude.{if◌then◌else◌}
use Rattle.spec.specs.Rows.{Row, tag_of, cell_of, row_at, rows_from}
use Rattle.spec.specs.Share.{wrote}
use Rattle.search.specs.Inner.{Last, WrittenMarks, may_have}
use Rattle.search.proofs.Passes.{carry_back}
use Rattle.search.proofs.Folds.{wrote_hit, wrote_miss, wrote_end}

-- a cell that by the marks the transaction cannot have written
pub row_unmarked : {marks : List Bool} {ds : List Row} {tag : ℕ} → WrittenMarks marks ds tag → (cell : ℕ) → (may_have marks cell ≡ true → ⊥)
    → wrote ds tag cell ≡ false
row_unmarked {marks = marks} {ds = ds} {tag = tag} m cell n = go (ltb cell 1024) refl n
  where
    off : (t : Bool) → (t ≡ true → ⊥) → t ≡ false
    off true n = absurd (n refl)
    off false n = refl

    go : (t : Bool) → ltb cell 1024 ≡ t → ((if t then get_or marks cell false else true) ≡ true → ⊥) → wrote ds tag cell ≡ false
    go true e n = off (wrote ds tag cell) (λ w. n (m.each cell (ltb-true cell 1024 e) ∙ w))
    go false e n = absurd (n refl)

-- what `mark` leaves
abbrev marks_written : List Bool → ℕ → List Bool
marks_written marks cell = if ltb cell 1024 then set marks cell true else marks

length_marked : (marks : List Bool) (cell : ℕ) → length marks ≡ 1024 → length (marks_written marks cell) ≡ 1024
length_marked marks cell h = go (ltb cell 1024)
  where
    go : (t : Bool) → length (if t then set marks cell true else marks) ≡ 1024
    go true = length-set marks cell true ∙ h
    go false = h

marked_same : (marks : List Bool) (cell x : ℕ) → length marks ≡ 1024 → x < 1024 → cell ≡ x → get_or (marks_written marks cell) x false ≡ true
marked_same marks cell x h l e = rw (e, lt-ltb x 1024 l) (get_or-set_same marks x true false (omega arith))

marked_other : (marks : List Bool) (cell x : ℕ) → (cell ≡ x → ⊥) → get_or (marks_written marks cell) x false ≡ get_or marks x false
marked_other marks cell x n = go (ltb cell 1024)
  where
    go : (t : Bool) → get_or (if t then set marks cell true else marks) x false ≡ get_or marks x false
    go true = get_or-set_other marks cell x true false (λ e. n (sym e))
    go false = refl

-- no row yet
pub marks_none : (tag n : ℕ) (s : List ℕ) (marks : List Bool) → marks ≡ replicate 1024 false → WrittenMarks marks (rows_from 24 n n s) tag
marks_none tag n s marks e =
    record {
      size = ap length e ∙ length-replicate {A = Bool} 1024 false;
      each = λ x l. ap (λ (m : List Bool). get_or m x false) e ∙ get_or-replicate 1024 x false false l ∙ rw (wrote_end tag x 24 n n s (omega arith));
    }

-- row i before those that the marks are of
module _ (tag n i : ℕ) (s : List ℕ) {marks : List Bool} (h : i < n) (m : WrittenMarks marks (rows_from 24 n (i + 1) s) tag) where
  -- a row of another transaction
  mark_miss : (tag_of (row_at 24 i s) ≡ tag → ⊥) → WrittenMarks marks (rows_from 24 n i s) tag
  mark_miss e = record { size = m.size; each = λ x l. m.each x l ∙ rw (wrote_miss tag x 24 n i s h e) }

  -- a row of the transaction
  module _ (e : tag_of (row_at 24 i s) ≡ tag) (cell : ℕ) (f : cell ≡ cell_of (row_at 24 i s)) where
    pub mark-hit : WrittenMarks (marks_written marks cell) (rows_from 24 n i s) tag
    mark-hit =
        record {
          size = length_marked marks cell m.size;
          each = λ x l. rw (wrote_hit tag x 24 n i s h e, ← f) (go x l (eqb cell x) refl);
        }
      where
        go : (x : ℕ) → x < 1024 → (t : Bool) → eqb cell x ≡ t
            → get_or (marks_written marks cell) x false ≡ (if t then true else wrote (rows_from 24 n (i + 1) s) tag x)
        go x l true q = marked_same marks cell x m.size l (eqb-true _ _ q)
        go x l false q = marked_other marks cell x (eqb-false _ _ q) ∙ m.each x l

    pub mark-low : cell < 1024 → WrittenMarks (set marks cell true) (rows_from 24 n i s) tag
    mark-low l = rw (lt-ltb cell 1024 l) at mark-hit

    pub mark-high : 1024 ≤ cell → WrittenMarks marks (rows_from 24 n i s) tag
    mark-high l = rw (le-ltb cell 1024 l) at mark-hit

-- the rows that a pass from the end goes by
pub marks_back : (tag n : ℕ) (s : List ℕ) {marks : List Bool} {i r : ℕ} → i ≤ n → Last (λ k. tag_of (row_at 24 k s) ≡ tag) i r
    → WrittenMarks marks (rows_from 24 n i s) tag → WrittenMarks marks (rows_from 24 n r s) tag
marks_back tag n s {marks = marks} h pass m =
    carry_back (λ k. WrittenMarks marks (rows_from 24 n k s) tag) pass (λ k l e w. mark_miss tag n k s (omega arith) w e) m
