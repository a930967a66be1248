-- What one pass over the rows says of the row that a Write looks for.
-- Assumes nothing.
use Rattle.std.specs.Prelude.{None, Some}
use Prim.Native.Nat.{ℕ, ◌<◌}
use mathlib.Core.Path.{◌≡◌, refl, sym, ap, ◌∙◌}
use mathlib.Core.List.{List}
use native.Mathlib.Omega.{arith}
use Rattle.spec.specs.Rows.{Row, rows_in, has_tag}
use Rattle.spec.proofs.Rows.{length_rows}
use Rattle.spec.specs.Look.{is_own, find, Found}
use Rattle.spec.specs.Share.{count}
use Rattle.search.specs.declared.Own.{Own}
use Rattle.search.specs.declared.Own.TheVariants.{Row as OwnRow, Rows as OwnRows}
use Rattle.search.specs.Inner.{row_or_count, own_of}
use Rattle.search.proofs.Below.{find_below}
use Rattle.record.proofs.Leaves.{left_by_calls}

-- the row, if it was found
abbrev pub row_of : Own → Found
row_of (OwnRow j) = Some j
row_of (OwnRows n) = None

pub found_own : (t x : ℕ) (ds : List Row) → find (is_own t x) 0 ds ≡ row_of (own_of t x ds)
found_own t x ds = go (find (is_own t x) 0 ds) (count (has_tag t) ds)
  where
    go : (f : Found) (n : ℕ) → f ≡ row_of (row_or_count f n)
    go (Some j) n = refl
    go None n = refl

pub ruleset written_rows = (left_by_calls, found_own)

-- a row that was found is in use
pub found_below : (t x n : ℕ) (d : List ℕ) (j : ℕ) → OwnRow j ≡ own_of t x (rows_in 24 n d) → j < n
found_below t x n d j e =
    let f : find (is_own t x) 0 (rows_in 24 n d) ≡ Some j = found_own t x (rows_in 24 n d) ∙ ap row_of (sym e) in
    omega (arith, find_below (is_own t x) 0 j (rows_in 24 n d) f, length_rows 24 n d)

-- where none was found, the transaction's rows were counted
pub counted : (t x : ℕ) (ds : List Row) (n : ℕ) → OwnRows n ≡ own_of t x ds → n ≡ count (has_tag t) ds
counted t x ds n = go (find (is_own t x) 0 ds) (count (has_tag t) ds)
  where
    go : (f : Found) (m : ℕ) → OwnRows n ≡ row_or_count f m → n ≡ m
    go (Some j) m e = cc
    go None m e = cc
