-- Of orderly committed rows any later one has a larger number and another tag; so a row stays just if its cell is not served from the committed row
-- behind its own on.
-- Assumes nothing.
use Rattle.spec.specs.Numbers.{Number}
use Rattle.std.specs.Prelude.{None, Some}
use Prim.Native.Nat.{ℕ, ◌+◌, ◌≤◌, ◌<◌}
use mathlib.Core.Path.{◌≡◌, refl, sym, ap}
use mathlib.Core.Bool.{Bool, true, not}
use mathlib.Core.List.{List}
use lib.Dec.{eqb, ltb, leb}
use native.Mathlib.Omega.{arith}
use native.Mathlib.Decide.{dec_lt}
use borrow.Author.Tests.{ltb-true, leb-true, eqb-true, lt-ltb, le-leb, eq-eqb}
use Rattle.spec.specs.Rows.{Row, row_at, rows_in, rows_from, tag_of, cell_of, commit_tag, commit_number}
use Rattle.spec.specs.Look.{commit_of, is_own}
use Rattle.spec.specs.Share.{any, wrote}
use Rattle.orderly.proofs.Order.{differ, both_ways, if_left, if_right, some_from, some_in, from_at, rise, row_number, by-commit}
use Rattle.search.proofs.Folds.{any_at, own_yes}
use Rattle.spec.specs.Trim.{between, later, overtaken, stays}
use Rattle.spec.specs.Orderly.{orderly_commits}
use Rattle.spec.specs.Marked.{marks_cell, marked}

module _ (m : ℕ) (c : List ℕ) (e : orderly_commits (rows_in 8 m c) ≡ true) where
  module _ (low n : ℕ) (s : List ℕ) (x j : ℕ) (h : j < m) where
    abbrev ds : List Row
    ds = rows_in 24 n s

    abbrev cs : List Row
    cs = rows_in 8 m c

    abbrev own : ℕ
    own = commit_number (row_at 8 j c)

    later-served : any (later cs low x own) ds ≡ true → marked low ds (rows_from 8 m (j + 1) c) x ≡ true
    unfolding later between marked marks_cell wrote
    later-served f = some_in (later cs low x own) 24 n s (marked low ds (rows_from 8 m (j + 1) c) x ≡ true) f row
      where
        behind : (k : ℕ) → k < m → own < commit_number (row_at 8 k c) → j + 1 ≤ k
        behind k g l = go (dec_lt j k) (dec_lt k j)
          where
            go : Dec (j < k) → Dec (k < j) → j + 1 ≤ k
            go (yes a) b = omega arith
            go (no a) (yes b) = absurd (omega (arith, rise m c e k j b h))
            go (no a) (no b) =
                let z : k ≡ j = omega (arith, a, b) in
                absurd (omega (arith, rw z at l))

        number : (i : ℕ) → i < n → cell_of (row_at 24 i s) ≡ x → (t : Number) → commit_of (tag_of (row_at 24 i s)) cs ≡ t → between own low t ≡ true
            → marked low ds (rows_from 8 m (j + 1) c) x ≡ true
        number i g q None y z = absurd (differ z refl)
        number i g q (Some v) y z =
            by-commit m c e (marked low ds (rows_from 8 m (j + 1) c) x ≡ true) (tag_of (row_at 24 i s)) v y
            (λ k l t u. from_at (marks_cell low ds x) 8 m c (j + 1) k
            (behind k l (rw u (ltb-true own v (if_left (ltb own v) (leb v low) z)))) l
            (rw (u, if_right (ltb own v) (leb v low) z) (any_at (is_own (commit_tag (row_at 8 k c)) x) 24 n s i g
            (own_yes (commit_tag (row_at 8 k c)) x (row_at 24 i s) (sym t) q))))

        row : (i : ℕ) → i < n → later cs low x own (row_at 24 i s) ≡ true → marked low ds (rows_from 8 m (j + 1) c) x ≡ true
        row i g q =
            let b : Bool = between own low (commit_of (tag_of (row_at 24 i s)) cs) in
            number i g (eqb-true (cell_of (row_at 24 i s)) x (if_left (eqb (cell_of (row_at 24 i s)) x) b q)) (commit_of (tag_of (row_at 24 i s)) cs) refl
            (if_right (eqb (cell_of (row_at 24 i s)) x) b q)

    served-later : marked low ds (rows_from 8 m (j + 1) c) x ≡ true → any (later cs low x own) ds ≡ true
    unfolding later between marked marks_cell wrote is_own
    served-later f = some_from (marks_cell low ds x) 8 m c (any (later cs low x own) ds ≡ true) (j + 1) f commit
      where
        row : (k : ℕ) → j + 1 ≤ k → k < m → commit_number (row_at 8 k c) ≤ low → (i : ℕ) → i < n → is_own (commit_tag (row_at 8 k c)) x (row_at 24 i s)
            ≡ true → any (later cs low x own) ds ≡ true
        row k l g b i r q =
            let t : tag_of (row_at 24 i s) ≡ commit_tag (row_at 8 k c) = eqb-true _ _
            (if_left (eqb (tag_of (row_at 24 i s)) (commit_tag (row_at 8 k c))) (eqb (cell_of (row_at 24 i s)) x) q) in
            let y : cell_of (row_at 24 i s) ≡ x = eqb-true _ _
            (if_right (eqb (tag_of (row_at 24 i s)) (commit_tag (row_at 8 k c))) (eqb (cell_of (row_at 24 i s)) x) q) in
            any_at (later cs low x own) 24 n s i r
            (rw (
              eq-eqb (cell_of (row_at 24 i s)) x y,
              row_number m c e k (tag_of (row_at 24 i s)) g (sym t),
              lt-ltb own (commit_number (row_at 8 k c))
                  (rise m c e j k (omega arith) g),
              le-leb (commit_number (row_at 8 k c)) low b,
            ))

        commit : (k : ℕ) → j + 1 ≤ k → k < m → marks_cell low ds x (row_at 8 k c) ≡ true → any (later cs low x own) ds ≡ true
        commit k l g q =
            let b : Bool = any (is_own (commit_tag (row_at 8 k c)) x) ds in
            some_in (is_own (commit_tag (row_at 8 k c)) x) 24 n s (any (later cs low x own) ds ≡ true)
            (if_right (leb (commit_number (row_at 8 k c)) low) b q)
            (row k l g (leb-true _ _ (if_left (leb (commit_number (row_at 8 k c)) low) b q)))

    -- a row of committed row j stays just if its cell is not served from the next one on
    pub stays-served : (r : Row) → tag_of r ≡ commit_tag (row_at 8 j c) → cell_of r ≡ x
        → stays low ds cs r ≡ not (marked low ds (rows_from 8 m (j + 1) c) x)
    unfolding stays overtaken
    stays-served r t q =
        rw (row_number m c e j (tag_of r) h (sym t), q) (ap not (both_ways (any (later cs low x own) ds)
        (marked low ds (rows_from 8 m (j + 1) c) x) later-served served-later))
