-- The rows that a trim keeps, by the numbers of all rows and the newest number up to low of each cell. A row goes where its number is below
-- the newest of its cell: what is wanted of all rows, `any` row later than n, is at every turn that n is below the newest so far, or any
-- later one among the rows to come.
-- Assumes nothing.
use Rattle.spec.specs.Numbers.{Number}
use Prim.Native.Nat.{ℕ, ◌+◌, ◌≤◌, ◌<◌}
use mathlib.Core.Path.{◌≡◌, refl, sym, ap, ◌∙◌}
use mathlib.Core.Bool.{Bool, true, false, not}
use mathlib.Core.List.{List, [], ◌∷◌}
use lib.Dec.{eqb, ltb, leb}
use lib.ListN.{get_or, replicate, get_or-replicate}
use native.Mathlib.Omega.{arith}
use borrow.Author.Tests.{ltb-true, le-ltb, lt-leb}
use Rattle.std.specs.Prelude.{if◌then◌else◌, None, Some}
use Rattle.spec.specs.Rows.{Row, row_at, rows_in, rows_from, tag_of, cell_of}
use Rattle.spec.proofs.Rows.{rows_start}
use Rattle.spec.specs.Look.{commit_of}
use Rattle.spec.specs.Share.{any}
use Rattle.spec.specs.Trim.{between, later, overtaken, stays}
use Rattle.trimming.specs.Inner.{number_or, Noted, Newest}
use Rattle.search.proofs.Folds.{if_same, if_itself, any_step, any_end}

not_both : (b : Bool) → b ≡ false → b ≡ true → ⊥
not_both b e f =
    let z : ◌≡◌ {A = ℕ} 0 1 = cc in
    omega arith

-- ---- numbers

-- a number is above low where there is none
pub between_number : (n low : ℕ) (x : Number) → low < 18446744073709551615
    → between n low x ≡ (if ltb n (number_or x) then leb (number_or x) low else false)
unfolding between number_or
between_number n low (Some m) h = refl
between_number n low None h = rw (lt-leb 18446744073709551615 low h) (sym (if_same (ltb n 18446744073709551615) false))

between_above : (n low : ℕ) (x : Number) → low ≤ n → between n low x ≡ false
unfolding between
between_above n low None h = refl
between_above n low (Some m) h = go (ltb n m) refl
  where
    go : (b : Bool) → ltb n m ≡ b → (if b then leb m low else false) ≡ false
    go true e = lt-leb m low (omega (arith, ltb-true n m e))
    go false e = refl

-- nothing overtakes a row above low, or one that is not committed
above_low : (low : ℕ) (ds cs : List Row) (cell : ℕ) (x : Number) → low < number_or x → overtaken low ds cs cell x ≡ false
unfolding overtaken number_or any later
above_low low ds cs cell None h = refl
above_low low ds cs cell (Some n) h = none ds
  where
    test : (b : Bool) (q : Row) → (if b then between n low (commit_of (tag_of q) cs) else false) ≡ false
    test true q = between_above n low (commit_of (tag_of q) cs) (omega arith)
    test false q = refl

    none : (qs : List Row) → any (later cs low cell n) qs ≡ false
    none [] = refl
    none (q ∷ qs) = rw (test (eqb (cell_of q) cell) q) (none qs)

up_to_low : (low : ℕ) (ds cs : List Row) (cell : ℕ) (x : Number) → low < 18446744073709551615 → number_or x ≤ low
    → overtaken low ds cs cell x ≡ any (later cs low cell (number_or x)) ds
unfolding overtaken number_or
up_to_low low ds cs cell None h g = absurd (omega arith)
up_to_low low ds cs cell (Some n) h g = refl

-- ---- the newest number of each cell

-- what is wanted of all rows: before any is noted, one row more, and after all
abbrev pub Wanted : List Row → ℕ → ℕ → List ℕ → List ℕ → ℕ → Type 0
Wanted cs low n s l i = (x m : ℕ) → x < 1024 → any (later cs low x m)
    (rows_in 24 n s) ≡ (if ltb m (get_or l x 0) then true else any (later cs low x m) (rows_from 24 n i s))

module _ (cs : List Row) (low n : ℕ) (s l : List ℕ) where
  pub newest_start : l ≡ replicate 1024 0 → Wanted cs low n s l 0
  newest_start e x m h = rw (e, get_or-replicate {A = ℕ} 1024 x 0 0 h, le-ltb m 0 (omega arith), rows_start 24 n s)

  pub newest_more : (l' : List ℕ) (i cell number : ℕ) → low < 18446744073709551615 → i < n → cell ≡ cell_of (row_at 24 i s)
      → number ≡ number_or (commit_of (tag_of (row_at 24 i s)) cs) → Noted low cell number l l' → Wanted cs low n s l i → Wanted cs low n s l' (i + 1)
  unfolding later
  newest_more l' i cell number b h e f noted wanted x m g =
      wanted x m g
      ∙ rw (any_step (later cs low x m) 24 n i s h, noted.each x m g, e, f, ← between_number m low (commit_of (tag_of (row_at 24 i s)) cs) b)
      (go (ltb m (get_or l x 0)) (later cs low x m (row_at 24 i s)) (any (later cs low x m) (rows_from 24 n (i + 1) s)))
    where
      go : (b z y : Bool) → (if b then true else (if z then true else y)) ≡ (if (if b then true else z) then true else y)
      go true z y = refl
      go false z y = refl

  pub newest_end : (i : ℕ) → n ≤ i → Wanted cs low n s l i → Newest low cs (rows_in 24 n s) l
  newest_end i h wanted = record { each = λ x m g. sym (wanted x m g ∙ rw (any_end (later cs low x m) 24 n i s h) (if_itself (ltb m (get_or l x 0)))) }

-- ---- the rows that stay

module _ (low : ℕ) (ds cs : List Row) (r : Row) (number : ℕ) (e : number ≡ number_or (commit_of (tag_of r) cs)) where
  pub stays_above : low < number → stays low ds cs r ≡ true
  unfolding stays
  stays_above h = rw (above_low low ds cs (cell_of r) (commit_of (tag_of r) cs) (rw e at h))

  module _ (cell : ℕ) (f : cell ≡ cell_of r) (b : low < 18446744073709551615) (h : number ≤ low) where
    pub stays-up-to : stays low ds cs r ≡ not (any (later cs low cell number) ds)
    unfolding stays
    stays-up-to = rw (up_to_low low ds cs (cell_of r) (commit_of (tag_of r) cs) b (rw e at h), f, e)

    pub stays-newest : (newest : List ℕ) → Newest low cs ds newest → cell < 1024 → stays low ds cs r ≡ not (ltb number (get_or newest cell 0))
    stays-newest newest all g = stays-up-to ∙ ap not (sym (all.each cell number g))
