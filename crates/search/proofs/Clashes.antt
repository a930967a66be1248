-- The smallest number of a commit that a transaction conflicts with, row by row, and that there is none where no commit is above the snapshot.
-- Assumes nothing.
use Prim.Native.Nat.{ℕ, ◌+◌, ◌≤◌, ◌<◌}
use mathlib.Core.Path.{◌≡◌, refl, ap}
use mathlib.Core.Bool.{Bool, true, false, true≢false}
use mathlib.Core.List.{List, [], ◌∷◌, map}
use lib.Dec.{eqb, ltb}
use Rattle.std.specs.Prelude.{if◌then◌else◌, None, Some}
use Rattle.spec.specs.Rows.{Row, tag_of, cell_of, commit_number, commit_tag, row_at, rows_in, rows_from}
use Rattle.spec.proofs.Rows.{rows_start, rows_step, rows_end}
use Rattle.spec.specs.Numbers.{lesser, smallest, above, Number}
use Rattle.spec.specs.Look.{commit_of}
use Rattle.spec.specs.Share.{any, wrote, clash, conflict}
use Rattle.numbers.proofs.Grouping.{lesser_assoc, lesser-none}

-- ---- no commit above the snapshot

above-none : (s tag : ℕ) (cs : List Row) → any (λ c. ltb s (commit_number c)) cs ≡ false → above s (commit_of tag cs) ≡ None
unfolding any commit_of above
above-none s tag [] h = refl
above-none s tag (c ∷ cs) h = go (ltb s (commit_number c)) (eqb (commit_tag c) tag) refl h (above-none s tag cs)
  where
    go : (t u : Bool) → ltb s (commit_number c) ≡ t → (if t then true else any (λ c. ltb s (commit_number c)) cs) ≡ false
        → (any (λ c. ltb s (commit_number c)) cs ≡ false → above s (commit_of tag cs) ≡ None)
        → above s (if u then Some (commit_number c) else commit_of tag cs) ≡ None
    go true u e h ih = absurd (true≢false h)
    go false true e h ih = rw e
    go false false e h ih = ih h

clash-none : (ds cs : List Row) (tag s : ℕ) (r : Row) → any (λ c. ltb s (commit_number c)) cs ≡ false → clash ds cs tag s r ≡ None
unfolding clash
clash-none ds cs tag s r h = rw (above-none s (tag_of r) cs h) (go (wrote ds tag (cell_of r)))
  where
    go : (t : Bool) → ◌≡◌ {A = Number} (if t then None else None) None
    go true = refl
    go false = refl

smallest-none : (f : Row → Number) (rs : List Row) → ((r : Row) → f r ≡ None) → smallest (map f rs) ≡ None
unfolding smallest lesser
smallest-none f [] h = refl
smallest-none f (r ∷ rs) h = rw (h r) (smallest-none f rs h)

pub conflict-none : (tag s : ℕ) (ds cs : List Row) → any (λ c. ltb s (commit_number c)) cs ≡ false → conflict tag s ds cs ≡ None
unfolding conflict
conflict-none tag s ds cs h = smallest-none (clash ds cs tag s) ds (λ r. clash-none ds cs tag s r h)

-- ---- row by row: `best` is the smallest of the rows before i

module _ (tag s n : ℕ) (d : List ℕ) (cs : List Row) where
  pub clash_rest : Number → ℕ → Number
  clash_rest best i = lesser best (smallest (map (clash (rows_in 24 n d) cs tag s) (rows_from 24 n i d)))

  pub clash_start : conflict tag s (rows_in 24 n d) cs ≡ clash_rest None 0
  unfolding conflict clash_rest lesser
  clash_start = ap (λ (rs : List Row). smallest (map (clash (rows_in 24 n d) cs tag s) rs)) (rows_start 24 n d)

  module _ (best : Number) (i : ℕ) where
    pub clash-hit : i < n → wrote (rows_in 24 n d) tag (cell_of (row_at 24 i d)) ≡ true → (b : Number)
        → b ≡ lesser best (above s (commit_of (tag_of (row_at 24 i d)) cs)) → clash_rest best i ≡ clash_rest b (i + 1)
    unfolding clash_rest smallest clash
    clash-hit h e b g = rw (rows_step 24 n i d h, e, ← lesser_assoc best, ← g)

    pub clash-miss : i < n → wrote (rows_in 24 n d) tag (cell_of (row_at 24 i d)) ≡ false → clash_rest best i ≡ clash_rest best (i + 1)
    unfolding clash_rest smallest clash lesser
    clash-miss h e = rw (rows_step 24 n i d h, e)

    pub clash-end : n ≤ i → clash_rest best i ≡ best
    unfolding clash_rest smallest
    clash-end h = rw (rows_end 24 n i d h) (lesser-none best)
