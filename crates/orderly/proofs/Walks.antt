-- Rows that a walk over a chain may pass over: those of another place are of another tag, or of another tag and cell.
-- Assumes nothing.
use Prim.Native.Nat.{ℕ, ◌+◌, ◌<◌}
use mathlib.Core.Path.{◌≡◌, refl, ◌∙◌}
use mathlib.Core.Bool.{Bool, true, false}
use mathlib.Core.List.{List}
use lib.Dec.{eqb}
use borrow.Author.Tests.{eqb-true, eq-eqb, ne_eqb}
use Rattle.std.specs.Prelude.{if◌then◌else◌}
use Rattle.spec.specs.Rows.{row_at, rows_from, tag_of, cell_of, commit_tag}
use Rattle.spec.specs.Look.{is_own}
use Rattle.spec.specs.Share.{any, wrote}
use Rattle.search.specs.Inner.{Next}
use Rattle.search.proofs.Folds.{any_step}
use Rattle.search.proofs.Passes.{skip}
use Rattle.spec.specs.Orderly.{is_commit_of}
use Rattle.orderly.specs.Inner.{PairWalk}

module _ (tag n k : ℕ) (c : List ℕ) (h : k < n) where
  pub tag_miss : (commit_tag (row_at 8 k c) ≡ tag → ⊥) → any (is_commit_of tag) (rows_from 8 n k c) ≡ any (is_commit_of tag) (rows_from 8 n (k + 1) c)
  unfolding is_commit_of
  tag_miss ne = any_step (is_commit_of tag) 8 n k c h ∙ rw (ne_eqb (commit_tag (row_at 8 k c)) tag ne)

  pub tag_here : commit_tag (row_at 8 k c) ≡ tag → any (is_commit_of tag) (rows_from 8 n k c) ≡ true
  unfolding is_commit_of
  tag_here e = any_step (is_commit_of tag) 8 n k c h ∙ rw (eq-eqb (commit_tag (row_at 8 k c)) tag e)

module _ (tag cell n k : ℕ) (s : List ℕ) (h : k < n) where
  pub own_miss : (tag_of (row_at 24 k s) ≡ tag → cell_of (row_at 24 k s) ≡ cell → ⊥) → wrote (rows_from 24 n k s) tag cell ≡ wrote
      (rows_from 24 n (k + 1) s) tag cell
  unfolding wrote is_own
  own_miss ne = any_step (is_own tag cell) 24 n k s h ∙ rw (go (eqb (tag_of (row_at 24 k s)) tag) refl)
    where
      go : (b : Bool) → eqb (tag_of (row_at 24 k s)) tag ≡ b → (if b then eqb (cell_of (row_at 24 k s)) cell else false) ≡ false
      go true e = ne_eqb _ _ (ne (eqb-true _ _ e))
      go false e = refl

  pub own_here : tag_of (row_at 24 k s) ≡ tag → cell_of (row_at 24 k s) ≡ cell → wrote (rows_from 24 n k s) tag cell ≡ true
  unfolding wrote is_own
  own_here e f = any_step (is_own tag cell) 24 n k s h ∙ rw (eq-eqb _ _ e, eq-eqb _ _ f)

-- from one row of the walk to the next
pub pair_skip : {tag cell n i from r : ℕ} {s nexts : List ℕ} (w : PairWalk n s nexts tag cell i) → Next (λ k. w.key k ≡ w.at) from n r
    → wrote (rows_from 24 n from s) tag cell ≡ wrote (rows_from 24 n r s) tag cell
pair_skip {tag} {cell} {n} {s = s} w p =
    skip (λ k. wrote (rows_from 24 n k s) tag cell) p (λ k l ne. own_miss tag cell n k s l (w.meets k l ne))
