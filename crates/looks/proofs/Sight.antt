-- What has been seen of the rows from row i on (`Seen`), row by row from the end. A row of another cell changes nothing; a row of the cell that is not
-- the reader's own joins the best so far; a row that is not committed from b up to the snapshot changes nothing where b bound-serves as a bound (`seen-idle`).
-- So rows are passed by their tags: those below all that the reader and the committed rows from `from` on have (`old_tag`), or above all that the
-- reader and such rows up to the snapshot have (`new_tag`), where the rows before `from` are numbered below b. When all rows have been seen the best is
-- what a read finds. The last row that counts has nothing behind it (`LastAt`). Where row k is the reader's own, the first own row decides, whatever
-- stands behind.
-- Assumes nothing.
use Rattle.std.specs.Prelude.{None, Some}
use Prim.Native.Nat.{ℕ, ◌+◌, ◌*◌, ◌≤◌, ◌<◌}
use mathlib.Core.Path.{◌≡◌, sym, ap, subst, ◌∙◌}
use mathlib.Core.List.{List}
use native.Mathlib.Decide.{ℕ_discrete, dec_le}
use native.Mathlib.Omega.{arith}
use lib.ListN.{length, get_or}
use borrow.Author.Tests.{eq-eqb, ne_eqb}
use Rattle.spec.specs.Rows.{Row, tag_of, cell_of, commit_number, commit_tag, row_at, rows_in, rows_from}
use Rattle.spec.proofs.Bytes.{number_two}
use Rattle.spec.proofs.Rows.{field, rows_start, rows_step, rows_end}
use Rattle.spec.specs.Numbers.{at_least, up_to, Number}
use Rattle.spec.specs.Look.{commit_of, is_own, find, version_of, version_from, newer, version_at, newest, own_or, least_looked, look_from, Lookup, version}
use Rattle.search.proofs.Folds.{own_yes, own_other_tag, own_other_cell, find_hit, find_miss, find_end}
use Rattle.search.specs.Inner.{Last}
use Rattle.search.proofs.Passes.{down_to, carry_back}
use Rattle.looks.specs.Inner.{PassedOver, LeastTag, MostTag, NumberedBelow, Seen, LastAt, LastVersion}
use Rattle.looks.proofs.Recent.{too_large, outside_from, all_outside, Serves}

-- a cell is a number of two bytes
pub cell_fits : (k : ℕ) (s : List ℕ) → 24 * k + 24 ≤ length s → ((j : ℕ) → get_or s j 0 < 256) → cell_of (row_at 24 k s) < 65536
unfolding cell_of
cell_fits k s h b =
    rw (← field 4 2 24 k s (omega arith)) (omega (arith, number_two s (24 * k + 4) (omega arith), b (24 * k + 4), b (24 * k + 4 + 1)))

-- ---- the newest row

module _ (f : Row → Number) (n i : ℕ) (d : List ℕ) where
  newest_step : i < n → newest f i (rows_from 24 n i d) ≡ newer (version_at i (f (row_at 24 i d))) (newest f (i + 1) (rows_from 24 n (i + 1) d))
  unfolding newest
  newest_step h = rw (rows_step 24 n i d h)

  newest_none : n ≤ i → newest f i (rows_from 24 n i d) ≡ None
  unfolding newest
  newest_none h = rw (rows_end 24 n i d h)

module _ (m cell s : ℕ) (cs : List Row) (r : Row) where
  version_yes : cell_of r ≡ cell → version_from m cell s cs r ≡ at_least m (up_to s (commit_of (tag_of r) cs))
  unfolding version_from version_of
  version_yes e = rw (eq-eqb _ _ e)

  version_no : (cell_of r ≡ cell → ⊥) → version_from m cell s cs r ≡ None
  unfolding version_from version_of at_least
  version_no n = rw (ne_eqb _ _ n)

-- ---- row by row

-- a tag that is not the reader's, nor committed from b up to the snapshot
pub record Idle (b tag s : ℕ) (cs : List Row) (t : ℕ) : Type 0 where
  pub other : t ≡ tag → ⊥
  pub none : at_least b (up_to s (commit_of t cs)) ≡ None

module _ {m tag cell s n : ℕ} {d : List ℕ} {cs : List Row} where
  -- nothing yet
  pub seen_none : Seen m tag cell s n d cs n None
  seen_none =
      record {
        not_own = find_end (is_own tag cell) 24 n n d (omega arith);
        newest_is = newest_none (version_from m cell s cs) n n d (omega arith);
      }

  module _ {i : ℕ} {best : Lookup} where
    -- the same row by another name
    pub seen_same : {j : ℕ} → i ≡ j → Seen m tag cell s n d cs i best → Seen m tag cell s n d cs j best
    seen_same e seen = rw (← e) seen

    module _ (h : i < n) (seen : Seen m tag cell s n d cs (i + 1) best) where
      pub seen-other-cell : (cell_of (row_at 24 i d) ≡ cell → ⊥) → Seen m tag cell s n d cs i best
      unfolding newer version_at
      seen-other-cell ne =
          record {
            not_own = find_miss (is_own tag cell) 24 n i d h (own_other_cell tag cell (row_at 24 i d) ne) ∙ seen.not_own;
            newest_is = newest_step (version_from m cell s cs) n i d h ∙ rw (version_no m cell s cs (row_at 24 i d) ne) seen.newest_is;
          }

      pub seen-version : {next : Lookup} → (tag_of (row_at 24 i d) ≡ tag → ⊥) → cell_of (row_at 24 i d) ≡ cell
          → next ≡ newer (version_at i (at_least m (up_to s (commit_of (tag_of (row_at 24 i d)) cs)))) best → Seen m tag cell s n d cs i next
      seen-version ne e g =
          record {
            not_own = find_miss (is_own tag cell) 24 n i d h (own_other_tag tag cell (row_at 24 i d) ne) ∙ seen.not_own;
            newest_is = newest_step (version_from m cell s cs) n i d h ∙ rw (version_yes m cell s cs (row_at 24 i d) e, seen.newest_is, g);
          }

      pub seen-idle : (b : ℕ) → Serves m b best → Idle b tag s cs (tag_of (row_at 24 i d)) → Seen m tag cell s n d cs i best
      unfolding newer version_at
      seen-idle b bound_serves idle = go (ℕ_discrete (cell_of (row_at 24 i d)) cell)
        where
          same : best ≡ newer (version_at i (at_least m (up_to s (commit_of (tag_of (row_at 24 i d)) cs)))) best
          same = sym (ap (λ x. newer (version_at i x) best) idle.none) ∙ bound_serves i (up_to s (commit_of (tag_of (row_at 24 i d)) cs))

          go : Dec (cell_of (row_at 24 i d) ≡ cell) → Seen m tag cell s n d cs i best
          go (yes e) = seen-version idle.other e same
          go (no ne) = seen-other-cell ne

-- all rows
pub seen_all : (e : ℕ) {tag cell s n : ℕ} {d : List ℕ} {cs : List Row} {best : Lookup} → Seen (least_looked e s) tag cell s n d cs 0 best
    → best ≡ look_from e tag cell s (rows_in 24 n d) cs
unfolding look_from own_or
seen_all e {n = n} {d} seen = rw (rows_start 24 n d, seen.not_own, seen.newest_is)

-- ---- the last row that counts

module _ {m tag cell s n : ℕ} {d : List ℕ} {cs : List Row} {at : ℕ} (h : at < n) (e : cell_of (row_at 24 at d) ≡ cell)
    (seen : Seen m tag cell s n d cs (at + 1) None) where
  -- the reader's own
  pub last_own : tag_of (row_at 24 at d) ≡ tag → LastAt m tag cell s n d cs at 0
  last_own own = record { within = h; of_cell = e; behind = seen; other = λ ne. absurd (ne own) }

  pub last_committed : {number : ℕ} → at_least m (up_to s (commit_of (tag_of (row_at 24 at d)) cs)) ≡ Some number → LastAt m tag cell s n d cs at number
  last_committed found = record { within = h; of_cell = e; behind = seen; other = λ ne. found }

-- where it is not the reader's own
pub seen_last : {m tag cell s n : ℕ} {d : List ℕ} {cs : List Row} {at number : ℕ} → LastAt m tag cell s n d cs at number
    → (tag_of (row_at 24 at d) ≡ tag → ⊥) → Seen m tag cell s n d cs at (Some (version at number))
unfolding newer version_at
seen_last last ne = seen-version last.within last.behind ne last.of_cell (rw (last.other ne))

-- ---- passes

module _ {m tag cell s n until r : ℕ} {d : List ℕ} {cs : List Row} {best : Lookup} (h : until ≤ n) where
  pub seen_past_cells : Last (λ k. cell_of (row_at 24 k d) ≡ cell) until r → Seen m tag cell s n d cs until best → Seen m tag cell s n d cs r best
  seen_past_cells pass =
      carry_back (λ k. Seen m tag cell s n d cs k best) pass (λ k l ne seen. seen-other-cell (omega arith) seen ne)

  -- tags that cannot count
  pub seen_past : (b : ℕ) {counts : ℕ → Type 0} → Serves m b best → ((t : ℕ) → Dec (counts t)) → ((t : ℕ) → (counts t → ⊥) → Idle b tag s cs t)
      → PassedOver counts d cell until r → Seen m tag cell s n d cs until best → Seen m tag cell s n d cs r best
  seen_past b {counts} bound_serves test idle pass =
      down_to (λ k. Seen m tag cell s n d cs k best) until r pass.end (λ k l b seen. step k l b seen (test (tag_of (row_at 24 k d))))
    where
      step : (k : ℕ) → r ≤ k → k < until → Seen m tag cell s n d cs (k + 1) best → Dec (counts (tag_of (row_at 24 k d)))
          → Seen m tag cell s n d cs k best
      step k l u seen (yes t) = seen-other-cell (omega arith) seen (pass.misses k l u t)
      step k l u seen (no t) = seen-idle (omega arith) seen b bound_serves (idle (tag_of (row_at 24 k d)) t)

-- committed rows before `from` are numbered below m
module _ {m tag s entries from : ℕ} {c : List ℕ} (below : NumberedBelow c from m) where
  -- tags below least
  pub old_tag : {least : ℕ} → LeastTag c from entries tag least → (t : ℕ) → (least ≤ t → ⊥) → Idle m tag s (rows_in 8 entries c) t
  old_tag tags t h =
      record {
        other = λ e. h (omega (arith, tags.own));
        none = all_outside m s t entries c (outside_from m s t entries c below (λ k l b e. absurd (h (omega (arith, tags.each k l b, e)))));
      }

  -- tags above most
  pub new_tag : {most : ℕ} → MostTag c from entries tag s most → (t : ℕ) → (t ≤ most → ⊥) → Idle m tag s (rows_in 8 entries c) t
  new_tag tags t h =
      record {
        other = λ e. h (omega (arith, tags.own));
        none = all_outside m s t entries c (outside_from m s t entries c below (λ k l b e. go k l b e (dec_le (commit_number (row_at 8 k c)) s)));
      }
    where
      go : (k : ℕ) → from ≤ k → k < entries → commit_tag (row_at 8 k c) ≡ t → Dec (commit_number (row_at 8 k c) ≤ s)
          → at_least m (up_to s (Some (commit_number (row_at 8 k c)))) ≡ None
      go k l b e (yes u) = absurd (h (omega (arith, tags.each k l b u, e)))
      go k l b e (no u) = too_large m s (commit_number (row_at 8 k c)) (omega (arith, u))

-- ---- the reader's own rows

-- of the rows from i on, however many there are behind row k, the first own one is row `at`
abbrev pub FirstOwn : ℕ → ℕ → ℕ → List ℕ → ℕ → ℕ → Type 0
FirstOwn tag cell k d i at = (n : ℕ) → k < n → find (is_own tag cell) i (rows_from 24 n i d) ≡ Some at

module _ (tag cell k : ℕ) (d : List ℕ) where
  pub own_first : (i : ℕ) → i ≤ k → tag_of (row_at 24 i d) ≡ tag → cell_of (row_at 24 i d) ≡ cell → FirstOwn tag cell k d i i
  own_first i h e f n l = find_hit (is_own tag cell) 24 n i d (omega arith) (own_yes tag cell (row_at 24 i d) e f)

  module _ (i at : ℕ) (h : i < k) (own : FirstOwn tag cell k d (i + 1) at) where
    pub own-not-tag : (tag_of (row_at 24 i d) ≡ tag → ⊥) → FirstOwn tag cell k d i at
    own-not-tag ne n l = find_miss (is_own tag cell) 24 n i d (omega arith) (own_other_tag tag cell (row_at 24 i d) ne) ∙ own n l

    pub own-not-cell : (cell_of (row_at 24 i d) ≡ cell → ⊥) → FirstOwn tag cell k d i at
    own-not-cell ne n l = find_miss (is_own tag cell) 24 n i d (omega arith) (own_other_cell tag cell (row_at 24 i d) ne) ∙ own n l

  pub own_past : (until r at : ℕ) → until ≤ k → Last (λ j. tag_of (row_at 24 j d) ≡ tag) until r → FirstOwn tag cell k d until at
      → FirstOwn tag cell k d r at
  own_past until r at h pass = carry_back (λ j. FirstOwn tag cell k d j at) pass (λ j l ne own. own-not-tag j at (omega arith) own ne)

  -- a read finds it, whatever else there is
  pub own_read : (at : ℕ) → FirstOwn tag cell k d 0 at → (e s n : ℕ) (cs : List Row) → k < n → Some (version at 0) ≡ look_from e tag cell s (rows_in 24 n d) cs
  unfolding look_from own_or
  own_read at own e s n cs l = rw (rows_start 24 n d, own n l)
