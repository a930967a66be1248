-- Numbers from m up to s (`at_least m (up_to s ..)`), for a tag that is looked for from a committed row on. If each committed row with the tag has a
-- number outside of these bounds, up to row r, and there is none from r on, the tag has none at all (`none_in_bounds`): committed rows that are numbered
-- below m need no look. Beside a version numbered b or above, a bound b bound-serves as well as a smaller one (`Serves`).
-- Assumes nothing.
use Prim.Native.Nat.{ℕ, ◌+◌, ◌≤◌, ◌<◌}
use mathlib.Core.Path.{◌≡◌, refl, sym, ap, ◌∙◌}
use mathlib.Core.Bool.{Bool, true, false}
use mathlib.Core.List.{List}
use native.Mathlib.Decide.{ℕ_discrete, dec_lt}
use native.Mathlib.Omega.{arith}
use lib.Dec.{leb, ltb}
use borrow.Author.Tests.{lt-ltb, le-ltb, le-leb, lt-leb, ltb-true, ltb-false}
use Rattle.std.specs.Prelude.{if◌then◌else◌, None, Some}
use Rattle.spec.specs.Rows.{commit_number, commit_tag, row_at, rows_in, rows_from}
use Rattle.spec.specs.Numbers.{at_least, up_to, Number}
use Rattle.spec.specs.Look.{commit_of, least_looked, newer, version_at, Lookup, version}
use Rattle.spec.proofs.Rows.{rows_start}
use Rattle.search.specs.Inner.{Next}
use Rattle.search.proofs.Folds.{to_start, commit_miss, commit_hit, commit_end}
use Rattle.looks.specs.Inner.{NumberedBelow}

-- ---- single numbers

module _ (m s x : ℕ) where
  pub too_small : x < m → at_least m (up_to s (Some x)) ≡ None
  unfolding at_least up_to
  too_small h = go (leb x s)
    where
      go : (t : Bool) → at_least m (if t then Some x else None) ≡ None
      go true = rw (lt-ltb x m h)
      go false = refl

  pub too_large : s < x → at_least m (up_to s (Some x)) ≡ None
  unfolding at_least up_to
  too_large h = rw (lt-leb x s h)

  pub in_bounds : m ≤ x → x ≤ s → at_least m (up_to s (Some x)) ≡ Some x
  unfolding at_least up_to
  in_bounds h g = rw (le-leb x s g, le-ltb x m h)

module _ (m : ℕ) where
  -- a number that is at least m
  pub at_least_from : {n : ℕ} (x : Number) → at_least m x ≡ Some n → m ≤ n
  unfolding at_least
  at_least_from None e = let z : ◌≡◌ {A = ℕ} 0 1 = cc in omega arith
  at_least_from {n} (Some o) e = go (ltb o m) refl e
    where
      go : (t : Bool) → ltb o m ≡ t → (if t then None else Some o) ≡ Some n → m ≤ n
      go true f e = let z : ◌≡◌ {A = ℕ} 0 1 = cc in omega arith
      go false f e = let z : o ≡ n = cc in omega (arith, ltb-false o m f)

  -- of two bounds the larger counts
  pub larger_bound : (b : ℕ) (x : Number) → m ≤ b → at_least b (at_least m x) ≡ at_least b x
  unfolding at_least
  larger_bound b None h = refl
  larger_bound b (Some o) h = go (ltb o m) refl
    where
      go : (t : Bool) → ltb o m ≡ t → at_least b (if t then None else Some o) ≡ at_least b (Some o)
      go true e = rw (lt-ltb o b (omega (arith, ltb-true o m e)))
      go false e = refl

-- the least number that is looked at, for an entry e
module _ (e s : ℕ) where
  pub from_entry : e ≤ s → least_looked e s ≡ e
  unfolding least_looked
  from_entry h = rw (le-leb e s h)

  pub from_zero : s < e → least_looked e s ≡ 0
  unfolding least_looked
  from_zero h = rw (lt-leb e s h)

-- ---- the committed rows with a tag

-- the rows before the first one that is numbered m or above are numbered below
pub numbered_below : (c : List ℕ) (m : ℕ) {n from : ℕ} → Next (λ k. m ≤ commit_number (row_at 8 k c)) 0 n from → NumberedBelow c from m
numbered_below c m pass k b = omega (arith, pass.misses k (omega arith) b)

module _ (m s tag n : ℕ) (c : List ℕ) where
  -- row k, where it has the tag, is numbered outside of the bounds
  abbrev pub Outside : ℕ → Type 0
  Outside k = commit_tag (row_at 8 k c) ≡ tag → at_least m (up_to s (Some (commit_number (row_at 8 k c)))) ≡ None

  pub none_in_bounds : (r : ℕ) → r ≤ n → ((k : ℕ) → k < r → Outside k) → at_least m (up_to s (commit_of tag (rows_from 8 n r c))) ≡ None
      → at_least m (up_to s (commit_of tag (rows_in 8 n c))) ≡ None
  none_in_bounds r h before rest =
      rw (rows_start 8 n c)
      (to_start (λ i. at_least m (up_to s (commit_of tag (rows_from 8 n i c))) ≡ None) r rest
      (λ i l. step i l (ℕ_discrete (commit_tag (row_at 8 i c)) tag)))
    where
      step : (i : ℕ) → i < r → Dec (commit_tag (row_at 8 i c) ≡ tag) → at_least m (up_to s (commit_of tag (rows_from 8 n (i + 1) c))) ≡ None
          → at_least m (up_to s (commit_of tag (rows_from 8 n i c))) ≡ None
      step i l (yes e) q = rw (commit_hit tag n c i (omega arith) e) (before i l e)
      step i l (no ne) q = rw (commit_miss tag n c i (omega arith) ne) q

  -- rows before `from` are numbered below m
  pub outside_from : {from r : ℕ} → NumberedBelow c from m → ((k : ℕ) → from ≤ k → k < r → Outside k) → (k : ℕ) → k < r → Outside k
  outside_from {from} {r} below rest k b = go (dec_lt k from)
    where
      go : Dec (k < from) → Outside k
      go (yes a) e = too_small m s (commit_number (row_at 8 k c)) (below k a)
      go (no a) e = rest k (omega (arith, a)) b e

  -- it has none where all its rows are outside
  pub all_outside : ((k : ℕ) → k < n → Outside k) → at_least m (up_to s (commit_of tag (rows_in 8 n c))) ≡ None
  unfolding at_least up_to
  all_outside h = none_in_bounds n (omega arith) h (rw (commit_end tag n c))

  -- its first row is outside, or one before it is
  pub first_outside : (r : ℕ) → r < n → commit_tag (row_at 8 r c) ≡ tag → ((k : ℕ) → k < r → Outside k)
      → at_least m (up_to s (Some (commit_number (row_at 8 r c)))) ≡ None → at_least m (up_to s (commit_of tag (rows_in 8 n c))) ≡ None
  first_outside r h e before here = none_in_bounds r (omega arith) before (rw (commit_hit tag n c r h e) here)

-- ---- what is not newer

-- a version numbered m or above
abbrev pub NumberedFrom : ℕ → Lookup → Type 0
NumberedFrom m (Some f) = m ≤ f.number
NumberedFrom m None = ⊥

module _ (m k : ℕ) where
  -- a number below m does not count beside such a version
  pub newer_bounded : (number : Number) (best : Lookup) → NumberedFrom m best
      → newer (version_at k (at_least m number)) best ≡ newer (version_at k number) best
  unfolding at_least newer version_at
  newer_bounded None best h = refl
  newer_bounded (Some n) (Some f) h = go (ltb n m) refl
    where
      go : (t : Bool) → ltb n m ≡ t → newer (version_at k (if t then None else Some n)) (Some f) ≡ newer (version_at k (Some n)) (Some f)
      go true e = rw (lt-ltb n f.number (omega (arith, ltb-true n m e)))
      go false e = refl
  newer_bounded (Some n) None h = absurd h

  pub newer_from : (number : Number) (best : Lookup) → NumberedFrom m best → NumberedFrom m (newer (version_at k number) best)
  unfolding newer version_at
  newer_from None best h = h
  newer_from (Some n) (Some f) h = go (ltb n f.number) refl
    where
      go : (t : Bool) → ltb n f.number ≡ t → NumberedFrom m (if t then Some f else Some (version k n))
      go true e = h
      go false e = omega (arith, ltb-false n f.number e)
  newer_from (Some n) None h = absurd h

-- beside best, numbers from b on are as good as those from m on
abbrev pub Serves : ℕ → ℕ → Lookup → Type 0
Serves m b best = (k : ℕ) (x : Number) → newer (version_at k (at_least b x)) best ≡ newer (version_at k (at_least m x)) best

pub bound_serves : (m b : ℕ) (best : Lookup) → m ≤ b → NumberedFrom b best → Serves m b best
bound_serves m b best h from k x =
    sym (ap (λ y. newer (version_at k y) best) (larger_bound m b x h)) ∙ newer_bounded b k (at_least m x) best from
