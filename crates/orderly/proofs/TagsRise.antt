-- Committed rows whose tags rise with their numbers. They are orderly, and the committed row of a tag is known by its neighbours.
-- Assumes nothing.
use Prim.Native.Nat.{ℕ, zero, suc, ◌+◌, ◌-◌, ◌≤◌, ◌<◌}
use mathlib.Core.Path.{◌≡◌, refl, ◌∙◌}
use mathlib.Core.Bool.{Bool, true, false}
use mathlib.Core.List.{List}
use native.Mathlib.Omega.{arith}
use native.Mathlib.Decide.{dec_lt}
use borrow.Author.Tests.{eqb-true, lt-ltb}
use Rattle.spec.specs.Rows.{row_at, rows_in, rows_from, commit_tag, commit_number}
use Rattle.spec.proofs.Rows.{rows_start}
use Rattle.spec.specs.Share.{any}
use Rattle.search.proofs.Folds.{to_start}
use Rattle.spec.specs.Orderly.{under, is_commit_of, orderly_commits}
use Rattle.orderly.specs.Inner.{entry_of, TagsRise}
use Rattle.orderly.proofs.Nexts.{next_one}
use Rattle.orderly.proofs.Order.{order_more, order_end, under_end, under_step, some_from}
use Rattle.orderly.proofs.Entries.{entry_next}

module _ (m : ℕ) (c : List ℕ) (up : TagsRise m c) where
  tag_by : (d j : ℕ) → j + suc d < m → commit_tag (row_at 8 j c) < commit_tag (row_at 8 (j + suc d) c)
  tag_by zero j h = (up j h).tag
  tag_by (suc d) j h =
      let z : j + suc (suc d) ≡ j + suc d + 1 = omega arith in
      rw z (omega (arith, tag_by d j (omega arith), (up (j + suc d) (omega arith)).tag))

  tags_rise : (j k : ℕ) → j < k → k < m → commit_tag (row_at 8 j c) < commit_tag (row_at 8 k c)
  tags_rise j k l h = go (k - j) refl
    where
      go : (d : ℕ) → d ≡ k - j → commit_tag (row_at 8 j c) < commit_tag (row_at 8 k c)
      go zero q = absurd (omega arith)
      go (suc d) q =
          let z : k ≡ j + suc d = omega arith in
          rw z (tag_by d j (omega arith))

  -- no later row has the tag again
  not_again : (i : ℕ) → i < m → any (is_commit_of (commit_tag (row_at 8 i c))) (rows_from 8 m (i + 1) c) ≡ false
  unfolding is_commit_of
  not_again i h = go (any (is_commit_of (commit_tag (row_at 8 i c))) (rows_from 8 m (i + 1) c)) refl
    where
      go : (b : Bool) → any (is_commit_of (commit_tag (row_at 8 i c))) (rows_from 8 m (i + 1) c) ≡ b → b ≡ false
      go true e =
          absurd (some_from (is_commit_of (commit_tag (row_at 8 i c))) 8 m c ⊥ (i + 1) e
          (λ k a b f. omega (arith, tags_rise i k (omega arith) b, eqb-true (commit_tag (row_at 8 k c)) (commit_tag (row_at 8 i c)) f)))
      go false e = refl

  next_above : (i : ℕ) → i < m → Dec (i + 1 < m) → under (commit_number (row_at 8 i c)) (rows_from 8 m (i + 1) c) ≡ true
  next_above i h (yes l) = under_step m c (commit_number (row_at 8 i c)) (i + 1) l ∙ lt-ltb _ _ (up i l).number
  next_above i h (no l) =
      let z : i + 1 ≡ m = omega (arith, l) in
      rw z (under_end m c (commit_number (row_at 8 i c)))

  pub rising_order : orderly_commits (rows_in 8 m c) ≡ true
  rising_order =
      rw (rows_start 8 m c)
      (to_start (λ i. orderly_commits (rows_from 8 m i c) ≡ true) m (order_end m c)
      (λ i h e. order_more m c i h (next_above i h (dec_lt (i + 1) m)) (not_again i h) e))

  -- ---- the committed row of a tag

  -- the one that has it
  pub entry_is : (tag j : ℕ) → j < m → commit_tag (row_at 8 j c) ≡ tag → entry_of tag (rows_in 8 m c) ≡ j
  entry_is tag j h e =
      next_one (entry_of tag (rows_in 8 m c)) j (entry_next tag m c)
      (record { start = omega arith; end = omega arith; misses = λ k a b f. omega (arith, tags_rise k j b h, f, e); hit = λ a. e })

  -- no later one than the one before row `at` has a larger tag
  up_to_lem : (at k : ℕ) → at ≤ m → k < at → commit_tag (row_at 8 k c) ≤ commit_tag (row_at 8 (at - 1) c)
  up_to_lem at k l h = go (dec_lt k (at - 1))
    where
      go : Dec (k < at - 1) → commit_tag (row_at 8 k c) ≤ commit_tag (row_at 8 (at - 1) c)
      go (yes g) = omega (arith, tags_rise k (at - 1) g (omega arith))
      go (no g) =
          let z : k ≡ at - 1 = omega (arith, g) in
          rw z (omega arith)

  from_on : (at k : ℕ) → at ≤ k → k < m → commit_tag (row_at 8 at c) ≤ commit_tag (row_at 8 k c)
  from_on at k l h = go (dec_lt at k)
    where
      go : Dec (at < k) → commit_tag (row_at 8 at c) ≤ commit_tag (row_at 8 k c)
      go (yes g) = omega (arith, tags_rise at k g h)
      go (no g) =
          let z : at ≡ k = omega (arith, g) in
          rw z (omega arith)

  -- none, where the tag lies between those of two neighbours
  pub entry_none : (tag at : ℕ) → at ≤ m → (0 < at → commit_tag (row_at 8 (at - 1) c) < tag) → (at < m → tag < commit_tag (row_at 8 at c))
      → entry_of tag (rows_in 8 m c) ≡ m
  entry_none tag at l below above =
      next_one (entry_of tag (rows_in 8 m c)) m (entry_next tag m c)
      (record { start = omega arith; end = omega arith; misses = λ k a b f. misses k b f (dec_lt k at); hit = λ h. absurd (omega arith) })
    where
      misses : (k : ℕ) → k < m → commit_tag (row_at 8 k c) ≡ tag → Dec (k < at) → ⊥
      misses k h f (yes g) = omega (arith, up_to_lem at k l g, below (omega arith), f)
      misses k h f (no g) = omega (arith, from_on at k (omega (arith, g)) h, above (omega (arith, h, g)), f)
