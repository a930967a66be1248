-- The committed row of a tag: the first one that has it, by its number.
-- Assumes nothing.
use Prim.Native.Nat.{ℕ, suc, ◌+◌, ◌≤◌, ◌<◌}
use native.Mathlib.Nat.{add-zero}
use mathlib.Core.Path.{◌≡◌, refl, sym, ap, ◌∙◌}
use mathlib.Core.Bool.{Bool, true, false}
use mathlib.Core.List.{List}
use lib.ListN.{get_or}
use lib.Dec.{eqb, ltb}
use native.Mathlib.Omega.{arith}
use native.Mathlib.Decide.{dec_lt}
use borrow.Author.Tests.{eqb-true, eqb-false, eq-eqb, lt-ltb, ltb-true}
use Rattle.std.specs.Prelude.{if◌then◌else◌}
use Rattle.spec.specs.Rows.{row_at, rows_in, rows_from, tag_of, commit_tag}
use Rattle.spec.proofs.Rows.{rows_start, rows_step, rows_end}
use Rattle.spec.specs.Share.{any}
use Rattle.search.specs.Inner.{Next}
use Rattle.search.proofs.Folds.{to_start}
use Rattle.places.specs.Inner.{place}
use Rattle.orderly.specs.Inner.{tag_place, entry_of, row_entry, Linked}
use Rattle.spec.specs.Orderly.{is_commit_of, orderly_commits}
use Rattle.orderly.proofs.Nexts.{next_none, next_here, next_past, next_one}
use Rattle.orderly.proofs.Order.{both_ways, some_from, from_at, distinct}

module _ (tag m : ℕ) (c : List ℕ) where
  abbrev Hit : ℕ → Type 0
  Hit k = commit_tag (row_at 8 k c) ≡ tag

  abbrev Rest : ℕ → ℕ
  Rest i = entry_of tag (rows_from 8 m i c)

  step : (i : ℕ) → i < m → Next Hit (i + 1) m (i + 1 + Rest (i + 1)) → Next Hit i m (i + Rest i)
  unfolding entry_of
  step i h p = rw (rows_step 8 m i c h) (go (eqb (commit_tag (row_at 8 i c)) tag) refl)
    where
      go : (b : Bool) → eqb (commit_tag (row_at 8 i c)) tag ≡ b → Next Hit i m (i + (if b then 0 else suc (Rest (i + 1))))
      go true e = rw add-zero (next_here i h (eqb-true _ _ e))
      go false e =
          let z : i + 1 + Rest (i + 1) ≡ i + suc (Rest (i + 1)) = omega arith in
          rw (← z) (next_past i (i + 1 + Rest (i + 1)) (eqb-false _ _ e) p)

  pub entry_next : Next Hit 0 m (entry_of tag (rows_in 8 m c))
  unfolding entry_of
  entry_next =
      let z : 0 + Rest 0 ≡ Rest 0 = omega arith in
      rw (rows_start 8 m c, ← z)
      (to_start (λ i. Next Hit i m (i + Rest i)) m
      (rw (rows_end 8 m m c (omega arith), add-zero) (next_none m))
      step)

module _ (m : ℕ) (c s : List ℕ) (k : ℕ) where
  -- the committed row of a data row has its tag
  pub entry_tag : (j : ℕ) → j < m → row_entry m c s k ≡ j → tag_of (row_at 24 k s) ≡ commit_tag (row_at 8 j c)
  entry_tag j h e = sym (rw e at ((entry_next (tag_of (row_at 24 k s)) m c).hit (rw e h)))

  -- of orderly rows a committed row with its tag is the one
  pub entry_of_tag : orderly_commits (rows_in 8 m c) ≡ true → (j : ℕ) → j < m → tag_of (row_at 24 k s) ≡ commit_tag (row_at 8 j c) → row_entry m c s k ≡ j
  entry_of_tag o j h e =
      next_one (row_entry m c s k) j (entry_next (tag_of (row_at 24 k s)) m c)
      (record { start = omega arith; end = omega arith; misses = λ i a b f. distinct m c o i j b h (f ∙ e); hit = λ a. sym e })

-- ---- a search by the tag's place

module _ (tag m : ℕ) (c : List ℕ) where
  -- rows of other places have other tags: the next row with the tag from the first one of its place on is the next from row i on
  pub from_head : (heads nexts : List ℕ) (i r : ℕ) → place tag < 4096 → Linked 4096 (tag_place c) m i heads nexts
      → Next (λ k. commit_tag (row_at 8 k c) ≡ tag) (get_or heads (place tag) 0) m r → Next (λ k. commit_tag (row_at 8 k c) ≡ tag) i m r
  from_head heads nexts i r h l p =
      record {
        start = omega (arith, (l.head (place tag) h).start, p.start);
        end = p.end;
        misses = λ k a b. misses k a b (dec_lt k (get_or heads (place tag) 0));
        hit = p.hit;
      }
    where
      misses : (k : ℕ) → i ≤ k → k < r → Dec (k < get_or heads (place tag) 0) → commit_tag (row_at 8 k c) ≡ tag → ⊥
      misses k a b (yes g) f = (l.head (place tag) h).misses k a g (ap place f)
      misses k a b (no g) f = p.misses k (omega (arith, g)) b f

  -- a row from i on has the tag just if there is a next one
  pub tag_next : (i r : ℕ) → Next (λ k. commit_tag (row_at 8 k c) ≡ tag) i m r → any (is_commit_of tag) (rows_from 8 m i c) ≡ ltb r m
  unfolding is_commit_of
  tag_next i r p = both_ways (any (is_commit_of tag) (rows_from 8 m i c)) (ltb r m) there back
    where
      there : any (is_commit_of tag) (rows_from 8 m i c) ≡ true → ltb r m ≡ true
      there e = some_from (is_commit_of tag) 8 m c (ltb r m ≡ true) i e (λ k a b f. lt-ltb r m (below k a b (eqb-true _ _ f) (dec_lt r m)))
        where
          below : (k : ℕ) → i ≤ k → k < m → commit_tag (row_at 8 k c) ≡ tag → Dec (r < m) → r < m
          below k a b f (yes l) = l
          below k a b f (no l) = absurd (p.misses k a (omega (arith, l)) f)

      back : ltb r m ≡ true → any (is_commit_of tag) (rows_from 8 m i c) ≡ true
      back e = from_at (is_commit_of tag) 8 m c i r p.start (ltb-true r m e) (eq-eqb (commit_tag (row_at 8 r c)) tag (p.hit (ltb-true r m e)))
