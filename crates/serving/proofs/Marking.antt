-- From committed row j + 1 to row j: marks, flags and what else is known after row j, by what the walk over its transaction's rows left. Before the
-- first, and after the last.
-- Assumes nothing.
use Prim.Native.Nat.{ℕ, ◌+◌, ◌≤◌, ◌<◌}
use mathlib.Core.Path.{◌≡◌, refl, sym, ap, ◌∙◌}
use mathlib.Core.Bool.{Bool, true, false, not}
use mathlib.Core.List.{List, [], ◌∷◌}
use lib.Dec.{ltb, leb}
use lib.ListN.{length, get_or, replicate, length-replicate, get_or-replicate}
use native.Mathlib.Omega.{arith}
use native.Mathlib.Decide.{dec_lt, ℕ_discrete}
use borrow.Author.Tests.{ltb-true, ltb-false, lt-ltb, le-ltb, eq-eqb}
use Rattle.std.specs.Prelude.{if◌then◌else◌}
use Rattle.spec.specs.Rows.{Row, row_at, rows_in, rows_from, tag_of, cell_of, has_tag, commit_tag, commit_number, filter}
use Rattle.spec.proofs.Rows.{rows_start}
use Rattle.spec.specs.Share.{any}
use Rattle.search.proofs.Folds.{if_same, if_itself, any_step, any_end, any_at, commit_none, tag_yes, tag_no, to_start}
use Rattle.removal.specs.Inner.{Flags}
use Rattle.spec.specs.Trim.{overtaken, stays, in_use, trimmed_rows}
use Rattle.orderly.specs.Inner.{row_entry, Sole}
use Rattle.spec.specs.Orderly.{is_commit_of, orderly_commits, orderly_rows}
use Rattle.spec.specs.Marked.{marks_cell, marked, Marks}
use Rattle.serving.specs.Inner.{Judged, Used, SoFar}
use Rattle.orderly.proofs.Order.{differ, both_ways, some_in, alone, plain_more, plain_end}
use Rattle.serving.proofs.Later.{stays-served}
use Rattle.orderly.proofs.Walks.{tag_miss, tag_here}
use Rattle.orderly.proofs.Entries.{entry_next, entry_tag}
use Rattle.serving.proofs.Stamps.{Stamped, stamped-plain}
use Rattle.serving.proofs.Serving.{due, judge, lasting, Serving, serving-marks, serving-flags, serving-use}

-- ---- tests over rows

-- a row that passes one test is among those that pass another
any-filter : (p q : Row → Bool) (rs : List Row) → any p (filter q rs) ≡ any (λ r. if q r then p r else false) rs
unfolding any filter
any-filter p q [] = refl
any-filter p q (r ∷ rs) = go (q r) (any-filter p q rs)
  where
    go : (b : Bool) → any p (filter q rs) ≡ any (λ r. if q r then p r else false) rs
        → any p (if b then (r ∷ filter q rs) else filter q rs) ≡ (if (if b then p r else false) then true else any
        (λ r. if q r then p r else false) rs)
    go true e = ap (λ (b : Bool). if p r then true else b) e
    go false e = e

-- two tests that say the same of each row
any_same : (p q : Row → Bool) (w n : ℕ) (s : List ℕ) → ((k : ℕ) → k < n → p (row_at w k s) ≡ q (row_at w k s))
    → any p (rows_in w n s) ≡ any q (rows_in w n s)
any_same p q w n s same =
    both_ways (any p (rows_in w n s)) (any q (rows_in w n s))
    (λ e. some_in p w n s (any q (rows_in w n s) ≡ true) e (λ k h f. any_at q w n s k h (sym (same k h) ∙ f)))
    (λ e. some_in q w n s (any p (rows_in w n s) ≡ true) e (λ k h f. any_at p w n s k h (same k h ∙ f)))

-- ---- numbers: v is 0 or above j + 1

module _ (v j : ℕ) (fresh : ltb 0 v ≡ ltb (j + 1) v) where
  zero_mark : ltb (j + 1) v ≡ false → v ≡ 0
  zero_mark e = omega (arith, ltb-false 0 v (fresh ∙ e))

  same_below : (k : ℕ) → k ≤ j + 1 → ltb k v ≡ ltb 0 v
  same_below k l = go (ltb (j + 1) v) refl
    where
      go : (t : Bool) → ltb (j + 1) v ≡ t → ltb k v ≡ ltb 0 v
      go true e =
          let b : j + 1 < v = ltb-true (j + 1) v e in
          lt-ltb k v (omega arith) ∙ sym (lt-ltb 0 v (omega arith))
      go false e =
          let z : v ≡ 0 = zero_mark e in
          rw z (le-ltb k 0 (omega arith) ∙ sym (le-ltb 0 0 (omega arith)))

  due_below : (w : Bool) (k : ℕ) → k ≤ j → ltb k (due (j + 1) w v) ≡ (if w then true else ltb 0 v)
  due_below w k l = go w (ltb (j + 1) v) refl
    where
      go : (w t : Bool) → ltb (j + 1) v ≡ t → ltb k (if t then v else (if w then j + 1 else v)) ≡ (if w then true else ltb 0 v)
      go true true e =
          let b : j + 1 < v = ltb-true (j + 1) v e in
          lt-ltb k v (omega arith)
      go false true e = same_below k (omega arith)
      go true false e = lt-ltb k (j + 1) (omega arith)
      go false false e = same_below k (omega arith)

  due_above : (w : Bool) (k : ℕ) → j + 1 ≤ k → ltb k (due (j + 1) w v) ≡ ltb k v
  due_above w k l = go w (ltb (j + 1) v) refl
    where
      go : (w t : Bool) → ltb (j + 1) v ≡ t → ltb k (if t then v else (if w then j + 1 else v)) ≡ ltb k v
      go w true e = refl
      go true false e =
          let z : v ≡ 0 = zero_mark e in
          rw z (le-ltb k (j + 1) l ∙ sym (le-ltb k 0 (omega arith)))
      go false false e = refl

flip : (b : Bool) → ◌≡◌ {A = ℕ} (if b then 0 else 1) (if not b then 1 else 0)
flip true = refl
flip false = refl

module _ (low n m : ℕ) (s c : List ℕ) where
  abbrev Served : ℕ → ℕ → Bool
  Served j x = marked low (rows_in 24 n s) (rows_from 8 m j c) x

  served_end : (j x : ℕ) → m ≤ j → Served j x ≡ false
  unfolding marked
  served_end j x h = any_end (marks_cell low (rows_in 24 n s) x) 8 m j c h

  pub marks_start : Marks low n m s c m (replicate 1024 0)
  marks_start =
      record {
        size = length-replicate {A = ℕ} 1024 0;
        so_far = λ x h. rw (get_or-replicate {A = ℕ} 1024 x 0 0 h, le-ltb 0 0 (omega arith)) (sym (served_end m x (omega arith)));
        after_each = λ k x l h. rw (get_or-replicate {A = ℕ} 1024 x 0 0 h, le-ltb k 0 (omega arith)) (sym (served_end k x l));
      }

  pub judged_start : n ≤ 1024 → Judged low n m s c m (replicate 1024 1)
  judged_start b =
      record {
        size = length-replicate {A = ℕ} 1024 1;
        each = λ i h. rw (get_or-replicate {A = ℕ} 1024 i 1 0 (omega arith), any_end (is_commit_of (tag_of (row_at 24 i s))) 8 m m c (omega arith));
      }

  -- a row that no committed row has the tag of stays
  uncommitted : (r : Row) → any (is_commit_of (tag_of r)) (rows_in 8 m c) ≡ false → stays low (rows_in 24 n s) (rows_in 8 m c) r ≡ true
  unfolding stays overtaken is_commit_of
  uncommitted r e = rw (commit_none (tag_of r) m c none)
    where
      none : (k : ℕ) → k < m → commit_tag (row_at 8 k c) ≡ tag_of r → ⊥
      none k h f = differ (any_at (is_commit_of (tag_of r)) 8 m c k h (eq-eqb (commit_tag (row_at 8 k c)) (tag_of r) f)) e

  pub judged_end : (flags : List ℕ) → Judged low n m s c 0 flags → Flags (stays low (rows_in 24 n s) (rows_in 8 m c)) 24 n s flags
  judged_end flags g = record {
    size = g.size;
    each = λ k h. rw (← rows_start 8 m c) at (g.each k h) ∙ go k
        (any (is_commit_of (tag_of (row_at 24 k s))) (rows_in 8 m c)) refl;
  }
    where
      go : (k : ℕ) (b : Bool) → any (is_commit_of (tag_of (row_at 24 k s))) (rows_in 8 m c) ≡ b
          → ◌≡◌ {A = ℕ} (if b then (if stays low (rows_in 24 n s) (rows_in 8 m c) (row_at 24 k s) then 1 else 0) else 1)
          (if stays low (rows_in 24 n s) (rows_in 8 m c) (row_at 24 k s) then 1 else 0)
      go k true e = refl
      go k false e = rw (uncommitted (row_at 24 k s) e)

  pub used_start : m ≤ 1024 → Used low n m s c m (replicate 1024 0)
  used_start b =
      record {
        size = length-replicate {A = ℕ} 1024 0;
        before = λ k h. get_or-replicate {A = ℕ} 1024 k 0 0 (omega arith);
        each = λ k a g. absurd (omega arith);
      }

  pub plain_start : SoFar n m s c m (replicate 1024 0)
  plain_start =
      record {
        room = length-replicate {A = ℕ} 1024 0;
        fresh = λ x k h l e. omega (arith, sym (get_or-replicate {A = ℕ} 1024 x 0 0 h) ∙ e);
        plain = λ k l a g. absurd (omega arith);
      }

  pub used_end : (uses : List ℕ) → Used low n m s c 0 uses → Flags (in_use (trimmed_rows low (rows_in 24 n s) (rows_in 8 m c))) 8 m c uses
  used_end uses u = record { size = u.size; each = λ k h. u.each k (omega arith) h }

  -- every row is plain: those of committed transactions, and the others
  pub all_plain : (seen : List ℕ) → SoFar n m s c 0 seen → ((k : ℕ) → k < n → row_entry m c s k ≡ m → Sole n s k) → orderly_rows (rows_in 24 n s) ≡ true
  all_plain seen d rest =
      rw (rows_start 24 n s)
      (to_start (λ i. orderly_rows (rows_from 24 n i s) ≡ true) n (plain_end n s) (λ i h e. plain_more n s i h (plain i h).small (plain i h).alone e))
    where
      plain : (k : ℕ) → k < n → Sole n s k
      plain k h = go (dec_lt (row_entry m c s k) m)
        where
          go : Dec (row_entry m c s k < m) → Sole n s k
          go (yes l) = d.plain k h (omega arith) l
          go (no l) = rest k h (omega (arith, l, (entry_next (tag_of (row_at 24 k s)) m c).end))

  module _ (j : ℕ) (h : j < m) where
    abbrev own : ℕ
    own = commit_tag (row_at 8 j c)

    served-step : (x : ℕ) → Served j x ≡ (if marks_cell low (rows_in 24 n s) x (row_at 8 j c) then true else Served (j + 1) x)
    unfolding marked
    served-step x = any_step (marks_cell low (rows_in 24 n s) x) 8 m j c h

    module _ (marks₀ : List ℕ) (g : Marks low n m s c (j + 1) marks₀) where
      pub unmarked : (x : ℕ) → x < 1024 → ltb 0 (get_or marks₀ x 0) ≡ ltb (j + 1) (get_or marks₀ x 0)
      unmarked x l = g.so_far x l ∙ sym (g.after_each (j + 1) x (omega arith) l)

      -- the row marks what it serves
      marks-more : (marks : List ℕ) → length marks ≡ 1024
          → ((x : ℕ) → x < 1024 → get_or marks x 0 ≡ due (j + 1) (marks_cell low (rows_in 24 n s) x (row_at 8 j c)) (get_or marks₀ x 0)) → Marks
          low n m s c j marks
      marks-more marks e new =
          record {
            size = e;
            so_far = λ x l. at_most x l 0 (omega arith);
            after_each = λ k x a l. after k x a l (dec_lt j k);
          }
        where
          at_most : (x : ℕ) → x < 1024 → (k : ℕ) → k ≤ j → ltb k (get_or marks x 0) ≡ Served j x
          at_most x l k a =
              rw (new x l, served-step x, ← g.so_far x l) (due_below (get_or marks₀ x 0) j (unmarked x l)
              (marks_cell low (rows_in 24 n s) x (row_at 8 j c)) k a)

          after : (k x : ℕ) → j ≤ k → x < 1024 → Dec (j < k) → ltb k (get_or marks x 0) ≡ Served k x
          after k x a l (yes d) =
              rw (new x l) (due_above (get_or marks₀ x 0) j (unmarked x l) (marks_cell low (rows_in 24 n s) x (row_at 8 j c)) k (omega arith)
              ∙ g.after_each k x (omega arith) l)
          after k x a l (no d) =
              let z : k ≡ j = omega (arith, a, d) in
              rw z (at_most x l j (omega arith))

      module _ (ordered : orderly_commits (rows_in 8 m c) ≡ true) (small : (i : ℕ) → i < n → tag_of (row_at 24 i s) ≡ own → cell_of
          (row_at 24 i s) < 1024) where
        -- a row of the transaction stays just if no later row has marked its cell
        stays-unmarked : (i : ℕ) → i < n → tag_of (row_at 24 i s) ≡ own
            → stays low (rows_in 24 n s) (rows_in 8 m c) (row_at 24 i s) ≡ not (ltb (j + 1) (get_or marks₀ (cell_of (row_at 24 i s)) 0))
        stays-unmarked i l q =
            stays-served m c ordered low n s (cell_of (row_at 24 i s)) j h (row_at 24 i s) q refl
            ∙ ap not (sym (g.after_each (j + 1) (cell_of (row_at 24 i s)) (omega arith) (small i l q)))

        judged-more : (flags₀ flags : List ℕ) → Judged low n m s c (j + 1) flags₀ → length flags ≡ 1024
            → ((i : ℕ) → i < n → get_or flags i 0 ≡ judge own (j + 1) s marks₀ flags₀ i) → Judged low n m s c j flags
        judged-more flags₀ flags f e new = record { size = e; each = λ i l. new i l ∙ each i l (ℕ_discrete (tag_of (row_at 24 i s)) own) }
          where
            -- a row of the transaction was not judged before
            unjudged : (i : ℕ) → i < n → tag_of (row_at 24 i s) ≡ own → get_or flags₀ i 0 ≡ 1
            unjudged i l q = f.each i l ∙ rw (q, alone m c ordered j h)

            each : (i : ℕ) → i < n → Dec (tag_of (row_at 24 i s) ≡ own)
                → judge own (j + 1) s marks₀ flags₀ i ≡ (if any (is_commit_of (tag_of (row_at 24 i s))) (rows_from 8 m j c) then
                (if stays low (rows_in 24 n s) (rows_in 8 m c) (row_at 24 i s) then 1 else 0) else 1)
            each i l (yes q) =
                rw (tag_yes own (row_at 24 i s) q, tag_here (tag_of (row_at 24 i s)) m j c h (sym q), unjudged i l q, stays-unmarked i l q)
                (flip (ltb (j + 1) (get_or marks₀ (cell_of (row_at 24 i s)) 0)))
            each i l (no q) = rw (tag_no own (row_at 24 i s) q, tag_miss (tag_of (row_at 24 i s)) m j c h (λ e. q (sym e))) (f.each i l)

        -- the committed row is in use just if a row of its transaction lasts
        in_use_lem : in_use (trimmed_rows low (rows_in 24 n s) (rows_in 8 m c)) (row_at 8 j c) ≡ any (lasting own (j + 1) marks₀) (rows_in 24 n s)
        unfolding in_use trimmed_rows
        in_use_lem =
            any-filter (has_tag own) (stays low (rows_in 24 n s) (rows_in 8 m c)) (rows_in 24 n s)
            ∙ any_same (λ r. if stays low (rows_in 24 n s) (rows_in 8 m c) r then has_tag own r else false) (lasting own (j + 1) marks₀) 24 n s
            (λ k l. same k l (ℕ_discrete (tag_of (row_at 24 k s)) own))
          where
            same : (k : ℕ) → k < n → Dec (tag_of (row_at 24 k s) ≡ own)
                → (if stays low (rows_in 24 n s) (rows_in 8 m c) (row_at 24 k s) then has_tag own (row_at 24 k s) else false) ≡ lasting own (j + 1) marks₀
                (row_at 24 k s)
            same k l (yes q) = rw (tag_yes own (row_at 24 k s) q, stays-unmarked k l q)
                (if_itself (not (ltb (j + 1) (get_or marks₀ (cell_of (row_at 24 k s)) 0))))
            same k l (no q) = rw (tag_no own (row_at 24 k s) q) (if_same (stays low (rows_in 24 n s) (rows_in 8 m c) (row_at 24 k s)) false)

        used-more : (uses₀ uses : List ℕ) → Used low n m s c (j + 1) uses₀ → length uses ≡ 1024
            → get_or uses j 0 ≡ (if any (lasting own (j + 1) marks₀) (rows_in 24 n s) then 1 else get_or uses₀ j 0) →
            ((k : ℕ) → (k ≡ j → ⊥) → get_or uses k 0 ≡ get_or uses₀ k 0)
            → Used low n m s c j uses
        used-more uses₀ uses u e here others =
            record { size = e; before = λ k l. others k (λ z. omega arith) ∙ u.before k (omega arith); each = λ k a b. each k a b (ℕ_discrete k j) }
          where
            each : (k : ℕ) → j ≤ k → k < m → Dec (k ≡ j) → get_or uses k 0 ≡
                (if in_use (trimmed_rows low (rows_in 24 n s) (rows_in 8 m c)) (row_at 8 k c) then 1 else 0)
            each k a b (yes z) = rw (z, in_use_lem) (here ∙ rw (u.before j (omega arith)))
            each k a b (no z) = others k z ∙ u.each k (omega (arith, a, z)) b

      module _ (ordered : orderly_commits (rows_in 8 m c) ≡ true) (seen₀ flags₀ uses₀ : List ℕ) (d : SoFar n m s c (j + 1) seen₀)
          (seen marks flags uses : List ℕ) (i : ℕ) (e : n ≤ i)
          (sv : Serving (leb (commit_number (row_at 8 j c)) low) own (j + 1) n j s marks₀ flags₀ uses₀ marks flags uses i)
          (st : Stamped own (j + 1) n s seen₀ seen i) where
        pub marks-done : Marks low n m s c j marks
        unfolding marks_cell
        marks-done = marks-more marks sv.marks_size (serving-marks (leb (commit_number (row_at 8 j c)) low) own
            (j + 1) n j s marks₀ flags₀ uses₀ marks flags uses i e sv)

        plain : (k : ℕ) → k < n → tag_of (row_at 24 k s) ≡ own → Sole n s k
        plain = stamped-plain own (j + 1) n s seen₀ seen i e st

        pub judged-done : Judged low n m s c (j + 1) flags₀ → Judged low n m s c j flags
        judged-done g' =
            judged-more ordered (λ k l t. (plain k l t).small) flags₀ flags g' sv.flags_size
            (serving-flags (leb (commit_number (row_at 8 j c)) low) own (j + 1) n j s marks₀ flags₀ uses₀ marks flags uses i e sv)

        pub used-done : Used low n m s c (j + 1) uses₀ → Used low n m s c j uses
        used-done u =
            used-more ordered (λ k l t. (plain k l t).small) uses₀ uses u sv.uses_size
            (serving-use (leb (commit_number (row_at 8 j c)) low) own (j + 1) n j s marks₀ flags₀ uses₀ marks flags uses i e sv) sv.others

        pub plain_done : SoFar n m s c j seen
        plain_done =
            record {
              room = st.room;
              fresh = λ x k l b q. d.fresh x k l (omega arith) (st.kept x (k + 1) l (λ z. omega arith) q);
              plain = λ k l a b. rest k l a b (ℕ_discrete (row_entry m c s k) j);
            }
          where
            rest : (k : ℕ) → k < n → j ≤ row_entry m c s k → row_entry m c s k < m → Dec (row_entry m c s k ≡ j) → Sole n s k
            rest k l a b (yes z) = plain k l (entry_tag m c s k j h z)
            rest k l a b (no z) = d.plain k l (omega (arith, a, z)) b
