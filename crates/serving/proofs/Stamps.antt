-- The rows of one transaction are gone through, and each cell that is met is stamped: no cell is met twice, and where one is, a row is not plain.
-- A cell that is not marked has not been met, where the row marks what it meets: its stamp need not be looked at.
-- Assumes nothing.
use Prim.Native.Nat.{ℕ, ◌+◌, ◌≤◌, ◌<◌}
use mathlib.Core.Path.{◌≡◌, refl, sym, ◌∙◌}
use mathlib.Core.Bool.{Bool, true, false}
use mathlib.Core.List.{List}
use lib.ListN.{length, get_or, set, length-set}
use lib.Seq.{get_or-set_same, get_or-set_other}
use native.Mathlib.Omega.{arith}
use native.Mathlib.Decide.{ℕ_discrete}
use borrow.Author.Count.{below_more}
use borrow.Author.Tests.{eqb-true, ltb-true, lt-ltb}
use lib.Dec.{eqb, ltb}
use Rattle.spec.specs.Rows.{row_at, rows_in, rows_from, tag_of, cell_of}
use Rattle.spec.specs.Look.{is_own}
use Rattle.spec.specs.Share.{wrote}
use Rattle.search.proofs.Folds.{own_yes}
use Rattle.spec.specs.Orderly.{orderly_rows}
use Rattle.orderly.specs.Inner.{Sole}
use Rattle.orderly.proofs.Order.{differ, if_left, if_right, some_from, from_at, displain, plain_twice}

-- Rows before i are done: the cells of those with the tag are below 1,024 and differ, and exactly they are stamped. seen₀ is what was stamped before.
pub record Stamped (tag mark n : ℕ) (s seen₀ seen : List ℕ) (i : ℕ) : Type 0 where
  pub room : length seen ≡ 1024
  pub small : (k : ℕ) → k < i → tag_of (row_at 24 k s) ≡ tag → cell_of (row_at 24 k s) < 1024
  pub lone : (b : ℕ) → b < i → (a : ℕ) → a < b → tag_of (row_at 24 a s) ≡ tag → tag_of (row_at 24 b s) ≡ tag → cell_of (row_at 24 a s) ≡ cell_of
      (row_at 24 b s) → ⊥
  pub done : (k : ℕ) → k < i → tag_of (row_at 24 k s) ≡ tag → get_or seen (cell_of (row_at 24 k s)) 0 ≡ mark
  pub only : (x : ℕ) → x < 1024 → get_or seen x 0 ≡ mark → ((k : ℕ) → k < i → tag_of (row_at 24 k s) ≡ tag → cell_of (row_at 24 k s) ≡ x → ⊥) → ⊥
  pub kept : (x v : ℕ) → x < 1024 → (v ≡ mark → ⊥) → get_or seen x 0 ≡ v → get_or seen₀ x 0 ≡ v

module _ (tag mark n : ℕ) (s seen₀ : List ℕ) where
  pub stamped_start : length seen₀ ≡ 1024 → ((x : ℕ) → x < 1024 → get_or seen₀ x 0 ≡ mark → ⊥) → Stamped tag mark n s seen₀ seen₀ 0
  stamped_start e fresh =
      record {
        room = e;
        small = λ k l t. absurd (omega arith);
        lone = λ b l a g t u q. omega arith;
        done = λ k l t. absurd (omega arith);
        only = λ x l q none. fresh x l q;
        kept = λ x v l ne q. q;
      }

  module _ (seen : List ℕ) (i : ℕ) (m : Stamped tag mark n s seen₀ seen i) where
    -- a row of another transaction
    pub stamped-other : (tag_of (row_at 24 i s) ≡ tag → ⊥) → Stamped tag mark n s seen₀ seen (i + 1)
    stamped-other ne =
        record {
          room = m.room;
          small = below_more (λ k. tag_of (row_at 24 k s) ≡ tag → cell_of (row_at 24 k s) < 1024) i m.small (λ t. absurd (ne t));
          lone =
              below_more (λ b. (a : ℕ) → a < b → tag_of (row_at 24 a s) ≡ tag → tag_of (row_at 24 b s) ≡ tag → cell_of (row_at 24 a s) ≡ cell_of
              (row_at 24 b s) → ⊥) i m.lone
              (λ a g t u q. ne u);
          done = below_more (λ k. tag_of (row_at 24 k s) ≡ tag → get_or seen (cell_of (row_at 24 k s)) 0 ≡ mark) i m.done (λ t. absurd (ne t));
          only = λ x l q none. m.only x l q (λ k g. none k (omega arith));
          kept = m.kept;
        }

    module _ (t : tag_of (row_at 24 i s) ≡ tag) (cell : ℕ) (f : cell ≡ cell_of (row_at 24 i s)) where
      -- the cell is met for the first time
      pub stamped-more : cell < 1024 → (get_or seen cell 0 ≡ mark → ⊥) → Stamped tag mark n s seen₀ (set seen cell mark) (i + 1)
      stamped-more h new =
          record {
            room = simp length-set m.room;
            small = below_more (λ k. tag_of (row_at 24 k s) ≡ tag → cell_of (row_at 24 k s) < 1024) i m.small (λ u. rw (← f) h);
            lone =
                below_more (λ b. (a : ℕ) → a < b → tag_of (row_at 24 a s) ≡ tag → tag_of (row_at 24 b s) ≡ tag → cell_of (row_at 24 a s) ≡ cell_of
                (row_at 24 b s) → ⊥) i m.lone
                (λ a g u v q. new (rw (q ∙ sym f) at (m.done a g u)));
            done =
                below_more (λ k. tag_of (row_at 24 k s) ≡ tag → get_or (set seen cell mark) (cell_of (row_at 24 k s)) 0 ≡ mark) i
                (λ k g u. old (cell_of (row_at 24 k s)) (m.done k g u) (ℕ_discrete (cell_of (row_at 24 k s)) cell)) (λ u. rw (← f) stored);
            only = λ x l q none. only x l q none (ℕ_discrete x cell);
            kept = λ x v l ne q. kept x v l ne q (ℕ_discrete x cell);
          }
        where
          stored : get_or (set seen cell mark) cell 0 ≡ mark
          stored = get_or-set_same seen cell mark 0 (omega (arith, m.room))

          old : (x : ℕ) → get_or seen x 0 ≡ mark → Dec (x ≡ cell) → get_or (set seen cell mark) x 0 ≡ mark
          old x q (yes e) = rw e stored
          old x q (no e) = rw (get_or-set_other seen cell x mark 0 e) q

          only : (x : ℕ) → x < 1024 → get_or (set seen cell mark) x 0 ≡ mark →
              ((k : ℕ) → k < i + 1 → tag_of (row_at 24 k s) ≡ tag → cell_of (row_at 24 k s) ≡ x → ⊥) → Dec (x ≡ cell) → ⊥
          only x l q none (yes e) = none i (omega arith) t (sym f ∙ sym e)
          only x l q none (no e) = m.only x l (rw (get_or-set_other seen cell x mark 0 e) at q) (λ k g. none k (omega arith))

          kept : (x v : ℕ) → x < 1024 → (v ≡ mark → ⊥) → get_or (set seen cell mark) x 0 ≡ v → Dec (x ≡ cell) → get_or seen₀ x 0 ≡ v
          kept x v l ne q (yes e) = absurd (ne (sym (rw (e, stored) at q)))
          kept x v l ne q (no e) = m.kept x v l ne (rw (get_or-set_other seen cell x mark 0 e) at q)

      -- the cell is met again: an earlier row is not plain
      pub stamped-twice : i < n → cell < 1024 → get_or seen cell 0 ≡ mark → orderly_rows (rows_in 24 n s) ≡ false
      unfolding wrote
      stamped-twice h g q = go (orderly_rows (rows_in 24 n s)) refl
        where
          twice : (k : ℕ) → k < i → tag_of (row_at 24 k s) ≡ tag → cell_of (row_at 24 k s) ≡ cell → orderly_rows (rows_in 24 n s) ≡ false
          twice k l u e =
              displain n s k (omega arith)
              (plain_twice n s k (omega arith)
              (from_at (is_own (tag_of (row_at 24 k s)) (cell_of (row_at 24 k s))) 24 n s (k + 1) i (omega arith) h
              (own_yes (tag_of (row_at 24 k s)) (cell_of (row_at 24 k s)) (row_at 24 i s) (t ∙ sym u) (sym f ∙ sym e))))

          go : (b : Bool) → orderly_rows (rows_in 24 n s) ≡ b → b ≡ false
          go true o = absurd (m.only cell g q (λ k l u e. differ o (twice k l u e)))
          go false o = refl

  -- all rows are done
  module _ (seen : List ℕ) (i : ℕ) (h : n ≤ i) (m : Stamped tag mark n s seen₀ seen i) where
    pub stamped-plain : (k : ℕ) → k < n → tag_of (row_at 24 k s) ≡ tag → Sole n s k
    unfolding wrote is_own
    stamped-plain k l t = record {
      small = m.small k (omega arith) t;
      alone = go
          (wrote (rows_from 24 n (k + 1) s) (tag_of (row_at 24 k s)) (cell_of (row_at 24 k s))) refl;
    }
      where
        again : (b : ℕ) → k + 1 ≤ b → b < n → is_own (tag_of (row_at 24 k s)) (cell_of (row_at 24 k s)) (row_at 24 b s) ≡ true → ⊥
        again b g r e =
            let same : Bool = eqb (tag_of (row_at 24 b s)) (tag_of (row_at 24 k s)) in
            let cells : Bool = eqb (cell_of (row_at 24 b s)) (cell_of (row_at 24 k s)) in
            m.lone b (omega arith) k (omega arith) t (eqb-true _ _ (if_left same cells e) ∙ t) (sym (eqb-true _ _ (if_right same cells e)))

        go : (b : Bool) → wrote (rows_from 24 n (k + 1) s) (tag_of (row_at 24 k s)) (cell_of (row_at 24 k s)) ≡ b → b ≡ false
        go true e = absurd (some_from (is_own (tag_of (row_at 24 k s)) (cell_of (row_at 24 k s))) 24 n s ⊥ (k + 1) e again)
        go false e = refl

-- ---- stamps and marks

-- Where the row counts, a stamped cell is marked; a cell that is not stamped has the mark of before.
pub record Paired (counts : Bool) (mark : ℕ) (marks₀ marks seen : List ℕ) : Type 0 where
  pub marked : counts ≡ true → (x : ℕ) → x < 1024 → get_or seen x 0 ≡ mark → get_or marks x 0 ≡ 0 → ⊥
  pub kept : (x : ℕ) → x < 1024 → (get_or seen x 0 ≡ mark → ⊥) → get_or marks x 0 ≡ get_or marks₀ x 0

module _ (counts : Bool) (mark : ℕ) (marks₀ : List ℕ) where
  pub paired_start : (seen : List ℕ) → ((x : ℕ) → x < 1024 → get_or seen x 0 ≡ mark → ⊥) → Paired counts mark marks₀ marks₀ seen
  paired_start seen fresh = record { marked = λ q x l e z. fresh x l e; kept = λ x l ne. refl }

  module _ (marks seen : List ℕ) (p : Paired counts mark marks₀ marks seen) (cell : ℕ) (room : cell < length seen) where
    stamped-now : get_or (set seen cell mark) cell 0 ≡ mark
    stamped-now = get_or-set_same seen cell mark 0 room

    -- the cell is stamped, and its mark stays
    pub paired-stamp : (counts ≡ true → get_or marks cell 0 ≡ 0 → ⊥) → Paired counts mark marks₀ marks (set seen cell mark)
    paired-stamp ne =
        record {
          marked = λ q x l e z. marked q x l e z (ℕ_discrete x cell);
          kept = λ x l new. kept x l new (ℕ_discrete x cell);
        }
      where
        marked : counts ≡ true → (x : ℕ) → x < 1024 → get_or (set seen cell mark) x 0 ≡ mark → get_or marks x 0 ≡ 0 → Dec (x ≡ cell) → ⊥
        marked q x l e z (yes f) = ne q (rw f at z)
        marked q x l e z (no f) = p.marked q x l (rw (get_or-set_other seen cell x mark 0 f) at e) z

        kept : (x : ℕ) → x < 1024 → (get_or (set seen cell mark) x 0 ≡ mark → ⊥) → Dec (x ≡ cell) → get_or marks x 0 ≡ get_or marks₀ x 0
        kept x l new (yes f) = absurd (new (rw f stamped-now))
        kept x l new (no f) = p.kept x l (λ e. new (rw (get_or-set_other seen cell x mark 0 f) e))

    -- the cell is stamped and marked
    pub paired-mark : 0 < mark → cell < length marks → Paired counts mark marks₀ (set marks cell mark) (set seen cell mark)
    paired-mark some fits =
        record {
          marked = λ q x l e z. marked q x l e z (ℕ_discrete x cell);
          kept = λ x l new. kept x l new (ℕ_discrete x cell);
        }
      where
        marked : counts ≡ true → (x : ℕ) → x < 1024 → get_or (set seen cell mark) x 0 ≡ mark → get_or (set marks cell mark) x 0 ≡ 0 → Dec (x ≡ cell) → ⊥
        marked q x l e z (yes f) = omega (arith, some, rw (f, get_or-set_same marks cell mark 0 fits) at z)
        marked q x l e z (no f) =
            p.marked q x l (rw (get_or-set_other seen cell x mark 0 f) at e) (rw (get_or-set_other marks cell x mark 0 f) at z)

        kept : (x : ℕ) → x < 1024 → (get_or (set seen cell mark) x 0 ≡ mark → ⊥) → Dec (x ≡ cell)
            → get_or (set marks cell mark) x 0 ≡ get_or marks₀ x 0
        kept x l new (yes f) = absurd (new (rw f stamped-now))
        kept x l new (no f) =
            get_or-set_other marks cell x mark 0 f ∙ p.kept x l (λ e. new (rw (get_or-set_other seen cell x mark 0 f) e))

-- a mark that is not 0 is above that of the row, where no cell had that mark before
pub later_mark : (v mark : ℕ) → ltb 0 v ≡ ltb mark v → (v ≡ 0 → ⊥) → mark < v
later_mark v mark e ne = ltb-true mark v (sym e ∙ lt-ltb 0 v (omega (arith, ne)))
