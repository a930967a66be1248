-- Data rows are linked from the last one on, run by run: the rows of a run have one tag and stand side by side, so that each leads to the next one,
-- and the first row of the run that is not finished is not among the heads yet.
-- Assumes nothing.
use Prim.Native.Nat.{ℕ, zero, suc, ◌+◌, ◌-◌, ◌≤◌, ◌<◌}
use mathlib.Core.Path.{◌≡◌, refl, ap, ◌∙◌}
use mathlib.Core.List.{List, [], ◌∷◌}
use lib.ListN.{length, get_or, set, replicate, length-set, length-replicate, get_or-replicate}
use lib.Seq.{get_or-set_same, get_or-set_other}
use native.Mathlib.Omega.{arith}
use native.Mathlib.Decide.{ℕ_discrete}
use Rattle.spec.specs.Rows.{row_at, rows_in, tag_of}
use Rattle.orderly.specs.Inner.{entry_of, row_entry, entry_places, Linked}
use Rattle.orderly.proofs.Nexts.{next_none}
use Rattle.orderly.proofs.Chains.{linked_more}

-- an element is stored again
set_again : (l : List ℕ) (x a b : ℕ) → set (set l x a) x b ≡ set l x b
set_again [] x a b = refl
set_again (y ∷ l) zero a b = refl
set_again (y ∷ l) (suc x) a b = ap (λ (r : List ℕ). y ∷ r) (set_again l x a b)

-- Rows from i on are linked, but that `firsts` lacks row i as the first one of `run`, which is the committed row of the tag `last`, and m where there
-- is none. `at` is a committed row, or m.
pub record Along (n m : ℕ) (s c firsts follows : List ℕ) (at run last i : ℕ) : Type 0 where
  pub end : i ≤ n
  pub met : at ≤ m
  pub place : run ≤ m
  pub linked : Linked entry_places (row_entry m c s) n i (set firsts run i) follows
  pub same : (tag : ℕ) → tag < 4294967296 → tag ≡ last → entry_of tag (rows_in 8 m c) ≡ run

module _ (n m : ℕ) (s c : List ℕ) (small : n ≤ 1024) (few : m ≤ 1024) where
  pub along_start : (firsts follows : List ℕ) → firsts ≡ replicate entry_places n → length follows ≡ 1024 → Along n m s c firsts follows m m 4294967296 n
  along_start firsts follows q e =
      record {
        end = omega arith;
        met = omega arith;
        place = omega arith;
        linked = record {
          size = length-set firsts m n ∙ size;
          room = e;
          head = λ x h. rw (all x h (ℕ_discrete x m)) (next_none n);
          next = λ k a b g. absurd (omega arith);
        };
        same = λ tag h f. absurd (omega arith);
      }
    where
      size : length firsts ≡ entry_places
      size = ap length q ∙ length-replicate {A = ℕ} entry_places n

      all : (x : ℕ) → x < entry_places → Dec (x ≡ m) → get_or (set firsts m n) x 0 ≡ n
      all x h (yes f) = rw f (get_or-set_same firsts m n 0 (omega (arith, size)))
      all x h (no f) = get_or-set_other firsts m x n 0 f ∙ ap (λ (l : List ℕ). get_or l x 0) q ∙ get_or-replicate {A = ℕ} entry_places x n 0 h

  module _ (firsts follows : List ℕ) (at run last i : ℕ) (h : 0 < i) (m' : Along n m s c firsts follows at run last i) where
    before : i - 1 + 1 ≡ i
    before = omega (arith, h)

    -- one row more of the run
    pub along-same : (tag : ℕ) → tag < 4294967296 → tag ≡ last → tag ≡ tag_of (row_at 24 (i - 1) s)
        → Along n m s c firsts (set follows (i - 1) i) at run last (i - 1)
    along-same tag l e t =
        let room : run < length firsts = omega (arith, simp length-set at m'.linked.size, m'.place) in
        let own : row_entry m c s (i - 1) ≡ run = rw (← t) (m'.same tag l e) in
        let next = linked_more (row_entry m c s) n {p = entry_places} (set firsts run i) follows run (i - 1) (omega (arith, m'.place))
        (omega (arith, m'.end)) (omega (arith, m'.end, h)) own (rw before m'.linked) in
        record {
          end = omega (arith, m'.end);
          met = m'.met;
          place = m'.place;
          linked = rw (set_again firsts run i (i - 1), get_or-set_same firsts run i 0 room) at next;
          same = m'.same;
        }

    -- the first row of another run
    pub along-next : (at' run' tag : ℕ) → at' ≤ m → run' ≤ m → entry_of tag (rows_in 8 m c) ≡ run' → tag ≡ tag_of (row_at 24 (i - 1) s)
        → Along n m s c (set firsts run i) (set follows (i - 1) (get_or (set firsts run i) run' 0)) at' run' tag (i - 1)
    along-next at' run' tag a b e t =
        record {
          end = omega (arith, m'.end);
          met = a;
          place = b;
          linked =
              linked_more (row_entry m c s) n (set firsts run i) follows run' (i - 1) (omega arith) (omega (arith, m'.end))
              (omega (arith, m'.end, h)) (rw (← t) e) (rw before m'.linked);
          same = λ u l q. rw q e;
        }
