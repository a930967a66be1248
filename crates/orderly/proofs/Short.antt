-- The rows of one place, tested along their chain: rows of one tag have one place, so that the rest of the chain meets every later row of a row's tag.
-- Assumes nothing.
use Prim.Native.Nat.{ℕ, ◌<◌}
use mathlib.Core.Path.{◌≡◌, ◌∙◌}
use mathlib.Core.List.{List}
use lib.ListN.{get_or}
use borrow.Author.Count.{below_more}
use Rattle.spec.specs.Rows.{row_at, tag_of, cell_of}
use Rattle.orderly.specs.Inner.{Chain, TagWalk, Sole}
use Rattle.orderly.proofs.Chains.{chain_next, chain_more, chain_carry}
use Rattle.orderly.proofs.Single.{RowWalk}

-- the walk has come to row i, and the rows of place x before it are plain
pub record Walked (key : ℕ → ℕ) (x n : ℕ) (s follows : List ℕ) (i : ℕ) : Type 0 where
  pub chain : Chain key n follows x i
  pub plain : (k : ℕ) → k < i → key k ≡ x → Sole n s k

module _ {key : ℕ → ℕ} {x n : ℕ} {s follows : List ℕ} where
  module _ {i : ℕ} (h : i < n) (w : Walked key x n s follows i) where
    pub walked_more : Sole n s i → Walked key x n s follows (get_or follows i 0)
    walked_more p =
        record {
          chain = chain_more key n follows x i h w.chain;
          plain =
              chain_carry key n (λ j. (k : ℕ) → k < j → key k ≡ x → Sole n s k) follows x
              (λ j l ne q. below_more (λ k. key k ≡ x → Sole n s k) j q (λ e. absurd (ne e)))
              i h w.chain (below_more (λ k. key k ≡ x → Sole n s k) i w.plain (λ e. p));
        }

    pub walked_row : {first tag cell : ℕ} → TagWalk key x n s follows first → tag ≡ tag_of (row_at 24 i s) → cell ≡ cell_of (row_at 24 i s)
        → RowWalk n s follows i tag cell (get_or follows i 0)
    walked_row t e f =
        record {
          here = h;
          tag_is = e;
          cell_is = f;
          walk =
              record {
                key = key;
                at = x;
                chain = chain_more key n follows x i h w.chain;
                meets = λ k l ne a b. ne (t.alike k i l h (a ∙ e) ∙ w.chain.here h);
              };
          next = chain_next key n follows x i h w.chain;
        }
