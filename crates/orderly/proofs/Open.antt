-- Rows of transactions that are not committed. They alone are linked, by tag and cell: a row of another place is of another tag or cell, since rows
-- of one tag are committed together.
-- Assumes nothing.
use Prim.Native.Nat.{ℕ, ◌+◌, ◌≤◌, ◌<◌}
use mathlib.Core.Path.{◌≡◌, sym, ◌∙◌}
use mathlib.Core.List.{List}
use lib.ListN.{length, get_or, replicate}
use native.Mathlib.Decide.{ℕ_discrete}
use native.Mathlib.Omega.{arith}
use borrow.Author.Tests.{eq-eqb}
use Rattle.spec.specs.Rows.{row_at, tag_of, cell_of}
use Rattle.places.specs.Inner.{place}
use Rattle.orderly.specs.Inner.{pair_place, open_place, Linked, Alike, Sole}
use Rattle.orderly.proofs.Chains.{linked_none, chain-start}
use Rattle.orderly.proofs.Single.{RowWalk}

-- from row i on the rows that are not committed are plain, and linked
pub record Tested (n : ℕ) (s flags heads nexts : List ℕ) (i : ℕ) : Type 0 where
  pub end : i ≤ n
  pub linked : Linked 1024 (open_place flags s) n i heads nexts
  pub plain : (k : ℕ) → i ≤ k → k < n → get_or flags k 0 ≡ 1 → Sole n s k

-- row k is not committed; its tag, its cell and its place are these
pub record OpenRow (n : ℕ) (s flags : List ℕ) (k tag cell x : ℕ) : Type 0 where
  pub alike : Alike n s flags
  pub uncommitted : get_or flags k 0 ≡ 1
  pub tag_is : tag ≡ tag_of (row_at 24 k s)
  pub cell_is : cell ≡ cell_of (row_at 24 k s)
  pub place_is : x ≡ pair_place (place tag) cell
  pub small : x < 1024

module _ (n : ℕ) (s flags : List ℕ) where
  pub tested_none : (nexts : List ℕ) → length nexts ≡ 1024 → Tested n s flags (replicate 1024 n) nexts n
  tested_none nexts e = record { end = omega arith; linked = linked_none (open_place flags s) n 1024 nexts e; plain = λ k a b. absurd (omega arith) }

  -- the place of a row that is not committed
  open_place_lem : (k : ℕ) → get_or flags k 0 ≡ 1 → open_place flags s k ≡ pair_place (place (tag_of (row_at 24 k s))) (cell_of (row_at 24 k s))
  open_place_lem k e = rw (eq-eqb (get_or flags k 0) 1 e)

  module _ (heads nexts : List ℕ) (k : ℕ) (t : Tested n s flags heads nexts (k + 1)) where
    plain-too : (get_or flags k 0 ≡ 1 → Sole n s k) → (j : ℕ) → k ≤ j → j < n → get_or flags j 0 ≡ 1 → Sole n s j
    plain-too p j a b e = go (ℕ_discrete j k)
      where
        go : Dec (j ≡ k) → Sole n s j
        go (yes q) = rw q (p (rw q at e))
        go (no q) = t.plain j (omega (arith, q)) b e

    pub tested-more : (heads' nexts' : List ℕ) → Linked 1024 (open_place flags s) n k heads' nexts' → Sole n s k → Tested n s flags heads' nexts' k
    tested-more heads' nexts' l p = record { end = omega (arith, t.end); linked = l; plain = plain-too (λ e. p) }

    module _ (tag cell x : ℕ) (row : OpenRow n s flags k tag cell x) where
      pub open_at : open_place flags s k ≡ x
      open_at = open_place_lem k row.uncommitted ∙ rw (← row.tag_is, ← row.cell_is) (sym row.place_is)

      meets : (j : ℕ) → j < n → (open_place flags s j ≡ x → ⊥) → tag_of (row_at 24 j s) ≡ tag → cell_of (row_at 24 j s) ≡ cell → ⊥
      meets j l ne a b =
          ne (open_place_lem j (row.alike.each j k l (omega (arith, t.end)) (a ∙ row.tag_is) ∙ row.uncommitted) ∙ rw (a, b) (sym row.place_is))

      pub open-walk : RowWalk n s nexts k tag cell (get_or heads x 0)
      open-walk =
          record {
            here = omega (arith, t.end);
            tag_is = row.tag_is;
            cell_is = row.cell_is;
            walk =
                record {
                  key = open_place flags s;
                  at = x;
                  chain = chain-start (open_place flags s) n nexts heads x (k + 1) row.small t.linked;
                  meets = meets;
                };
            next = t.linked.head x row.small;
          }
