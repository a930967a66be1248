-- Chains of rows. Rows are linked from the last to the first. A walk over a chain meets every row of its place: whatever takes no notice of
-- rows of other places is the same from a row on as from the next row of the chain on.
-- Assumes nothing.
use Prim.Native.Nat.{ℕ, ◌+◌, ◌≤◌, ◌<◌}
use mathlib.Core.Path.{◌≡◌, sym, ◌∙◌}
use mathlib.Core.List.{List}
use lib.ListN.{length, get_or, set, replicate, length-set, length-replicate, get_or-replicate}
use lib.Seq.{get_or-set_same, get_or-set_other}
use native.Mathlib.Decide.{ℕ_discrete}
use native.Mathlib.Omega.{arith}
use Rattle.search.specs.Inner.{Next}
use Rattle.search.proofs.Passes.{carry}
use Rattle.orderly.specs.Inner.{Linked, Chain}
use Rattle.orderly.proofs.Nexts.{next_none, next_here, next_past}

module _ (key : ℕ → ℕ) (n : ℕ) where
  pub linked_none : (p : ℕ) (nexts : List ℕ) → length nexts ≡ 1024 → Linked p key n n (replicate p n) nexts
  linked_none p nexts e =
      record {
        size = length-replicate {A = ℕ} p n;
        room = e;
        head = λ x h. rw (get_or-replicate {A = ℕ} p x n 0 h) (next_none n);
        next = λ k a b g. absurd (omega arith);
      }

  pub linked_more : {p : ℕ} (heads nexts : List ℕ) (x k : ℕ) → x < p → k < 1024 → k < n → key k ≡ x → Linked p key n (k + 1) heads nexts
      → Linked p key n k (set heads x k) (set nexts k (get_or heads x 0))
  linked_more {p} heads nexts x k a b h e l =
      record {
        size = simp length-set l.size;
        room = simp length-set l.room;
        head = λ y g. head y g
            (ℕ_discrete y x);
        next = λ j g f r. next j g f r (ℕ_discrete j k);
      }
    where
      head : (y : ℕ) → y < p → Dec (y ≡ x) → Next (λ j. key j ≡ y) k n (get_or (set heads x k) y 0)
      head y g (yes q) = rw (q, get_or-set_same heads x k 0 (omega (arith, l.size))) (next_here k h e)
      head y g (no q) = rw (get_or-set_other heads x y k 0 q) (next_past k (get_or heads y 0) (λ f. q (sym f ∙ e)) (l.head y g))

      next : (j : ℕ) → k ≤ j → j < n → key j < p → Dec (j ≡ k) → Next (λ i. key i ≡ key j) (j + 1) n (get_or (set nexts k (get_or heads x 0)) j 0)
      next j g f r (yes q) = rw (q, get_or-set_same nexts k (get_or heads x 0) 0 (omega (arith, l.room)), e) (l.head x a)
      next j g f r (no q) = rw (get_or-set_other nexts k j (get_or heads x 0) 0 q) (l.next j (omega (arith, q)) f r)

  module _ (nexts : List ℕ) where
    pub chain-start : {p : ℕ} (heads : List ℕ) (x i : ℕ) → x < p → Linked p key n i heads nexts → Chain key n nexts x (get_or heads x 0)
    chain-start heads x i h l =
        record {
          end = (l.head x h).end;
          here = (l.head x h).hit;
          next = λ k a b e. rw e at (l.next k (omega (arith, (l.head x h).start)) b (rw e h));
        }

    module _ (x i : ℕ) (h : i < n) (m : Chain key n nexts x i) where
      -- the next row of the chain
      pub chain_next : Next (λ j. key j ≡ x) (i + 1) n (get_or nexts i 0)
      chain_next = m.next i (omega arith) h (m.here h)

      pub chain_more : Chain key n nexts x (get_or nexts i 0)
      chain_more =
          record {
            end = chain_next.end;
            here = chain_next.hit;
            next = λ k a. m.next k
                (omega (arith, chain_next.start));
          }

      pub chain-rises : (i < get_or nexts i 0) × (get_or nexts i 0 ≤ n)
      chain-rises = (omega (arith, chain_next.start), chain_next.end)

module _ (key : ℕ → ℕ) (n : ℕ) (P : ℕ → Type 0) (nexts : List ℕ) (x : ℕ) (more : (k : ℕ) → k < n → (key k ≡ x → ⊥) → P k → P (k + 1)) where
  pub chain_carry : (i : ℕ) → i < n → Chain key n nexts x i → P (i + 1) → P (get_or nexts i 0)
  chain_carry i h m p = carry P (chain_next key n nexts x i h m) more p

  pub head_carry : {p : ℕ} (heads : List ℕ) (i : ℕ) → x < p → Linked p key n i heads nexts → P i → P (get_or heads x 0)
  head_carry heads i h l p = carry P (l.head x h) more p
