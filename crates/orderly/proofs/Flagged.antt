-- The rows of one place are flagged, by a walk over their chain: rows of other places are passed over.
-- Assumes nothing.
use Prim.Native.Nat.{ℕ, ◌+◌, ◌≤◌, ◌<◌}
use mathlib.Core.Path.{◌≡◌, refl, sym, ap, ◌∙◌}
use mathlib.Core.Bool.{Bool, true, false}
use mathlib.Core.List.{List}
use lib.Dec.{eqb}
use lib.ListN.{length, get_or, set, replicate, length-set, length-replicate, get_or-replicate}
use lib.Seq.{get_or-set_same, get_or-set_other}
use native.Mathlib.Omega.{arith}
use borrow.Author.Count.{below_more}
use borrow.Author.Tests.{eqb-true, eq-eqb, ne_eqb}
use Rattle.std.specs.Prelude.{if◌then◌else◌}
use Rattle.spec.specs.Rows.{row_at, tag_of}
use Rattle.search.specs.Inner.{Next}
use Rattle.orderly.specs.Inner.{Chain, PlaceFlags, Alike, OpenTest}
use Rattle.search.proofs.Passes.{carry}
use Rattle.orderly.proofs.Chains.{chain_carry}

-- the flag of a row
abbrev pub flag_of : (ℕ → ℕ) → ℕ → ℕ → ℕ
flag_of key x k = if eqb (key k) x then 1 else 0

-- rows before i are flagged, and those from it on not yet
pub record Flagged (key : ℕ → ℕ) (x n : ℕ) (flags : List ℕ) (i : ℕ) : Type 0 where
  pub size : length flags ≡ 1024
  pub done : (k : ℕ) → k < i → get_or flags k 0 ≡ flag_of key x k
  pub rest : (k : ℕ) → i ≤ k → k < 1024 → get_or flags k 0 ≡ 0

module _ (key : ℕ → ℕ) (x n : ℕ) where
  -- a row of another place
  past : (flags : List ℕ) (k : ℕ) → k < 1024 → (key k ≡ x → ⊥) → Flagged key x n flags k → Flagged key x n flags (k + 1)
  past flags k h ne f =
      record {
        size = f.size;
        done = below_more (λ j. get_or flags j 0 ≡ flag_of key x j) k f.done (f.rest k (omega arith) h ∙ rw (ne_eqb (key k) x ne));
        rest = λ j a b. f.rest j (omega arith) b;
      }

  pub flagged_start : n ≤ 1024 → (flags : List ℕ) → flags ≡ replicate 1024 0 → (first : ℕ) → Next (λ k. key k ≡ x) 0 n first
      → Flagged key x n flags first
  flagged_start l flags q first p =
      carry (Flagged key x n flags) p (λ k h. past flags k (omega arith))
      (record {
        size = ap length q ∙ length-replicate {A = ℕ} 1024 0;
        done = λ k h. absurd (omega arith);
        rest = λ k a b. ap (λ (f : List ℕ). get_or f k 0) q ∙ get_or-replicate {A = ℕ} 1024 k 0 0 b;
      })

  -- a row of the place, and on to the next one
  pub flagged_more : n ≤ 1024 → (follows flags : List ℕ) (i : ℕ) → i < n → Chain key n follows x i → Flagged key x n flags i
      → Flagged key x n (set flags i 1) (get_or follows i 0)
  flagged_more l follows flags i h c f =
      chain_carry key n (Flagged key x n (set flags i 1)) follows x (λ k g. past (set flags i 1) k (omega arith)) i h c
      (record {
        size = simp length-set f.size;
        done =
            below_more (λ j. get_or (set flags i 1) j 0 ≡ flag_of key x j) i
            (λ k g. get_or-set_other flags i k 1 0 (λ z. omega arith) ∙ f.done k g)
            (get_or-set_same flags i 1 0 (omega (arith, f.size)) ∙ rw (eq-eqb (key i) x (c.here h)));
        rest = λ k a b. get_or-set_other flags i k 1 0 (λ z. omega arith) ∙ f.rest k (omega arith) b;
      })

  pub flagged_end : (flags : List ℕ) (i : ℕ) → n ≤ i → Flagged key x n flags i → PlaceFlags key x n flags
  flagged_end flags i h f = record { size = f.size; each = λ k l. f.done k (omega arith) }

  -- ---- the flags stand for the places

  module _ (flags : List ℕ) (f : PlaceFlags key x n flags) where
    one-there : (k : ℕ) → k < n → key k ≡ x → get_or flags k 0 ≡ 1
    one-there k h e = f.each k h ∙ rw (eq-eqb (key k) x e)

    one-back : (k : ℕ) → k < n → get_or flags k 0 ≡ 1 → key k ≡ x
    one-back k h e = go (eqb (key k) x) refl
      where
        go : (b : Bool) → eqb (key k) x ≡ b → key k ≡ x
        go true q = eqb-true (key k) x q
        go false q =
            let z : get_or flags k 0 ≡ 0 = f.each k h ∙ rw q in
            absurd (omega (arith, e))

    pub flags-alike : (s : List ℕ) → ((i k : ℕ) → i < n → k < n → tag_of (row_at 24 i s) ≡ tag_of (row_at 24 k s) → key i ≡ key k) → Alike n s flags
    flags-alike s alike =
        record {
          size = f.size;
          each = λ i k h l e. f.each i h ∙ ap (λ (y : ℕ). if eqb y x then 1 else 0) (alike i k h l e) ∙ sym (f.each k l);
        }

    pub flags-start : (first : ℕ) → Next (λ k. key k ≡ x) 0 n first → Next (λ k. get_or flags k 0 ≡ 1) 0 n first
    flags-start first p =
        record {
          start = p.start;
          end = p.end;
          misses = λ k a b e. p.misses k a b (one-back k (omega (arith, p.end)) e);
          hit = λ h. one-there first h (p.hit h);
        }

    pub flags-test : (s : List ℕ) (r : Bool) → OpenTest (λ k. get_or flags k 0) 1 n s r → OpenTest key x n s r
    flags-test s r t = record { plain = λ e k h q. t.plain e k h (one-there k h q); not_plain = t.not_plain }
