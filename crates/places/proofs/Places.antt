-- The table of places. The rows are entered from the last to the first, so that each place is left with its first row. A row's tag leads to
-- its place, so a place that is empty, or whose row comes later, says that no row before has the tag.
-- Assumes nothing.
use Rattle.std.specs.Prelude.{None, Some}
use Prim.Native.Nat.{ℕ, zero, suc, ◌-◌, ◌≤◌, ◌<◌}
use mathlib.Core.Path.{◌≡◌, refl, sym, ap, ◌∙◌}
use mathlib.Core.Bool.{true, false}
use mathlib.Core.List.{List}
use lib.ListN.{length, get_or, set, replicate, length-set, length-replicate}
use lib.Seq.{get_or-set_same, get_or-set_other}
use native.Mathlib.Decide.{dec_lt, ℕ_discrete}
use native.Mathlib.Omega.{arith}
use borrow.Author.Tests.{eq-eqb, ne_eqb}
use Rattle.spec.specs.Rows.{row_at, rows_in, tag_of, commit_tag, commit_number, has_tag}
use Rattle.spec.specs.Look.{commit_of}
use Rattle.spec.specs.Share.{any}
use Rattle.search.specs.Inner.{Next}
use Rattle.places.specs.Inner.{place, Places}
use Rattle.search.proofs.Folds.{any_at, any_none, commit_none, commit_first}

place_below : (tag : ℕ) → place tag < 4096
unfolding place
place_below tag = omega arith

-- the rows from i on are entered
pub record Entered (tag : ℕ → ℕ) (n : ℕ) (l : List ℕ) (i : ℕ) : Type 0 where
  pub size : length l ≡ 4096
  pub last : i ≤ n
  pub within : (x : ℕ) → get_or l x 0 ≤ n
  pub filled : (k : ℕ) → i ≤ k → k < n → get_or l (place (tag k)) 0 ≡ 0 → ⊥
  pub first : (x k : ℕ) → i ≤ k → suc k < get_or l x 0 → place (tag k) ≡ x → ⊥

zeros : (m x : ℕ) → ◌≡◌ {A = ℕ} (get_or (replicate m 0) x 0) 0
zeros zero x = refl
zeros (suc m) zero = refl
zeros (suc m) (suc x) = zeros m x

-- what is true of the value stored, and elsewhere of what was there, is true of what is there
stored_at : (P : ℕ → Type 0) (l : List ℕ) (x v y : ℕ) → x < length l → P v → ((y ≡ x → ⊥) → P (get_or l y 0)) → P (get_or (set l x v) y 0)
stored_at P l x v y h new old = go (ℕ_discrete y x)
  where
    go : Dec (y ≡ x) → P (get_or (set l x v) y 0)
    go (yes e) = rw (e, get_or-set_same l x v 0 h) new
    go (no ne) = rw (get_or-set_other l x y v 0 ne) (old ne)

module _ (tag : ℕ → ℕ) (n : ℕ) where
  pub entered_none : Entered tag n (replicate 4096 0) n
  entered_none =
      record {
        size = length-replicate {A = ℕ} 4096 0;
        last = omega arith;
        within = λ x. rw (zeros 4096 x) (omega arith);
        filled = λ k h g e. omega arith;
        first = λ x k h g e. omega (arith, g, zeros 4096 x);
      }

  pub entered_more : (l : List ℕ) (i x : ℕ) → 0 < i → x ≡ place (tag (i - 1)) → Entered tag n l i → Entered tag n (set l x i) (i - 1)
  entered_more l i x h at m =
      record {
        size = simp length-set m.size;
        last = omega (arith, m.last);
        within = λ y. stored_at (λ v. v ≤ n) l x i y room m.last (λ ne. m.within y);
        filled = λ k g b. stored_at (λ v. v ≡ 0 → ⊥) l x i (place (tag k)) room (λ e. omega arith) (λ ne. m.filled k (later k g ne) b);
        first = λ y k g. stored_at (λ v. suc k < v → place (tag k) ≡ y → ⊥) l x i y room (λ b e. omega arith)
            (λ ne b e. m.first y k (later k g (λ f. ne (sym e ∙ f))) b e);
      }
    where
      room : x < length l
      room = omega (arith, at, m.size, place_below (tag (i - 1)))

      later : (k : ℕ) → i - 1 ≤ k → (place (tag k) ≡ x → ⊥) → i ≤ k
      later k g ne = go (dec_lt (i - 1) k)
        where
          go : Dec (i - 1 < k) → i ≤ k
          go (yes b) = omega arith
          go (no b) =
              let e : k ≡ i - 1 = omega (arith, b) in
              absurd (ne (rw e (sym at)))

  -- where the tag t is not, by what stands at its place
  module _ (places : List ℕ) (h : Places tag n places) (t at : ℕ) (e : at ≡ get_or places (place t) 0) where
    not_there : at ≡ 0 → (k : ℕ) → k < n → tag k ≡ t → ⊥
    not_there z k l f = h.filled k l (rw f (sym e ∙ z))

    not-before : (k : ℕ) → suc k < at → tag k ≡ t → ⊥
    not-before k l f = h.first (place t) k (rw (← e) l) (ap place f)

    pub at_most : at ≤ n
    at_most = rw e (h.within (place t))

-- ---- a committed row

module _ (n : ℕ) (s places : List ℕ) (h : Places (λ k. commit_tag (row_at 8 k s)) n places) (t at : ℕ) (e : at ≡ get_or places (place t) 0) where
  pub commit_nowhere : at ≡ 0 → commit_of t (rows_in 8 n s) ≡ None
  commit_nowhere z = commit_none t n s (not_there _ n places h t at e z)

  pub commit_found : (at ≡ 0 → ⊥) → commit_tag (row_at 8 (at - 1) s) ≡ t → commit_of t (rows_in 8 n s) ≡ Some (commit_number (row_at 8 (at - 1) s))
  commit_found ne f =
      commit_first t n s (at - 1) (omega (arith, ne, at_most _ n places h t at e)) f (λ j l. not-before _ n places h t at e j (omega arith))

-- ---- a data row

pub row_found : (n : ℕ) (s : List ℕ) (t k : ℕ) → k < n → tag_of (row_at 24 k s) ≡ t → any (has_tag t) (rows_in 24 n s) ≡ true
unfolding has_tag
row_found n s t k l f = any_at (has_tag t) 24 n s k l (eq-eqb _ _ f)

module _ (n : ℕ) (s places : List ℕ) (h : Places (λ k. tag_of (row_at 24 k s)) n places) (t at : ℕ) (e : at ≡ get_or places (place t) 0) where
  pub row_nowhere : at ≡ 0 → any (has_tag t) (rows_in 24 n s) ≡ false
  unfolding has_tag
  row_nowhere z = any_none (has_tag t) 24 n s (λ k l. ne_eqb _ _ (not_there _ n places h t at e z k l))

  -- another tag has its place, and a pass from there on does not find it
  pub row_missed : (r : ℕ) → (tag_of (row_at 24 (at - 1) s) ≡ t → ⊥) → Next (λ k. tag_of (row_at 24 k s) ≡ t) at n r → n ≤ r
      → any (has_tag t) (rows_in 24 n s) ≡ false
  unfolding has_tag
  row_missed r ne next g = any_none (has_tag t) 24 n s (λ k l. ne_eqb _ _ (missed k l (dec_lt (suc k) at) (dec_lt k at)))
    where
      missed : (k : ℕ) → k < n → Dec (suc k < at) → Dec (k < at) → tag_of (row_at 24 k s) ≡ t → ⊥
      missed k l (yes b) d = not-before _ n places h t at e k b
      missed k l (no b) (yes d) =
          let z : k ≡ at - 1 = omega (arith, b, d) in
          rw z ne
      missed k l (no b) (no d) = next.misses k (omega (arith, d)) (omega (arith, l, g))
