-- Who shares a cell with a transaction: members of a set that grows client by client and row by row.
-- Assumes nothing.
use Prim.Native.Nat.{ℕ, ◌+◌, ◌^◌, ◌≤◌, ◌<◌}
use mathlib.Core.Path.{◌≡◌, refl, sym, ◌∙◌}
use mathlib.Core.Bool.{Bool, true, false, ◌&&◌, ◌||◌, or-true, or-false, and-false}
use mathlib.Core.List.{List}
use native.Mathlib.Omega.{arith}
use lib.ListN.{get_or}
use lib.Dec.{eqb, ltb}
use borrow.Author.Tests.{eq-eqb, ne_eqb, lt-ltb, le-ltb, eqb-true, eqb-false, ltb-true, ltb-false}
use Rattle.std.specs.Prelude.{if◌then◌else◌}
use Rattle.spec.specs.Set.{clients, member, insert, collect}
use Rattle.spec.proofs.Sets.{member-insert, member_above, member-collect, collect-lt, same_members}
use Rattle.spec.specs.Rows.{Row, tag_of, cell_of, has_tag, row_at, rows_in, rows_from}
use Rattle.spec.proofs.Rows.{rows_start, rows_step}
use Rattle.spec.specs.Share.{any, wrote, shares}
use Rattle.search.proofs.Folds.{if_same, any_step, any_end}

eqb_turn : (a b : ℕ) → eqb a b ≡ eqb b a
eqb_turn a b = go (eqb b a) refl
  where
    go : (t : Bool) → eqb b a ≡ t → eqb a b ≡ t
    go true e = eq-eqb a b (sym (eqb-true b a e))
    go false e = ne_eqb a b (λ q. eqb-false b a e (sym q))

-- no client past the last is queued
within : (queued i j : ℕ) (t : Bool) → queued < 2 ^ clients → clients ≤ i → (ltb j i && (member queued j && t)) ≡ (member queued j && t)
within queued i j t h l = go (ltb j i) refl
  where
    go : (u : Bool) → ltb j i ≡ u → (u && (member queued j && t)) ≡ (member queued j && t)
    go true e = refl
    go false e = rw (member_above clients queued j h (omega (arith, ltb-false j i e)))

empty : (j : ℕ) → member 0 j ≡ false
empty j = member_above 0 0 j (omega arith) (omega arith)

-- ---- client by client: the members are those of `found`, and the clients below i that p holds of

abbrev pub JoinedBelow : ℕ → (ℕ → Bool) → ℕ → ℕ → Type 0
JoinedBelow found p i out = (j : ℕ) → member out j ≡ (member found j || (ltb j i && p j))

module _ (found : ℕ) (p : ℕ → Bool) where
  pub writers_more : (out i n : ℕ) → i < clients → n ≡ i + 1 → JoinedBelow found p i out → JoinedBelow found p n (if p i then insert clients out i else out)
  writers_more out i n h next all j = rw next (go (eqb j i) (p i) refl refl)
    where
      still : (j ≡ i → ⊥) → (t : Bool) → ltb j i ≡ t → ltb j (i + 1) ≡ t
      still n true e = lt-ltb j (i + 1) (omega (arith, ltb-true j i e))
      still n false e = le-ltb j (i + 1) (omega (arith, ltb-false j i e, n))

      go : (t u : Bool) → eqb j i ≡ t → p i ≡ u → member (if u then insert clients out i else out) j ≡ (member found j || (ltb j (i + 1) && p j))
      go true true e f = rw (member-insert clients out i j h, e, eqb-true j i e, f, lt-ltb i (i + 1) (omega arith), or-true)
      go true false e f = all j ∙ rw (eqb-true j i e, f, and-false, and-false)
      go false true e f = rw (member-insert clients out i j h, e, still (eqb-false j i e) (ltb j i) refl) (all j)
      go false false e f = rw (still (eqb-false j i e) (ltb j i) refl) (all j)

pub writers_end : (found queued i j : ℕ) (t : Bool) → queued < 2 ^ clients → clients ≤ i
    → (member found j || (ltb j i && (member queued j && t))) ≡ (member found j || (member queued j && t))
writers_end found queued i j t h l = rw (within queued i j t h l)

-- ---- row by row: the members are the queued clients whose transactions share a cell with the transaction in the rows before i

-- the row is b's, and a wrote its cell
abbrev meets : List Row → ℕ → ℕ → Row → Bool
meets ds a b r = if has_tag b r then wrote ds a (cell_of r) else false

regroup : (f q e a : Bool) → (f || (q && (if (if e then true else false) then true else a))) ≡ ((f || (q && e)) || (q && a))
regroup true q e a = refl
regroup false false e a = refl
regroup false true true a = refl
regroup false true false a = refl

module _ (tag queued n : ℕ) (d numbers : List ℕ) where
  pub Shared : ℕ → ℕ → Type 0
  Shared found i =
      (j : ℕ) → (member queued j && shares (rows_in 24 n d) tag (get_or numbers j 0))
      ≡ (member found j || (member queued j && any (meets (rows_in 24 n d) tag (get_or numbers j 0)) (rows_from 24 n i d)))

  pub share_start : Shared 0 0
  unfolding Shared shares
  share_start j = rw (empty j, ← rows_start 24 n d)

  module _ (found i : ℕ) (all : Shared found i) where
    pub share-miss : i < n → wrote (rows_in 24 n d) tag (cell_of (row_at 24 i d)) ≡ false → Shared found (i + 1)
    unfolding Shared
    share-miss h e j =
        all j ∙ rw (any_step (meets (rows_in 24 n d) tag (get_or numbers j 0)) 24 n i d h, e, if_same (has_tag (get_or numbers j 0) (row_at 24 i d)) false)

    pub share-hit : i < n → wrote (rows_in 24 n d) tag (cell_of (row_at 24 i d)) ≡ true → (out : ℕ)
        → ((j : ℕ) → member out j ≡ (member found j || (member queued j && eqb (get_or numbers j 0) (tag_of (row_at 24 i d))))) → Shared out (i + 1)
    unfolding Shared any has_tag
    share-hit h e out new j =
        all j
        ∙ rw (rows_step 24 n i d h, e, new j, eqb_turn (get_or numbers j 0) (tag_of (row_at 24 i d)))
        (regroup (member found j) (member queued j) (eqb (tag_of (row_at 24 i d)) (get_or numbers j 0))
        (any (meets (rows_in 24 n d) tag (get_or numbers j 0)) (rows_from 24 n (i + 1) d)))

    pub share-end : n ≤ i → queued < 2 ^ clients → found < 2 ^ clients
        → found ≡ collect (λ j. member queued j && shares (rows_in 24 n d) tag (get_or numbers j 0)) clients
    unfolding Shared
    share-end h q f =
        same_members clients found (collect (λ j. member queued j && shares (rows_in 24 n d) tag (get_or numbers j 0)) clients) f
        (collect-lt (λ j. member queued j && shares (rows_in 24 n d) tag (get_or numbers j 0)) clients)
        (λ j. sym (all j ∙ rw (any_end (meets (rows_in 24 n d) tag (get_or numbers j 0)) 24 n i d h, and-false, or-false))
        ∙ sym (member-collect (λ j. member queued j && shares (rows_in 24 n d) tag (get_or numbers j 0)) clients j (omega arith)
        ∙ within queued clients j (shares (rows_in 24 n d) tag (get_or numbers j 0)) q (omega arith)))

-- where no client is queued, none shares a cell
pub share_none : (q : ℕ → Bool) → 0 ≡ collect (λ j. member 0 j && q j) clients
share_none q =
    same_members clients 0 (collect (λ j. member 0 j && q j) clients) (omega arith) (collect-lt (λ j. member 0 j && q j) clients)
    (λ j. rw (member-collect (λ j. member 0 j && q j) clients j (omega arith), empty j, and-false))
