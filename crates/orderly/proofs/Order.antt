-- Orderly bytes. Of orderly committed rows any later one has a larger number and another tag; of orderly data rows each is plain.
-- Assumes nothing.
use Prim.Native.Nat.{ℕ, zero, suc, ◌+◌, ◌-◌, ◌≤◌, ◌<◌}
use mathlib.Core.Path.{◌≡◌, refl, sym, ◌∙◌}
use mathlib.Core.Bool.{Bool, true, false}
use mathlib.Core.List.{List}
use lib.Dec.{ltb, leb}
use native.Mathlib.Omega.{arith}
use native.Mathlib.Decide.{dec_lt}
use borrow.Author.Tests.{ltb-true, eqb-true, le-leb, lt-leb, eq-eqb}
use Rattle.std.specs.Prelude.{if◌then◌else◌, None, Some}
use Rattle.spec.specs.Rows.{Row, row_at, rows_in, rows_from, tag_of, cell_of, commit_tag, commit_number}
use Rattle.spec.proofs.Rows.{rows_start, rows_step, rows_end}
use Rattle.spec.specs.Look.{commit_of}
use Rattle.spec.specs.Share.{any, wrote}
use Rattle.search.proofs.Folds.{if_same, any_step, any_end, any_at, commit_first, commit_none}
use Rattle.spec.specs.Orderly.{under, is_commit_of, orderly_commits, orderly_rows, orderly}

pub differ : {b : Bool} → b ≡ true → b ≡ false → ⊥
differ e f =
    let z : ◌≡◌ {A = ℕ} 0 1 = cc in
    omega arith

-- two tests that follow from each other are the same
pub both_ways : (a b : Bool) → (a ≡ true → b ≡ true) → (b ≡ true → a ≡ true) → a ≡ b
both_ways true b f g = sym (f refl)
both_ways false true f g = g refl
both_ways false false f g = refl

pub if_left : (b x : Bool) → (if b then x else false) ≡ true → b ≡ true
if_left true x e = refl
if_left false x e = e

pub if_right : (b x : Bool) → (if b then x else false) ≡ true → x ≡ true
if_right true x e = e
if_right false x e = absurd (differ e refl)

unless_left : (b x : Bool) → (if b then false else x) ≡ true → b ≡ false
unless_left true x e = absurd (differ e refl)
unless_left false x e = refl

unless_right : (b x : Bool) → (if b then false else x) ≡ true → x ≡ true
unless_right true x e = absurd (differ e refl)
unless_right false x e = e

-- ---- a row that passes is somewhere

module _ (p : Row → Bool) (w n : ℕ) (s : List ℕ) where
  some_step : (C : Type 0) (i : ℕ) → any p (rows_from w n i s) ≡ true → (i < n → p (row_at w i s) ≡ true → C) →
      (any p (rows_from w n (i + 1) s) ≡ true → C) → C
  some_step C i e here rest = go (dec_lt i n)
    where
      test : i < n → (b : Bool) → p (row_at w i s) ≡ b → (if b then true else any p (rows_from w n (i + 1) s)) ≡ true → C
      test h true f g = here h f
      test h false f g = rest g

      go : Dec (i < n) → C
      go (yes h) = test h (p (row_at w i s)) refl (sym (any_step p w n i s h) ∙ e)
      go (no h) = absurd (differ e (any_end p w n i s (omega (arith, h))))

  some : (C : Type 0) (d i : ℕ) → n ≤ i + d → any p (rows_from w n i s) ≡ true → ((k : ℕ) → i ≤ k → k < n → p (row_at w k s) ≡ true → C) → C
  some C zero i l e found = absurd (differ e (any_end p w n i s (omega arith)))
  some C (suc d) i l e found = some_step C i e (found i (omega arith)) (λ g. some C d (i + 1) (omega arith) g (λ k a. found k (omega arith)))

  pub some_from : (C : Type 0) (i : ℕ) → any p (rows_from w n i s) ≡ true → ((k : ℕ) → i ≤ k → k < n → p (row_at w k s) ≡ true → C) → C
  some_from C i e found = some C n i (omega arith) e found

  pub some_in : (C : Type 0) → any p (rows_in w n s) ≡ true → ((k : ℕ) → k < n → p (row_at w k s) ≡ true → C) → C
  some_in C e found = some_from C 0 (rw (← rows_start w n s) e) (λ k a. found k)

  -- from row i on
  from_step : (i k : ℕ) → k < n → p (row_at w k s) ≡ true → (i < k → any p (rows_from w n (i + 1) s) ≡ true) → i ≤ k → any p (rows_from w n i s) ≡ true
  from_step i k h e rest l = go (dec_lt i k)
    where
      test : (b : Bool) → (if b then true else true) ≡ true
      test true = refl
      test false = refl

      go : Dec (i < k) → any p (rows_from w n i s) ≡ true
      go (yes c) = any_step p w n i s (omega arith) ∙ rw (rest c) (test (p (row_at w i s)))
      go (no c) =
          let z : i ≡ k = omega (arith, c) in
          rw z (any_step p w n k s h ∙ rw e)

  from_by : (d i k : ℕ) → k ≤ i + d → i ≤ k → k < n → p (row_at w k s) ≡ true → any p (rows_from w n i s) ≡ true
  from_by zero i k a b h e = from_step i k h e (λ l. absurd (omega arith)) b
  from_by (suc d) i k a b h e = from_step i k h e (λ l. from_by d (i + 1) k (omega arith) (omega arith) h e) b

  pub from_at : (i k : ℕ) → i ≤ k → k < n → p (row_at w k s) ≡ true → any p (rows_from w n i s) ≡ true
  from_at i k l h e = from_by k i k (omega arith) l h e

-- ---- what orderly committed rows are

module _ (m : ℕ) (c : List ℕ) where
  abbrev Low : ℕ → Bool
  Low i = under (commit_number (row_at 8 i c)) (rows_from 8 m (i + 1) c)

  abbrev Again : ℕ → Bool
  Again i = any (is_commit_of (commit_tag (row_at 8 i c))) (rows_from 8 m (i + 1) c)

  abbrev Rest : ℕ → Bool
  Rest i = orderly_commits (rows_from 8 m i c)

  order_step : (i : ℕ) → i < m → Rest i ≡ (if Low i then (if Again i then false else Rest (i + 1)) else false)
  unfolding orderly_commits
  order_step i h = rw (rows_step 8 m i c h)

  from_on : orderly_commits (rows_in 8 m c) ≡ true → (i : ℕ) → i ≤ m → Rest i ≡ true
  from_on e zero h = rw (← rows_start 8 m c) e
  from_on e (suc i) h =
      let z : suc i ≡ i + 1 = omega arith in
      rw z (unless_right (Again i) (Rest (i + 1)) (if_right (Low i) (if Again i then false else Rest (i + 1))
      (sym (order_step i h) ∙ from_on e i (omega arith))))

  pub disorder : (i : ℕ) → i ≤ m → Rest i ≡ false → orderly_commits (rows_in 8 m c) ≡ false
  disorder i h f = go (orderly_commits (rows_in 8 m c)) refl
    where
      go : (b : Bool) → orderly_commits (rows_in 8 m c) ≡ b → b ≡ false
      go true e = absurd (differ (from_on e i h) f)
      go false e = refl

  pub order_low : (i : ℕ) → i < m → Low i ≡ false → Rest i ≡ false
  order_low i h f = order_step i h ∙ rw f

  pub order_again : (i : ℕ) → i < m → Again i ≡ true → Rest i ≡ false
  order_again i h f = order_step i h ∙ rw f (if_same (Low i) false)

  pub order_more : (i : ℕ) → i < m → Low i ≡ true → Again i ≡ false → Rest (i + 1) ≡ true → Rest i ≡ true
  order_more i h e f g = order_step i h ∙ rw (e, f, g)

  pub order_end : Rest m ≡ true
  unfolding orderly_commits
  order_end = rw (rows_end 8 m m c (omega arith))

  pub under_end : (v : ℕ) → under v (rows_from 8 m m c) ≡ true
  unfolding under
  under_end v = rw (rows_end 8 m m c (omega arith))

  pub under_step : (v i : ℕ) → i < m → under v (rows_from 8 m i c) ≡ ltb v (commit_number (row_at 8 i c))
  unfolding under
  under_step v i h = rw (rows_step 8 m i c h)

  module _ (e : orderly_commits (rows_in 8 m c) ≡ true) where
    next-number : (j : ℕ) → j + 1 < m → commit_number (row_at 8 j c) < commit_number (row_at 8 (j + 1) c)
    unfolding under
    next-number j h =
        let low : Low j ≡ true = if_left (Low j) (if Again j then false else Rest (j + 1))
        (sym (order_step j (omega arith)) ∙ from_on e j (omega arith)) in
        ltb-true (commit_number (row_at 8 j c)) (commit_number (row_at 8 (j + 1) c)) (rw (rows_step 8 m (j + 1) c h) at low)

    rise-by : (d j : ℕ) → j + suc d < m → commit_number (row_at 8 j c) < commit_number (row_at 8 (j + suc d) c)
    rise-by zero j h = next-number j h
    rise-by (suc d) j h =
        let z : j + suc (suc d) ≡ j + suc d + 1 = omega arith in
        rw z (omega (arith, rise-by d j (omega arith), next-number (j + suc d) (omega arith)))

    -- "commit numbers rise"
    pub rise : (j k : ℕ) → j < k → k < m → commit_number (row_at 8 j c) < commit_number (row_at 8 k c)
    rise j k l h = rise-at (k - j) refl
      where
        rise-at : (d : ℕ) → d ≡ k - j → commit_number (row_at 8 j c) < commit_number (row_at 8 k c)
        rise-at zero q = absurd (omega arith)
        rise-at (suc d) q =
            let z : k ≡ j + suc d = omega arith in
            rw z (rise-by d j (omega arith))

    -- no later row has the tag
    pub alone : (j : ℕ) → j < m → any (is_commit_of (commit_tag (row_at 8 j c))) (rows_from 8 m (j + 1) c) ≡ false
    alone j h = unless_left (Again j) (Rest (j + 1)) (if_right (Low j) (if Again j then false else Rest (j + 1))
        (sym (order_step j h) ∙ from_on e j (omega arith)))

    pub distinct : (j k : ℕ) → j < k → k < m → commit_tag (row_at 8 j c) ≡ commit_tag (row_at 8 k c) → ⊥
    unfolding is_commit_of
    distinct j k l h q = differ (from_at (is_commit_of (commit_tag (row_at 8 j c))) 8 m c (j + 1) k (omega arith) h (eq-eqb _ _ (sym q)))
        (alone j (omega arith))

    pub row_number : (j tag : ℕ) → j < m → commit_tag (row_at 8 j c) ≡ tag → commit_of tag (rows_in 8 m c) ≡ Some (commit_number (row_at 8 j c))
    row_number j tag h q = commit_first tag m c j h q (λ i l f. distinct i j l h (f ∙ sym q))

    -- the tag that a data row has, committed under that number, is that of a committed row
    pub by-commit : (C : Type 0) (tag v : ℕ) → commit_of tag (rows_in 8 m c) ≡ Some v →
        ((k : ℕ) → k < m → commit_tag (row_at 8 k c) ≡ tag → commit_number (row_at 8 k c) ≡ v → C) → C
    unfolding is_commit_of
    by-commit C tag v q found = go (any (is_commit_of tag) (rows_in 8 m c)) refl
      where
        number : (k : ℕ) → k < m → commit_tag (row_at 8 k c) ≡ tag → commit_number (row_at 8 k c) ≡ v
        number k h f =
            let z : commit_of tag (rows_in 8 m c) ≡ Some (commit_number (row_at 8 k c)) = row_number k tag h f in
            cc

        nowhere : any (is_commit_of tag) (rows_in 8 m c) ≡ false → (k : ℕ) → k < m → commit_tag (row_at 8 k c) ≡ tag → ⊥
        nowhere f k h g = differ (any_at (is_commit_of tag) 8 m c k h (eq-eqb (commit_tag (row_at 8 k c)) tag g)) f

        none : any (is_commit_of tag) (rows_in 8 m c) ≡ false → ⊥
        none f =
            let y : commit_of tag (rows_in 8 m c) ≡ None = commit_none tag m c (nowhere f) in
            let z : ◌≡◌ {A = ℕ} 0 1 = cc in
            omega arith

        go : (b : Bool) → any (is_commit_of tag) (rows_in 8 m c) ≡ b → C
        go true f =
            some_in (is_commit_of tag) 8 m c C f
            (λ k h g. found k h (eqb-true (commit_tag (row_at 8 k c)) tag g) (number k h (eqb-true (commit_tag (row_at 8 k c)) tag g)))
        go false f = absurd (none f)

-- ---- what orderly data rows are

module _ (n : ℕ) (s : List ℕ) where
  abbrev Twice : ℕ → Bool
  Twice i = wrote (rows_from 24 n (i + 1) s) (tag_of (row_at 24 i s)) (cell_of (row_at 24 i s))

  abbrev Left : ℕ → Bool
  Left i = orderly_rows (rows_from 24 n i s)

  plain_step : (i : ℕ) → i < n → Left i ≡ (if leb 1024 (cell_of (row_at 24 i s)) then false else (if Twice i then false else Left (i + 1)))
  unfolding orderly_rows
  plain_step i h = rw (rows_step 24 n i s h)

  plain_on : orderly_rows (rows_in 24 n s) ≡ true → (i : ℕ) → i ≤ n → Left i ≡ true
  plain_on e zero h = rw (← rows_start 24 n s) e
  plain_on e (suc i) h =
      let z : suc i ≡ i + 1 = omega arith in
      rw z (unless_right (Twice i) (Left (i + 1)) (unless_right (leb 1024 (cell_of (row_at 24 i s))) (if Twice i then false else Left (i + 1))
      (sym (plain_step i h) ∙ plain_on e i (omega arith))))

  pub displain : (i : ℕ) → i ≤ n → Left i ≡ false → orderly_rows (rows_in 24 n s) ≡ false
  displain i h f = go (orderly_rows (rows_in 24 n s)) refl
    where
      go : (b : Bool) → orderly_rows (rows_in 24 n s) ≡ b → b ≡ false
      go true e = absurd (differ (plain_on e i h) f)
      go false e = refl

  pub plain_large : (i : ℕ) → i < n → 1024 ≤ cell_of (row_at 24 i s) → Left i ≡ false
  plain_large i h f = plain_step i h ∙ rw (le-leb 1024 (cell_of (row_at 24 i s)) f)

  pub plain_twice : (i : ℕ) → i < n → Twice i ≡ true → Left i ≡ false
  plain_twice i h f = plain_step i h ∙ rw f (if_same (leb 1024 (cell_of (row_at 24 i s))) false)

  pub plain_more : (i : ℕ) → i < n → cell_of (row_at 24 i s) < 1024 → Twice i ≡ false → Left (i + 1) ≡ true → Left i ≡ true
  plain_more i h e f g = plain_step i h ∙ rw (lt-leb 1024 (cell_of (row_at 24 i s)) e, f, g)

  pub plain_end : Left n ≡ true
  unfolding orderly_rows
  plain_end = rw (rows_end 24 n n s (omega arith))

-- ---- both

pub disorder_commits : (ds cs : List Row) → orderly_commits cs ≡ false → orderly ds cs ≡ false
unfolding orderly
disorder_commits ds cs e = rw e

pub disorder_rows : (ds cs : List Row) → orderly_rows ds ≡ false → orderly ds cs ≡ false
unfolding orderly
disorder_rows ds cs e = rw e (if_same (orderly_commits cs) false)

-- where the committed rows are orderly a test of the data rows decides
pub order_decided : (b : Bool) (ds cs : List Row) → orderly_commits cs ≡ true → (b ≡ true → orderly_rows ds ≡ true)
    → (b ≡ false → orderly_rows ds ≡ false) → b
    ≡ orderly ds cs
unfolding orderly
order_decided true ds cs o f g = rw (o, f refl)
order_decided false ds cs o f g = rw (o, g refl)
