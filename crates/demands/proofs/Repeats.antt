-- Repeated reads. An answered read gives what the plain table shows its client: the client's own value for the cell, else its copy's. A rightly
-- answered call that neither ends the client's transaction nor is a write of it to the cell leaves that as it is (`shown-lasts`), so both reads
-- are right by what the table showed at the first (`steady_run`). The stage rises by one with each step, so it is still at most 11 where no step
-- was answered with Stage 12: then the second read is not refused (`unbroken_run`).
-- Assumes nothing.
use Prim.Native.Nat.{ℕ, ◌≤◌, ◌<◌}
use mathlib.Core.Path.{◌≡◌, sym, ap, ◌∙◌, subst}
use mathlib.Core.List.{List}
use mathlib.Core.Option.{Option, some}
use native.Mathlib.Omega.{arith}
use Rattle.spec.specs.Answers.{Answer, Answered, Refused}
use Rattle.spec.specs.Rows.{cells}
use Rattle.spec.specs.Run.{Call, Read}
use Rattle.spec.specs.Bytes.{Memory}
use Rattle.spec.specs.Table.{Value, Commit, Open, Table, or_else, update}
use Rattle.spec.specs.Right.{Bounds, ReadRefusal, for_no_cell, for_late, RightRead, RightRun}
use Rattle.history.proofs.Lists.{same_some}
use Rattle.demands.specs.Demand.{GoesOn, Waits, Besides, Steady, Unbroken}
use Rattle.demands.proofs.Between.{put_other, HoldsIn, Lasts, two-calls}

-- what an open client is shown in a cell
abbrev shown : ℕ → Open → Option Value
shown x o = or_else (o.writes x) (o.copy x)

-- an answered read, and what is right of it
read_holds : (k x : ℕ) (u : Option Value) (Q : Open → List Commit → Type 0) (t : Table)
    → ((o : Open) → u ≡ shown x o → o.stage ≤ 11 → x < cells → Q o t.book) → RightRead t k x (Answered u) → HoldsIn k Q
    (update (Read k x) (Answered u) t)
unfolding update
read_holds k x u Q t first s = (s.entry, s.found, first s.entry s.value s.stage s.cell)

-- ---- two answered reads agree

abbrev Same : ℕ → Option Value → Open → List Commit → Type 0
Same x u o l = u ≡ shown x o

same_lasts : (x : ℕ) (u : Option Value) → Lasts (Besides x) GoesOn (Same x u)
same_lasts x u = record {
  wrote = λ o l y b n e. e ∙ ap (λ (v : Option Value). or_else v (o.copy x)) (sym (put_other y (some b) o.writes x (λ z. n (sym z))));
  moved = λ o l g n r p e. e;
  grown = λ o l d e. e;
  conflict = λ n p. p;
  done = λ n p. p;
}

pub steady_run : (qs : List Call) (n : Bounds) (w : ℕ) (t : Table) (m : Memory) → RightRun n w t m qs → Steady m qs
steady_run qs n w t m r k x before between rest u v split e c f =
    let z = two-calls (Besides x) GoesOn k (Same x u) (same_lasts x u) (Read k x) (Read k x) between rest u
    (λ n w t next s. read_holds k x u (Same x u) t (λ o p _ _. p) s) before n w t m (subst (RightRun n w t m) split r) e c in
    let s : RightRead z.0 k x (Answered v) = subst (RightRead z.0 k x) f z.2.2 in
    z.1.2 ∙ ap (shown x) (same_some (sym z.1.1 ∙ s.found)) ∙ sym s.value

-- ---- until the commit is made, the second is answered

-- what the first read tells of the entry: what it shows, and that it is early enough to show it again
record Early (x : ℕ) (u : Option Value) (o : Open) (l : List Commit) : Type 0 where
  same : u ≡ shown x o
  stage : o.stage ≤ 11
  cell : x < cells

early_lasts : (x : ℕ) (u : Option Value) → Lasts (Besides x) Waits (Early x u)
early_lasts x u = record {
  wrote = λ o l y b n e. record { same = (same_lasts x u).wrote o l y b n e.same; stage = e.stage; cell = e.cell };
  moved = λ o l g n r p e. record { same = e.same; stage = omega (arith, r, p, e.stage); cell = e.cell };
  grown = λ o l d e. record { same = e.same; stage = e.stage; cell = e.cell };
  conflict = λ n p. p;
  done = λ n p. p;
}

-- a right answer to a Read of such an entry
unrefused : (x g n : ℕ) → x < cells → g ≤ 11 → ReadRefusal x g n → ⊥
unrefused x g n c l (for_no_cell h) = omega arith
unrefused x g n c l (for_late h k) = omega arith

answered : (x k : ℕ) (u : Option Value) (t : Table) → HoldsIn k (Early x u) t → (a : Answer (Option Value)) → RightRead t k x a → a ≡ Answered u
answered x k u t s (Answered v) r =
    ap (λ (y : Option Value). Answered y) (r.value ∙ ap (shown x) (same_some (sym r.found ∙ s.1)) ∙ sym s.2.same)
answered x k u t s (Refused n) r = absurd (unrefused x s.0.stage n s.2.cell s.2.stage (r s.0 s.1))

pub unbroken_run : (qs : List Call) (n : Bounds) (w : ℕ) (t : Table) (m : Memory) → RightRun n w t m qs → Unbroken m qs
unbroken_run qs n w t m r k x before between rest u split e c =
    let z = two-calls (Besides x) Waits k (Early x u) (early_lasts x u) (Read k x) (Read k x) between rest u
    (λ n w t next s. read_holds k x u (Early x u) t (λ o p g h. record { same = p; stage = g; cell = h }) s) before n w t m
    (subst (RightRun n w t m) split r) e c in
    answered x k u z.0 z.1 _ z.2.2
