-- The book of the plain table. A call changes it only by an Advance of an open client that answers Stage 12, which puts the client's commit to
-- its end. Where that answer is right, the commit's number is above the last in the book, so the numbers rise (`rising_run`); and the table
-- then has a value just where it had one or the commit wrote one (`valued_run`). Both go by one induction over the calls (`along`, of
-- any claim on the table).
-- Assumes nothing.
use Prim.Native.Nat.{ℕ, ◌<◌}
use mathlib.Core.Path.{◌≡◌, refl, sym, ap, ◌∙◌}
use mathlib.Core.Bool.{Bool, true, false, false≢true}
use mathlib.Core.List.Memᴰ.{head as here}
use mathlib.Core.List.{List, [], ◌∷◌, ◌++◌}
use mathlib.Core.Option.{Option, none, some}
use borrow.Author.Tests.{eqb-true}
use lib.Dec.{eqb}
use Rattle.std.specs.Prelude.{if◌then◌else◌}
use Rattle.spec.specs.declared.Progress.TheVariants.{Stage, Waiting, Conflict, Done}
use Rattle.spec.specs.Answers.{Answer, Answered, Refused}
use Rattle.spec.specs.Run.{Call, Begin, Read, Write, Advance, Abandon, Trim, Free}
use Rattle.spec.specs.Bytes.{Memory}
use Rattle.spec.specs.Table.{Value, Values, has, Commit, Open, Table, blank, or_else, on_commit, on_stage, Observed, update}
use Rattle.spec.specs.Right.{Bounds, last_number, RightProgress, Right, observed, RightRun}
use Rattle.history.proofs.Lists.{in_nil, in_left, in_right, append_case, in_one}
use Rattle.demands.specs.Afterwards.{table_after}
use Rattle.demands.specs.Demand.{Rising, Valued}

-- a claim on a choice, by its branches
pub by_branch : (P : Table → Type 0) (b : Bool) {s t : Table} → (b ≡ true → P s) → (b ≡ false → P t) → P (if b then s else t)
by_branch P true f g = f refl
by_branch P false f g = g refl

-- ---- what holds after every list of rightly answered calls

-- a claim on the table that every rightly answered call keeps
module _ (n : Bounds) (P : Table → Type 0)
    (keeps : (w : ℕ) (t : Table) (q : Call) (a : Answer (Observed q)) (next : Answer ℕ) → Right n w t q a next → P t → P (update q a t)) where
  pub along : (qs : List Call) (w : ℕ) (t : Table) (m : Memory) → RightRun n w t m qs → P t → P (table_after qs m t)
  along [] w t m r h = h
  along (q ∷ qs) w t m r h = along qs _ _ _ r.1 (keeps w t q (observed q m) _ r.0 h)

-- a claim on values and book that every commit numbered above the last keeps
module _ (P : Values → List Commit → Type 0)
    (made : (k : ℕ) (t : Table) (o : Open) → last_number t.book < o.commit → P t.values t.book
    → P (on_commit k t o).values (on_commit k t o).book) where
  stage_keeps : (t : Table) (o : Open) (k g : ℕ) → RightProgress t o (Stage g) → P t.values t.book
      → P (on_stage k g t (some o)).values (on_stage k g t (some o)).book
  unfolding on_stage
  stage_keeps t o k g r h =
      by_branch (λ s. P s.values s.book) (eqb g 8) (λ _. h)
      (λ _. by_branch (λ s. P s.values s.book) (eqb g 12) (λ e. made k t o (r.made (eqb-true g 12 e)).above h) (λ _. h))

  call_keeps : (n : Bounds) (w : ℕ) (t : Table) (q : Call) (a : Answer (Observed q)) (next : Answer ℕ) → Right n w t q a next
      → P t.values t.book
      → P (update q a t).values (update q a t).book
  unfolding update
  call_keeps n w t q (Refused m) next r h = h
  call_keeps n w t (Begin k) (Answered a) next r h = h
  call_keeps n w t (Read k x) (Answered a) next r h = h
  call_keeps n w t (Write k x v) (Answered a) next r h = rw r.found h
  call_keeps n w t (Advance k) (Answered (Stage g)) next r h = rw r.found (stage_keeps t r.entry k g r.progress h)
  call_keeps n w t (Advance k) (Answered (Waiting m)) next r h = h
  call_keeps n w t (Advance k) (Answered (Conflict m)) next r h = h
  call_keeps n w t (Advance k) (Answered (Done m)) next r h = h
  call_keeps n w t (Abandon k) (Answered a) next r h = h
  call_keeps n w t Trim (Answered a) next r h = h
  call_keeps n w t Free (Answered a) next r h = h

  book_along : (qs : List Call) (n : Bounds) (w : ℕ) (t : Table) (m : Memory) → RightRun n w t m qs → P t.values t.book
      → P (table_after qs m t).values (table_after qs m t).book
  book_along qs n = along n (λ t. P t.values t.book) (call_keeps n) qs

-- ---- the numbers rise

rising_append : (l : List Commit) (e : Commit) → last_number l < e.number → Rising l → Rising (l ++ (e ∷ []))
unfolding last_number
rising_append [] e h r = tt
rising_append (d ∷ []) e h r = (h, tt)
rising_append (d ∷ f ∷ l) e h r = (r.0, rising_append (f ∷ l) e h r.1)

pub rising_run : (qs : List Call) (n : Bounds) (w : ℕ) (m : Memory) → RightRun n w blank m qs → Rising (table_after qs m blank).book
unfolding blank
rising_run qs n w m r = book_along (λ v l. Rising l) (λ k t o h. rising_append t.book _ h) qs n w blank m r tt

-- ---- the cells with a value

-- writes laid over a value

over_case : (a b : Option Value) {C : Type 0} → has (or_else a b) ≡ true → (has a ≡ true → C) → (has b ≡ true → C) → C
over_case none b e f g = g e
over_case (some v) b e f g = f e

over_left : (a b : Option Value) → has a ≡ true → has (or_else a b) ≡ true
over_left none b e = cc
over_left (some v) b e = refl

over_right : (a b : Option Value) → has b ≡ true → has (or_else a b) ≡ true
over_right none b e = e
over_right (some v) b e = refl

valued_append : (x k : ℕ) (t : Table) (o : Open) → Valued x t.values t.book → Valued x (on_commit k t o).values (on_commit k t o).book
valued_append x k t o h = record {
  ever = λ e.
      over_case (o.writes x) (t.values x) e
      (λ p. (_, in_right t.book (here refl), p))
      (λ p. let z = h.ever p in (z.0, in_left _ z.1, z.2));
  still = λ z.
      append_case t.book z.1
      (λ i. over_right (o.writes x) (t.values x) (h.still (z.0, i, z.2)))
      (λ i. over_left (o.writes x) (t.values x) (ap (λ (e : Commit). e.wrote x) (sym (in_one i)) ∙ z.2));
}

pub valued_run : (qs : List Call) (n : Bounds) (w : ℕ) (m : Memory) → RightRun n w blank m qs → (x : ℕ)
    → Valued x (table_after qs m blank).values (table_after qs m blank).book
unfolding blank
valued_run qs n w m r x =
    book_along (Valued x) (λ k t o _. valued_append x k t o) qs n w blank m r record {
      ever = λ e. absurd (false≢true e);
      still = λ z. absurd (in_nil z.1);
    }
