-- One transaction between two of its calls. A claim Q on an open client's entry and on the book lasts through rightly answered calls that do not
-- abandon the transaction, where it lasts through the client's writes, its steps and growth of the book (`Lasts`): other clients' calls change
-- another client's entry, a Begin of an open client is not answered, and the book changes only at its end (`call_spares`). So a call of the list is
-- right by a table in which Q holds still, if an earlier call made it hold (`two-calls`).
-- Assumes nothing.
use Prim.Native.Nat.{ℕ, ◌+◌}
use mathlib.Core.Path.{◌≡◌, refl, sym, ap, ◌∙◌, subst}
use mathlib.Core.Logic.{◌≢◌, by_cases}
use mathlib.Core.List.{List, [], ◌∷◌, ◌++◌}
use mathlib.Core.Option.{Option, none, some}
use native.Mathlib.Decide.{ℕ_discrete}
use borrow.Author.Tests.{eqb-true, eq-eqb, ne_eqb}
use lib.Dec.{eqb}
use Rattle.spec.specs.declared.Progress.{Progress}
use Rattle.spec.specs.declared.Progress.TheVariants.{Stage, Waiting, Conflict, Done}
use Rattle.spec.specs.Answers.{Answer, Answered, Refused}
use Rattle.spec.specs.Run.{Call, Begin, Read, Write, Advance, Abandon, Trim, Free, step}
use Rattle.spec.specs.Bytes.{Memory}
use Rattle.spec.specs.Table.{Value, Commit, Open, Table, override, with_writes, at_stage, on_stage, Observed, update}
use Rattle.spec.specs.Right.{Bounds, Right, observed, RightRun}
use Rattle.history.proofs.Lists.{none-some, same_some}
use Rattle.demands.specs.Afterwards.{after_run}
use Rattle.demands.specs.Demand.{Spares, Undisturbed}
use Rattle.demands.proofs.Book.{by_branch}

-- ---- one entry of a table replaced

pub put_same : {A : Type 0} (k : ℕ) (a : A) (f : ℕ → A) → override k a f k ≡ a
unfolding override
put_same k a f = rw (eq-eqb k k refl)

pub put_other : {A : Type 0} (k : ℕ) (a : A) (f : ℕ → A) (j : ℕ) → j ≢ k → override k a f j ≡ f j
unfolding override
put_other k a f j n = rw (ne_eqb j k n)

-- client k is open, and its entry and the book l are as Q says
abbrev HoldsOpen : ℕ → (Open → List Commit → Type 0) → (ℕ → Option Open) → List Commit → Type 0
HoldsOpen k Q f l = (o : Open) × (f k ≡ some o) × Q o l

-- the same of a table
abbrev pub HoldsIn : ℕ → (Open → List Commit → Type 0) → Table → Type 0
HoldsIn k Q t = HoldsOpen k Q t.clients t.book

module _ (k : ℕ) (Q : Open → List Commit → Type 0) (f : ℕ → Option Open) (l : List Commit) (s : HoldsOpen k Q f l) where
  -- another client's entry is replaced
  other : (j : ℕ) (a : Option Open) → j ≢ k → HoldsOpen k Q (override j a f) l
  other j a n = (s.0, put_other j a f k (λ e. n (sym e)) ∙ s.1, s.2)

  -- an open client's entry is replaced by one that, if it is k's, is as Q says
  entry : (j : ℕ) (o p : Open) → f j ≡ some o → (j ≡ k → Q o l → Q p l) → HoldsOpen k Q (override j (some p) f) l
  entry j o p e h =
      by_cases (ℕ_discrete j k)
      (λ q. (
        p,
        ap (override j (some p) f) (sym q) ∙ put_same j (some p) f,
        h q
            (subst (λ (z : Open). Q z l) (same_some (sym s.1 ∙ ap f (sym q) ∙ e)) s.2),
      ))
      (λ n. other j (some p) n)

-- what lasts through writes to cells as W says and through answers as P says, which do not end the transaction
pub record Lasts (W : ℕ → Type 0) (P : Progress → Type 0) (Q : Open → List Commit → Type 0) : Type 0 where
  pub wrote : (o : Open) (l : List Commit) (y : ℕ) (b : Value) → W y → Q o l → Q (with_writes (override y (some b) o.writes) o) l
  pub moved : (o : Open) (l : List Commit) (g n : ℕ) → g ≡ o.stage + 1 → P (Stage g) → Q o l → Q (at_stage g n o) l
  pub grown : (o : Open) (l : List Commit) (e : Commit) → Q o l → Q o (l ++ (e ∷ []))
  pub conflict : (n : ℕ) → P (Conflict n) → ⊥
  pub done : (n : ℕ) → P (Done n) → ⊥

module _ (W : ℕ → Type 0) (P : Progress → Type 0) (k : ℕ) (Q : Open → List Commit → Type 0) (l : Lasts W P Q) where
  -- ---- one call

  stage_spares : (t : Table) (j g : ℕ) (o : Open) → t.clients j ≡ some o → g ≡ o.stage + 1 → (j ≡ k → P (Stage g)) → HoldsIn k Q t
      → HoldsIn k Q (on_stage j g t (some o))
  unfolding on_stage
  stage_spares t j g o e r c s =
      let h : (n : ℕ) → HoldsOpen k Q (override j (some (at_stage g n o)) t.clients) t.book =
      λ n. entry k Q t.clients t.book s j o (at_stage g n o) e (λ q. l.moved o t.book g n r (c q)) in
      let at : (n y : ℕ) → g ≡ y → HoldsOpen k Q (override j (some (at_stage y n o)) t.clients) t.book =
      λ n y z. subst (λ (y : ℕ). HoldsOpen k Q (override j (some (at_stage y n o)) t.clients) t.book) z (h n) in
      by_branch (HoldsIn k Q) (eqb g 8) (λ z. at (t.count + 1) 8 (eqb-true g 8 z))
      (λ _. by_branch (HoldsIn k Q) (eqb g 12) (λ z. let a = at o.commit 12 (eqb-true g 12 z) in (a.0, a.1, l.grown a.0 t.book _ a.2))
      (λ _. h o.commit))

  call_spares : (n : Bounds) (w : ℕ) (t : Table) (q : Call) (a : Answer (Observed q)) (next : Answer ℕ) → Right n w t q a next
      → ((b : Observed q) → a ≡ Answered b → Spares W P k q b) → HoldsIn k Q t → HoldsIn k Q (update q a t)
  unfolding update
  call_spares n w t q (Refused m) next r c s = s
  call_spares n w t (Begin j) (Answered a) next r c s = other k Q t.clients t.book s j _
      (λ e. none-some (ap t.clients (sym e) ∙ r.closed) s.1)
  call_spares n w t (Read j y) (Answered a) next r c s = s
  call_spares n w t (Write j y b) (Answered a) next r c s =
      rw r.found (entry k Q t.clients t.book s j r.entry _ r.found (λ e. l.wrote r.entry t.book y b (c a refl e)))
  call_spares n w t (Advance j) (Answered (Stage g)) next r c s = rw r.found
      (stage_spares t j g r.entry r.found r.progress.next (c (Stage g) refl) s)
  call_spares n w t (Advance j) (Answered (Waiting m)) next r c s = s
  call_spares n w t (Advance j) (Answered (Conflict m)) next r c s =
      other k Q t.clients t.book s j none (λ e. l.conflict m (c (Conflict m) refl e))
  call_spares n w t (Advance j) (Answered (Done m)) next r c s = other k Q t.clients t.book s j none (λ e. l.done m (c (Done m) refl e))
  call_spares n w t (Abandon j) (Answered a) next r c s = other k Q t.clients t.book s j none (c a refl)
  call_spares n w t Trim (Answered a) next r c s = s
  call_spares n w t Free (Answered a) next r c s = s

  -- ---- lists of calls

  -- the answer a to the call q is right by a table in which Q holds
  abbrev StillRight : Bounds → (q : Call) → Answer (Observed q) → Type 0
  StillRight n q a = (t : Table) × HoldsIn k Q t × ((w : ℕ) × (next : Answer ℕ) × Right n w t q a next)

  up_to_lem : (q : Call) (qs rest : List Call) (n : Bounds) (w : ℕ) (t : Table) (m : Memory) → RightRun n w t m (qs ++ (q ∷ rest))
      → Undisturbed W P k m qs
      → HoldsIn k Q t → StillRight n q (observed q (after_run qs m))
  up_to_lem q [] rest n w t m r c s = (t, s, (w, _, r.0))
  up_to_lem q (p ∷ qs) rest n w t m r c s = up_to_lem q qs rest n _ _ _ r.1 c.1 (call_spares n w t p (observed p m) _ r.0 c.0 s)

  -- the call p is answered with a, and makes Q hold; q is a later call
  module _ (p q : Call) (between rest : List Call) (a : Observed p)
      (first : (n : Bounds) (w : ℕ) (t : Table) (next : Answer ℕ) → Right n w t p (Answered a) next → HoldsIn k Q (update p (Answered a) t)) where
    pub two-calls : (before : List Call) (n : Bounds) (w : ℕ) (t : Table) (m : Memory) → RightRun n w t m (before ++ (p ∷ (between ++ (q ∷ rest))))
        → observed p (after_run before m) ≡ Answered a → Undisturbed W P k (after_run (before ++ (p ∷ [])) m) between
        → StillRight n q (observed q (after_run (before ++ (p ∷ between)) m))
    two-calls [] n w t m r e c =
        let next : Answer ℕ = (step Free (step p m).memory).answer in
        up_to_lem q between rest n _ _ _ r.1 c
        (subst (λ (z : Answer (Observed p)). HoldsIn k Q (update p z t)) (sym e)
        (first n w t next (subst (λ (z : Answer (Observed p)). Right n w t p z next) e r.0)))
    two-calls (b ∷ before) n w t m r e c = two-calls before n _ _ _ r.1 e c
