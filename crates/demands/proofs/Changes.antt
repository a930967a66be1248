-- Every call as one of four changes of the clients: it leaves them as they are, begins one, moves one, or closes one (`Change`), made once from
-- `Transition`. What a call does to the queues (`call_effect`), what it brings to the client that it serves (`served_by`), and that a transaction that it
-- does not close remains (`remains`), each go by these four.
-- Assumes nothing.
use Prim.Native.Nat.{ℕ, suc, ◌≤◌, ◌<◌}
use mathlib.Core.Path.{◌≡◌, refl, sym, ◌∙◌, ap, subst}
use mathlib.Core.Logic.{◌≢◌, by_cases}
use mathlib.Core.Bool.{Bool, true, false, ◌||◌, or-false, false≢true}
use mathlib.Core.List.{List}
use mathlib.Core.Option.{Option, none, some}
use native.Mathlib.Decide.{ℕ_discrete}
use native.Mathlib.Omega.{arith}
use borrow.Author.Tests.{eqb-true, eq-eqb}
use lib.Dec.{eqb}
use Rattle.std.specs.Prelude.{if◌then◌else◌}
use Rattle.spec.specs.Set.{clients}
use Rattle.spec.specs.declared.Progress.{Progress}
use Rattle.spec.specs.declared.Progress.TheVariants.{Stage, Waiting, Conflict, Done}
use Rattle.spec.specs.Answers.{Answer, Answered, Refused}
use Rattle.spec.specs.Run.{Call, Begin, Read, Write, Advance, Abandon, Trim, Free}
use Rattle.spec.specs.Table.{Observed}
use Rattle.history.proofs.Lists.{ite_elim, same_some}
use Rattle.history.proofs.Tickets.{listing, look, list_size, clear_own, clear_fewer, listing_only, look_fewer}
use Rattle.history.proofs.Model.{Client, State, DRow, CRow, Out, out, putₛ, same, clear_c, clear_both, closedₛ, rph, cph, sharing?, begunₛ}
use Rattle.history.proofs.Model.{overwritten, addedₛ, removedₛ, leave, take_r, take_c, list_r, list_c, look_r, look_c, checkedₛ, committed}
use Rattle.history.proofs.Model.{trimmedₛ, figured, move, step_to, at_stageₛ, with_request, with_commit, with_rwait, with_cwait}
use Rattle.history.proofs.Moves.{put_at, put_off, Tame, tame_same, tame_C, tame_both}
use Rattle.history.proofs.Transition.{Transition, no_begin, no_read, no_write, no_advance, no_abandon, begins, reads, replaces, adds, at0}
use Rattle.history.proofs.Transition.{ends0, at1, at2, at3, at4, at5, at6, at7, at8, at9, at10, at11, at12, at13, abandons, trims, frees}
use Rattle.demands.specs.Rounds.{named, Fate, StillOpen, Abandoned, by_advance, by_abandon, fate_by, is_over, is_advance, serves}
use Rattle.history.proofs.Effects.{Effect, quiet, beginning, closing, ups, state_with, Fork, Up}

-- ---- the words of the statement

lasts : (c : Bool) (f : Fate) → f ≡ StillOpen → (if c then f else StillOpen) ≡ StillOpen
lasts true f e = e
lasts false f e = refl

-- who is served by a call is named by it
serves-named : (b : ℕ) (q : Call) (x : Answer (Observed q)) → serves b q x ≡ true → named q ≡ some b
serves-named b (Begin a) x e = absurd (false≢true e)
serves-named b (Read a y) x e = absurd (false≢true e)
serves-named b (Write a y v) x e = absurd (false≢true e)
serves-named b (Advance a) x e = ap some (go (eqb a b) refl e)
  where
    go : (c : Bool) → eqb a b ≡ c → (c || is_over (if c then by_advance x else StillOpen)) ≡ true → a ≡ b
    go true i e = eqb-true a b i
    go false i e = absurd (false≢true e)
serves-named b (Abandon a) x e = ap some (go (eqb a b) refl e)
  where
    go : (c : Bool) → eqb a b ≡ c → is_over (if c then by_abandon x else StillOpen) ≡ true → a ≡ b
    go true i e = eqb-true a b i
    go false i e = absurd (false≢true e)
serves-named b Trim x e = absurd (false≢true e)
serves-named b Free x e = absurd (false≢true e)

-- who is not ended by it is advanced
serves_advances : (b : ℕ) (q : Call) (x : Answer (Observed q)) → fate_by b q x ≡ StillOpen → serves b q x ≡ true → is_advance b q ≡ true
serves_advances b q x f e = sym (or-false (is_advance b q)) ∙ ap (λ (z : Fate). is_advance b q || is_over z) (sym f) ∙ e

-- ---- the four changes

-- a step of Advance that does not close: one stage up, or a look that leaves someone on the list
pub data Moved (s : State) (a : ℕ) (c : Client) : Type 0 where
  up : c.stage ≡ suc (s.cl a).stage → Moved s a c
  waits_R : (s.cl a).stage ≡ 4 → list_size clients (look (rph s) (λ x. (s.cl x).request) a (s.cl a).rwait) ≢ 0 → Moved s a c
  waits_C : (s.cl a).stage ≡ 10 → list_size clients (look (cph s) (λ x. (s.cl x).commit) a (s.cl a).cwait) ≢ 0 → Moved s a c

pub data Change (s : State) : (q : Call) → Out (Answer (Observed q)) → Type 0 where
  rests : {q : Call} {x : Answer (Observed q)} (t : State) → t.cl ≡ s.cl → t.W ≡ s.W → t.R ≡ s.R → t.C ≡ s.C
      → ((b : ℕ) → fate_by b q x ≡ StillOpen) → ((b : ℕ) → is_advance b q ≡ true → (s.cl b).stage ≡ 0) → Change s q (out t x)
  starts : (a : ℕ) → a < clients → (s.cl a).number ≡ 0 → Change s (Begin a) (begunₛ s a)
  moves : (a : ℕ) (c : Client) (x : Answer Progress) (f : Client → Client) (R C last : ℕ) (m : List CRow)
      → Up s a c → Moved s a c → 1 ≤ c.stage → Tame a f → (c.stage ≡ 13 → (d : Client) → (f d).cwait a ≡ true → ⊥)
      → s.R ≤ R → s.C ≤ C → Change s (Advance a) (out (state_with s s.W R C last s.dat m (putₛ a c f s.cl)) x)
  ends : {q : Call} {x : Answer (Observed q)} (a : ℕ) (d : List DRow) → named q ≡ some a → fate_by a q x ≢ StillOpen → Change s q (out (leave s a d) x)

-- ---- the steps of Advance

off : {A X Y : Type 0} → (A → ⊥) → X → Fork A X Y
off n x = (λ _. x, λ a. absurd (n a))

on : {A X Y : Type 0} → A → Y → Fork A X Y
on a y = (λ n. absurd (n a), λ _. y)

module _ (s : State) (a : ℕ) where
  -- client a with another stage, number, numbers and lists
  arm : (k r m : ℕ) (w v : ℕ → Bool) → (s.cl a).stage ≤ k → k ≤ suc (s.cl a).stage → k ≤ 13
      → Fork ((s.cl a).stage ≡ 1) (r ≡ (s.cl a).request) (r ≡ suc s.R)
      → Fork ((s.cl a).stage ≡ 7) (m ≡ (s.cl a).commit) (m ≡ suc s.C)
      → Fork ((s.cl a).stage ≡ 3) ((x : ℕ) → w x ≡ true → (s.cl a).rwait x ≡ true) ((x : ℕ) → w x ≡ true → (1 ≤ rph s x) × (x ≢ a))
      → Fork ((s.cl a).stage ≡ 9) ((x : ℕ) → v x ≡ true → (s.cl a).cwait x ≡ true) ((x : ℕ) → v x ≡ true → (1 ≤ cph s x) × (x ≢ a))
      → Up s a (record { number = (s.cl a).number; stage = k; snapshot = (s.cl a).snapshot; request = r; commit = m; rwait = w; cwait = v })
  arm k r m w v l h t fr fc fw fv = record { number = refl; low = l; high = h; top = t; request = fr; commit = fc; rwait = fw; cwait = fv }

  to : (k : ℕ) → k ≡ suc (s.cl a).stage → k ≢ 2 → k ≢ 8 → k ≢ 4 → k ≢ 10 → k ≤ 13 → Up s a (at_stageₛ (s.cl a) k)
  to k e n2 n8 n4 n10 h =
      arm k _ _ _ _ (omega arith) (omega arith) h
      (off (λ i. n2 (omega arith)) refl) (off (λ i. n8 (omega arith)) refl)
      (off (λ i. n4 (omega arith)) (λ _ z. z)) (off (λ i. n10 (omega arith)) (λ _ z. z))

  looks_R : (k : ℕ) (w : ℕ → Bool) → (s.cl a).stage ≡ 4 → 4 ≤ k → k ≤ 5 → ((x : ℕ) → w x ≡ true → (s.cl a).rwait x ≡ true)
      → Up s a (with_rwait (s.cl a) k w)
  looks_R k w e l h fewer =
      arm k _ _ w _ (omega arith) (omega arith) (omega arith)
      (off (omega arith) refl) (off (omega arith) refl) (off (omega arith) fewer) (off (omega arith) (λ _ z. z))

  looks_C : (k : ℕ) (w : ℕ → Bool) → (s.cl a).stage ≡ 10 → 10 ≤ k → k ≤ 11 → ((x : ℕ) → w x ≡ true → (s.cl a).cwait x ≡ true)
      → Up s a (with_cwait (s.cl a) k w)
  looks_C k w e l h fewer =
      arm k _ _ _ w (omega arith) (omega arith) (omega arith)
      (off (omega arith) refl) (off (omega arith) refl) (off (omega arith) (λ _ z. z)) (off (omega arith) fewer)

  takes_R : (s.cl a).stage ≡ 1 → Up s a (with_request (s.cl a) 2 (suc s.R))
  takes_R e =
      arm 2 (suc s.R) _ _ _ (omega arith) (omega arith) (omega arith)
      (on e refl) (off (omega arith) refl) (off (omega arith) (λ _ z. z)) (off (omega arith) (λ _ z. z))

  takes_C : (s.cl a).stage ≡ 7 → Up s a (with_commit (s.cl a) 8 (suc s.C))
  takes_C e =
      arm 8 _ (suc s.C) _ _ (omega arith) (omega arith) (omega arith)
      (off (omega arith) refl) (on e refl) (off (omega arith) (λ _ z. z)) (off (omega arith) (λ _ z. z))

  makes_R : (s.cl a).stage ≡ 3 → Up s a (with_rwait (s.cl a) 4 (listing (rph s) (λ b. sharing? s.dat (s.cl b).number (s.cl a).number) a))
  makes_R e =
      arm 4 _ _ _ _ (omega arith) (omega arith) (omega arith) (off (omega arith) refl) (off (omega arith) refl)
      (on e (listing_only (rph s) (λ b. sharing? s.dat (s.cl b).number (s.cl a).number) a)) (off (omega arith) (λ _ z. z))

  makes_C : (s.cl a).stage ≡ 9 → Up s a (with_cwait (s.cl a) 10 (listing (cph s) {P = λ _. Unit {0}} (λ _. yes tt) a))
  makes_C e =
      arm 10 _ _ _ _ (omega arith) (omega arith) (omega arith) (off (omega arith) refl) (off (omega arith) refl) (off (omega arith) (λ _ z. z))
      (on e (listing_only (cph s) {P = λ _. Unit {0}} (λ _. yes tt) a))

  -- it leaves the commit queue, and clears its own bit too
  leaves_C : (s.cl a).stage ≡ 12 → Up s a (at_stageₛ (clear_c a (s.cl a)) 13)
  leaves_C e =
      arm 13 _ _ _ _ (omega arith) (omega arith) (omega arith) (off (omega arith) refl) (off (omega arith) refl) (off (omega arith) (λ _ z. z))
      (off (omega arith) (λ x z. clear_fewer a (s.cl a).cwait x z))

-- ---- from Transition

module _ (s : State) (idle : (b : ℕ) → (s.cl b).number ≡ 0 → (s.cl b).stage ≡ 0) where
  -- nothing changes but the client, up to stage 12
  goes : (a : ℕ) (c : Client) (x : Answer Progress) → Up s a c → Moved s a c → 1 ≤ c.stage → c.stage ≤ 12
      → Change s (Advance a) (out (move s a c) x)
  goes a c x u v l k =
      moves a c x same s.R s.C s.last s.comm u v l (tame_same a) (λ e. absurd (omega arith)) (omega arith) (omega arith)

  simply : (a k : ℕ) → k ≡ suc (s.cl a).stage → 1 ≤ k → k ≢ 2 → k ≢ 8 → k ≢ 4 → k ≢ 10 → k ≤ 12 → Change s (Advance a) (step_to s a k)
  simply a k e l n2 n8 n4 n10 j = goes a _ (Answered (Stage k)) (to s a k e n2 n8 n4 n10 (omega arith)) (up e) l j

  looked_R : (a : ℕ) → (s.cl a).stage ≡ 4 → Change s (Advance a) (look_r s a (look (rph s) (λ b. (s.cl b).request) a (s.cl a).rwait))
  unfolding look_r
  looked_R a e =
      let w : ℕ → Bool = look (rph s) (λ b. (s.cl b).request) a (s.cl a).rwait in
      let fewer : (x : ℕ) → w x ≡ true → (s.cl a).rwait x ≡ true = look_fewer (rph s) (λ b. (s.cl b).request) a (s.cl a).rwait in
      ite_elim (Change s (Advance a)) (ℕ_discrete (list_size clients w) 0)
      (λ _. goes a _ (Answered (Stage 5)) (looks_R s a 5 w e (omega arith) (omega arith) fewer) (up (omega arith)) (omega arith) (omega arith))
      (λ n. goes a _ (Answered (Waiting (list_size clients w))) (looks_R s a 4 w e (omega arith) (omega arith) fewer) (waits_R e n)
      (omega arith) (omega arith))

  looked_C : (a : ℕ) → (s.cl a).stage ≡ 10 → Change s (Advance a) (look_c s a (look (cph s) (λ b. (s.cl b).commit) a (s.cl a).cwait))
  unfolding look_c
  looked_C a e =
      let w : ℕ → Bool = look (cph s) (λ b. (s.cl b).commit) a (s.cl a).cwait in
      let fewer : (x : ℕ) → w x ≡ true → (s.cl a).cwait x ≡ true = look_fewer (cph s) (λ b. (s.cl b).commit) a (s.cl a).cwait in
      ite_elim (Change s (Advance a)) (ℕ_discrete (list_size clients w) 0)
      (λ _. goes a _ (Answered (Stage 11)) (looks_C s a 11 w e (omega arith) (omega arith) fewer) (up (omega arith)) (omega arith) (omega arith))
      (λ n. goes a _ (Answered (Waiting (list_size clients w))) (looks_C s a 10 w e (omega arith) (omega arith) fewer) (waits_C e n)
      (omega arith) (omega arith))

  finished : (a : ℕ) (d : List DRow) (x : Answer Progress) → is_over (by_advance x) ≡ true → Change s (Advance a) (out (leave s a d) x)
  finished a d x e =
      ends {q = Advance a} {x = x} a d refl
      (λ z. false≢true (sym (ap is_over z) ∙ ap (λ (c : Bool). is_over (if c then by_advance x else StillOpen)) (eq-eqb a a refl) ∙ e))

  checks : (a : ℕ) → (s.cl a).stage ≡ 5 → (o : Option (ℕ × DRow)) → Change s (Advance a) (checkedₛ s a o)
  unfolding checkedₛ
  checks a e none = simply a 6 (omega arith) (omega arith) (omega arith) (omega arith) (omega arith) (omega arith) (omega arith)
  checks a e (some w) = finished a _ (Answered (Conflict w.0)) refl

  -- an Advance is refused to a closed client alone
  refused : (a : ℕ) → (s.cl a).number ≡ 0 → (b : ℕ) → eqb a b ≡ true → (s.cl b).stage ≡ 0
  refused a n b e = ap (λ (z : ℕ). (s.cl z).stage) (sym (eqb-true a b e)) ∙ idle a n

  pub change : {q : Call} {o : Out (Answer (Observed q))} → Transition s q o → Change s q o
  unfolding overwritten addedₛ trimmedₛ take_r take_c list_r list_c committed closedₛ
  change (no_begin a r d m) = rests _ refl refl refl refl (λ _. refl) (λ b z. absurd (false≢true z))
  change (no_read a y r d m) = rests _ refl refl refl refl (λ _. refl) (λ b z. absurd (false≢true z))
  change (no_write a y v r d m) = rests _ refl refl refl refl (λ _. refl) (λ b z. absurd (false≢true z))
  change (no_advance a r d m) = rests {q = Advance a} {x = Refused r} _ refl refl refl refl (λ b. lasts (eqb a b) StillOpen refl) (refused a m)
  change (no_abandon a r d m) =
      rests {q = Abandon a} {x = Refused r} _ refl refl refl refl (λ b. lasts (eqb a b) StillOpen refl) (λ b z. absurd (false≢true z))
  change (begins a h was w) = starts a h was
  change (reads a y h o e) = rests _ refl refl refl refl (λ _. refl) (λ b z. absurd (false≢true z))
  change (replaces a y v p o e) = rests _ refl refl refl refl (λ _. refl) (λ b z. absurd (false≢true z))
  change (adds a y v p o e) = rests _ refl refl refl refl (λ _. refl) (λ b z. absurd (false≢true z))
  change (at0 a h o e y) = simply a 1 (omega arith) (omega arith) (omega arith) (omega arith) (omega arith) (omega arith) (omega arith)
  change (ends0 a h o e n) = finished a s.dat (Answered (Done (s.cl a).snapshot)) refl
  change (at1 a h o e) =
      moves a _ (Answered (Stage 2)) same (suc s.R) s.C s.last s.comm (takes_R s a e) (up (omega arith)) (omega arith)
      (tame_same a) (λ i. absurd (omega arith)) (omega arith) (omega arith)
  change (at2 a h o e) = simply a 3 (omega arith) (omega arith) (omega arith) (omega arith) (omega arith) (omega arith) (omega arith)
  change (at3 a h o e) = goes a _ (Answered (Stage 4)) (makes_R s a e) (up (omega arith)) (omega arith) (omega arith)
  change (at4 a h o e) = looked_R a e
  change (at5 a h o e) = checks a e _
  change (at6 a h o e) = simply a 7 (omega arith) (omega arith) (omega arith) (omega arith) (omega arith) (omega arith) (omega arith)
  change (at7 a h o e) =
      moves a _ (Answered (Stage 8)) same s.R (suc s.C) s.last s.comm (takes_C s a e) (up (omega arith)) (omega arith)
      (tame_same a) (λ i. absurd (omega arith)) (omega arith) (omega arith)
  change (at8 a h o e) = simply a 9 (omega arith) (omega arith) (omega arith) (omega arith) (omega arith) (omega arith) (omega arith)
  change (at9 a h o e) = goes a _ (Answered (Stage 10)) (makes_C s a e) (up (omega arith)) (omega arith) (omega arith)
  change (at10 a h o e) = looked_C a e
  change (at11 a h o e) =
      moves a _ (Answered (Stage 12)) same s.R s.C _ _
      (to s a 12 (omega arith) (omega arith) (omega arith) (omega arith) (omega arith) (omega arith)) (up (omega arith)) (omega arith)
      (tame_same a) (λ i. absurd (omega arith)) (omega arith) (omega arith)
  change (at12 a h o e) =
      moves a _ (Answered (Stage 13)) (clear_c a) s.R s.C s.last s.comm (leaves_C s a e) (up (omega arith)) (omega arith)
      (tame_C a) (λ _ d. clear_own a d.cwait) (omega arith) (omega arith)
  change (at13 a h o e) = finished a s.dat (Answered (Done (s.cl a).commit)) refl
  change (abandons a h o k) =
      ends {q = Abandon a} {x = (figured (removedₛ s a)).answer} a _ refl
      (λ z. false≢true (sym (ap is_over z) ∙ ap (λ (c : Bool). is_over (if c then Abandoned else StillOpen)) (eq-eqb a a refl)))
  change (trims fits) = rests _ refl refl refl refl (λ _. refl) (λ b z. absurd (false≢true z))
  change frees = rests _ refl refl refl refl (λ _. refl) (λ b z. absurd (false≢true z))

-- ---- what goes by the four

pub call_effect : {s : State} → ((b : ℕ) → (s.cl b).number ≡ 0 → (s.cl b).stage ≡ 0) → {q : Call} {o : Out (Answer (Observed q))} → Change s q o
    → Effect q s o.state
call_effect {s} idle (rests t e w r c n k) = quiet s t e w r c
call_effect {s} idle (starts a h was) = beginning s a h (idle a was)
call_effect {s} idle (moves a c x f R C last m u v l tame out lr lc) = ups u f tame out R C last s.dat m lr lc
call_effect {s} idle (ends a d e n) = closing s a d

-- what the call that serves a client at stage 1 or later brings it: one stage, its end, or a wait with someone on its list
pub data Brings (s t : State) (b : ℕ) : Type 0 where
  goes_up : (t.cl b).stage ≡ suc (s.cl b).stage → (s.cl b).stage ≤ 12 → Brings s t b
  goes_out : (t.cl b).stage ≡ 0 → Brings s t b
  stays_R : (s.cl b).stage ≡ 4 → list_size clients (look (rph s) (λ x. (s.cl x).request) b (s.cl b).rwait) ≢ 0 → Brings s t b
  stays_C : (s.cl b).stage ≡ 10 → list_size clients (look (cph s) (λ x. (s.cl x).commit) b (s.cl b).cwait) ≢ 0 → Brings s t b

stage_at : (s : State) (a : ℕ) (c : Client) (f : Client → Client) → (putₛ a c f s.cl a).stage ≡ c.stage
stage_at s a c f = ap (λ (d : Client). d.stage) (put_at a c f s.cl)

brings : {s t : State} {a : ℕ} {c : Client} (f : Client → Client) → t.cl ≡ putₛ a c f s.cl → Up s a c → Moved s a c → Brings s t a
brings {s} {t} {a} {c} f e u (up i) = goes_up (ap (λ (g : ℕ → Client). (g a).stage) e ∙ stage_at s a c f ∙ i) (omega (arith, u.top))
brings f e u (waits_R i z) = stays_R i z
brings f e u (waits_C i z) = stays_C i z

pub served_by : {s : State} {q : Call} {o : Out (Answer (Observed q))} → Change s q o → (b : ℕ) → serves b q o.answer ≡ true → 1 ≤ (s.cl b).stage
    → Brings s o.state b
unfolding closedₛ
served_by (rests {q = q} {x = x} t i w r c n k) b z h = absurd (omega (arith, k b (serves_advances b q x (n b) z)))
served_by (starts a i was) b z h = absurd (false≢true z)
served_by {s} (moves a c x f R C last m u v l tame out lr lc) b z h =
    subst (Brings s _) (same_some (serves-named b (Advance a) x z)) (brings f refl u v)
served_by {s} (ends {q = q} {x = x} a d e n) b z h =
    subst (Brings s _) (same_some (sym e ∙ serves-named b q x z)) (goes_out (stage_at s a closedₛ (clear_both a)))

-- a transaction in the request queue that a call does not end is there afterwards
abbrev pub Remains : Client → Client → Type 0
Remains c d = (d.number ≡ c.number) × (1 ≤ d.stage)

module _ (s : State) (b : ℕ) (h : 1 ≤ (s.cl b).stage) where
  other : (a : ℕ) (c : Client) (f : Client → Client) → Tame a f → b ≢ a → Remains (s.cl b) (putₛ a c f s.cl b)
  other a c f tame n = rw (put_off a c f s.cl b n) (tame.number (s.cl b), omega (arith, tame.stage (s.cl b)))

  pub remains : {q : Call} {o : Out (Answer (Observed q))} → Change s q o → 1 ≤ (s.cl b).number → fate_by b q o.answer ≡ StillOpen
      → Remains (s.cl b) (o.state.cl b)
  unfolding begunₛ
  remains (rests t e w r c n k) p f = (ap (λ (g : ℕ → Client). (g b).number) e, rw e h)
  remains (starts a i was) p f = other a _ same (tame_same a) (λ e. omega (arith, ap (λ (y : ℕ). (s.cl y).number) e))
  remains (moves a c x j R C last m u v i tame out lr lc) p f =
      by_cases (ℕ_discrete b a)
      (λ e. subst (λ (y : ℕ). Remains (s.cl y) (putₛ a c j s.cl y)) (sym e) (rw (put_at a c j s.cl) (u.number, i)))
      (other a c j tame)
  remains (ends {q = q} {x = x} a d e n) p f = other a closedₛ (clear_both a) (tame_both a) (λ i. n (subst (λ (y : ℕ). fate_by y q x ≡ StillOpen) i f))
