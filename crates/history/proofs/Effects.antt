-- What a change of one client does to both queues and to its transaction. A queue reads the clients in its own way (`Side`): each client's phase
-- by its stage, its number and its list. One call, as a queue sees it, is a `Tick`; what a call does altogether is an `Effect`. Begin, closing and
-- a step of Advance that does not close (`Up`) each have one. Beside what demand 3 keeps of the queues, a list names only other clients that are
-- in the queue (`OnLists`): a bit goes when its client leaves.
-- Assumes nothing.
use Prim.Native.Nat.{ℕ, suc, ◌-◌, min, ◌≤◌, ◌<◌}
use mathlib.Core.Path.{◌≡◌, refl, sym, ◌∙◌, ap, subst}
use mathlib.Core.Logic.{◌≢◌, ◌⊎◌, inl, inr, by_cases}
use mathlib.Core.Bool.{Bool, true}
use mathlib.Core.List.{List}
use native.Mathlib.Decide.{ℕ_discrete, dec_le}
use native.Mathlib.Omega.{arith}
use Rattle.spec.specs.Set.{clients}
use Rattle.spec.specs.Run.{Call, Begin}
use Rattle.history.proofs.Tickets.{clear_own}
use Rattle.history.proofs.Model.{Client, State, DRow, CRow, putₛ, same, clear_both, closedₛ, newcomer, rphase, cphase, begunₛ, leave}
use Rattle.history.proofs.Moves.{put_at, put_off, each, Tame, tame_same, tame_both}
use Rattle.history.proofs.Arms.{cph_in, cph_out}

-- ---- a queue's view of the clients

pub record Side : Type 0 where
  pub phase : ℕ → ℕ
  pub number : Client → ℕ
  pub list : Client → ℕ → Bool
  pub counter : State → ℕ

abbrev pub request_side : Side
request_side = record { phase = rphase; number = λ c. c.request; list = λ c. c.rwait; counter = λ s. s.R }

abbrev pub commit_side : Side
commit_side = record { phase = cphase; number = λ c. c.commit; list = λ c. c.cwait; counter = λ s. s.C }

abbrev pub phase_of : Side → (ℕ → Client) → ℕ → ℕ
phase_of q cl b = q.phase (cl b).stage

abbrev pub number_on : Side → (ℕ → Client) → ℕ → ℕ
number_on q cl b = q.number (cl b)

abbrev pub list_of : Side → (ℕ → Client) → ℕ → ℕ → Bool
list_of q cl b = q.list (cl b)

-- who is on a list is another client in the queue
abbrev pub OnLists : Side → (ℕ → Client) → Type 0
OnLists q cl = (b x : ℕ) → 4 ≤ phase_of q cl b → list_of q cl b x ≡ true → (1 ≤ phase_of q cl x) × (x ≢ b)

-- a client, from c to d: if it has a number that was taken before, it had it before, and is no less far
abbrev Back : Side → ℕ → Client → Client → Type 0
Back q ctr c d =
    2 ≤ q.phase d.stage → q.number d ≤ ctr
    → (2 ≤ q.phase c.stage) × (q.number d ≡ q.number c) × (q.phase c.stage ≤ q.phase d.stage)

-- one call, from clients cl and counter ctr to cl' and ctr': of who has such a number, the list has not grown either, and who is on it is no less far
pub record Tick (q : Side) (cl : ℕ → Client) (ctr : ℕ) (cl' : ℕ → Client) (ctr' : ℕ) : Type 0 where
  pub counter : ctr ≤ ctr'
  pub back : (b : ℕ) → Back q ctr (cl b) (cl' b)
  pub lists : (b x : ℕ) → 4 ≤ phase_of q cl b → 2 ≤ phase_of q cl' b → number_on q cl' b ≤ ctr → list_of q cl' b x ≡ true
      → (list_of q cl b x ≡ true) × (phase_of q cl x ≤ phase_of q cl' x)

same_tick : {q : Side} {cl : ℕ → Client} {ctr : ℕ} → Tick q cl ctr cl ctr
same_tick = record { counter = omega arith; back = λ b h l. (h, refl, omega arith); lists = λ b x h k l e. (e, omega arith) }

-- ---- client a becomes c, and f is what the others become: one queue

module _ (q : Side) (cl : ℕ → Client) (a : ℕ) (c : Client) (f : Client → Client) where
  -- of its own change: it keeps its number or takes a new one, and makes its list anew at most once
  pub record Own (ctr : ℕ) : Type 0 where
    pub back : Back q ctr (cl a) c
    pub lists : (x : ℕ) → 4 ≤ phase_of q cl a → 2 ≤ q.phase c.stage → q.list c x ≡ true → list_of q cl a x ≡ true
    made : (x : ℕ) → 4 ≤ q.phase c.stage → q.list c x ≡ true → (4 ≤ phase_of q cl a) ⊎ ((1 ≤ phase_of q cl x) × (x ≢ a))

  -- of the others: lists only lose, and lose a if it goes back
  pub record Touch : Type 0 where
    pub stage : (d : Client) → (f d).stage ≡ d.stage
    pub number : (d : Client) → q.number (f d) ≡ q.number d
    fewer : (d : Client) (x : ℕ) → q.list (f d) x ≡ true → q.list d x ≡ true
    clears : q.phase c.stage < phase_of q cl a → (d : Client) → q.list (f d) a ≡ true → ⊥

  module _ {ctr ctr' : ℕ} (t : Touch) (o : Own ctr) (le : ctr ≤ ctr') where
    abbrev cl' : ℕ → Client
    cl' = putₛ a c f cl

    phase-at : phase_of q cl' a ≡ q.phase c.stage
    phase-at = ap (λ (d : Client). q.phase d.stage) (put_at a c f cl)

    number_at : number_on q cl' a ≡ q.number c
    number_at = ap q.number (put_at a c f cl)

    phase-off : (b : ℕ) → b ≢ a → phase_of q cl' b ≡ phase_of q cl b
    phase-off b n = ap (λ (d : Client). q.phase d.stage) (put_off a c f cl b n) ∙ ap q.phase (t.stage (cl b))

    number-off : (b : ℕ) → b ≢ a → number_on q cl' b ≡ number_on q cl b
    number-off b n = ap q.number (put_off a c f cl b n) ∙ t.number (cl b)

    list_at : (x : ℕ) → list_of q cl' a x ≡ true → q.list c x ≡ true
    list_at x e = ap (λ (d : Client). q.list d x) (sym (put_at a c f cl)) ∙ e

    list-off : (b x : ℕ) → b ≢ a → list_of q cl' b x ≡ true → q.list (f (cl b)) x ≡ true
    list-off b x n e = ap (λ (d : Client). q.list d x) (sym (put_off a c f cl b n)) ∙ e

    -- a client on another's list has not left
    still-in : (b x : ℕ) → b ≢ a → list_of q cl' b x ≡ true → phase_of q cl x ≤ phase_of q cl' x
    still-in b x n e =
        by_cases (ℕ_discrete x a)
        (λ i. subst (λ (y : ℕ). phase_of q cl y ≤ phase_of q cl' y) (sym i) (here i))
        (λ m. omega (arith, phase-off x m))
      where
        here : x ≡ a → phase_of q cl a ≤ phase_of q cl' a
        here i =
            by_cases (dec_le (phase_of q cl a) (q.phase c.stage))
            (λ k. omega (arith, phase-at))
            (λ k. absurd (t.clears (omega arith) (cl b) (list-off b a n (ap (list_of q cl' b) (sym i) ∙ e))))

    tick : Tick q cl ctr cl' ctr'
    tick = record {
      counter = le;
      back = each a (λ b. Back q ctr (cl b) (cl' b))
          (subst (Back q ctr (cl a)) (sym (put_at a c f cl)) o.back)
          (λ b n h l. (omega (arith, phase-off b n), number-off b n, omega (arith, phase-off b n)));
      lists = each a Lists
          (λ x h k l e. (o.lists x h (omega (arith, phase-at)) (list_at x e), mine x k l))
          (λ b n x h k l e. (t.fewer (cl b) x (list-off b x n e), still-in b x n e));
    }
      where
        Lists : ℕ → Type 0
        Lists b = (x : ℕ) → 4 ≤ phase_of q cl b → 2 ≤ phase_of q cl' b → number_on q cl' b ≤ ctr → list_of q cl' b x ≡ true
            → (list_of q cl b x ≡ true) × (phase_of q cl x ≤ phase_of q cl' x)

        mine : (x : ℕ) → 2 ≤ phase_of q cl' a → number_on q cl' a ≤ ctr → phase_of q cl x ≤ phase_of q cl' x
        mine x k l =
            by_cases (ℕ_discrete x a)
            (λ i. subst (λ (y : ℕ). phase_of q cl y ≤ phase_of q cl' y) (sym i)
            (let z = (o.back (omega (arith, phase-at)) (omega (arith, number_at))).2 in omega (arith, phase-at)))
            (λ m. omega (arith, phase-off x m))

    still-listed : OnLists q cl → OnLists q cl'
    still-listed was =
        each a (λ b. (x : ℕ) → 4 ≤ phase_of q cl' b → list_of q cl' b x ≡ true → (1 ≤ phase_of q cl' x) × (x ≢ b))
        (λ x h e. elim (o.made x (omega (arith, phase-at)) (list_at x e)) [
          | inl k ↦ (let z = was a x k (o.lists x k (omega (arith, phase-at)) (list_at x e)) in (omega (arith, phase-off x z.1), z.1))
          | inr z ↦ (omega (arith, phase-off x z.1), z.1)
        ])
        (λ b n x h e.
        let z = was b x (omega (arith, phase-off b n)) (t.fewer (cl b) x (list-off b x n e)) in
        let y = still-in b x n e in (omega arith, z.1))

-- ---- both queues, and the transaction

-- d is what c was, and no less far; what numbers it had it has
pub record Same (c d : Client) : Type 0 where
  pub number : d.number ≡ c.number
  pub stage : c.stage ≤ d.stage
  pub request : 2 ≤ c.stage → d.request ≡ c.request
  pub commit : 8 ≤ c.stage → d.commit ≡ c.commit

-- client b, from c to d by call k: a closed one is opened by its Begin alone, and who has a number that was issued before is the same
pub record Keep (k : Call) (b W : ℕ) (c d : Client) : Type 0 where
  pub shut : c.number ≡ 0 → (d.number ≡ 0) ⊎ ((k ≡ Begin b) × (b < clients))
  pub alive : 2 ≤ d.stage → d.number ≡ c.number
  pub held : 1 ≤ d.number → d.number ≤ W → Same c d

pub record Effect (k : Call) (s t : State) : Type 0 where
  pub tick_R : Tick request_side s.cl s.R t.cl t.R
  pub tick_C : Tick commit_side s.cl s.C t.cl t.C
  pub lists_R : OnLists request_side s.cl → OnLists request_side t.cl
  pub lists_C : OnLists commit_side s.cl → OnLists commit_side t.cl
  pub keep : (b : ℕ) → Keep k b s.W (s.cl b) (t.cl b)
  pub begun : s.W ≤ t.W

-- the clients and the counters stay, whatever else changes
pub quiet : {k : Call} (s t : State) → t.cl ≡ s.cl → t.W ≡ s.W → t.R ≡ s.R → t.C ≡ s.C → Effect k s t
quiet s t e w r c = record {
  tick_R = rw (e, r) same_tick;
  tick_C = rw (e, c) same_tick;
  lists_R = rw e (λ h. h);
  lists_C = rw e (λ h. h);
  keep = λ b. rw e record {
    shut = inl;
    alive = λ _. refl;
    held = λ _ _.
        record { number = refl; stage = omega arith; request = λ _. refl; commit = λ _. refl };
  };
  begun = omega arith;
}

abbrev pub state_with : State → ℕ → ℕ → ℕ → ℕ → List DRow → List CRow → (ℕ → Client) → State
state_with s W R C last d m cl = record { bounds = s.bounds; W = W; R = R; C = C; last = last; dat = d; comm = m; cl = cl }

module _ (s : State) (a : ℕ) (c : Client) (f : Client → Client) (tame : Tame a f) where
  acts : {k : Call}
      → (rphase c.stage < rphase (s.cl a).stage → (d : Client) → (f d).rwait a ≡ true → ⊥)
      → (cphase c.stage < cphase (s.cl a).stage → (d : Client) → (f d).cwait a ≡ true → ⊥)
      → Own request_side s.cl a c f s.R → Own commit_side s.cl a c f s.C → Keep k a s.W (s.cl a) c
      → (W R C last : ℕ) (d : List DRow) (m : List CRow) → s.W ≤ W → s.R ≤ R → s.C ≤ C
      → Effect k s (state_with s W R C last d m (putₛ a c f s.cl))
  acts {k} zr zc r o e W R C last d m lw lr lc = record {
    tick_R = tick request_side s.cl a c f to-R r lr;
    tick_C = tick commit_side s.cl a c f to-C o lc;
    lists_R = still-listed request_side s.cl a c f to-R r lr;
    lists_C = still-listed commit_side s.cl a c f to-C o lc;
    keep = each a (λ b. Keep k b s.W (s.cl b) (putₛ a c f s.cl b))
        (rw (put_at a c f s.cl) e) (λ b n. rw (put_off a c f s.cl b n) (kept b));
    begun = lw;
  }
    where
      to-R : Touch request_side s.cl a c f
      to-R = record { stage = tame.stage; number = tame.request; fewer = tame.fewer_R; clears = zr }

      to-C : Touch commit_side s.cl a c f
      to-C = record { stage = tame.stage; number = tame.commit; fewer = tame.fewer_C; clears = zc }

      kept : (b : ℕ) → Keep k b s.W (s.cl b) (f (s.cl b))
      kept b = record {
        shut = λ e. inl (tame.number (s.cl b) ∙ e);
        alive = λ _. tame.number (s.cl b);
        held = λ _ _. record {
          number = tame.number (s.cl b);
          stage = omega (arith, tame.stage (s.cl b));
          request = λ _. tame.request (s.cl b);
          commit = λ _. tame.commit (s.cl b);
        };
      }

-- a client at stage 0 is in neither queue
pub out_of_commits : (k : ℕ) → k ≡ 0 → cphase k ≡ 0
out_of_commits k e = ap cphase e ∙ cph_in 0 (omega arith)

module _ (cl : ℕ → Client) (a : ℕ) (c : Client) (f : Client → Client) (z : c.stage ≡ 0) where
  out_R : {ctr : ℕ} → Own request_side cl a c f ctr
  unfolding rphase
  out_R = record { back = λ h. absurd (omega arith); lists = λ x h k. absurd (omega arith); made = λ x h. absurd (omega arith) }

  out_C : {ctr : ℕ} → Own commit_side cl a c f ctr
  out_C =
      let e = out_of_commits c.stage z in
      record { back = λ h. absurd (omega arith); lists = λ x h k. absurd (omega arith); made = λ x h. absurd (omega arith) }

pub closing : {k : Call} (s : State) (a : ℕ) (d : List DRow) → Effect k s (leave s a d)
unfolding closedₛ
closing s a d =
    acts s a closedₛ (clear_both a) (tame_both a) (λ _ d. clear_own a d.rwait) (λ _ d. clear_own a d.cwait)
    (out_R s.cl a closedₛ (clear_both a) refl) (out_C s.cl a closedₛ (clear_both a) refl)
    record { shut = λ _. inl refl; alive = λ h. absurd (omega arith); held = λ h. absurd (omega arith) }
    s.W s.R s.C s.last d s.comm (omega arith) (omega arith) (omega arith)

pub beginning : (s : State) (a : ℕ) → a < clients → (s.cl a).stage ≡ 0 → Effect (Begin a) s (begunₛ s a).state
unfolding begunₛ rphase
beginning s a h e =
    acts s a (newcomer s) same (tame_same a)
    (λ z. absurd (omega arith)) (λ z. absurd (omega (arith, out_of_commits (s.cl a).stage e)))
    (out_R s.cl a (newcomer s) same refl) (out_C s.cl a (newcomer s) same refl)
    record { shut = λ _. inr (refl, h); alive = λ h. absurd (omega arith); held = λ h k. absurd (omega arith) }
    (suc s.W) s.R s.C s.last s.dat s.comm (omega arith) (omega arith) (omega arith)

-- ---- a step of Advance that does not close

-- one thing where A holds, another where it does not
abbrev pub Fork : Type 0 → Type 0 → Type 0 → Type 0
Fork A X Y = ((A → ⊥) → X) × (A → Y)

-- the stage stays or rises by one; a number is taken at 1 and 7 only, a list made at 3 and 9 only
pub record Up (s : State) (a : ℕ) (c : Client) : Type 0 where
  pub number : c.number ≡ (s.cl a).number
  pub low : (s.cl a).stage ≤ c.stage
  pub high : c.stage ≤ suc (s.cl a).stage
  pub top : c.stage ≤ 13
  pub request : Fork ((s.cl a).stage ≡ 1) (c.request ≡ (s.cl a).request) (c.request ≡ suc s.R)
  pub commit : Fork ((s.cl a).stage ≡ 7) (c.commit ≡ (s.cl a).commit) (c.commit ≡ suc s.C)
  pub rwait : Fork ((s.cl a).stage ≡ 3) ((x : ℕ) → c.rwait x ≡ true → (s.cl a).rwait x ≡ true)
      ((x : ℕ) → c.rwait x ≡ true → (1 ≤ phase_of request_side s.cl x) × (x ≢ a))
  pub cwait : Fork ((s.cl a).stage ≡ 9) ((x : ℕ) → c.cwait x ≡ true → (s.cl a).cwait x ≡ true)
      ((x : ℕ) → c.cwait x ≡ true → (1 ≤ phase_of commit_side s.cl x) × (x ≢ a))

-- the commit queue's phase at stage k, as arithmetic
abbrev pub Phases : ℕ → Type 0
Phases k = ((k ≤ 12) × (cphase k ≡ min (k - 6) 5)) ⊎ ((13 ≤ k) × (cphase k ≡ 0))

pub phases : (k : ℕ) → Phases k
phases k = by_cases (dec_le 13 k) (λ h. inr (h, cph_out k h)) (λ h. inl (omega arith, cph_in k (omega arith)))

module _ {s : State} {a : ℕ} {c : Client} (u : Up s a c) (f : Client → Client) where
  up_R : Own request_side s.cl a c f s.R
  unfolding rphase
  up_R = record {
    back = λ h l. by_cases (ℕ_discrete (s.cl a).stage 1)
        (λ e. absurd (omega (arith, u.request.1 e)))
        (λ e. (omega (arith, u.high), u.request.0 e, omega (arith, u.low)));
    lists = λ x h k e. u.rwait.0 (λ i. omega arith) x e;
    made = λ x h e. by_cases (ℕ_discrete (s.cl a).stage 3) (λ i. inr (u.rwait.1 i x e)) (λ i. inl (omega (arith, u.high)));
  }

  up_C : Own commit_side s.cl a c f s.C
  up_C = go (phases (s.cl a).stage) (phases c.stage)
    where
      go : Phases (s.cl a).stage → Phases c.stage → Own commit_side s.cl a c f s.C
      go x (inr y) = record { back = λ h. absurd (omega arith); lists = λ z h k. absurd (omega arith); made = λ z h. absurd (omega arith) }
      go (inr x) (inl y) = absurd (omega (arith, u.low))
      go (inl x) (inl y) = record {
        back = λ h l. by_cases (ℕ_discrete (s.cl a).stage 7)
            (λ e. absurd (omega (arith, u.commit.1 e)))
            (λ e. (omega (arith, u.high), u.commit.0 e, omega (arith, u.low)));
        lists = λ z h k e. u.cwait.0 (λ i. omega arith) z e;
        made = λ z h e. by_cases (ℕ_discrete (s.cl a).stage 9) (λ i. inr (u.cwait.1 i z e)) (λ i. inl (omega (arith, u.high)));
      }

  up_keep : {k : Call} → Keep k a s.W (s.cl a) c
  up_keep = record {
    shut = λ e. inl (u.number ∙ e);
    alive = λ _. u.number;
    held = λ _ _. record {
      number = u.number;
      stage = u.low;
      request = λ h. u.request.0 (λ e. omega arith);
      commit = λ h. u.commit.0 (λ e. omega arith);
    };
  }

  -- it goes back in no queue, but out of the commit queue at stage 13
  up_in_R : rphase c.stage < rphase (s.cl a).stage → ⊥
  unfolding rphase
  up_in_R h = omega (arith, u.low)

  up_in_C : c.stage ≤ 12 → cphase c.stage < cphase (s.cl a).stage → ⊥
  up_in_C h l = go (phases (s.cl a).stage) (phases c.stage)
    where
      go : Phases (s.cl a).stage → Phases c.stage → ⊥
      go x (inr y) = omega arith
      go (inr x) (inl y) = omega arith
      go (inl x) (inl y) = omega (arith, u.low)

  pub ups : {k : Call} → Tame a f → (c.stage ≡ 13 → (d : Client) → (f d).cwait a ≡ true → ⊥)
      → (R C last : ℕ) (d : List DRow) (m : List CRow) → s.R ≤ R → s.C ≤ C
      → Effect k s (state_with s s.W R C last d m (putₛ a c f s.cl))
  ups tame out R C last d m lr lc =
      acts s a c f tame (λ z. absurd (up_in_R z))
      (λ z. by_cases (dec_le c.stage 12) (λ h. absurd (up_in_C h z)) (λ h. out (omega (arith, u.top))))
      up_R up_C up_keep s.W R C last d m (omega arith) lr lc
