-- Eleven of the fourteen steps of Advance change no row: each keeps the invariant, and its answer is right. What is left to show of such a step
-- is what becomes of its client in the two queues (`Moves` does the rest): it enters, takes a number, keeps it with its list, or is past.
-- Assumes nothing.
use Prim.Native.Nat.{ℕ, suc, ◌-◌, min, ◌≤◌, ◌<◌}
use mathlib.Core.Path.{◌≡◌, refl, sym, ◌∙◌, ap}
use mathlib.Core.Logic.{◌≢◌, ◌⊎◌, inl, inr, if_pos, if_neg, by_cases}
use mathlib.Core.Bool.{Bool, true}
use mathlib.Core.List.{List, Memᴰ as In}
use mathlib.Core.Option.{IsSome}
use native.Mathlib.Decide.{ℕ_discrete, dec_le}
use native.Mathlib.Omega.{arith}
use Rattle.history.proofs.Lists.{first_in, ite_elim}
use Rattle.history.proofs.Tickets.{Others, ticket_low, taken, own, listing, listing_has, look, look_keeps, list_size, count_none}
use Rattle.history.proofs.Model.{freeₛ, DRow, Client, State, findₛ, value_atₛ, rphase, cphase, rph, cph, putₛ, same, clear_c, at_stageₛ}
use Rattle.history.proofs.Model.{with_request, with_commit, with_rwait, with_cwait, Out, out, step_to, take_r, take_c, list_r, list_c, look_r}
use Rattle.history.proofs.Model.{look_c, sharing?, with_clientsₛ}
use Rattle.history.proofs.Booked.{is_some, value_at, row_find}
use Rattle.history.proofs.Plain.{Plain, set_p, updateₚ, on_advanceₚ, on_progressₚ, on_stageₚ, movedₚ, on_numberₚ, Rightₚ, RightAdvanceₚ}
use Rattle.history.proofs.Plain.{Sharesₚ, Wroteₚ, restaged}
use Rattle.history.proofs.Transition.{HasRow}
use Rattle.history.proofs.Invariant.{lateness, Rel, Always, RQ, CQ, Inv}
use Rattle.history.proofs.Moves.{put_at, set_p_at, set_p_off, each, Tame, tame_same, tame_C, off, others_R, others_C, stepped, moves}
use Rattle.spec.specs.Table.{Observed}
use Rattle.spec.specs.Right.{Bounds}
use Rattle.spec.specs.declared.Progress.TheVariants.{Stage, Waiting}
use Rattle.spec.specs.Answers.{Answer, Answered}
use Rattle.spec.specs.Run.{Call, Advance}
use Rattle.spec.specs.Set.{clients}

-- A call's outcome: the answer is right, and the invariant holds afterwards.
abbrev pub Good : Bounds → State → Plain → (q : Call) → Out (Answer (Observed q)) → Type 0
Good bounds s p q o = Rightₚ bounds s.W p q o.answer (freeₛ o.state) × Inv bounds o.state (updateₚ p q o.answer)

pub cph_in : (k : ℕ) → k < 13 → cphase k ≡ min (k - 6) 5
unfolding cphase
cph_in k h = if_neg (dec_le 13 k) (λ z. omega arith) _ _

pub cph_out : (k : ℕ) → 13 ≤ k → cphase k ≡ 0
unfolding cphase
cph_out k h = if_pos (dec_le 13 k) h _ _

pub on_stage_moved : (p : Plain) (a k : ℕ) → k ≢ 8 → k ≢ 12 → on_stageₚ p a k ≡ movedₚ p a k
unfolding on_stageₚ
on_stage_moved p a k m n = if_neg (ℕ_discrete k 8) m _ _ ∙ if_neg (ℕ_discrete k 12) n _ _

pub late_step : (j k : ℕ) → k ≡ suc j → k ≢ 12 → lateness k ≡ lateness j
unfolding lateness
late_step j k e n = omega arith

-- Those who wrote a cell of both are found by the rows.
sharing : (d : List DRow) (t u : ℕ) → Sharesₚ (λ x. findₛ t x d) (λ x. findₛ u x d)
    → (r : DRow) × In r d × ((r.tag ≡ t) × IsSome (findₛ u r.cell d))
unfolding findₛ
sharing d t u h =
    let w = is_some (findₛ t h.0 d) h.1 in
    let r = first_in (value_atₛ t h.0) d w.0 w.1 in
    let e = value_at t h.0 r.0 w.0 r.2 in
    (r.0, r.1, (e.0, rw e.1 h.2))

module _ {bounds : Bounds} {s : State} {p : Plain} (inv : Inv bounds s p) (a : ℕ) (isopen : 1 ≤ (s.cl a).number) where
  right_stage : (k : ℕ) → k ≡ suc (s.cl a).stage → k ≤ 13 → k ≢ 6 → k ≢ 12 → (k ≡ 1 → Wroteₚ (p.cl a)) → RightAdvanceₚ p a (Answered (Stage k))
  right_stage k e l m n w = ((inv.one a).live isopen, (omega (arith, (inv.one a).on_stage), l, w, λ h. absurd (m h), λ h. absurd (n h)))

  -- A step to stage k that takes no commit number and makes no commit.
  module _ (c : Client) (f : Client → Client) (tame : Tame a f) (R : ℕ) (e : c.stage ≡ suc (s.cl a).stage)
      (number : c.number ≡ (s.cl a).number) (snapshot : c.snapshot ≡ (s.cl a).snapshot) (commit : c.commit ≡ (s.cl a).commit)
      (most : c.stage ≤ 13) (not8 : c.stage ≢ 8) (not12 : c.stage ≢ 12) (not6 : c.stage ≢ 6)
      (wrote : c.stage ≡ 1 → Wroteₚ (p.cl a)) where
    goes : RQ (stepped s R s.C (putₛ a c f s.cl)) → CQ (stepped s R s.C (putₛ a c f s.cl))
        → Good bounds s p (Advance a) (out (stepped s R s.C (putₛ a c f s.cl)) (Answered (Stage c.stage)))
    unfolding updateₚ on_advanceₚ on_progressₚ
    goes rq cq = (
      right_stage c.stage e most not6 not12 wrote,
      rw (on_stage_moved p a c.stage not8 not12)
          (moves inv a c f tame R s.C p.count (p.cl a).commit inv.counted
          (set_p a (restaged (p.cl a) c.stage (p.cl a).commit) p.cl)
          (set_p_at a _ p.cl) (set_p_off a _ p.cl) number snapshot (late_step (s.cl a).stage c.stage e not12) isopen (omega arith) rq cq
          (λ h. (inv.one a).numbered (omega arith) ∙ sym commit)
          (λ h h'. omega (arith, (inv.one a).ahead (omega arith) (omega arith)))
          (λ h. let b = (inv.one a).in_book (omega arith) in (b.0, b.1, b.2 ∙ sym commit))
          (λ h h'. (inv.one a).fresh (omega arith) (omega arith))),
    )

  -- Client a becomes c; the rows stay.
  module _ (c : Client) (f : Client → Client) (tame : Tame a f) (number : c.number ≡ (s.cl a).number) (R C : ℕ) (hR : s.R ≤ R) (hC : s.C ≤ C) where
    oR : Others a (rph s) (λ b. (s.cl b).request) (λ b. (s.cl b).rwait) s.R (Rel s.dat s.cl)
        (λ b. rphase (putₛ a c f s.cl b).stage) (λ b. (putₛ a c f s.cl b).request) (λ b. (putₛ a c f s.cl b).rwait) R
        (Rel s.dat (putₛ a c f s.cl))
    oR = others_R a c f tame s.cl s.dat s.dat hR (λ b _ x h. rw (numbers b) at h)
      where
        numbers : (b : ℕ) → (putₛ a c f s.cl b).number ≡ (s.cl b).number
        numbers = each a (λ b. (putₛ a c f s.cl b).number ≡ (s.cl b).number) (rw (put_at a c f s.cl) number)
            (off a c f tame s.cl (λ d. d.number) tame.number)

    oC : Others a (cph s) (λ b. (s.cl b).commit) (λ b. (s.cl b).cwait) s.C Always
        (λ b. cphase (putₛ a c f s.cl b).stage) (λ b. (putₛ a c f s.cl b).commit) (λ b. (putₛ a c f s.cl b).cwait) C Always
    oC = others_C a c f tame s.cl hC

    R-low : rphase c.stage ≤ 1 → RQ (stepped s R C (putₛ a c f s.cl))
    R-low h = ticket_low a inv.rq oR (rw (put_at a c f s.cl) h)

    pub C-low : cphase c.stage ≤ 1 → CQ (stepped s R C (putₛ a c f s.cl))
    C-low h = ticket_low a inv.cq oC (rw (put_at a c f s.cl) h)

    R-taken : rphase c.stage ≤ 3 → c.request ≡ suc s.R → R ≡ suc s.R → RQ (stepped s R C (putₛ a c f s.cl))
    R-taken h e = taken a inv.rq oR (rw (put_at a c f s.cl) h) (rw (put_at a c f s.cl) e)

    C-taken : cphase c.stage ≤ 3 → c.commit ≡ suc s.C → C ≡ suc s.C → CQ (stepped s R C (putₛ a c f s.cl))
    C-taken h e = taken a inv.cq oC (rw (put_at a c f s.cl) h) (rw (put_at a c f s.cl) e)

    module _ (fr : (d : Client) → (f d).rwait ≡ d.rwait) (h : 2 ≤ rph s a) (e : c.request ≡ (s.cl a).request) where
      R-own : (rphase c.stage ≡ 4 → (b : ℕ) → b ≢ a → 2 ≤ rph s b → Rel s.dat s.cl b a → (s.cl b).request < (s.cl a).request
          → c.rwait b ≡ true)
          → (5 ≤ rphase c.stage → (b : ℕ) → b ≢ a → 2 ≤ rph s b → Rel s.dat s.cl b a → (s.cl b).request < (s.cl a).request → ⊥)
          → RQ (stepped s R C (putₛ a c f s.cl))
      R-own lists passes =
          own a inv.rq oR h (rw (put_at a c f s.cl) e) (λ b n. ap (λ (w : ℕ → Bool). w a) (off a c f tame s.cl (λ d. d.rwait) fr b n))
          (rw (put_at a c f s.cl) lists) (rw (put_at a c f s.cl) passes)

      R-stay : rphase c.stage ≡ rph s a → c.rwait ≡ (s.cl a).rwait → RQ (stepped s R C (putₛ a c f s.cl))
      R-stay k w = R-own (λ k' b n hb r l. ap (λ (w : ℕ → Bool). w b) w ∙ inv.rq.listed b a n hb (sym k ∙ k') r l)
          (λ k' b n hb r l. inv.rq.passed b a n hb (omega arith) r l)

    module _ (fc : (d : Client) → (f d).cwait ≡ d.cwait) (h : 2 ≤ cph s a) (e : c.commit ≡ (s.cl a).commit) where
      pub C-own : (cphase c.stage ≡ 4 → (b : ℕ) → b ≢ a → 2 ≤ cph s b → Always b a → (s.cl b).commit < (s.cl a).commit → c.cwait b ≡ true)
          → (5 ≤ cphase c.stage → (b : ℕ) → b ≢ a → 2 ≤ cph s b → Always b a → (s.cl b).commit < (s.cl a).commit → ⊥)
          → CQ (stepped s R C (putₛ a c f s.cl))
      C-own lists passes =
          own a inv.cq oC h (rw (put_at a c f s.cl) e) (λ b n. ap (λ (w : ℕ → Bool). w a) (off a c f tame s.cl (λ d. d.cwait) fc b n))
          (rw (put_at a c f s.cl) lists) (rw (put_at a c f s.cl) passes)

  -- The arms that only move the client on. k is the stage it comes to.
  abbrev to : ℕ → Client
  to k = at_stageₛ (s.cl a) k

  module _ (k : ℕ) (e : k ≡ suc (s.cl a).stage) (most : k ≤ 13) (n6 : k ≢ 6) (n8 : k ≢ 8) (n12 : k ≢ 12) (wrote : k ≡ 1 → Wroteₚ (p.cl a)) where
    simply : RQ (stepped s s.R s.C (putₛ a (to k) same s.cl)) → CQ (stepped s s.R s.C (putₛ a (to k) same s.cl))
        → Good bounds s p (Advance a) (step_to s a k)
    simply rq cq = goes (to k) same (tame_same a) s.R e refl refl refl most n8 n12 n6 wrote rq cq

  le : {x : ℕ} → x ≤ x
  le = omega arith

  -- a row of an open client below stage 12 is one of its writes
  row_wrote : (s.cl a).stage < 12 → HasRow (s.cl a).number s.dat → Wroteₚ (p.cl a)
  unfolding lateness
  row_wrote h r = (
    r.0.cell,
    rw ((inv.tab.mine a isopen).held (omega arith) r.0.cell) at
        (row_find (s.cl a).number r.0.cell s.dat r.0 r.1 r.2 refl),
  )

  pub arm0 : (s.cl a).stage ≡ 0 → HasRow (s.cl a).number s.dat → Good bounds s p (Advance a) (step_to s a 1)
  unfolding rphase
  arm0 e r = simply 1 (omega arith) (omega arith) (omega arith) (omega arith) (omega arith) (λ _. row_wrote (omega arith) r)
      (R-low (to 1) same (tame_same a) refl s.R s.C le le (omega arith))
      (C-low (to 1) same (tame_same a) refl s.R s.C le le (omega (arith, cph_in 1 (omega arith))))

  pub arm1 : (s.cl a).stage ≡ 1 → Good bounds s p (Advance a) (take_r s a)
  unfolding rphase take_r
  arm1 e = goes c same (tame_same a) (suc s.R) (omega arith) refl refl refl (omega arith) (omega arith) (omega arith) (omega arith)
      (λ h. absurd (omega arith))
      (R-taken c same (tame_same a) refl (suc s.R) s.C (omega arith) le (omega arith) refl refl)
      (C-low c same (tame_same a) refl (suc s.R) s.C (omega arith) le (omega (arith, cph_in 2 (omega arith))))
    where
      c : Client
      c = with_request (s.cl a) 2 (suc s.R)

  pub arm2 : (s.cl a).stage ≡ 2 → Good bounds s p (Advance a) (step_to s a 3)
  unfolding rphase
  arm2 e = simply 3 (omega arith) (omega arith) (omega arith) (omega arith) (omega arith) (λ h. absurd (omega arith))
      (R-own (to 3) same (tame_same a) refl s.R s.C le le (λ d. refl) (omega arith) refl (λ h. absurd (omega arith))
      (λ h. absurd (omega arith)))
      (C-low (to 3) same (tame_same a) refl s.R s.C le le (omega (arith, cph_in 3 (omega arith))))

  open_below : (b : ℕ) → 1 ≤ (s.cl b).stage → b < clients
  open_below b h = (inv.one b).below (by_cases (ℕ_discrete (s.cl b).number 0) (λ e. absurd (omega (arith, (inv.one b).idle e))) (λ n. omega arith))

  pub arm3 : (s.cl a).stage ≡ 3 → Good bounds s p (Advance a) (list_r s a)
  unfolding rphase list_r
  arm3 e = goes c same (tame_same a) s.R (omega arith) refl refl refl (omega arith) (omega arith) (omega arith) (omega arith)
      (λ h. absurd (omega arith))
      (R-own c same (tame_same a) refl s.R s.C le le (λ d. refl) (omega arith) refl
      (λ _ b n hb r l. listing_has (rph s) (λ b. sharing? s.dat (s.cl b).number (s.cl a).number) a b (open_below b (omega arith)) n
      (omega arith) (sharing s.dat _ _ r))
      (λ h. absurd (omega arith)))
      (C-low c same (tame_same a) refl s.R s.C le le (omega (arith, cph_in 4 (omega arith))))
    where
      c : Client
      c = with_rwait (s.cl a) 4 (listing (rph s) (λ b. sharing? s.dat (s.cl b).number (s.cl a).number) a)

  -- A waiting client's place: nothing of the plain table changes.
  waits : (c : Client) → c.stage ≡ (s.cl a).stage → c.number ≡ (s.cl a).number → c.snapshot ≡ (s.cl a).snapshot
      → c.commit ≡ (s.cl a).commit → ((p.cl a).stage ≡ 4) ⊎ ((p.cl a).stage ≡ 10) → (n : ℕ) → n ≢ 0
      → RQ (stepped s s.R s.C (putₛ a c same s.cl)) → CQ (stepped s s.R s.C (putₛ a c same s.cl))
      → Good bounds s p (Advance a) (out (stepped s s.R s.C (putₛ a c same s.cl)) (Answered (Waiting n)))
  unfolding updateₚ on_advanceₚ on_progressₚ
  waits c e number snapshot commit at n left rq cq = (
    ((inv.one a).live isopen, (at, omega (arith, left))),
    moves inv a c same (tame_same a) s.R s.C p.count (p.cl a).commit inv.counted p.cl
        (rw (e, ← (inv.one a).on_stage) refl) (λ b m. refl) number snapshot (ap lateness e) isopen (omega arith) rq cq
        (λ h. (inv.one a).numbered (omega arith) ∙ sym commit)
        (λ h h'. omega (arith, (inv.one a).ahead (omega arith) (omega arith)))
        (λ h. let b = (inv.one a).in_book (omega arith) in (b.0, b.1, b.2 ∙ sym commit))
        (λ h h'. (inv.one a).fresh (omega arith) (omega arith)),
  )

  pub arm4 : (s.cl a).stage ≡ 4 → Good bounds s p (Advance a) (look_r s a (look (rph s) (λ b. (s.cl b).request) a (s.cl a).rwait))
  unfolding rphase look_r
  arm4 e =
      ite_elim (Good bounds s p (Advance a)) (ℕ_discrete (list_size clients w) 0)
      (λ z. goes (c 5) same (tame_same a) s.R (omega arith) refl refl refl (omega arith) (omega arith) (omega arith) (omega arith)
      (λ h. absurd (omega arith))
      (R-own (c 5) same (tame_same a) refl s.R s.C le le (λ d. refl) (omega arith) refl
      (λ h. absurd (omega arith))
      (λ _ b n hb r l. count_none clients w z b (open_below b (omega arith)) (still b n hb r l)))
      (C-low (c 5) same (tame_same a) refl s.R s.C le le (omega (arith, cph_in 5 (omega arith)))))
      (λ z. waits (c 4) (sym e) refl refl refl (inl ((inv.one a).on_stage ∙ e)) (list_size clients w) z
      (R-own (c 4) same (tame_same a) refl s.R s.C le le (λ d. refl) (omega arith) refl (λ _. still) (λ h. absurd (omega arith)))
      (C-low (c 4) same (tame_same a) refl s.R s.C le le (omega (arith, cph_in 4 (omega arith)))))
    where
      w : ℕ → Bool
      w = look (rph s) (λ b. (s.cl b).request) a (s.cl a).rwait

      c : ℕ → Client
      c k = with_rwait (s.cl a) k w

      still : (b : ℕ) → b ≢ a → 2 ≤ rph s b → Rel s.dat s.cl b a → (s.cl b).request < (s.cl a).request → w b ≡ true
      still b n hb r l = look_keeps (rph s) (λ b. (s.cl b).request) a (s.cl a).rwait b (omega arith) (omega arith) ∙ inv.rq.listed b a n
          hb (omega arith) r l

  -- From stage 5 on nothing of the request queue changes.
  module _ (c : Client) (f : Client → Client) (tame : Tame a f) (fr : (d : Client) → (f d).rwait ≡ d.rwait) (number : c.number ≡ (s.cl a).number)
      (C : ℕ) (hC : s.C ≤ C) (h : 5 ≤ (s.cl a).stage) (h' : 5 ≤ c.stage) (request : c.request ≡ (s.cl a).request)
      (wait : c.rwait ≡ (s.cl a).rwait) where
    pub R-past : RQ (stepped s s.R C (putₛ a c f s.cl))
    unfolding rphase
    R-past = R-stay c f tame number s.R C le hC fr (omega arith) request (omega arith) wait

  pub arm6 : (s.cl a).stage ≡ 6 → Good bounds s p (Advance a) (step_to s a 7)
  arm6 e = simply 7 (omega arith) (omega arith) (omega arith) (omega arith) (omega arith) (λ h. absurd (omega arith))
      (R-past (to 7) same (tame_same a) (λ d. refl) refl s.C le (omega arith) (omega arith) refl refl)
      (C-low (to 7) same (tame_same a) refl s.R s.C le le (omega (arith, cph_in 7 (omega arith))))

  on_stage_took : on_stageₚ p a 8 ≡ on_numberₚ p a
  unfolding on_stageₚ
  on_stage_took = if_pos (ℕ_discrete 8 8) refl _ _

  pub arm7 : (s.cl a).stage ≡ 7 → Good bounds s p (Advance a) (take_c s a)
  unfolding updateₚ on_advanceₚ on_progressₚ take_c
  arm7 e = (
    right_stage 8 (omega arith) (omega arith) (omega arith) (omega arith) (λ h. absurd (omega arith)),
    rw on_stage_took
        (moves inv a c same (tame_same a) s.R (suc s.C) (suc p.count) (suc p.count) (ap suc inv.counted)
        (set_p a (restaged (p.cl a) 8 (suc p.count)) p.cl)
        (set_p_at a _ p.cl) (set_p_off a _ p.cl) refl refl (late_step (s.cl a).stage 8 (omega arith) (omega arith)) isopen (omega arith)
        (R-past c same (tame_same a) (λ d. refl) refl (suc s.C) (omega arith) (omega arith) (omega arith) refl refl)
        (C-taken c same (tame_same a) refl s.R (suc s.C) le (omega arith) (omega (arith, cph_in 8 (omega arith))) refl refl)
        (λ h. ap suc inv.counted)
        (λ h h'. omega (arith, inv.last_le))
        (λ h. absurd (omega arith))
        (λ h h'. (inv.one a).fresh (omega arith) (omega arith))),
  )
    where
      c : Client
      c = with_commit (s.cl a) 8 (suc s.C)

  pub arm8 : (s.cl a).stage ≡ 8 → Good bounds s p (Advance a) (step_to s a 9)
  arm8 e = simply 9 (omega arith) (omega arith) (omega arith) (omega arith) (omega arith) (λ h. absurd (omega arith))
      (R-past (to 9) same (tame_same a) (λ d. refl) refl s.C le (omega arith) (omega arith) refl refl)
      (C-own (to 9) same (tame_same a) refl s.R s.C le le (λ d. refl) (omega (arith, cph_in (s.cl a).stage (omega arith))) refl
      (λ h. absurd (omega (arith, cph_in 9 (omega arith)))) (λ h. absurd (omega (arith, cph_in 9 (omega arith)))))

  -- Who has a place in the commit queue is open.
  cph_below : (b : ℕ) → 1 ≤ cph s b → b < clients
  cph_below b h = open_below b (by_cases (dec_le 13 (s.cl b).stage) (λ k. omega arith) (λ k. omega (arith, cph_in (s.cl b).stage (omega arith))))

  pub arm9 : (s.cl a).stage ≡ 9 → Good bounds s p (Advance a) (list_c s a)
  unfolding list_c
  arm9 e = goes c same (tame_same a) s.R (omega arith) refl refl refl (omega arith) (omega arith) (omega arith) (omega arith)
      (λ h. absurd (omega arith))
      (R-past c same (tame_same a) (λ d. refl) refl s.C le (omega arith) (omega arith) refl refl)
      (C-own c same (tame_same a) refl s.R s.C le le (λ d. refl) (omega (arith, cph_in (s.cl a).stage (omega arith))) refl
      (λ _ b n hb r l. listing_has (cph s) {P = λ _. Unit {0}} (λ _. yes tt) a b (cph_below b (omega arith)) n (omega arith) tt)
      (λ h. absurd (omega (arith, cph_in 10 (omega arith)))))
    where
      c : Client
      c = with_cwait (s.cl a) 10 (listing (cph s) {P = λ _. Unit {0}} (λ _. yes tt) a)

  pub arm10 : (s.cl a).stage ≡ 10 → Good bounds s p (Advance a) (look_c s a (look (cph s) (λ b. (s.cl b).commit) a (s.cl a).cwait))
  unfolding look_c
  arm10 e =
      ite_elim (Good bounds s p (Advance a)) (ℕ_discrete (list_size clients w) 0)
      (λ z. goes (c 11) same (tame_same a) s.R (omega arith) refl refl refl (omega arith) (omega arith) (omega arith) (omega arith)
      (λ h. absurd (omega arith))
      (R-past (c 11) same (tame_same a) (λ d. refl) refl s.C le (omega arith) (omega arith) refl refl)
      (C-own (c 11) same (tame_same a) refl s.R s.C le le (λ d. refl) (omega (arith, cph_in (s.cl a).stage (omega arith))) refl
      (λ h. absurd (omega (arith, cph_in 11 (omega arith))))
      (λ _ b n hb r l. count_none clients w z b (cph_below b (omega arith)) (still b n hb r l))))
      (λ z. waits (c 10) (sym e) refl refl refl (inr ((inv.one a).on_stage ∙ e)) (list_size clients w) z
      (R-past (c 10) same (tame_same a) (λ d. refl) refl s.C le (omega arith) (omega arith) refl refl)
      (C-own (c 10) same (tame_same a) refl s.R s.C le le (λ d. refl) (omega (arith, cph_in (s.cl a).stage (omega arith))) refl (λ _. still)
      (λ h. absurd (omega (arith, cph_in 10 (omega arith))))))
    where
      w : ℕ → Bool
      w = look (cph s) (λ b. (s.cl b).commit) a (s.cl a).cwait

      c : ℕ → Client
      c k = with_cwait (s.cl a) k w

      still : (b : ℕ) → b ≢ a → 2 ≤ cph s b → Always b a → (s.cl b).commit < (s.cl a).commit → w b ≡ true
      still b n hb r l =
          look_keeps (cph s) (λ b. (s.cl b).commit) a (s.cl a).cwait b (omega arith) (omega arith)
          ∙ inv.cq.listed b a n hb (omega (arith, cph_in (s.cl a).stage (omega arith))) r l

  pub arm12 : (s.cl a).stage ≡ 12
      → Good bounds s p (Advance a) (out (with_clientsₛ s (putₛ a (at_stageₛ (clear_c a (s.cl a)) 13) (clear_c a) s.cl))
      (Answered (Stage 13)))
  arm12 e = goes (at_stageₛ (clear_c a (s.cl a)) 13) (clear_c a) (tame_C a) s.R (omega arith) refl refl refl (omega arith) (omega arith)
      (omega arith) (omega arith) (λ h. absurd (omega arith))
      (R-past (at_stageₛ (clear_c a (s.cl a)) 13) (clear_c a) (tame_C a) (λ d. refl) refl s.C le (omega arith) (omega arith) refl refl)
      (C-low (at_stageₛ (clear_c a (s.cl a)) 13) (clear_c a) (tame_C a) refl s.R s.C le le (omega (arith, cph_out 13 (omega arith))))
