-- The two queues of a grown store are lines (`line_R`, `line_C`), and how long a holder's way through them is.
-- The commit queue: from stage 11 two rounds lead out (`leaves_C`), so by `drains` number m is gone after at most 4 + 3n rounds.
-- The request queue: from stage 5 three rounds lead to a commit number, 4 + 3n through the commit queue, one to the end (`leaves_R`): 3n + 8. So by
-- `drains` again a request number is gone after at most 4 + n(3n + 9) rounds (`requested`).
-- Assumes nothing.
use Prim.Native.Nat.{ℕ, suc, ◌+◌, ◌-◌, ◌*◌, min, ◌≤◌, ◌<◌}
use mathlib.Core.Path.{◌≡◌, refl, sym, ◌∙◌, subst}
use mathlib.Core.Logic.Dec
use mathlib.Core.Logic.{◌≢◌, inl, inr, by_cases}
use mathlib.Core.Bool.{true}
use native.Mathlib.Decide.{ℕ_discrete, dec_le}
use native.Mathlib.Omega.{arith}
use Rattle.spec.specs.Set.{clients}
use Rattle.spec.specs.Image.{Image}
use Rattle.history.proofs.Tickets.{look, look_strikes, list_size, count_zero}
use Rattle.history.proofs.Model.{rphase, cphase}
use Rattle.history.proofs.View.{view}
use Rattle.history.proofs.Effects.{Side, request_side, commit_side, out_of_commits, phases}
use Rattle.demands.proofs.Changes.{goes_up, goes_out, stays_R, stays_C}
use Rattle.demands.proofs.Grown.{next, client, Grown, inv, at_most_13, does, gets, same_after}
use Rattle.demands.proofs.AfterRounds.{Following, Stable, Hit, following_stays, and_then, so, both, one_round}
use Rattle.demands.proofs.Drain.{phase, ticket, list, counter, Line, HasNumber, Far, Gone, counter_rises, held, gone_stable}
use Rattle.demands.proofs.Drain.{ahead_less, cost_is, drains}

-- ---- the queues as lines

-- a look with every listed number noted and larger leaves nobody on the list
nobody_left : (q : Side) (s : Image) (b : ℕ) → ((x : ℕ) → list q s b x ≡ true → (3 ≤ phase q s x) × (ticket q s b < ticket q s x))
    → list_size clients (look (phase q s) (ticket q s) b (list q s b)) ≡ 0
nobody_left q s b h = count_zero clients _ (λ x. look_strikes (phase q s) (ticket q s) b (list q s b) x (h x))

in_R : (k : ℕ) → 1 ≤ rphase k → 1 ≤ k
unfolding rphase
in_R k h = omega arith

in_C : (k : ℕ) → 1 ≤ cphase k → (7 ≤ k) × (k ≤ 12) × (cphase k ≡ min (k - 6) 5)
in_C k h = elim (phases k) [ inl x ↦ (omega (arith, x.1), x.0, x.1) | inr x ↦ absurd (omega (arith, x.1)) ]

line_R : (n : ℕ) → Line n request_side
unfolding rphase
line_R n = record {
  tick = λ s c g. (does s g c).tick_R;
  bound = λ s g. (inv s g).rq.bound;
  apart = λ s g. (inv s g).rq.apart;
  within = λ s g b h. in_R _ h;
  listed = λ s g. g.lists_R;
  rises = λ s c g b d h k. elim (gets s g c b d (in_R _ h)) [
    | goes_up e l ↦ inl (omega arith)
    | goes_out e ↦ inr (omega arith)
    | stays_R e z ↦ absurd (omega arith)
    | stays_C e z ↦ absurd (omega arith)
  ];
  passes = λ s c g b d e f. elim (gets s g c b d (omega arith)) [
    | goes_up i l ↦ inl (omega arith)
    | goes_out i ↦ inr (omega arith)
    | stays_R i z ↦ absurd (z (nobody_left request_side s b f))
    | stays_C i z ↦ absurd (omega arith)
  ];
}

-- one stage more is one phase more, up to 5
up_C : (j k : ℕ) → k ≡ suc j → 1 ≤ cphase j → cphase j ≤ 4 → cphase k ≡ suc (cphase j)
up_C j k e h l = let z = in_C j h in elim (phases k) [ inl x ↦ omega (arith, x.1, z.2) | inr x ↦ absurd (omega (arith, x.0, z.2)) ]

line_C : (n : ℕ) → Line n commit_side
line_C n = record {
  tick = λ s c g. (does s g c).tick_C;
  bound = λ s g. (inv s g).cq.bound;
  apart = λ s g. (inv s g).cq.apart;
  within = λ s g b h. omega (arith, (in_C (client s b).stage h).0);
  listed = λ s g. g.lists_C;
  rises = λ s c g b d h k. let z = in_C (client s b).stage h in elim (gets s g c b d (omega (arith, z.0))) [
    | goes_up e l ↦ inl (omega (arith, up_C (client s b).stage (client (next s c) b).stage e h (omega arith)))
    | goes_out e ↦ inr (out_of_commits (client (next s c) b).stage e)
    | stays_R e y ↦ absurd (omega (arith, z.0))
    | stays_C e y ↦ absurd (omega (arith, z.2))
  ];
  passes = λ s c g b d e f. let z = in_C (client s b).stage (omega arith) in elim (gets s g c b d (omega (arith, z.0))) [
    | goes_up i l ↦ inl (omega (arith, up_C (client s b).stage (client (next s c) b).stage i (omega arith) (omega arith)))
    | goes_out i ↦ inr (out_of_commits (client (next s c) b).stage i)
    | stays_R i y ↦ absurd (omega (arith, z.0))
    | stays_C i y ↦ absurd (y (nobody_left commit_side s b f))
  ];
}

-- ---- the way of one holder by its stage

-- b has come as far as stage k, if it holds number m of the queue still
abbrev Come : Side → ℕ → ℕ → ℕ → Image → Type 0
Come q b m k s = (m ≤ counter q s) × (HasNumber q b m s → k ≤ (client s b).stage)

module _ {n : ℕ} {q : Side} (line : Line n q) (above : (k : ℕ) → 2 ≤ q.phase k → 2 ≤ k) where
  come_stable : (b m k : ℕ) → Stable n (Come q b m k)
  come_stable b m k s c g o x = (
    omega (arith, counter_rises line s c g, x.0),
    λ h. let y = x.1 (held line s c g b m x.0 h).0 in let z = (same_after s c g o b (above _ h.0)).stage in omega arith,
  )

  -- a stage at which nobody waits takes a round
  come_up : (b m k : ℕ) → k ≢ 4 → k ≢ 10 → (s : Image) → Grown n s → Come q b m k s → Following n 1 (Come q b m (suc k)) s
  come_up b m k n4 n10 s g x =
      by_cases (dec_le 2 (phase q s b))
      (λ h. one_round b (come_stable b m k) (come_stable b m (suc k)) hit s g x (line.within s g b (omega arith)))
      (λ h. following_stays (come_stable b m (suc k)) 1 s g (x.0, λ y. absurd (h y.0)))
    where
      hit : Hit n b (Come q b m k) (Come q b m (suc k))
      hit s c g o x d = (
        omega (arith, counter_rises line s c g, x.0),
        λ h. let w = (held line s c g b m x.0 h).0 in
            let y = x.1 w in
            let v = above _ h.0 in
            let z = (same_after s c g o b v).stage in
            by_cases (ℕ_discrete (client s b).stage k)
            (λ e. elim (gets s g c b d (line.within s g b (omega (arith, w.0)))) [
              | goes_up i l ↦ omega arith
              | goes_out i ↦ absurd (omega arith)
              | stays_R i f ↦ absurd (n4 (sym e ∙ i))
              | stays_C i f ↦ absurd (n10 (sym e ∙ i))
            ])
            (λ e. omega arith),
      )

above_R : (k : ℕ) → 2 ≤ rphase k → 2 ≤ k
unfolding rphase
above_R k h = omega arith

above_C : (k : ℕ) → 2 ≤ cphase k → 2 ≤ k
above_C k h = omega (arith, (in_C k (omega arith)).0)

-- who holds a number in a line of at most n is gone when all numbers up to its own have drained
module _ {n : ℕ} {q : Side} (line : Line n q) (ex : ℕ) (leaves : (s : Image) → Grown n s → (b m : ℕ) → Far q b m 5 s → Following n ex
    (Gone q b m) s) where
  drained : (s : Image) → Grown n s → (b : ℕ) → 2 ≤ phase q s b → Following n (4 + n * suc ex) (Gone q b (ticket q s b)) s
  drained s g b h =
      let m : ℕ = ticket q s b in
      let l = ahead_less line s g b m (h, refl) in
      subst (λ (j : ℕ). Following n j (Gone q b m) s) (cost_is line ex (n - 1) ∙ rounds (omega arith))
      (drains line ex leaves (n - 1) s g b m (line.bound s g b h) (omega arith))
    where
      rounds : suc (n - 1) ≡ n → 4 + suc (n - 1) * suc ex ≡ 4 + n * suc ex
      rounds e = rw e

module _ (n : ℕ) where
  -- from stage 11 two rounds lead out of the commit queue
  leaves_C : (s : Image) → Grown n s → (b m : ℕ) → Far commit_side b m 5 s → Following n 2 (Gone commit_side b m) s
  leaves_C s g b m x =
      so (gone_stable (line_C n) b m) 2 s g
      (and_then 1 1 2 refl s g
      (come_up (line_C n) above_C b m 11 (omega arith) (omega arith) s g
      (x.0, λ h. let y = x.1 h in omega (arith, (in_C (client s b).stage (omega arith)).2)))
      (come_up (line_C n) above_C b m 12 (omega arith) (omega arith)))
      (λ t i y. (y.0, λ h. omega (arith, y.1 h, (in_C (client t b).stage (omega (arith, h.0))).1)))

  -- the holder of request number m has commit number k
  abbrev Bound : ℕ → ℕ → ℕ → Image → Type 0
  Bound b m k s = (m ≤ (view s).R) × (HasNumber request_side b m s → (8 ≤ (client s b).stage) × ((client s b).commit ≡ k))

  bound_stable : (b m k : ℕ) → Stable n (Bound b m k)
  bound_stable b m k s c g o x = (
    omega (arith, counter_rises (line_R n) s c g, x.0),
    λ h. let y = x.1 (held (line_R n) s c g b m x.0 h).0 in
        let z = same_after s c g o b (above_R _ h.0) in
        (omega (arith, y.0, z.stage), z.commit y.0 ∙ y.1),
  )

  in_commits : (k : ℕ) → 8 ≤ k → k ≤ 12 → 2 ≤ cphase k
  in_commits k h l = elim (phases k) [ inl z ↦ omega (arith, z.1) | inr z ↦ absurd (omega (arith, z.0)) ]

  -- the commit queue: from stage 8 to stage 13
  through : (b m : ℕ) (s : Image) → Grown n s → Come request_side b m 8 s → Following n (4 + n * 3) (Come request_side b m 13) s
  through b m s g x =
      by_cases (Dec.and (Dec.and (dec_le 2 (phase request_side s b)) (ℕ_discrete (ticket request_side s b) m)) (dec_le (client s b).stage 12))
      (λ h. let y = x.1 h.0 in
      so (come_stable (line_R n) above_R b m 13) (4 + n * 3) s g
      (both (4 + n * 3) s
      (drained (line_C n) 2 leaves_C s g b (in_commits (client s b).stage y h.1))
      (following_stays (bound_stable b m (client s b).commit) (4 + n * 3) s g (x.0, λ _. (y, refl))))
      (λ t i w. (
        w.1.0,
        λ v. let u = w.1.1 v in
            by_cases (dec_le 13 (client t b).stage) (λ z. z) (λ z. absurd (w.0.1 (in_commits (client t b).stage u.0 (omega arith), u.1))),
      )))
      (λ h. following_stays (come_stable (line_R n) above_R b m 13) (4 + n * 3) s g
      (x.0, λ y. by_cases (dec_le (client s b).stage 12) (λ l. absurd (h (y, l))) (λ l. omega arith)))

  -- from stage 5 to the end
  leaves_R : (s : Image) → Grown n s → (b m : ℕ) → Far request_side b m 5 s → Following n (3 * n + 8) (Gone request_side b m) s
  unfolding rphase
  leaves_R s g b m x =
      so (gone_stable (line_R n) b m) (3 * n + 8) s g
      (and_then 3 (3 * n + 5) (3 * n + 8) (omega arith) s g
      (and_then 2 1 3 refl s g
      (and_then 1 1 2 refl s g
      (come_up (line_R n) above_R b m 5 (omega arith) (omega arith) s g (x.0, λ h. let y = x.1 h in omega arith))
      (come_up (line_R n) above_R b m 6 (omega arith) (omega arith)))
      (come_up (line_R n) above_R b m 7 (omega arith) (omega arith)))
      (λ t i y. and_then (4 + n * 3) 1 (3 * n + 5) (omega arith) t i (through b m t i y)
      (come_up (line_R n) above_R b m 13 (omega arith) (omega arith))))
      (λ t i y. (y.0, λ h. omega (arith, y.1 h, at_most_13 t i b)))

  -- who has a request number holds it for at most 4 + n * (3 * n + 9) rounds more
  pub requested : (s : Image) → Grown n s → (b : ℕ) → 2 ≤ phase request_side s b
      → Following n (4 + n * (3 * n + 9)) (Gone request_side b (ticket request_side s b)) s
  requested s g b h =
      subst (λ (j : ℕ). Following n (4 + n * j) (Gone request_side b (ticket request_side s b)) s) (omega arith)
      (drained (line_R n) (3 * n + 8) leaves_R s g b h)
