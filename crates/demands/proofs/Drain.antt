-- A ticket queue drains, once for both queues (`Line`: what a queue of the store is held to). Client b holds number m, and at most j smaller numbers
-- are in the queue. Numbers rise, so no smaller one comes in any more.
-- Four rounds, and its list is made and all on it have noted their numbers (`ready`): two steps of its own, then two of theirs. A number that it
-- finds noted and larger is struck for good; so once all smaller numbers are gone, its next look passes (`pass`).
-- If the way out from there takes `ex` rounds, the holder of the smallest number is gone after 4 + (1 + ex) rounds, and each further number needs
-- 1 + ex more (`drains`): the four rounds are waited but once, since all do their first steps at the same time.
-- Assumes nothing.
use Prim.Native.Nat.{ℕ, zero, suc, ◌+◌, ◌*◌, ◌≤◌, ◌<◌}
use mathlib.Core.Path.{◌≡◌, refl, sym, ◌∙◌}
use mathlib.Core.Logic.Dec
use mathlib.Core.Logic.{◌≢◌, ◌⊎◌, inl, inr, by_cases}
use mathlib.Core.Bool.{Bool, true}
use native.Mathlib.Decide.{ℕ_discrete, dec_le, dec_lt}
use native.Mathlib.Omega.{arith}
use Rattle.spec.specs.Image.{Image}
use Rattle.spec.specs.Run.{Call}
use Rattle.history.proofs.Sums.{sum, sum_has, sum_less, sum_ones, one, one_yes, one_no, one_most, one_if_lem}
use Rattle.history.proofs.View.{view}
use Rattle.history.proofs.AllCalls.{observed_by}
use Rattle.demands.specs.Rounds.{serves}
use Rattle.history.proofs.Effects.{Side, phase_of, number_on, list_of, Tick}
use Rattle.demands.proofs.Grown.{next, client, Grown, is_below}
use Rattle.demands.proofs.AfterRounds.{Following, Stable, Hit, following_stays, and_then, so, following_later, every, both, one_round}

-- ---- a queue of the store

abbrev pub phase : Side → Image → ℕ → ℕ
phase q s b = phase_of q (view s).cl b

abbrev pub ticket : Side → Image → ℕ → ℕ
ticket q s b = number_on q (view s).cl b

abbrev pub list : Side → Image → ℕ → ℕ → Bool
list q s b = list_of q (view s).cl b

abbrev pub counter : Side → Image → ℕ
counter q s = q.counter (view s)

pub record Line (n : ℕ) (q : Side) : Type 0 where
  pub tick : (s : Image) (c : Call) → Grown n s → Tick q (view s).cl (counter q s) (view (next s c)).cl (counter q (next s c))
  pub bound : (s : Image) → Grown n s → (b : ℕ) → 2 ≤ phase q s b → ticket q s b ≤ counter q s
  pub apart : (s : Image) → Grown n s → (a b : ℕ) → a ≢ b → 2 ≤ phase q s a → 2 ≤ phase q s b → ticket q s a ≢ ticket q s b
  pub within : (s : Image) → Grown n s → (b : ℕ) → 1 ≤ phase q s b → 1 ≤ (client s b).stage
  pub listed : (s : Image) → Grown n s → (b x : ℕ) → 4 ≤ phase q s b → list q s b x ≡ true → (1 ≤ phase q s x) × (x ≢ b)
  -- the call that serves a client in the queue: up to its list nobody waits, and it passes where all on its list have noted larger numbers
  pub rises : (s : Image) (c : Call) → Grown n s → (b : ℕ) → serves b c (observed_by c s) ≡ true → 1 ≤ phase q s b → phase q s b ≤ 3
      → (phase q s b < phase q (next s c) b) ⊎ (phase q (next s c) b ≡ 0)
  pub passes : (s : Image) (c : Call) → Grown n s → (b : ℕ) → serves b c (observed_by c s) ≡ true → phase q s b ≡ 4
      → ((x : ℕ) → list q s b x ≡ true → (3 ≤ phase q s x) × (ticket q s b < ticket q s x))
      → (5 ≤ phase q (next s c) b) ⊎ (phase q (next s c) b ≡ 0)

-- ---- claims on number m, which was taken, and on client b, if it holds that number still

abbrev pub HasNumber : Side → ℕ → ℕ → Image → Type 0
HasNumber q b m s = (2 ≤ phase q s b) × (ticket q s b ≡ m)

-- b has come as far as phase k
abbrev pub Far : Side → ℕ → ℕ → ℕ → Image → Type 0
Far q b m k s = (m ≤ counter q s) × (HasNumber q b m s → k ≤ phase q s b)

-- b holds it no more
abbrev pub Gone : Side → ℕ → ℕ → Image → Type 0
Gone q b m s = (m ≤ counter q s) × (HasNumber q b m s → ⊥)

-- b has its list, and x, if it is on it, has come as far as phase i
abbrev pub Follows : Side → ℕ → ℕ → ℕ → ℕ → Image → Type 0
Follows q b m i x s = (m ≤ counter q s) × (HasNumber q b m s → (4 ≤ phase q s b) × (list q s b x ≡ true → i ≤ phase q s x))

-- no smaller number is in the queue
abbrev pub Least : Side → ℕ → Image → Type 0
Least q m s = (m ≤ counter q s) × ((x : ℕ) → 2 ≤ phase q s x → m ≤ ticket q s x)

-- how many smaller numbers are in the queue
pub ahead? : (q : Side) (s : Image) (m b : ℕ) → Dec ((2 ≤ phase q s b) × (ticket q s b < m))
ahead? q s m b = Dec.and (dec_le 2 (phase q s b)) (dec_lt (ticket q s b) m)

abbrev pub ahead : ℕ → Side → Image → ℕ → ℕ
ahead n q s m = sum n (λ b. one (ahead? q s m b))

module _ {n : ℕ} {q : Side} (line : Line n q) where
  pub counter_rises : (s : Image) (c : Call) → Grown n s → counter q s ≤ counter q (next s c)
  counter_rises s c g = (line.tick s c g).counter

  -- who holds a number after a call held it before, and is no less far
  pub held : (s : Image) (c : Call) → Grown n s → (b m : ℕ) → m ≤ counter q s → HasNumber q b m (next s c)
      → HasNumber q b m s × (phase q s b ≤ phase q (next s c) b)
  held s c g b m l h = let t = (line.tick s c g).back b h.0 (omega arith) in ((t.0, sym t.1 ∙ h.1), t.2)

  far_stable : (b m k : ℕ) → Stable n (Far q b m k)
  far_stable b m k s c g o x =
      (omega (arith, counter_rises s c g, x.0), λ h. let w = held s c g b m x.0 h in let y = x.1 w.0 in omega arith)

  pub gone_stable : (b m : ℕ) → Stable n (Gone q b m)
  gone_stable b m s c g o x = (omega (arith, counter_rises s c g, x.0), λ h. x.1 (held s c g b m x.0 h).0)

  seen_stable : (b m i x : ℕ) → Stable n (Follows q b m i x)
  seen_stable b m i x s c g o y = (
    omega (arith, counter_rises s c g, y.0),
    λ h. let w = held s c g b m y.0 h in let z = y.1 w.0 in
        (omega arith, λ e. let v = (line.tick s c g).lists b x z.0 h.0 (omega arith) e in let u = z.1 v.0 in omega arith),
  )

  least_stable : (m : ℕ) → Stable n (Least q m)
  least_stable m s c g o x =
      (omega (arith, counter_rises s c g, x.0), λ y h. by_cases (dec_le m (ticket q (next s c) y)) (λ k. k) (λ k. absurd (smaller y h k)))
    where
      smaller : (y : ℕ) → 2 ≤ phase q (next s c) y → (m ≤ ticket q (next s c) y → ⊥) → ⊥
      smaller y h k = let t = (line.tick s c g).back y h (omega (arith, x.0)) in let z = x.1 y t.0 in omega arith

  -- ---- four rounds to be ready

  -- phases 2 and 3 take a round each
  far_up : (b m k : ℕ) → 2 ≤ k → k ≤ 3 → (s : Image) → Grown n s → Far q b m k s → Following n 1 (Far q b m (suc k)) s
  far_up b m k l u s g x =
      by_cases (dec_le 2 (phase q s b))
      (λ h. one_round b (far_stable b m k) (far_stable b m (suc k)) hit s g x (line.within s g b (omega arith)))
      (λ h. following_stays (far_stable b m (suc k)) 1 s g (x.0, λ y. absurd (h y.0)))
    where
      hit : Hit n b (Far q b m k) (Far q b m (suc k))
      hit s c g o x d = (
        omega (arith, counter_rises s c g, x.0),
        λ h. let w = held s c g b m x.0 h in let y = x.1 w.0 in
            by_cases (dec_le (phase q s b) 3)
            (λ z. elim (line.rises s c g b d (omega arith) z) [ inl r ↦ omega arith | inr r ↦ absurd (omega arith) ])
            (λ z. omega arith),
      )

  -- a client on the list that has not noted its number is at phase 1 or 2, and these take a round each
  seen_up : (b m i x : ℕ) → 1 ≤ i → i ≤ 2 → (s : Image) → Grown n s → Follows q b m i x s → Following n 1 (Follows q b m (suc i) x) s
  seen_up b m i x l u s g y =
      by_cases (dec_le 1 (phase q s x))
      (λ h. one_round x (seen_stable b m i x) (seen_stable b m (suc i) x) hit s g y (line.within s g x h))
      (λ h. following_stays (seen_stable b m (suc i) x) 1 s g (y.0, λ w. ((y.1 w).0, λ e. absurd (h (let z = (y.1 w).1 e in omega arith)))))
    where
      hit : Hit n x (Follows q b m i x) (Follows q b m (suc i) x)
      hit s c g o y d = (
        omega (arith, counter_rises s c g, y.0),
        λ h. let w = held s c g b m y.0 h in let z = y.1 w.0 in (
          omega arith,
          λ e. let v = (line.tick s c g).lists b x z.0 h.0 (omega arith) e in let k = z.1 v.0 in
              by_cases (dec_le (phase q s x) 3)
              (λ j. elim (line.rises s c g x d (omega arith) j) [ inl r ↦ omega arith | inr r ↦ absurd (omega arith) ])
              (λ j. omega arith),
        ),
      )

  ready : (b m : ℕ) (s : Image) → Grown n s → m ≤ counter q s → Following n 4 (λ t. (x : ℕ) → Follows q b m 3 x t) s
  ready b m s g l =
      and_then 2 2 4 refl s g
      (and_then 1 1 2 refl s g (far_up b m 2 (omega arith) (omega arith) s g (l, λ h. h.0)) (far_up b m 3 (omega arith) (omega arith)))
      (λ t k y. every 2 t (λ x.
      and_then 1 1 2 refl t k
      (seen_up b m 1 x (omega arith) (omega arith) t k (y.0, λ h. (y.1 h, λ e. (line.listed t k b x (y.1 h) e).0)))
      (seen_up b m 2 x (omega arith) (omega arith))))

  -- ---- one round to pass, with no smaller number about

  abbrev Passes : ℕ → ℕ → Image → Type 0
  Passes b m s = ((x : ℕ) → Follows q b m 3 x s) × Least q m s

  pass : (b m : ℕ) (s : Image) → Grown n s → Passes b m s → Following n 1 (Far q b m 5) s
  pass b m s g x =
      by_cases (dec_le 2 (phase q s b))
      (λ h. one_round b stable (far_stable b m 5) hit s g x (line.within s g b (omega arith)))
      (λ h. following_stays (far_stable b m 5) 1 s g (x.1.0, λ y. absurd (h y.0)))
    where
      stable : Stable n (Passes b m)
      stable s c g o y = (λ x. seen_stable b m 3 x s c g o (y.0 x), least_stable m s c g o y.1)

      larger : (s : Image) → Grown n s → HasNumber q b m s → Passes b m s → (x : ℕ) → list q s b x ≡ true
          → (3 ≤ phase q s x) × (ticket q s b < ticket q s x)
      larger s g h y x e =
          let z = (y.0 x).1 h in let k = z.1 e in let j = y.1.1 x (omega arith) in let v = line.listed s g b x z.0 e in
          let d = line.apart s g x b v.1 (omega arith) h.0 in (k, omega arith)

      hit : Hit n b (Passes b m) (Far q b m 5)
      hit s c g o y d = (
        omega (arith, counter_rises s c g, y.1.0),
        λ h. let w = held s c g b m y.1.0 h in let z = (y.0 0).1 w.0 in
            by_cases (ℕ_discrete (phase q s b) 4)
            (λ f. elim (line.passes s c g b d f (larger s g w.0 y)) [ inl r ↦ r | inr r ↦ absurd (omega arith) ])
            (λ f. omega arith),
      )

  -- ---- all of them, one after the other

  -- who is in the queue is below n, so at most n - 1 are ahead of it
  in_line : (s : Image) → Grown n s → (b : ℕ) → 2 ≤ phase q s b → b < n
  in_line s g b h = is_below s g b (line.within s g b (omega arith))

  pub ahead_less : (s : Image) → Grown n s → (b m : ℕ) → HasNumber q b m s → suc (ahead n q s m) ≤ n
  ahead_less s g b m h =
      omega (
        arith,
        sum_ones n,
        sum_less n b (λ x. one (ahead? q s m x)) (λ _. 1) (in_line s g b h.0) (λ x. one_most (ahead? q s m x))
            (omega (arith, one_no (ahead? q s m b) (λ v. omega (arith, v.1, h.1)))),
      )

  -- the rounds until a number is gone, with at most j smaller ones, if the way from phase 5 takes ex rounds
  unfoldable pub cost : ℕ → ℕ → ℕ
  cost ex zero = 4 + suc ex
  cost ex (suc j) = cost ex j + suc ex

  pub cost_is : (ex j : ℕ) → cost ex j ≡ 4 + suc j * suc ex
  unfolding cost
  cost_is ex zero = omega arith
  cost_is ex (suc j) = let h = cost_is ex j in omega arith

  module _ (ex : ℕ) (leaves : (s : Image) → Grown n s → (b m : ℕ) → Far q b m 5 s → Following n ex (Gone q b m) s) where
    -- with no smaller number after k rounds
    first : (b m k : ℕ) → 4 ≤ k → (s : Image) → Grown n s → m ≤ counter q s → Following n k (Least q m) s → Following n (k + suc ex) (Gone q b m) s
    first b m k h s g l a =
        and_then k (suc ex) (k + suc ex) refl s g
        (both k s (following_later (λ s c g o y x. seen_stable b m 3 x s c g o (y x)) 4 k h s g (ready b m s g l)) a)
        (λ t i y. and_then 1 ex (suc ex) (omega arith) t i (pass b m t i y) (λ t i y. leaves t i b m y))

    pub drains : (j : ℕ) (s : Image) → Grown n s → (b m : ℕ) → m ≤ counter q s → ahead n q s m ≤ j → Following n (cost ex j) (Gone q b m) s
    unfolding cost
    drains zero s g b m l h = first b m 4 (omega arith) s g l (following_stays (least_stable m) 4 s g (l, least))
      where
        least : (x : ℕ) → 2 ≤ phase q s x → m ≤ ticket q s x
        least x k = by_cases (dec_le m (ticket q s x)) (λ z. z) (λ z. absurd (
            omega (arith, h, one_yes (ahead? q s m x) (k, omega arith), sum_has n x (λ b. one (ahead? q s m b)) (in_line s g x k))))
    drains (suc j) s g b m l h = first b m (cost ex j) (omega (arith, cost_is ex j)) s g l (smaller (drains j s g))
      where
        fewer : (x m' : ℕ) → m' < m → HasNumber q x m' s → ahead n q s m' ≤ j
        fewer x m' u y =
            let z = sum_less n x (λ b. one (ahead? q s m' b)) (λ b. one (ahead? q s m b)) (in_line s g x y.0)
            (λ b. one_if_lem (ahead? q s m' b) (ahead? q s m b) (λ v. (v.0, omega (arith, v.1))))
            (omega (arith, one_no (ahead? q s m' x) (λ v. omega (arith, v.1, y.1)), one_yes (ahead? q s m x) (y.0, omega (arith, y.1)))) in
            omega arith

        -- every smaller number is gone after as many rounds as it needs
        smaller : ((x m' : ℕ) → m' ≤ counter q s → ahead n q s m' ≤ j → Following n (cost ex j) (Gone q x m') s)
            → Following n (cost ex j) (Least q m) s
        smaller rec =
            so (least_stable m) (cost ex j) s g
            (both (cost ex j) s
            (every (cost ex j) s (λ x. every (cost ex j) s (λ m'. every (cost ex j) s (λ (u : m' < m).
            by_cases (Dec.and (dec_le 2 (phase q s x)) (ℕ_discrete (ticket q s x) m'))
            (λ y. rec x m' (omega arith) (fewer x m' u y))
            (λ y. following_stays (gone_stable x m') (cost ex j) s g (omega arith, y))))))
            (following_stays (far_stable b m 0) (cost ex j) s g (l, λ _. omega arith)))
            (λ t i y. (
              y.1.0,
              λ x k. by_cases (dec_le m (ticket q t x)) (λ z. z) (λ z. absurd ((y.0 x (ticket q t x) (omega arith)).1 (k, refl))),
            ))
