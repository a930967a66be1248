-- One transaction, from the request queue on. Transaction t of client b has its request number after a round (`numbered`), and no request number is
-- held for more than 4 + n(3n + 9) rounds (`requested`): so t is over after 5 + n(3n + 9) rounds, which is at most 4n² + 32, since
-- n² - 9n + 27 is never negative (`over_in_time`). A transaction that is over was ended by a call, which its fate names (`was_closed`).
-- Assumes nothing.
use Prim.Native.Nat.{ℕ, zero, suc, ◌+◌, ◌*◌, ◌≤◌}
use mathlib.Core.Path.{◌≡◌, refl, sym, ◌∙◌, ap}
use mathlib.Core.Logic.{◌≢◌, by_cases}
use mathlib.Core.List.{List, [], ◌∷◌}
use native.Mathlib.Decide.{ℕ_discrete}
use native.Mathlib.Omega.{arith}
use Rattle.spec.specs.Image.{Image}
use Rattle.spec.specs.Run.{Call}
use Rattle.history.proofs.Model.{rphase}
use Rattle.history.proofs.View.{view}
use Rattle.history.proofs.AllCalls.{observed_by}
use Rattle.demands.specs.Rounds.{AllBelow, Fate, StillOpen, Closed, Abandoned, fate_by, earlier, round_limit}
use Rattle.demands.proofs.Changes.{Remains, remains, goes_up, goes_out, stays_R, stays_C}
use Rattle.demands.proofs.Grown.{next, client, Grown, is_open_lem, changed, does, gets, grows}
use Rattle.demands.proofs.AfterRounds.{run, Following, Stable, Hit, following_stays, and_then, so, following_later, both, one_round}
use Rattle.demands.proofs.Queues.{requested}

-- ---- the limit

enough : (n : ℕ) → 5 + n * (3 * n + 9) ≤ round_limit n
enough zero = omega arith
enough (suc zero) = omega arith
enough (suc (suc zero)) = omega arith
enough (suc (suc (suc zero))) = omega arith
enough (suc (suc (suc (suc zero)))) = omega arith
enough (suc (suc (suc (suc (suc k))))) = omega arith

-- ---- transaction t of client b; W says that its number was issued, so that no later one has it

abbrev Over : ℕ → ℕ → Image → Type 0
Over b t s = (t ≤ (view s).W) × ((client s b).number ≢ t)

-- if it is still open, it has come as far as stage k
abbrev Past : ℕ → ℕ → ℕ → Image → Type 0
Past b t k s = (t ≤ (view s).W) × ((client s b).number ≡ t → k ≤ (client s b).stage)

-- if it is still open, it has request number m
abbrev Asks : ℕ → ℕ → ℕ → Image → Type 0
Asks b t m s = (t ≤ (view s).W) × ((client s b).number ≡ t → (2 ≤ (client s b).stage) × ((client s b).request ≡ m))

module _ (n b t : ℕ) (pos : 1 ≤ t) where
  over_stable : Stable n (Over b t)
  over_stable s c g o x =
      let k = does s g c in
      (omega (arith, k.begun), λ e. x.1 (sym ((k.keep b).held (omega arith) (omega (arith, x.0))).number ∙ e))

  past_stable : (j : ℕ) → Stable n (Past b t j)
  past_stable j s c g o x =
      let k = does s g c in (
        omega (arith, k.begun),
        λ e. let z = (k.keep b).held (omega arith) (omega (arith, x.0)) in let y = x.1 (sym z.number ∙ e) in omega (arith, z.stage),
      )

  asks_stable : (m : ℕ) → Stable n (Asks b t m)
  asks_stable m s c g o x =
      let k = does s g c in (
        omega (arith, k.begun),
        λ e. let z = (k.keep b).held (omega arith) (omega (arith, x.0)) in let y = x.1 (sym z.number ∙ e) in
            (omega (arith, z.stage, y.0), z.request y.0 ∙ y.1),
      )

  -- a round to the request number
  numbered : (s : Image) → Grown n s → Past b t 1 s → Following n 1 (Past b t 2) s
  numbered s g x =
      by_cases (ℕ_discrete (client s b).number t)
      (λ e. one_round b (past_stable 1) (past_stable 2) hit s g x (x.1 e))
      (λ e. following_stays (past_stable 2) 1 s g (x.0, λ y. absurd (e y)))
    where
      hit : Hit n b (Past b t 1) (Past b t 2)
      hit s c g o x d =
          let k = does s g c in (
            omega (arith, k.begun),
            λ e. let z = (k.keep b).held (omega arith) (omega (arith, x.0)) in
                elim (gets s g c b d (x.1 (sym z.number ∙ e))) [
                  | goes_up i l ↦ let y = x.1 (sym z.number ∙ e) in omega arith
                  | goes_out i ↦ absurd (let y = x.1 (sym z.number ∙ e) in omega (arith, z.stage))
                  | stays_R i f ↦ omega (arith, z.stage)
                  | stays_C i f ↦ omega (arith, z.stage)
                ],
          )

  -- and with the request number the transaction goes
  over_then : (s : Image) → Grown n s → Past b t 2 s → Following n (4 + n * (3 * n + 9)) (Over b t) s
  unfolding rphase
  over_then s g x =
      by_cases (ℕ_discrete (client s b).number t)
      (λ e. let y = x.1 e in
      so over_stable (4 + n * (3 * n + 9)) s g
      (both (4 + n * (3 * n + 9)) s
      (requested n s g b (omega arith))
      (following_stays (asks_stable (client s b).request) (4 + n * (3 * n + 9)) s g (x.0, λ _. (y, refl))))
      (λ u j w. (w.1.0, λ i. let z = w.1.1 i in w.0.1 (omega (arith, z.0), z.1))))
      (λ e. following_stays over_stable (4 + n * (3 * n + 9)) s g (x.0, e))

  pub over_in_time : (k : ℕ) → round_limit n ≤ k → (s : Image) → Grown n s → Past b t 1 s → Following n k (Over b t) s
  over_in_time k l s g x =
      following_later over_stable (5 + n * (3 * n + 9)) k (omega (arith, enough n)) s g
      (and_then 1 (4 + n * (3 * n + 9)) (5 + n * (3 * n + 9)) (omega arith) s g (numbered s g x) over_then)

-- ---- its fate, on images

abbrev pub fated : ℕ → Image → List Call → Fate
fated b s [] = StillOpen
fated b s (c ∷ l) = earlier (fate_by b c (observed_by c s)) (fated b (next s c) l)

-- a transaction that is over, and was not abandoned, was closed
pub was_closed : {n : ℕ} (b t : ℕ) (s : Image) (l : List Call) → Grown n s → AllBelow n l → (client s b).number ≡ t → 1 ≤ (client s b).stage
    → (client (run s l) b).number ≢ t → fated b s l ≢ Abandoned → fated b s l ≡ Closed
was_closed b t s [] g o e h f a = absurd (f e)
was_closed b t s (c ∷ l) g o e h f a =
    go (fate_by b c (observed_by c s)) refl (λ z. was_closed b t (next s c) l (grows s c g o.0) o.1 (z.0 ∙ e) z.1 f)
  where
    by : {x : Fate} → fate_by b c (observed_by c s) ≡ x → fated b s (c ∷ l) ≡ earlier x (fated b (next s c) l)
    by i = ap (λ (x : Fate). earlier x (fated b (next s c) l)) i

    go : (x : Fate) → fate_by b c (observed_by c s) ≡ x
        → (Remains (client s b) (client (next s c) b) → fated b (next s c) l ≢ Abandoned → fated b (next s c) l ≡ Closed)
        → fated b s (c ∷ l) ≡ Closed
    go StillOpen i rest = by i ∙ rest (remains (view s) b h (changed s g c) (is_open_lem s g b h) i) (λ y. a (by i ∙ y))
    go Closed i rest = by i
    go Abandoned i rest = absurd (a (by i))
