-- A store grown from set-up never meets R or C at its top: R and the open clients that have yet to take one are together at most W, and so for
-- C. A Begin adds one to both sides, a step that takes a number moves one client's share to the counter, and every other change leaves the
-- sum or lowers it.
-- Assumes nothing.
use Prim.Native.Nat.{ℕ, zero, suc, ◌+◌, ◌≤◌, ◌<◌}
use mathlib.Core.Path.{◌≡◌, refl, ap, ◌∙◌}
use mathlib.Core.Logic.{ite, if_pos, if_neg, by_cases}
use native.Mathlib.Decide.{ℕ_discrete, dec_le}
use native.Mathlib.Omega.{arith}
use Rattle.history.proofs.Lists.{ite_elim, option_case}
use Rattle.history.proofs.Sums.{sum, sum_put, sum_has}
use Rattle.history.proofs.Tickets.{look, list_size}
use Rattle.spec.specs.Right.{Bounds}
use Rattle.history.proofs.Model.{newcomer, Client, closedₛ, putₛ, same, clear_c, clear_both, State, Out, rph, cph, smallestₛ, check_key}
use Rattle.history.proofs.Model.{at_stageₛ, with_request, with_commit, begunₛ, overwritten, addedₛ, trimmedₛ, take_r, take_c, list_r}
use Rattle.history.proofs.Model.{list_c, look_r, look_c, checkedₛ, committed, fresh}
use Rattle.history.proofs.Moves.{Tame, tame_same, tame_C, tame_both, put_at, put_off}
use Rattle.history.proofs.Transition.{Transition, no_begin, no_read, no_write, no_advance, no_abandon, begins, reads, replaces, adds}
use Rattle.history.proofs.Transition.{at0, ends0, at1, at2, at3, at4, at5, at6, at7, at8, at9, at10, at11, at12, at13, abandons}
use Rattle.history.proofs.Transition.{trims, frees}
use Rattle.spec.specs.Answers.{Answer}
use Rattle.spec.specs.declared.Progress.{Progress}
use Rattle.spec.specs.Run.{Call}
use Rattle.spec.specs.Table.{Observed}
use Rattle.spec.specs.Set.{clients}

-- 1 for an open client at a stage up to t
pub early : ℕ → Client → ℕ
early t c = ite (dec_le 1 c.number) (ite (dec_le c.stage t) 1 0) 0

early-one : (t : ℕ) (c : Client) → 1 ≤ c.number → c.stage ≤ t → early t c ≡ 1
unfolding early
early-one t c h k = if_pos (dec_le 1 c.number) h _ _ ∙ if_pos (dec_le c.stage t) k _ _

early_shut : (t : ℕ) (c : Client) → c.number ≡ 0 → early t c ≡ 0
unfolding early
early_shut t c h = if_neg (dec_le 1 c.number) (λ k. omega arith) _ _

early_late : (t : ℕ) (c : Client) → t < c.stage → early t c ≡ 0
unfolding early
early_late t c h =
    by_cases (dec_le 1 c.number)
    (λ k. if_pos (dec_le 1 c.number) k _ _ ∙ if_neg (dec_le c.stage t) (λ l. omega arith) _ _)
    (λ k. if_neg (dec_le 1 c.number) k _ _)

early_later : (t : ℕ) (c d : Client) → c.number ≡ d.number → d.stage ≤ c.stage → early t c ≤ early t d
early_later t c d e l =
    by_cases (ℕ_discrete c.number 0)
    (λ z. omega (arith, early_shut t c z))
    (λ n. by_cases (dec_le c.stage t)
    (λ k. omega (arith, early-one t c (omega (arith, n)) k, early-one t d (omega (arith, n)) (omega (arith, k))))
    (λ k. omega (arith, early_late t c (omega (arith, k)))))

early_tame : (t : ℕ) (a : ℕ) (f : Client → Client) → Tame a f → (c : Client) → early t (f c) ≡ early t c
unfolding early
early_tame t a f h c = rw (h.number c, h.stage c)

pub record Under (R C W : ℕ) (cl : ℕ → Client) : Type 0 where
  pub r : R + sum clients (λ b. early 1 (cl b)) ≤ W
  pub c : C + sum clients (λ b. early 7 (cl b)) ≤ W

abbrev pub Under_state : State → Type 0
Under_state s = Under s.R s.C s.W s.cl

module _ (s : State) (u : Under_state s) where
  shifted : (t a : ℕ) → a < clients → (d : Client) (f : Client → Client) → Tame a f
      → sum clients (λ b. early t (putₛ a d f s.cl b)) + early t (s.cl a) ≡ sum clients (λ b. early t (s.cl b)) + early t d
  shifted t a h d f m =
      sum_put clients a (λ b. early t (putₛ a d f s.cl b)) (λ b. early t (s.cl b)) h
      (λ b n. ap (early t) (put_off a d f s.cl b n) ∙ early_tame t a f m (s.cl b))
      ∙ ap (λ (z : Client). sum clients (λ b. early t (s.cl b)) + early t z) (put_at a d f s.cl)

  moved : (a : ℕ) → a < clients → (d : Client) (f : Client → Client) → Tame a f → (R C W : ℕ)
      → R + early 1 d + s.W ≤ s.R + early 1 (s.cl a) + W → C + early 7 d + s.W ≤ s.C + early 7 (s.cl a) + W → Under R C W (putₛ a d f s.cl)
  moved a h d f m R C W p q = record { r = omega (arith, p, u.r, shifted 1 a h d f m); c = omega (arith, q, u.c, shifted 7 a h d f m) }

  -- its stage rises, or it is closed
  later : (a : ℕ) → a < clients → (d : Client) (f : Client → Client) → Tame a f → d.number ≡ (s.cl a).number → (s.cl a).stage ≤ d.stage
      → Under s.R s.C s.W (putₛ a d f s.cl)
  later a h d f m e l = moved a h d f m s.R s.C s.W (omega (arith, early_later 1 d (s.cl a) e l))
      (omega (arith, early_later 7 d (s.cl a) e l))

  gone : (a : ℕ) → a < clients → Under s.R s.C s.W (putₛ a closedₛ (clear_both a) s.cl)
  unfolding closedₛ
  gone a h = moved a h closedₛ (clear_both a) (tame_both a) s.R s.C s.W (omega (arith, early_shut 1 closedₛ refl))
      (omega (arith, early_shut 7 closedₛ refl))

  pub under_kept : {c : Call} {x : Out (Answer (Observed c))} → Transition s c x → Under_state x.state
  unfolding begunₛ overwritten addedₛ trimmedₛ take_r take_c list_r list_c look_r look_c checkedₛ committed
  under_kept (no_begin a r d n) = u
  under_kept (no_read a x r d n) = u
  under_kept (no_write a x v r d n) = u
  under_kept (no_advance a r d n) = u
  under_kept (no_abandon a r d n) = u
  under_kept (begins a h was k) =
      moved a h _ same (tame_same a) s.R s.C (suc s.W) (omega (arith, early-one 1 (newcomer s) (omega arith) (omega arith)))
      (omega (arith, early-one 7 (newcomer s) (omega arith) (omega arith)))
  under_kept (reads a x hx op e) = u
  under_kept (replaces a x v w op k) = u
  under_kept (adds a x v w op n) = u
  under_kept (at0 a h op e k) = later a h (at_stageₛ (s.cl a) 1) same (tame_same a) refl (omega arith)
  under_kept (ends0 a h op e k) = gone a h
  under_kept (at1 a h op e) =
      moved a h (with_request (s.cl a) 2 (suc s.R)) same (tame_same a) (suc s.R) s.C s.W
      (omega (arith, early_late 1 (with_request (s.cl a) 2 (suc s.R)) (omega arith), early-one 1 (s.cl a) op (omega arith)))
      (omega (arith, early_later 7 (with_request (s.cl a) 2 (suc s.R)) (s.cl a) refl (omega arith)))
  under_kept (at2 a h op e) = later a h (at_stageₛ (s.cl a) 3) same (tame_same a) refl (omega arith)
  under_kept (at3 a h op e) = later a h _ same (tame_same a) refl (omega arith)
  under_kept (at4 a h op e) =
      ite_elim (λ (x : Out (Answer Progress)). Under_state x.state)
      (ℕ_discrete (list_size clients (look (rph s) (λ b. (s.cl b).request) a (s.cl a).rwait)) 0)
      (λ _. later a h _ same (tame_same a) refl (omega arith)) (λ _. later a h _ same (tame_same a) refl (omega arith))
  under_kept (at5 a h op e) =
      option_case (smallestₛ (check_key s.dat s.comm (s.cl a).number (s.cl a).snapshot) s.dat)
      (λ q. rw q (later a h (at_stageₛ (s.cl a) 6) same (tame_same a) refl (omega arith))) (λ x q. rw q (gone a h))
  under_kept (at6 a h op e) = later a h (at_stageₛ (s.cl a) 7) same (tame_same a) refl (omega arith)
  under_kept (at7 a h op e) =
      moved a h (with_commit (s.cl a) 8 (suc s.C)) same (tame_same a) s.R (suc s.C) s.W
      (omega (arith, early_later 1 (with_commit (s.cl a) 8 (suc s.C)) (s.cl a) refl (omega arith)))
      (omega (arith, early_late 7 (with_commit (s.cl a) 8 (suc s.C)) (omega arith), early-one 7 (s.cl a) op (omega arith)))
  under_kept (at8 a h op e) = later a h (at_stageₛ (s.cl a) 9) same (tame_same a) refl (omega arith)
  under_kept (at9 a h op e) = later a h _ same (tame_same a) refl (omega arith)
  under_kept (at10 a h op e) =
      ite_elim (λ (x : Out (Answer Progress)). Under_state x.state)
      (ℕ_discrete (list_size clients (look (cph s) (λ b. (s.cl b).commit) a (s.cl a).cwait)) 0)
      (λ _. later a h _ same (tame_same a) refl (omega arith)) (λ _. later a h _ same (tame_same a) refl (omega arith))
  under_kept (at11 a h op e) = later a h (at_stageₛ (s.cl a) 12) same (tame_same a) refl (omega arith)
  under_kept (at12 a h op e) = later a h (at_stageₛ (clear_c a (s.cl a)) 13) (clear_c a) (tame_C a) refl (omega arith)
  under_kept (at13 a h op e) = gone a h
  under_kept (abandons a h op k) = gone a h
  under_kept (trims fits) = u
  under_kept frees = u

  -- an open client that has yet to take a number finds one
  pub R_left : (a : ℕ) → a < clients → 1 ≤ (s.cl a).number → (s.cl a).stage ≤ 1 → s.R < s.W
  R_left a h o e = omega (arith, u.r, sum_has clients a (λ b. early 1 (s.cl b)) h, early-one 1 (s.cl a) o e)

  pub C_left : (a : ℕ) → a < clients → 1 ≤ (s.cl a).number → (s.cl a).stage ≤ 7 → s.C < s.W
  C_left a h o e = omega (arith, u.c, sum_has clients a (λ b. early 7 (s.cl b)) h, early-one 7 (s.cl a) o e)

none_early : (t n : ℕ) → sum n (λ b. early t closedₛ) ≡ 0
unfolding sum closedₛ
none_early t zero = refl
none_early t (suc n) = omega (arith, early_shut t closedₛ refl, none_early t n)

pub start_under : (b : Bounds) (w : ℕ) → Under_state (fresh b w)
unfolding fresh
start_under b w = record { r = omega (arith, none_early 1 clients); c = omega (arith, none_early 7 clients) }
