-- Whatever a call does (Transition.antt), its answer is right by the plain table, and the invariant holds afterwards; and it holds after set-up.
-- W never falls, and stays a number of 32 bits: so each number that Begin answers is the next one. No call is refused with 2.
-- Assumes nothing.
use Prim.Native.Nat.{ℕ, suc, ◌≤◌}
use mathlib.Core.Path.{◌≡◌, refl, sym, ap, ◌∙◌, subst}
use mathlib.Core.Logic.{◌≢◌, by_cases}
use mathlib.Core.Bool.{Bool, true, not, true≢false}
use mathlib.Core.Option.{Option, none, some}
use native.Mathlib.Decide.{ℕ_discrete}
use native.Mathlib.Omega.{arith}
use borrow.Author.Tests.{eq-eqb, ne_eqb}
use lib.Dec.{eqb}
use Rattle.spec.specs.Set.{clients}
use Rattle.spec.specs.declared.Progress.{Progress}
use Rattle.spec.specs.Answers.{Answer, Answered, Refused, unfit}
use Rattle.spec.specs.Numbers.{top}
use Rattle.spec.specs.Run.{Call}
use Rattle.spec.specs.Table.{Observed}
use Rattle.spec.specs.Right.{Bounds, BeginRefusal, ReadRefusal, AbandonRefusal, next_after}
use Rattle.history.proofs.Lists.{in_nil, ite_elim, option_case, none-some, first}
use Rattle.history.proofs.Tickets.{idle_queue, look, list_size}
use Rattle.history.proofs.Model.{DRow, State, Out, rph, cph, begunₛ, overwritten, addedₛ, trimmedₛ, take_r, take_c, list_r, list_c}
use Rattle.history.proofs.Model.{look_r, look_c, checkedₛ, smallestₛ, check_key, committed, closedₛ, num_of, rphase, fresh}
use Rattle.history.proofs.Plain.{Plain, updateₚ, on_beginₚ, on_writeₚ, on_abandonₚ, on_advanceₚ, on_progressₚ, emptyₚ, none_yet, last_ofₚ}
use Rattle.history.proofs.Invariant.{Inv, values_of}
use Rattle.history.proofs.Booked.{write_added, write_replaced}
use Rattle.history.proofs.Arms.{Good, arm0, arm1, arm2, arm3, arm4, arm6, arm7, arm8, arm9, arm10, arm12, cph_in}
use Rattle.history.proofs.Deeds.{begin_good, read-good, write_refused, write-good, abandon_good, arm0_ends, arm5, arm11, arm13, trim_good}
use Rattle.history.proofs.Transition.{Transition, no_begin, no_read, no_write, no_advance, no_abandon, begins, reads, replaces, adds}
use Rattle.history.proofs.Transition.{at0, ends0, at1, at2, at3, at4, at5, at6, at7, at8, at9, at10, at11, at12, at13, abandons}
use Rattle.history.proofs.Transition.{trims, frees}

module _ {bounds : Bounds} {s : State} {p : Plain} (inv : Inv bounds s p) where
  -- an open client by the plain table is one by the store
  is_open_lem : (a : ℕ) → (p.cl a).live ≡ true → 1 ≤ (s.cl a).number
  is_open_lem a l = let z : (s.cl a).number ≡ 0 → ⊥ = λ e. true≢false (sym l ∙ (inv.one a).dead e) in omega (arith, z)

  -- and so by the test of the number
  same_live : (a : ℕ) → not (eqb (s.cl a).number 0) ≡ (p.cl a).live
  same_live a =
      by_cases (ℕ_discrete (s.cl a).number 0)
      (λ e. ap not (eq-eqb (s.cl a).number 0 e) ∙ sym ((inv.one a).dead e))
      (λ n. ap not (ne_eqb (s.cl a).number 0 n) ∙ sym ((inv.one a).live (omega (arith, n))))

  pub good : {q : Call} {o : Out (Answer (Observed q))} → Transition s q o → Good bounds s p q o
  unfolding updateₚ on_beginₚ on_writeₚ on_advanceₚ on_progressₚ on_abandonₚ overwritten addedₛ
  good (no_begin a r d n) = (subst (λ (b : Bool). BeginRefusal (suc s.W) a b r) (same_live a) n, inv)
  good (no_read a x r d n) = (λ l. subst (λ (g : ℕ). ReadRefusal x g r) (sym (inv.one a).on_stage) (n (is_open_lem a l)), inv)
  good (no_write a x v r d n) = (λ l. write_refused inv a x v r (is_open_lem a l) (n (is_open_lem a l)), inv)
  good (no_advance a r d n) = ((inv.one a).dead n, inv)
  good (no_abandon a r d n) = (λ l. subst (λ (g : ℕ). AbandonRefusal g r) (sym (inv.one a).on_stage) (n (is_open_lem a l)), inv)
  good (begins a h was w) = begin_good inv a h was w
  good (reads a x hx o e) = read-good inv a x hx o e
  good (replaces a x v w o k) = write-good inv a x v w o _ (write_replaced (s.cl a).number x v s.dat k)
  good (adds a x v w o n) = write-good inv a x v w o _ (write_added (s.cl a).number x v s.dat n)
  good (at0 a h o e k) = arm0 inv a o e k
  good (ends0 a h o e k) = arm0_ends inv a o e k
  good (at1 a h o e) = arm1 inv a o e
  good (at2 a h o e) = arm2 inv a o e
  good (at3 a h o e) = arm3 inv a o e
  good (at4 a h o e) = arm4 inv a o e
  good (at5 a h o e) = arm5 inv a o e
  good (at6 a h o e) = arm6 inv a o e
  good (at7 a h o e) = arm7 inv a o e
  good (at8 a h o e) = arm8 inv a o e
  good (at9 a h o e) = arm9 inv a o e
  good (at10 a h o e) = arm10 inv a o e
  good (at11 a h o e) = arm11 inv a o e
  good (at12 a h o e) = arm12 inv a o e
  good (at13 a h o e) = arm13 inv a o e
  good (abandons a h o k) = abandon_good inv a o k
  good (trims fits) = trim_good inv fits
  good frees = (tt, inv)

-- ---- no call is refused with 2

-- the number that an answer refuses with, 0 if it does not
abbrev refusal_in : {A : Type 0} → Answer A → ℕ
refusal_in (Answered a) = 0
refusal_in (Refused n) = n

module _ {s : State} where
  no_2 : {q : Call} {o : Out (Answer (Observed q))} → Transition s q o → refusal_in o.answer ≢ unfit
  unfolding begunₛ overwritten addedₛ trimmedₛ take_r take_c list_r list_c look_r look_c checkedₛ committed
  no_2 (no_begin a r d k) = d
  no_2 (no_read a x r d k) = d
  no_2 (no_write a x v r d k) = d
  no_2 (no_advance a r d k) = d
  no_2 (no_abandon a r d k) = d
  no_2 (begins a h was k) = omega arith
  no_2 (reads a x hx o e) = omega arith
  no_2 (replaces a x v w o k) = omega arith
  no_2 (adds a x v w o k) = omega arith
  no_2 (at0 a h o e k) = omega arith
  no_2 (ends0 a h o e k) = omega arith
  no_2 (at1 a h o e) = omega arith
  no_2 (at2 a h o e) = omega arith
  no_2 (at3 a h o e) = omega arith
  no_2 (at4 a h o e) =
      ite_elim (λ (x : Out (Answer Progress)). refusal_in x.answer ≢ unfit)
      (ℕ_discrete (list_size clients (look (rph s) (λ b. (s.cl b).request) a (s.cl a).rwait)) 0) (λ _. omega arith) (λ _. omega arith)
  no_2 (at5 a h o e) =
      option_case (smallestₛ (check_key s.dat s.comm (s.cl a).number (s.cl a).snapshot) s.dat) (λ q. rw q (omega arith))
      (λ w q. rw q (omega arith))
  no_2 (at6 a h o e) = omega arith
  no_2 (at7 a h o e) = omega arith
  no_2 (at8 a h o e) = omega arith
  no_2 (at9 a h o e) = omega arith
  no_2 (at10 a h o e) =
      ite_elim (λ (x : Out (Answer Progress)). refusal_in x.answer ≢ unfit)
      (ℕ_discrete (list_size clients (look (cph s) (λ b. (s.cl b).commit) a (s.cl a).cwait)) 0) (λ _. omega arith) (λ _. omega arith)
  no_2 (at11 a h o e) = omega arith
  no_2 (at12 a h o e) = omega arith
  no_2 (at13 a h o e) = omega arith
  no_2 (abandons a h o k) = omega arith
  no_2 (trims fits) = omega arith
  no_2 frees = omega arith

  pub never_2 : {q : Call} {o : Out (Answer (Observed q))} → Transition s q o → o.answer ≢ Refused unfit
  never_2 t e = no_2 t (ap refusal_in e)

-- ---- W, and the next number w to be issued

pub record Numbered (w W : ℕ) : Type 0 where
  pub issued : w ≡ suc W
  pub within : W ≤ top

check_W : (s : State) (a w : ℕ) (o : Option (ℕ × DRow)) → Numbered w s.W → Numbered w (checkedₛ s a o).state.W
unfolding checkedₛ
check_W s a w none n = n
check_W s a w (some x) n = n

module _ {s : State} {w : ℕ} (n : Numbered w s.W) where
  pub numbered_on : {q : Call} {o : Out (Answer (Observed q))} → Transition s q o → Numbered (next_after q o.answer w) o.state.W
  unfolding begunₛ overwritten addedₛ trimmedₛ take_r take_c list_r list_c look_r look_c committed
  numbered_on (no_begin a r d k) = n
  numbered_on (no_read a x r d k) = n
  numbered_on (no_write a x v r d k) = n
  numbered_on (no_advance a r d k) = n
  numbered_on (no_abandon a r d k) = n
  numbered_on (begins a h was k) = record { issued = omega arith; within = omega arith }
  numbered_on (reads a x hx o e) = n
  numbered_on (replaces a x v w o k) = n
  numbered_on (adds a x v w o k) = n
  numbered_on (at0 a h o e k) = n
  numbered_on (ends0 a h o e k) = n
  numbered_on (at1 a h o e) = n
  numbered_on (at2 a h o e) = n
  numbered_on (at3 a h o e) = n
  numbered_on (at4 a h o e) =
      ite_elim (λ (x : Out (Answer Progress)). Numbered w x.state.W)
      (ℕ_discrete (list_size clients (look (rph s) (λ b. (s.cl b).request) a (s.cl a).rwait)) 0) (λ _. n) (λ _. n)
  numbered_on (at5 a h o e) = check_W s a w _ n
  numbered_on (at6 a h o e) = n
  numbered_on (at7 a h o e) = n
  numbered_on (at8 a h o e) = n
  numbered_on (at9 a h o e) = n
  numbered_on (at10 a h o e) =
      ite_elim (λ (x : Out (Answer Progress)). Numbered w x.state.W)
      (ℕ_discrete (list_size clients (look (cph s) (λ b. (s.cl b).commit) a (s.cl a).cwait)) 0) (λ _. n) (λ _. n)
  numbered_on (at11 a h o e) = n
  numbered_on (at12 a h o e) = n
  numbered_on (at13 a h o e) = n
  numbered_on (abandons a h o k) = n
  numbered_on (trims fits) = n
  numbered_on frees = n

-- ---- set-up

pub starts : (bounds : Bounds) (w : ℕ) → Inv bounds (fresh bounds w) emptyₚ
unfolding fresh emptyₚ closedₛ none_yet last_ofₚ values_of num_of first rphase
starts bounds w = record {
  same_bounds = refl;
  counted = refl;
  last_le = omega arith;
  one = λ b. record {
    on_stage = refl;
    live = λ k. absurd (omega arith);
    dead = λ _. refl;
    idle = λ _. refl;
    below = λ k. absurd (omega arith);
    numbered = λ k. absurd (omega arith);
    ahead = λ k. absurd (omega arith);
    in_book = λ k. absurd (omega arith);
    fresh = λ k. absurd (omega arith);
  };
  rq = idle_queue (λ a. omega arith);
  cq = idle_queue (λ a. omega (arith, cph_in 0 (omega arith)));
  tab = record {
    mine = λ a k. absurd (omega arith);
    apart = λ a b n k. absurd (omega arith);
    comm_le = λ t n e. absurd (none-some refl e);
    comm_inj = λ t u n e. absurd (none-some refl e);
    row_of = λ r i. absurd (in_nil i);
    row_cell = λ r i. absurd (in_nil i);
    uniq = tt;
    sound = λ r n i. absurd (in_nil i);
    kept = λ e x i. absurd (in_nil i);
    rising = tt;
    book_last = refl;
    all_table = λ x. refl;
  };
}
