-- What a call may do to a state of the model, with the tests that it has passed: the relation that stands between the calls on images and the
-- proofs of the invariant. That every call on a well-formed image does one of these things is shown once (Walk.antt); every fact that calls
-- keep then goes by these cases: that answers are right (Theorem.antt), that numbers do not run out (Meets.antt), that the committed buffer has
-- room (Room.antt). Refusals carry only what is wanted of them,
-- and none of these is the refusal 2. Client a, cell x, value v, refusal r.
-- Assumes nothing.
use Prim.Native.Nat.{ℕ, suc, ◌≤◌, ◌<◌}
use mathlib.Core.Path.{◌≡◌}
use mathlib.Core.Logic.{◌≢◌}
use mathlib.Core.Bool.{not}
use mathlib.Core.List.{List, Memᴰ as In}
use mathlib.Core.Option.{none, IsSome}
use lib.ListN.{length}
use lib.Dec.{eqb}
use Rattle.spec.specs.Set.{clients}
use Rattle.spec.specs.declared.Progress.TheVariants.{Stage, Done}
use Rattle.spec.specs.Answers.{Answer, Answered, Refused, unfit}
use Rattle.spec.specs.Numbers.{top}
use Rattle.spec.specs.Rows.{cells}
use Rattle.spec.specs.Run.{Call, Begin, Read, Write, Advance, Abandon, Trim, Free}
use Rattle.spec.specs.Table.{Value, Observed}
use Rattle.spec.specs.Right.{BeginRefusal, ReadRefusal, WriteAllowed, WriteRefusal, AbandonRefusal}
use Rattle.history.proofs.Tickets.{look}
use Rattle.history.proofs.Model.{DRow, State, Out, out, writes_of, freeₛ, rph, cph, at_stageₛ, clear_c, putₛ, with_clientsₛ, begunₛ}
use Rattle.history.proofs.Model.{lookup, overwritten, addedₛ, figured, removedₛ, leave, step_to, take_r, take_c, list_r, list_c, look_r}
use Rattle.history.proofs.Model.{look_c, checkedₛ, smallestₛ, check_key, committed, trimmedₛ}

-- the transaction has a data row
abbrev pub HasRow : ℕ → List DRow → Type 0
HasRow t d = (r : DRow) × In r d × (r.tag ≡ t)

pub data Transition (s : State) : (q : Call) → Out (Answer (Observed q)) → Type 0 where
  no_begin : (a r : ℕ) → r ≢ unfit → BeginRefusal (suc s.W) a (not (eqb (s.cl a).number 0)) r → Transition s (Begin a) (out s (Refused r))
  no_read : (a x r : ℕ) → r ≢ unfit → (1 ≤ (s.cl a).number → ReadRefusal x (s.cl a).stage r) → Transition s (Read a x) (out s (Refused r))
  no_write : (a x : ℕ) (v : Value) (r : ℕ) → r ≢ unfit
      → (1 ≤ (s.cl a).number → WriteRefusal s.bounds.limit (s.cl a).stage (writes_of s a) x v (Answered (freeₛ s)) r)
      → Transition s (Write a x v) (out s (Refused r))
  no_advance : (a r : ℕ) → r ≢ unfit → (s.cl a).number ≡ 0 → Transition s (Advance a) (out s (Refused r))
  no_abandon : (a r : ℕ) → r ≢ unfit → (1 ≤ (s.cl a).number → AbandonRefusal (s.cl a).stage r) → Transition s (Abandon a) (out s (Refused r))
  begins : (a : ℕ) → a < clients → (s.cl a).number ≡ 0 → s.W < top → Transition s (Begin a) (begunₛ s a)
  reads : (a x : ℕ) → x < cells → 1 ≤ (s.cl a).number → (s.cl a).stage ≤ 11 → Transition s (Read a x) (out s (Answered (lookup s a x)))
  replaces : (a x : ℕ) (v : Value) → WriteAllowed s.bounds.limit (s.cl a).stage (writes_of s a) x v → 1 ≤ (s.cl a).number
      → IsSome (writes_of s a x)
      → Transition s (Write a x v) (overwritten s a x v)
  adds : (a x : ℕ) (v : Value) → WriteAllowed s.bounds.limit (s.cl a).stage (writes_of s a) x v → 1 ≤ (s.cl a).number → writes_of s a x ≡ none
      → Transition s (Write a x v) (addedₛ s a x v)
  at0 : (a : ℕ) → a < clients → 1 ≤ (s.cl a).number → (s.cl a).stage ≡ 0 → HasRow (s.cl a).number s.dat
      → Transition s (Advance a) (step_to s a 1)
  ends0 : (a : ℕ) → a < clients → 1 ≤ (s.cl a).number → (s.cl a).stage ≡ 0 → (HasRow (s.cl a).number s.dat → ⊥)
      → Transition s (Advance a) (out (leave s a s.dat) (Answered (Done (s.cl a).snapshot)))
  at1 : (a : ℕ) → a < clients → 1 ≤ (s.cl a).number → (s.cl a).stage ≡ 1 → Transition s (Advance a) (take_r s a)
  at2 : (a : ℕ) → a < clients → 1 ≤ (s.cl a).number → (s.cl a).stage ≡ 2 → Transition s (Advance a) (step_to s a 3)
  at3 : (a : ℕ) → a < clients → 1 ≤ (s.cl a).number → (s.cl a).stage ≡ 3 → Transition s (Advance a) (list_r s a)
  at4 : (a : ℕ) → a < clients → 1 ≤ (s.cl a).number → (s.cl a).stage ≡ 4
      → Transition s (Advance a) (look_r s a (look (rph s) (λ b. (s.cl b).request) a (s.cl a).rwait))
  at5 : (a : ℕ) → a < clients → 1 ≤ (s.cl a).number → (s.cl a).stage ≡ 5
      → Transition s (Advance a) (checkedₛ s a (smallestₛ (check_key s.dat s.comm (s.cl a).number (s.cl a).snapshot) s.dat))
  at6 : (a : ℕ) → a < clients → 1 ≤ (s.cl a).number → (s.cl a).stage ≡ 6 → Transition s (Advance a) (step_to s a 7)
  at7 : (a : ℕ) → a < clients → 1 ≤ (s.cl a).number → (s.cl a).stage ≡ 7 → Transition s (Advance a) (take_c s a)
  at8 : (a : ℕ) → a < clients → 1 ≤ (s.cl a).number → (s.cl a).stage ≡ 8 → Transition s (Advance a) (step_to s a 9)
  at9 : (a : ℕ) → a < clients → 1 ≤ (s.cl a).number → (s.cl a).stage ≡ 9 → Transition s (Advance a) (list_c s a)
  at10 : (a : ℕ) → a < clients → 1 ≤ (s.cl a).number → (s.cl a).stage ≡ 10
      → Transition s (Advance a) (look_c s a (look (cph s) (λ b. (s.cl b).commit) a (s.cl a).cwait))
  at11 : (a : ℕ) → a < clients → 1 ≤ (s.cl a).number → (s.cl a).stage ≡ 11 → Transition s (Advance a) (committed s a)
  at12 : (a : ℕ) → a < clients → 1 ≤ (s.cl a).number → (s.cl a).stage ≡ 12
      → Transition s (Advance a) (out (with_clientsₛ s (putₛ a (at_stageₛ (clear_c a (s.cl a)) 13) (clear_c a) s.cl)) (Answered (Stage 13)))
  at13 : (a : ℕ) → a < clients → 1 ≤ (s.cl a).number → (s.cl a).stage ≡ 13
      → Transition s (Advance a) (out (leave s a s.dat) (Answered (Done (s.cl a).commit)))
  abandons : (a : ℕ) → a < clients → 1 ≤ (s.cl a).number → (s.cl a).stage < 12 → Transition s (Abandon a) (figured (removedₛ s a))
  trims : length s.dat ≤ s.bounds.rows → Transition s Trim (trimmedₛ s)
  frees : Transition s Free (figured s)
