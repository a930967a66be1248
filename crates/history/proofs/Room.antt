-- A store grown from set-up never meets a full committed buffer: the committed rows have tags of their own, each has a data row, and so has a
-- client at stage 11, whose tag is not committed. So there are fewer committed rows than data rows (`pigeon`), which are no more than the rows.
-- Assumes nothing.
use Prim.Native.Nat.{ℕ, suc, ◌≤◌, ◌<◌}
use mathlib.Core.Path.{◌≡◌, refl, sym, ap, ◌∙◌, subst}
use mathlib.Core.Logic.{◌≢◌, if_pos, if_neg, by_cases}
use mathlib.Core.List.Memᴰ.{head as here}
use mathlib.Core.List.Memᴰ.{tail as there}
use mathlib.Core.List.{List, [], ◌∷◌, ◌++◌, Memᴰ as In}
use mathlib.Core.Option.{none, some}
use native.Mathlib.Decide.{ℕ_discrete}
use native.Mathlib.Omega.{arith}
use lib.ListN.{length}
use Rattle.history.proofs.Lists.{in_nil, in_case, in_one, in_left, append_case, any?, drop?, drop_in, in_drop, length-drop?}
use Rattle.history.proofs.Lists.{ite_elim, option_case, none-some, first-none}
use Rattle.history.proofs.Tickets.{look, list_size}
use Rattle.spec.specs.Right.{Bounds}
use Rattle.history.proofs.Model.{DRow, CRow, Client, closedₛ, putₛ, same, clear_c, clear_both, State, Out, rph, cph, smallestₛ}
use Rattle.history.proofs.Model.{check_key, at_stageₛ, with_request, with_commit, begunₛ, overwritten, addedₛ, trimmedₛ, without, take_r}
use Rattle.history.proofs.Model.{take_c, list_r, list_c, look_r, look_c, checkedₛ, committed, fresh, num_of, number_at, replace, value_atₛ}
use Rattle.history.proofs.Model.{some?, Passed, passed?, bare?, lowₛ}
use Rattle.history.proofs.Plain.{Plain}
use Rattle.history.proofs.Invariant.{Inv, lateness}
use Rattle.history.proofs.Moves.{Tame, tame_same, tame_C, tame_both, put_at, put_off, each}
use Rattle.history.proofs.Transition.{HasRow, Transition, no_begin, no_read, no_write, no_advance, no_abandon, begins, reads}
use Rattle.history.proofs.Transition.{replaces, adds, at0, ends0, at1, at2, at3, at4, at5, at6, at7, at8, at9, at10, at11, at12}
use Rattle.history.proofs.Transition.{at13, abandons, trims, frees}
use Rattle.spec.specs.Answers.{Answer}
use Rattle.spec.specs.declared.Progress.{Progress}
use Rattle.spec.specs.Run.{Call}
use Rattle.spec.specs.Table.{Value, Observed}
use Rattle.spec.specs.Set.{clients}

abbrev Distinct : List CRow → Type 0
Distinct [] = Unit {0}
Distinct (c ∷ l) = ((d : CRow) → In d l → d.tag ≢ c.tag) × Distinct l

own? : (t : ℕ) (r : DRow) → Dec (r.tag ≡ t)
own? t r = ℕ_discrete r.tag t

keeps_row : (t u : ℕ) (d : List DRow) → t ≢ u → HasRow t d → HasRow t (without u d)
unfolding without
keeps_row t u d n h = (h.0, in_drop (λ r. ℕ_discrete r.tag u) d h.0 h.1 (λ e. n (sym h.2 ∙ e)), h.2)

fewer : (t : ℕ) (d : List DRow) (r : DRow) → In r d → r.tag ≡ t → length (without t d) < length d
unfolding without drop?
fewer t [] r i e = absurd (in_nil i)
fewer t (q ∷ l) r i e =
    let z : length (drop? (λ r. ℕ_discrete r.tag t) l) ≤ length l = length-drop? (λ r. ℕ_discrete r.tag t) l in
    by_cases (ℕ_discrete q.tag t)
    (λ p. rw (if_pos (ℕ_discrete q.tag t) p (drop? (λ r. ℕ_discrete r.tag t) l) (q ∷ drop? (λ r. ℕ_discrete r.tag t) l)) (omega arith))
    (λ n. rw (if_neg (ℕ_discrete q.tag t) n (drop? (λ r. ℕ_discrete r.tag t) l) (q ∷ drop? (λ r. ℕ_discrete r.tag t) l))
    (in_case i (λ p. absurd (n (ap (λ (x : DRow). x.tag) (sym p) ∙ e)))
    (λ j. let y : length (drop? (λ r. ℕ_discrete r.tag t) l) < length l = fewer t l r j e in omega arith)))

pigeon : (cs : List CRow) (d : List DRow) → Distinct cs → ((c : CRow) → In c cs → HasRow c.tag d) → length cs ≤ length d
pigeon [] d h f = omega arith
pigeon (c ∷ cs) d h f =
    let r = f c (here refl) in
    let y : length (without c.tag d) < length d = fewer c.tag d r.0 r.1 r.2 in
    let z : length cs ≤ length (without c.tag d) = pigeon cs (without c.tag d) h.1
    (λ e i. keeps_row e.tag c.tag d (h.0 e i) (f e (there i))) in
    omega arith

distinct_append : (l : List CRow) (c : CRow) → Distinct l → ((d : CRow) → In d l → d.tag ≢ c.tag) → Distinct (l ++ (c ∷ []))
distinct_append [] c h f = (λ d i. absurd (in_nil i), tt)
distinct_append (b ∷ l) c h f = (
  λ d i. append_case l i (λ j. h.0 d j) (λ j e. f b (here refl) (sym e ∙ ap (λ (x : CRow). x.tag) (in_one j))),
  distinct_append l c h.1 (λ d i. f d (there i)),
)

distinct_drop : {P : CRow → Type 0} (q : (c : CRow) → Dec (P c)) (l : List CRow) → Distinct l → Distinct (drop? q l)
unfolding drop?
distinct_drop q [] h = tt
distinct_drop q (c ∷ l) h =
    ite_elim (λ (L : List CRow). Distinct L) (q c) (λ _. distinct_drop q l h.1)
    (λ _. (λ d i. h.0 d (drop_in q l d i).0, distinct_drop q l h.1))

replace_row : (u x : ℕ) (v : Value) (t : ℕ) (d : List DRow) (r : DRow) → In r d → r.tag ≡ t → HasRow t (replace u x v d)
unfolding replace
replace_row u x v t [] r i e = absurd (in_nil i)
replace_row u x v t (q ∷ l) r i e =
    ite_elim (λ (L : List DRow). HasRow t L) (some? (value_atₛ u x q))
    (λ _. in_case i (λ p. (_, here refl, ap (λ (y : DRow). y.tag) (sym p) ∙ e)) (λ j. (r, there j, e)))
    (λ _. in_case i (λ p. (q, here refl, ap (λ (y : DRow). y.tag) (sym p) ∙ e))
    (λ j. let y = replace_row u x v t l r j e in (y.0, there y.1, y.2)))

uncommitted : (t : ℕ) (l : List CRow) → num_of t l ≡ none → (c : CRow) → In c l → c.tag ≢ t
unfolding num_of number_at
uncommitted t l e c i z = none-some (first-none (number_at t) l c e i) (hit c t z)
  where
    hit : (c : CRow) (t : ℕ) → c.tag ≡ t → number_at t c ≡ some c.number
    hit c t z = if_pos (ℕ_discrete c.tag t) z _ _

passed_none : (d : List DRow) (comm : List CRow) (l : ℕ) (r : DRow) → num_of r.tag comm ≡ none → Passed d comm l r → ⊥
passed_none d comm l r e z = rw e at z

pub record Room (dat : List DRow) (comm : List CRow) (cl : ℕ → Client) : Type 0 where
  pub distinct : Distinct comm
  pub backed : (c : CRow) → In c comm → HasRow c.tag dat
  pub own : (a : ℕ) → 1 ≤ (cl a).number → 1 ≤ (cl a).stage → (cl a).stage ≤ 11 → HasRow (cl a).number dat

abbrev pub Room_state : State → Type 0
Room_state s = Room s.dat s.comm s.cl

module _ {bounds : Bounds} {s : State} {p : Plain} (inv : Inv bounds s p) (u : Room_state s) where
  -- Client a becomes d, no row changes.
  moved : (a : ℕ) (d : Client) (f : Client → Client) → Tame a f
      → (1 ≤ d.number → 1 ≤ d.stage → d.stage ≤ 11 → HasRow d.number s.dat) → Room s.dat s.comm (putₛ a d f s.cl)
  moved a d f m h = record {
    distinct = u.distinct;
    backed = u.backed;
    own = each a (λ b. 1 ≤ (putₛ a d f s.cl b).number → 1 ≤ (putₛ a d f s.cl b).stage → (putₛ a d f s.cl b).stage ≤ 11 → HasRow
        (putₛ a d f s.cl b).number s.dat)
        (rw (put_at a d f s.cl) h) (λ b n. rw (put_off a d f s.cl b n, m.number (s.cl b), m.stage (s.cl b)) (u.own b));
  }

  -- It stays open at a stage from 1 to 11 only if it was.
  later : (a : ℕ) (d : Client) (f : Client → Client) → Tame a f → d.number ≡ (s.cl a).number → 1 ≤ (s.cl a).number → 1 ≤ (s.cl a).stage
      → (s.cl a).stage ≤ d.stage → Room s.dat s.comm (putₛ a d f s.cl)
  later a d f m e o k l = moved a d f m (λ x y z. subst (λ (t : ℕ). HasRow t s.dat) (sym e) (u.own a o k (omega arith)))

  shut : (a : ℕ) → Room s.dat s.comm (putₛ a closedₛ (clear_both a) s.cl)
  unfolding closedₛ
  shut a = moved a closedₛ (clear_both a) (tame_both a) (λ x. absurd (omega arith))

  -- The tag of a client below stage 12 is not committed.
  not_committed : (a : ℕ) → 1 ≤ (s.cl a).number → (s.cl a).stage < 12 → num_of (s.cl a).number s.comm ≡ none
  unfolding lateness
  not_committed a o h = (inv.tab.mine a o).not_yet (omega arith)

  gone : (a : ℕ) → 1 ≤ (s.cl a).number → (s.cl a).stage < 12
      → Room (without (s.cl a).number s.dat) s.comm (putₛ a closedₛ (clear_both a) s.cl)
  unfolding closedₛ
  gone a o h = record {
    distinct = u.distinct;
    backed = λ c i. keeps_row c.tag (s.cl a).number s.dat (uncommitted (s.cl a).number s.comm (not_committed a o h) c i) (u.backed c i);
    own = each a (λ b. 1 ≤ (putₛ a closedₛ (clear_both a) s.cl b).number → 1 ≤ (putₛ a closedₛ (clear_both a) s.cl b).stage → (putₛ a
        closedₛ (clear_both a) s.cl b).stage ≤ 11 → HasRow (putₛ a closedₛ (clear_both a) s.cl b).number
        (without (s.cl a).number s.dat))
        (rw (put_at a closedₛ (clear_both a) s.cl) (λ x. absurd (omega arith)))
        (λ b n. rw (put_off a closedₛ (clear_both a) s.cl b n)
        (λ x y z. keeps_row (s.cl b).number (s.cl a).number s.dat (inv.tab.apart b a n x) (u.own b x y z)));
  }

  made : (a : ℕ) → 1 ≤ (s.cl a).number → (s.cl a).stage ≡ 11
      → Room s.dat (s.comm ++ (record { number = (s.cl a).commit; tag = (s.cl a).number } ∷ []))
      (putₛ a (at_stageₛ (s.cl a) 12) same s.cl)
  made a o e =
      let v = moved a (at_stageₛ (s.cl a) 12) same (tame_same a) (λ x y z. absurd (omega arith)) in
      record {
        distinct = distinct_append s.comm _ u.distinct (λ d i. uncommitted (s.cl a).number s.comm (not_committed a o (omega arith)) d i);
        backed = λ c i. append_case s.comm i (u.backed c) (λ j. subst (λ (x : CRow). HasRow x.tag s.dat) (sym (in_one j))
            (u.own a o (omega arith) (omega arith)));
        own = v.own;
      }

  -- Trim.
  kept_own : (t : ℕ) → num_of t s.comm ≡ none → HasRow t s.dat → HasRow t (drop? (passed? s.dat s.comm (lowₛ s)) s.dat)
  kept_own t e h = (
    h.0,
    in_drop (passed? s.dat s.comm (lowₛ s)) s.dat h.0 h.1
        (passed_none s.dat s.comm (lowₛ s) h.0 (ap (λ (x : ℕ). num_of x s.comm) h.2 ∙ e)),
    h.2,
  )

  not_bare : (d : List DRow) (c : CRow) → ((HasRow c.tag d → ⊥) → ⊥) → HasRow c.tag d
  not_bare d c h = by_cases (any? (λ r. ℕ_discrete r.tag c.tag) d) (λ y. y) (λ n. absurd (h n))

  trimmed_room : Room (drop? (passed? s.dat s.comm (lowₛ s)) s.dat)
      (drop? (bare? (drop? (passed? s.dat s.comm (lowₛ s)) s.dat)) s.comm) s.cl
  trimmed_room =
      let d : List DRow = drop? (passed? s.dat s.comm (lowₛ s)) s.dat in
      record {
        distinct = distinct_drop (bare? d) s.comm u.distinct;
        backed = λ c i. not_bare d c (drop_in (bare? d) s.comm c i).1;
        own = λ a x y z. kept_own (s.cl a).number (not_committed a x (omega arith)) (u.own a x y z);
      }

  pub room_stays : {c : Call} {x : Out (Answer (Observed c))} → Transition s c x → Room_state x.state
  unfolding begunₛ overwritten addedₛ trimmedₛ take_r take_c list_r list_c look_r look_c checkedₛ committed
  room_stays (no_begin a r d n) = u
  room_stays (no_read a x r d n) = u
  room_stays (no_write a x v r d n) = u
  room_stays (no_advance a r d n) = u
  room_stays (no_abandon a r d n) = u
  room_stays (begins a h was k) = moved a _ same (tame_same a) (λ x y. absurd (omega arith))
  room_stays (reads a x hx op e) = u
  room_stays (replaces a x v w op k) = record {
    distinct = u.distinct;
    backed = λ c i. let r = u.backed c i in replace_row (s.cl a).number x v c.tag s.dat r.0 r.1 r.2;
    own = λ b y z w. let r = u.own b y z w in replace_row (s.cl a).number x v (s.cl b).number s.dat r.0 r.1 r.2;
  }
  room_stays (adds a x v w op n) = record {
    distinct = u.distinct;
    backed = λ c i. let r = u.backed c i in (r.0, in_left _ r.1, r.2);
    own = λ b y z w. let r = u.own b y z w in (r.0, in_left _ r.1, r.2);
  }
  room_stays (at0 a h op e k) = moved a (at_stageₛ (s.cl a) 1) same (tame_same a) (λ x y z. k)
  room_stays (ends0 a h op e k) = shut a
  room_stays (at1 a h op e) = later a (with_request (s.cl a) 2 (suc s.R)) same (tame_same a) refl op (omega arith) (omega arith)
  room_stays (at2 a h op e) = later a (at_stageₛ (s.cl a) 3) same (tame_same a) refl op (omega arith) (omega arith)
  room_stays (at3 a h op e) = later a _ same (tame_same a) refl op (omega arith) (omega arith)
  room_stays (at4 a h op e) =
      ite_elim (λ (x : Out (Answer Progress)). Room_state x.state)
      (ℕ_discrete (list_size clients (look (rph s) (λ b. (s.cl b).request) a (s.cl a).rwait)) 0)
      (λ _. later a _ same (tame_same a) refl op (omega arith) (omega arith)) (λ _. later a _ same (tame_same a) refl op (omega arith) (omega arith))
  room_stays (at5 a h op e) =
      option_case (smallestₛ (check_key s.dat s.comm (s.cl a).number (s.cl a).snapshot) s.dat)
      (λ q. rw q (later a (at_stageₛ (s.cl a) 6) same (tame_same a) refl op (omega arith) (omega arith))) (λ x q. rw q (gone a op (omega arith)))
  room_stays (at6 a h op e) = later a (at_stageₛ (s.cl a) 7) same (tame_same a) refl op (omega arith) (omega arith)
  room_stays (at7 a h op e) = later a (with_commit (s.cl a) 8 (suc s.C)) same (tame_same a) refl op (omega arith) (omega arith)
  room_stays (at8 a h op e) = later a (at_stageₛ (s.cl a) 9) same (tame_same a) refl op (omega arith) (omega arith)
  room_stays (at9 a h op e) = later a _ same (tame_same a) refl op (omega arith) (omega arith)
  room_stays (at10 a h op e) =
      ite_elim (λ (x : Out (Answer Progress)). Room_state x.state)
      (ℕ_discrete (list_size clients (look (cph s) (λ b. (s.cl b).commit) a (s.cl a).cwait)) 0)
      (λ _. later a _ same (tame_same a) refl op (omega arith) (omega arith)) (λ _. later a _ same (tame_same a) refl op (omega arith) (omega arith))
  room_stays (at11 a h op e) = made a op e
  room_stays (at12 a h op e) = moved a (at_stageₛ (clear_c a (s.cl a)) 13) (clear_c a) (tame_C a) (λ x y z. absurd (omega arith))
  room_stays (at13 a h op e) = shut a
  room_stays (abandons a h op k) = gone a op k
  room_stays (trims fits) = trimmed_room
  room_stays frees = u

  -- at stage 11 there is a free committed row
  pub room_left : (a : ℕ) → 1 ≤ (s.cl a).number → (s.cl a).stage ≡ 11 → length s.comm < length s.dat
  room_left a o e =
      let c : CRow = record { number = 0; tag = (s.cl a).number } in
      let z : length (c ∷ s.comm) ≤ length s.dat = pigeon (c ∷ s.comm) s.dat
      (λ d i. uncommitted (s.cl a).number s.comm (not_committed a o (omega arith)) d i, u.distinct)
      (λ d i. in_case i (λ q. subst (λ (x : CRow). HasRow x.tag s.dat) (sym q) (u.own a o (omega arith) (omega arith))) (u.backed d)) in
      omega arith

pub start_room : (b : Bounds) (w : ℕ) → Room_state (fresh b w)
unfolding fresh closedₛ
start_room b w = record { distinct = tt; backed = λ c i. absurd (in_nil i); own = λ a x. absurd (omega arith) }
