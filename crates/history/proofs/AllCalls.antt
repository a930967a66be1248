-- Document 01's promises on every list of calls, for every set-up.
-- Demand 3: between two calls the image is well-formed, its view and the plain table satisfy the invariant, there is room for the numbers and rows
-- to come, and the version table's entries are known by the book (`Reached`). A call on such an image does one of the things of Transition.antt, so
-- its answer is right and what it leaves is such an image again; on the memory the call does the same (`crossed`). After a refused set-up no client
-- is open, and the refusal 2 is right of a closed client.
-- Assumes nothing.
use Prim.Native.Nat.{ℕ, suc, ◌-◌, ◌/◌, ◌≤◌, ◌<◌}
use mathlib.Core.Path.{◌≡◌, refl, sym, ap, ◌∙◌, subst}
use mathlib.Core.Logic.{by_cases}
use mathlib.Core.Bool.{Bool, true, false}
use mathlib.Core.List.{List, [], ◌∷◌}
use native.Mathlib.Decide.{ℕ_discrete}
use native.Mathlib.Omega.{arith}
use lib.ListN.{length}
use Rattle.spec.specs.Rows.{Row, rows_in}
use Rattle.spec.specs.Answers.{Answer, Answered, Refused, unfit}
use Rattle.spec.specs.Image.{Image, empty, number_of, stage_of, commit_number_of}
use Rattle.spec.specs.Calls.{free}
use Rattle.spec.specs.Numbers.{top}
use Rattle.spec.specs.Bytes.{After, limit_of, accepts, set_up, Memory}
use Rattle.spec.specs.Run.{Call, Begin, Read, Write, Advance, Abandon, Trim, Free, Result, perform, step}
use Rattle.spec.specs.Table.{Table, blank, Observed, observe_answer, update}
use Rattle.spec.specs.Right.{Bounds, bounds_of, Right, next_after, observed, RightRun, for_store, AllUnfit, StaysFit, AllFit, Fit}
use Rattle.history.proofs.Wellformed.{Wellformed, perform_kept, empty_fine}
use Rattle.spec.proofs.Ends.{accepted}
use Rattle.history.proofs.Bridge.{encoded, fits_whole, crossed, used_rows, first_image, set_up_whole, unused, refused_memory, refused_call}
use Rattle.history.proofs.Lists.{none-some}
use Rattle.history.proofs.Model as m
use Rattle.history.proofs.Model.{State}
use Rattle.history.proofs.Plain as own
use Rattle.history.proofs.Plain.{Plain, updateₚ}
use Rattle.history.proofs.Invariant.{Inv}
use Rattle.history.proofs.Arms.{cph_in}
use Rattle.history.proofs.Transition.{Transition}
use Rattle.history.proofs.Preserved.{good, never_2, Numbered, numbered_on, starts}
use Rattle.history.proofs.Meets.{Under_state, under_kept, R_left, C_left, start_under}
use Rattle.history.proofs.Room.{Room_state, room_stays, room_left, start_room}
use Rattle.history.proofs.View.{view, number_at_lem, stage_at, commit_at_lem, W_at, R_at, C_at, used_at, entries_at, free_at}
use Rattle.history.proofs.Simulates.{observed_outcome}
use Rattle.history.proofs.Versions.{Known, start_known, full_look_lem, entries_known}
use Rattle.history.proofs.Advancing.{Ready}
use Rattle.history.proofs.Walk.{perform_simulates, empty-view}
use Rattle.history.proofs.Erase.{erase, erase_empty, feeds, right}

-- ---- what holds between two calls; w is the next number to be issued

pub record Reached (bounds : Bounds) (w : ℕ) (i : Image) (p : Plain) : Type 0 where
  pub fine : Wellformed i
  pub inv : Inv bounds (view i) p
  pub under : Under_state (view i)
  pub room : Room_state (view i)
  pub numbers : Numbered w (view i).W
  pub known : Known i.versions p.book

module _ {bounds : Bounds} {w : ℕ} {i : Image} {p : Plain} (g : Reached bounds w i p) where
  within : (view i).W ≤ top
  within = g.numbers.within

  own_number : (k : ℕ) → number_of i k < 4294967296
  own_number k =
      by_cases (ℕ_discrete ((view i).cl k).number 0)
      (λ e. omega (arith, e, number_at_lem i k))
      (λ n. omega (arith, number_at_lem i k, (g.inv.tab.mine k (omega (arith, n))).num_le, within))

  -- no commit number is above C, and C is not above W
  own_commit : (k : ℕ) → stage_of i k ≡ 11 → commit_number_of i k < 4294967296
  own_commit k e =
      let z : ((view i).cl k).stage ≡ 11 = stage_at i k ∙ e in
      let b = g.inv.cq.bound k (omega (arith, z, cph_in ((view i).cl k).stage (omega (arith, z)))) in
      omega (arith, b, commit_at_lem i k, g.under.c, within)

  ready : Ready i
  ready = record {
    fine = g.fine;
    numbers = own_number;
    inside = g.inv.tab.row_cell;
    commits = own_commit;
    request = λ k h o e. omega (arith, R_left (view i) g.under k h o (omega (arith, e, stage_at i k)), within, R_at i);
    commit = λ k h o e. omega (arith, C_left (view i) g.under k h o (omega (arith, e, stage_at i k)), within, C_at i);
    room = λ k o e. omega (arith, room_left g.inv g.room k o (stage_at i k ∙ e), used_at i, entries_at i, g.fine.data_fit);
    looks = full_look_lem i g.inv g.known;
  }

-- ---- one call

-- what a call on the image tells
abbrev pub observed_by : (q : Call) → Image → Answer (Observed q)
observed_by q i = observe_answer q (perform q i).image.data_rows (perform q i).answer

module _ {bounds : Bounds} {w : ℕ} {i : Image} {p : Plain} (g : Reached bounds w i p) (q : Call) where
  pub transition_of : Transition (view i) q (observed_outcome q (perform q i))
  transition_of = (perform_simulates q i (ready g) (omega (arith, within g, W_at i))).did

  pub good_next : Reached bounds (next_after q (observed_by q i) w) (perform q i).image (updateₚ p q (observed_by q i))
  good_next = record {
    fine = (perform_kept q i g.fine).fine;
    inv = (good g.inv transition_of).1;
    under = under_kept (view i) g.under transition_of;
    room = room_stays g.inv g.room transition_of;
    numbers = numbered_on g.numbers transition_of;
    known = entries_known i g.inv g.known (perform_kept q i g.fine) q (observed_by q i);
  }

  right_own : own.Rightₚ bounds (view i).W p q (observed_by q i) (m.freeₛ (view (perform q i).image))
  right_own = (good g.inv transition_of).0

  right_now : Right bounds w (erase p) q (observed_by q i) (Answered (m.freeₛ (view (perform q i).image)))
  right_now = right bounds w (view i).W g.numbers.issued p q (observed_by q i) (m.freeₛ (view (perform q i).image)) right_own

  pub fed : update q (observed_by q i) (erase p) ≡ erase (updateₚ p q (observed_by q i))
  fed = feeds bounds (view i).W p q (observed_by q i) (m.freeₛ (view (perform q i).image)) right_own

free_answer : (i : Image) → (perform Free i).answer ≡ Answered (m.freeₛ (view i))
unfolding free
free_answer i = ap (λ (n : ℕ). Answered n) (sym (free_at i))

-- ---- lists of calls on the record and the buffers

module _ (i : Image) (h : Wellformed i) (q : Call) where
  abbrev next : Image
  next = (perform q i).image

  next_fine : Wellformed next
  next_fine = (perform_kept q i h).fine

  pub same_observed : observed q (encoded i) ≡ observed_by q i
  same_observed =
      ap (λ (a : After (Result q)). observe_answer q (rows_in 24 a.memory.store.used a.memory.data_bytes) a.answer) (crossed i h q)
      ∙ ap (λ (ds : List Row). observe_answer q ds (perform q i).answer) (used_rows next next_fine)

  pub same_memory : (step q (encoded i)).memory ≡ encoded next
  same_memory = ap (λ (a : After (Result q)). a.memory) (crossed i h q)

  free_next : (step Free (step q (encoded i)).memory).answer ≡ Answered (m.freeₛ (view next))
  free_next =
      ap (λ (x : Memory). (step Free x).answer) same_memory
      ∙ ap (λ (a : After ℕ). a.answer) (crossed next next_fine Free)
      ∙ free_answer next

all_right : {bounds : Bounds} (qs : List Call) (w : ℕ) (i : Image) (p : Plain) → Reached bounds w i p → RightRun bounds w (erase p) (encoded i) qs
all_right [] w i p g = tt
all_right {bounds} (q ∷ qs) w i p g =
    let h = g.fine in
    let e = same_observed i h q in
    let j : Image = (perform q i).image in
    let a : Answer (Observed q) = observed_by q i in (
      subst (λ (x : Answer (Observed q)). Right bounds w (erase p) q x (step Free (step q (encoded i)).memory).answer) (sym e)
          (subst (λ (x : Answer ℕ). Right bounds w (erase p) q a x) (sym (free_next i h q)) (right_now g q)),
      subst (λ (x : Answer (Observed q)). RightRun bounds (next_after q x w) (update q x (erase p)) (step q (encoded i)).memory qs) (sym e)
          (subst (λ (x : Memory). RightRun bounds (next_after q a w) (update q a (erase p)) x qs) (sym (same_memory i h q))
          (subst (λ (x : Table). RightRun bounds (next_after q a w) x (encoded j) qs) (sym (fed g q))
          (all_right qs (next_after q a w) j (updateₚ p q a) (good_next g q)))),
    )

start_numbers : (b : Bounds) (w : ℕ) → w ≤ top → Numbered (suc w) (m.fresh b w).W
unfolding m.fresh
start_numbers b w k = record { issued = refl; within = k }

pub start_good : (n l w : ℕ) → 1 ≤ n → n ≤ 1024 → w ≤ top → Reached (record { rows = n; limit = l }) (suc w) (empty n l w) own.emptyₚ
start_good n l w h g k =
    let b : Bounds = record { rows = n; limit = l } in
    record {
      fine = empty_fine n l w h g;
      inv = subst (λ (s : State). Inv b s own.emptyₚ) (sym (empty-view n l w)) (starts b w);
      under = subst Under_state (sym (empty-view n l w)) (start_under b w);
      room = subst Room_state (sym (empty-view n l w)) (start_room b w);
      numbers = subst (λ (s : State). Numbered (suc w) s.W) (sym (empty-view n l w)) (start_numbers b w k);
      known = start_known n l w;
    }

-- ---- a refused set-up

refused_right : (n : Bounds) (w : ℕ) (q : Call) (next : Answer ℕ) → Right n w blank q (Refused unfit) next
unfolding blank
refused_right n w (Begin k) next = for_store refl
refused_right n w (Read k x) next = λ o e. absurd (none-some refl e)
refused_right n w (Write k x v) next = λ o e. absurd (none-some refl e)
refused_right n w (Advance k) next = refl
refused_right n w (Abandon k) next = λ o e. absurd (none-some refl e)
refused_right n w Trim next = tt
refused_right n w Free next = tt

refused_number : (q : Call) (w : ℕ) → next_after q (Refused unfit) w ≡ w
refused_number (Begin k) w = refl
refused_number (Read k x) w = refl
refused_number (Write k x v) w = refl
refused_number (Advance k) w = refl
refused_number (Abandon k) w = refl
refused_number Trim w = refl
refused_number Free w = refl

refused_observed : (q : Call) → update q (Refused unfit) blank ≡ blank
unfolding update
refused_observed q = refl

pub all_observe_refused : (d c : List ℕ) (q : Call) → observed q (unused d c) ≡ Refused unfit
all_observe_refused d c q = ap (λ (a : After (Result q)). observe_answer q (rows_in 24 a.memory.store.used a.memory.data_bytes) a.answer)
    (refused_call d c q)

refused_all : (n : Bounds) (w : ℕ) (d c : List ℕ) (qs : List Call) → RightRun n w blank (unused d c) qs
refused_all n w d c [] = tt
refused_all n w d c (q ∷ qs) =
    let e = refused_call d c q in
    let f = all_observe_refused d c q in (
      subst (λ (x : Answer (Observed q)). Right n w blank q x (step Free (step q (unused d c)).memory).answer) (sym f) (refused_right n w q _),
      subst (λ (x : Answer (Observed q)). RightRun n (next_after q x w) (update q x blank) (step q (unused d c)).memory qs) (sym f)
          (subst (λ (x : Memory). RightRun n (next_after q (Refused unfit) w) (update q (Refused unfit) blank) x qs)
          (sym (ap (λ (x : After (Result q)). x.memory) e))
          (subst (λ (x : ℕ). RightRun n x (update q (Refused unfit) blank) (unused d c) qs) (sym (refused_number q w))
          (subst (λ (x : Table). RightRun n w x (unused d c) qs) (sym (refused_observed q)) (refused_all n w d c qs)))),
    )

-- ---- every set-up

-- what an accepted set-up hands back
first_good : (d c : List ℕ) (w l : ℕ) → w ≤ 4294967295 → accepts (length d) (length c) w l ≡ true
    → Reached (bounds_of d l) (suc (w - 1)) (first_image d w l) own.emptyₚ
first_good d c w l h e =
    let a = accepted (length d) (length c) w l e in start_good (length d / 24) (limit_of l) (w - 1) a.some a.most (omega arith)

-- Demand 3: for every set-up, refused or not, and every list of calls, each answer is right by the plain table that is told the calls and
-- their answers. w is the first W, a number of 32 bits by its type.
pub demand3 : (d c : List ℕ) (w l : ℕ) → w ≤ 4294967295 → (qs : List Call) → RightRun (bounds_of d l) w blank (set_up d c w l).memory qs
demand3 d c w l h qs = go (accepts (length d) (length c) w l) refl
  where
    go : (b : Bool) → accepts (length d) (length c) w l ≡ b → RightRun (bounds_of d l) w blank (set_up d c w l).memory qs
    go true e =
        let a = accepted (length d) (length c) w l e in
        let first : suc (w - 1) ≡ w = omega (arith, a.first) in
        subst (λ (x : Memory). RightRun (bounds_of d l) w blank x qs) (sym (set_up_whole d c w l e))
        (subst (λ (x : Table). RightRun (bounds_of d l) w x (encoded (first_image d w l)) qs) erase_empty
        (subst (λ (n : ℕ). RightRun (bounds_of d l) n (erase own.emptyₚ) (encoded (first_image d w l)) qs) first
        (all_right qs (suc (w - 1)) (first_image d w l) own.emptyₚ (first_good d c w l h e))))
    go false e =
        subst (λ (x : Memory). RightRun (bounds_of d l) w blank x qs) (sym (refused_memory d c w l e)) (refused_all (bounds_of d l) w d c qs)

-- After a refused set-up every call gets 2 and changes nothing.
unfit_all : (d c : List ℕ) (qs : List Call) → AllUnfit (unused d c) qs
unfit_all d c [] = tt
unfit_all d c (q ∷ qs) =
    let e = refused_call d c q in
    (record { answer = ap (λ (x : After (Result q)). x.answer) e; memory = ap (λ (x : After (Result q)). x.memory) e }, unfit_all d c qs)

pub all_unfit : (d c : List ℕ) (w l : ℕ) → accepts (length d) (length c) w l ≡ false → (qs : List Call) → AllUnfit (set_up d c w l).memory qs
all_unfit d c w l e qs = subst (λ (m : Memory). AllUnfit m qs) (sym (refused_memory d c w l e)) (unfit_all d c qs)

-- After one that is not refused the store is fit after each call, and no call is refused with 2, whatever the calls.
fit_now : {bounds : Bounds} {w : ℕ} {i : Image} {p : Plain} → Reached bounds w i p → (q : Call) → StaysFit q (encoded i)
fit_now {bounds} {w} {i} {p} g q =
    let e = crossed i g.fine q in
    record {
      after = subst (λ (x : After (Result q)). Fit x.memory) (sym e) (fits_whole (perform q i).image (good_next g q).fine);
      answer = λ r. never_2 (transition_of g q) (ap (observe_answer q (perform q i).image.data_rows) (sym (ap (λ (x : After (Result q)). x.answer) e) ∙ r));
    }

fit_all : {bounds : Bounds} (qs : List Call) (w : ℕ) (i : Image) (p : Plain) → Reached bounds w i p → AllFit (encoded i) qs
fit_all [] w i p g = tt
fit_all (q ∷ qs) w i p g = (
  fit_now g q,
  subst (λ (x : Memory). AllFit x qs) (sym (same_memory i g.fine q)) (fit_all qs _ (perform q i).image _ (good_next g q)),
)

pub all_fit : (d c : List ℕ) (w l : ℕ) → w ≤ 4294967295 → accepts (length d) (length c) w l ≡ true → (qs : List Call)
    → AllFit (set_up d c w l).memory qs
all_fit d c w l h e qs =
    subst (λ (m : Memory). AllFit m qs) (sym (set_up_whole d c w l e))
    (fit_all qs (suc (w - 1)) (first_image d w l) own.emptyₚ (first_good d c w l h e))
