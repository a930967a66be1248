-- Nobody waits for ever (specs/Rounds), on the record and the buffers. There calls do what they do on images, and the plain table has the store's
-- stages; so rounds are rounds on images (`rounds_on`), where a transaction is over in time (`Ending`). After a refused set-up nobody is open.
-- Assumes nothing.
use Prim.Native.Nat.{ℕ, zero, suc, ◌-◌, ◌/◌, ◌≤◌, ◌<◌}
use mathlib.Core.Path.{◌≡◌, refl, sym, ◌∙◌, ap, subst}
use mathlib.Core.Logic.{by_cases}
use mathlib.Core.Bool.{Bool, true, false, ◌||◌, or-true, false≢true}
use mathlib.Core.List.{List, [], ◌∷◌, ◌++◌, flatten}
use native.Mathlib.Decide.{ℕ_discrete}
use native.Mathlib.Omega.{arith}
use borrow.Author.Tests.{eq-eqb}
use lib.ListN.{length}
use Rattle.spec.specs.Set.{clients}
use Rattle.spec.specs.Answers.{Answer}
use Rattle.spec.specs.Image.{Image, empty}
use Rattle.spec.specs.Bytes.{After, limit_of, accepts, set_up, Memory}
use Rattle.spec.specs.Run.{Call, Advance, Result, step}
use Rattle.spec.specs.Table.{Open, Table, blank, Observed, update}
use Rattle.spec.specs.Right.{Bounds, observed}
use Rattle.history.proofs.Lists.{none-some, same_some}
use Rattle.spec.proofs.Ends.{accepted}
use Rattle.history.proofs.Bridge.{encoded, set_up_whole, unused, refused_memory, refused_call}
use Rattle.history.proofs.Bridge as bridge
use Rattle.history.proofs.Model as m
use Rattle.history.proofs.Model.{State}
use Rattle.history.proofs.Plain as own
use Rattle.history.proofs.Walk.{empty-view}
use Rattle.history.proofs.Erase.{erase, erase_empty, open_of, live-some, some-live}
use Rattle.history.proofs.AllCalls.{observed_by, same_observed, same_memory, fed, start_good, all_observe_refused}
use Rattle.demands.specs.Afterwards.{after_run, table_after}
use Rattle.demands.specs.Rounds.{AllBelow, is_over, fate_by, earlier, fate, Queued, serves, served, Round, Rounds, round_limit}
use Rattle.demands.specs.Rounds.{ClosedWithin, NobodyWaits, WhoeverCalls, in_turn, RoundsExist}
use Rattle.history.proofs.Effects.{OnLists, request_side, commit_side}
use Rattle.demands.proofs.Grown.{next, client, Grown, inv, is_open_lem, is_below, at_most_13, grows, grows-table}
use Rattle.demands.proofs.AfterRounds.{run, runs, meets, AllRounds, AllNamed}
use Rattle.demands.proofs.Ending.{over_in_time, fated, was_closed}

-- ---- a list of rounds, and all its calls in one list

run-append : (s : Image) (l m : List Call) → run s (l ++ m) ≡ run (run s l) m
run-append s [] m = refl
run-append s (c ∷ l) m = run-append (next s c) l m

run_joined : (s : Image) (rs : List (List Call)) → run s (flatten rs) ≡ runs s rs
unfolding flatten
run_joined s [] = refl
run_joined s (r ∷ rs) = run-append s r (flatten rs) ∙ run_joined (run s r) rs

split : (n : ℕ) (l m : List Call) → AllBelow n (l ++ m) → AllBelow n l × AllBelow n m
split n [] m h = (tt, h)
split n (c ∷ l) m h = let r = split n l m h.1 in ((h.0, r.0), r.1)

each_named : (n : ℕ) (rs : List (List Call)) → AllBelow n (flatten rs) → AllNamed n rs
unfolding flatten
each_named n [] h = tt
each_named n (r ∷ rs) h = let z = split n r (flatten rs) h in (z.0, each_named n rs z.1)

-- ---- from the record and the buffers to images

-- what a list of calls leaves
record Followed (n : ℕ) (s : Image) (l : List Call) (t : Table) : Type 0 where
  pub grown : Grown n (run s l)
  pub memory : after_run l (encoded s) ≡ encoded (run s l)
  pub table : table_after l (encoded s) t ≡ erase grown.table

module _ {n : ℕ} where
  follow : (s : Image) (l : List Call) (g : Grown n s) → AllBelow n l → Followed n s l (erase g.table)
  follow s [] g o = record { grown = g; memory = refl; table = refl }
  follow s (c ∷ l) g o =
      let e = same_memory s g.good.fine c in
      let r = follow (next s c) l (grows s c g o.0) o.1 in
      record {
        grown = r.grown;
        memory = ap (after_run l) e ∙ r.memory;
        table = ap (λ (x : Memory). table_after l x (update c (observed c (encoded s)) (erase g.table))) e
            ∙ ap (λ (x : Answer (Observed c)). table_after l (encoded (next s c)) (update c x (erase g.table))) (same_observed s g.good.fine c)
            ∙ ap (table_after l (encoded (next s c))) (fed g.good c ∙ ap erase (sym (grows-table s c g o.0)))
            ∙ r.table;
      }

  fate_as : (b : ℕ) (s : Image) (l : List Call) → Grown n s → AllBelow n l → fate b (encoded s) l ≡ fated b s l
  fate_as b s [] g o = refl
  fate_as b s (c ∷ l) g o =
      ap (λ (x : Answer (Observed c)). earlier (fate_by b c x) (fate b (step c (encoded s)).memory l)) (same_observed s g.good.fine c)
      ∙ ap (λ (x : Memory). earlier (fate_by b c (observed_by c s)) (fate b x l)) (same_memory s g.good.fine c)
      ∙ ap (earlier (fate_by b c (observed_by c s))) (fate_as b (next s c) l (grows s c g o.0) o.1)

  served_as : (b : ℕ) (s : Image) (l : List Call) → Grown n s → AllBelow n l → served b (encoded s) l ≡ meets b s l
  served_as b s [] g o = refl
  served_as b s (c ∷ l) g o =
      ap (λ (x : Answer (Observed c)). serves b c x || served b (step c (encoded s)).memory l) (same_observed s g.good.fine c)
      ∙ ap (λ (x : Memory). serves b c (observed_by c s) || served b x l) (same_memory s g.good.fine c)
      ∙ ap (λ (y : Bool). serves b c (observed_by c s) || y) (served_as b (next s c) l (grows s c g o.0) o.1)

  -- the plain table has the store's stages
  queued : (s : Image) (g : Grown n s) (b : ℕ) → 1 ≤ (client s b).stage → Queued (erase g.table) b
  unfolding erase
  queued s g b h =
      let i = (inv s g).one b in
      let e = live-some (g.table.cl b) (i.live (is_open_lem s g b h)) in
      (open_of (g.table.cl b), e, omega (arith, i.on_stage), omega (arith, i.on_stage, at_most_13 s g b))

  in_queue : (s : Image) (g : Grown n s) (b : ℕ) → Queued (erase g.table) b → 1 ≤ (client s b).stage
  unfolding erase
  in_queue s g b q =
      let e = ap (λ (o : Open). o.stage) (some-live (g.table.cl b) q.0 q.1).1 in
      omega (arith, ((inv s g).one b).on_stage, e, q.2)

  rounds_on : (s : Image) (rs : List (List Call)) (g : Grown n s) → AllNamed n rs → Rounds (encoded s) (erase g.table) rs → AllRounds s rs
  rounds_on s [] g o h = tt
  rounds_on s (r ∷ rs) g o h =
      let f = follow s r g o.0 in
      let x : Rounds (encoded (run s r)) (table_after r (encoded s) (erase g.table)) rs =
      subst (λ (x : Memory). Rounds x (table_after r (encoded s) (erase g.table)) rs) f.memory h.1 in (
        λ b k. sym (served_as b s r g o.0) ∙ h.0 b (queued s g b k),
        rounds_on (run s r) rs f.grown o.1 (subst (λ (t : Table). Rounds (encoded (run s r)) t rs) f.table x),
      )

  closed_within : (s : Image) (g : Grown n s) (rounds : List (List Call)) → AllBelow n (flatten rounds)
      → ClosedWithin (round_limit n) (encoded s) (erase g.table) rounds
  closed_within s g rounds below rs long b q a =
      let h = in_queue s g b q in
      let t : ℕ = (client s b).number in
      let p : 1 ≤ t = is_open_lem s g b h in
      let names = each_named n rounds below in
      let x = over_in_time n b t p (length rounds) long s g (((inv s g).tab.mine b p).num_le, λ _. h) in
      let z = x.at rounds refl names (rounds_on s rounds g names rs) in
      let e = fate_as b s (flatten rounds) g below in
      e ∙ was_closed b t s (flatten rounds) g below refl h
      (λ i. z.1 (ap (λ (u : Image). (client u b).number) (sym (run_joined s rounds)) ∙ i)) (λ i. a (e ∙ i))

-- ---- from set-up

none_listed : (r : Bounds) (w : ℕ) → OnLists request_side (m.fresh r w).cl × OnLists commit_side (m.fresh r w).cl
unfolding m.fresh m.closedₛ
none_listed r w = (λ b x h e. absurd (false≢true e), λ b x h e. absurd (false≢true e))

none_open : (r : Bounds) (w b : ℕ) → ((m.fresh r w).cl b).number ≡ 0
unfolding m.fresh m.closedₛ
none_open r w b = refl

start : (n r l w : ℕ) → 1 ≤ r → r ≤ 1024 → w ≤ 4294967295 → Grown n (empty r l w)
start n r l w h k z =
    let e = empty-view r l w in
    let b : Bounds = record { rows = r; limit = l } in
    let o = none_listed b w in
    record {
      bounds = b;
      upcoming = suc w;
      table = own.emptyₚ;
      good = start_good r l w h k z;
      lists_R = subst (λ (s : State). OnLists request_side s.cl) (sym e) o.0;
      lists_C = subst (λ (s : State). OnLists commit_side s.cl) (sym e) o.1;
      named = λ k _. ap (λ (s : State). (s.cl k).number) e ∙ none_open b w k;
    }

-- after a refused set-up the plain table stays blank
refused_table : (d c : List ℕ) (l : List Call) → table_after l (unused d c) blank ≡ blank
unfolding update
refused_table d c [] = refl
refused_table d c (q ∷ l) =
    ap (λ (x : Memory). table_after l x (update q (observed q (unused d c)) blank)) (ap (λ (a : After (Result q)). a.memory) (refused_call d c q))
    ∙ ap (λ (x : Answer (Observed q)). table_after l (unused d c) (update q x blank)) (all_observe_refused d c q)
    ∙ refused_table d c l

-- and the memory as it was handed back
refused_run : (d c : List ℕ) (l : List Call) → after_run l (unused d c) ≡ unused d c
refused_run d c [] = refl
refused_run d c (q ∷ l) = ap (λ (a : After (Result q)). after_run l a.memory) (refused_call d c q) ∙ refused_run d c l

nobody_queued : (k : ℕ) → Queued blank k → ⊥
unfolding blank
nobody_queued k q = none-some refl q.1

-- every client is below `clients`
pub all_below : (l : List Call) → AllBelow clients l
all_below [] = tt
all_below (q ∷ l) = (λ k e h. h, all_below l)

-- what holds of memory and table after the calls qs, if it holds of every grown image, and of what a refused set-up hands back
module _ (d c : List ℕ) (w l : ℕ) (lw : w ≤ 4294967295) (qs : List Call) (n : ℕ) (below : AllBelow n qs) (X : Memory → Table → Type 0)
    (grown : (s : Image) (g : Grown n s) → X (encoded s) (erase g.table)) (refused : X (unused d c) blank) where
  pub from_set_up : X (after_run qs (set_up d c w l).memory) (table_after qs (set_up d c w l).memory blank)
  unfolding start
  from_set_up = go (accepts (length d) (length c) w l) refl
    where
      go : (b : Bool) → accepts (length d) (length c) w l ≡ b
          → X (after_run qs (set_up d c w l).memory) (table_after qs (set_up d c w l).memory blank)
      go true e =
          let a = accepted (length d) (length c) w l e in
          let s : Image = bridge.first_image d w l in
          let f = follow s qs (start n (length d / 24) (limit_of l) (w - 1) a.some a.most (omega arith)) below in
          subst (λ (x : Memory). X (after_run qs x) (table_after qs x blank)) (sym (set_up_whole d c w l e))
          (subst (λ (x : Table). X (after_run qs (encoded s)) (table_after qs (encoded s) x)) erase_empty
          (subst (λ (x : Memory). X x (table_after qs (encoded s) (erase own.emptyₚ))) (sym f.memory)
          (subst (λ (x : Table). X (encoded (run s qs)) x) (sym f.table) (grown (run s qs) f.grown))))
      go false e =
          subst (λ (x : Memory). X (after_run qs x) (table_after qs x blank)) (sym (refused_memory d c w l e))
          (subst (λ (x : Memory). X x (table_after qs (unused d c) blank)) (sym (refused_run d c qs))
          (subst (λ (x : Table). X (unused d c) x) (sym (refused_table d c qs)) refused))

-- ---- the three claims

module _ (d c : List ℕ) (w l : ℕ) (lw : w ≤ 4294967295) (qs : List Call) where
  pub nobody_waits : NobodyWaits (set_up d c w l).memory qs
  nobody_waits n below rounds =
      from_set_up d c w l lw qs n below (λ m t. AllBelow n (flatten rounds) → ClosedWithin (round_limit n) m t rounds)
      (λ s g. closed_within s g rounds) (λ below rs long k q. absurd (nobody_queued k q))

  pub whoever_calls : WhoeverCalls (set_up d c w l).memory qs
  whoever_calls rounds = nobody_waits clients (all_below qs) rounds (all_below (flatten rounds))

  pub rounds_exist : RoundsExist (set_up d c w l).memory qs
  rounds_exist n below = (
    turns-below n n (omega arith),
    from_set_up d c w l lw qs n below (λ m t. Round m t (in_turn n))
        (λ s g k q. has-turn n k (encoded s) (is_below s g k (in_queue s g k q))) (λ k q. absurd (nobody_queued k q)),
  )
    where
      turns-below : (n k : ℕ) → k ≤ n → AllBelow n (in_turn k)
      turns-below n zero h = tt
      turns-below n (suc k) h = (λ j e _. omega (arith, same_some e), turns-below n k (omega arith))

      own_turn : (n k : ℕ) (x : Memory) → n ≡ k → served k x (in_turn (suc n)) ≡ true
      own_turn n k x e =
          ap (λ (y : Bool). (y || is_over (fate_by k (Advance n) (observed (Advance n) x))) || served k (step (Advance n) x).memory (in_turn n))
          (eq-eqb n k e)

      has-turn : (n k : ℕ) (x : Memory) → k < n → served k x (in_turn n) ≡ true
      has-turn zero k x h = absurd (omega arith)
      has-turn (suc n) k x h =
          by_cases (ℕ_discrete n k)
          (own_turn n k x)
          (λ e. ap (λ (y : Bool). serves k (Advance n) (observed (Advance n) x) || y) (has-turn n k _ (omega (arith, e)))
          ∙ or-true (serves k (Advance n) (observed (Advance n) x)))
