-- Lists name transactions, not clients (specs/Listing). One call is one of four changes of the clients (Changes): if client x is on client b's list
-- after it, then it was on it before and both have the transactions that they had, or the call is the Advance of b that makes the list (`law`). The
-- bit of a client goes when it leaves the queue, and a client in the queue has not just begun. So, along any list of calls, who is on a list at
-- its end has been there, with both transactions, from its start, or since such an Advance (`follow`); at a set-up all lists are empty.
-- Assumes nothing.
use Prim.Native.Nat.{ℕ, suc, ◌-◌, ◌/◌, ◌≤◌, ◌<◌}
use mathlib.Core.Path.{◌≡◌, refl, sym, ◌∙◌, ap, subst}
use mathlib.Core.Logic.{◌≢◌, ◌⊎◌, inl, inr, by_cases}
use mathlib.Core.Bool.{Bool, true, false, false≢true}
use mathlib.Core.List.{List, [], ◌∷◌, ◌++◌, flatten}
use native.Mathlib.Decide.{ℕ_discrete, dec_le}
use native.Mathlib.Omega.{arith}
use borrow.Author.Tests.{lt-leb, ne_eqb}
use lib.ListN.{length, get_or, replicate}
use Rattle.spec.specs.Set.{clients, bit, member, insert, remove, collect}
use Rattle.spec.specs.Rows.{spliced, number, bytes_of, data_row, tag_of, cell_of, row_at, rows_in, rows_from, layout, filter, has_tag}
use Rattle.spec.specs.Look.{is_own, find}
use Rattle.spec.specs.Share.{any, count, wrote, cells_of, shares}
use Rattle.spec.specs.declared.Store.{Store}
use Rattle.spec.specs.declared.Progress.{Progress}
use Rattle.spec.specs.declared.Progress.TheVariants.{Stage}
use Rattle.spec.specs.Answers.{Answer, Answered}
use Rattle.spec.specs.Image.{Image, cleared, closed, no_versions, empty, number_of, stage_of}
use Rattle.spec.specs.Calls.{begun, begin, added, write, removed, abandon}
use Rattle.spec.specs.Steps.{queued, others, go_on, enter, take_request, list_requests, list_commits, advance}
use Rattle.spec.specs.Bytes.{After, limit_of, decode, store_of, encode, known, fits, on_bytes, accepts, set_up, Memory}
use Rattle.spec.specs.Run.{Call, Begin, Write, Advance, Abandon, Result, perform, step}
use Rattle.spec.specs.Table.{Observed}
use Rattle.spec.specs.Right.{Bounds}
use Rattle.spec.proofs.Ends.{accepted}
use Rattle.demands.specs.Afterwards.{after_run}
use Rattle.demands.specs.Listing.{WaitingLists, request_lists, commit_lists, OnList, InQueue, transaction_of, SameTransaction, advanced}
use Rattle.demands.specs.Listing.{WasListed, NamesTransaction, NameTransactions, ListsNameTransactions}
use Rattle.history.proofs.Tickets.{clear_own}
use Rattle.history.proofs.Searches.{says_yes}
use Rattle.history.proofs.Listings.{Phased, phased_requests, phased_commits}
use Rattle.history.proofs.Model as m
use Rattle.history.proofs.Model.{Client, State, Out, putₛ, same, clear_both, closedₛ, newcomer, rphase, begunₛ}
use Rattle.history.proofs.Moves.{put_at, put_off, each, Tame, tame_same, tame_both}
use Rattle.history.proofs.Plain.{Plain}
use Rattle.history.proofs.View.{view, client_of, clients_as, number_at_lem, stage_at}
use Rattle.history.proofs.Walk.{empty-view}
use Rattle.history.proofs.Bridge.{encoded, crossed, first_image, set_up_whole, unused, refused_memory, refused_call}
use Rattle.history.proofs.AllCalls.{Reached, transition_of, good_next, same_memory, start_good}
use Rattle.history.proofs.Effects.{Side, request_side, commit_side, phase_of, list_of, out_of_commits, Fork, Up, Phases, phases}
use Rattle.demands.proofs.Changes.{Change, change, rests, starts, moves, ends}

-- ---- one run, computed: clients 0 and 1 wrote one cell, client 1 is in the request queue, and an Advance of client 0 lists it. Then client 1
-- abandons, begins anew, writes that cell again and enters the queue again: its new transaction is not on the list

abbrev pub value : List ℕ
value = replicate 16 0

abbrev pub first_calls : List Call
first_calls = Begin 0 ∷ Begin 1 ∷ Write 0 7 value ∷ Write 1 7 value ∷ Advance 1 ∷ Advance 0 ∷ Advance 0 ∷ Advance 0 ∷ []

abbrev pub first_listed : List Call
first_listed = first_calls ++ (Advance 0 ∷ [])

abbrev pub anew : List Call
anew = first_listed ++ (Abandon 1 ∷ Begin 1 ∷ Write 1 7 value ∷ Advance 1 ∷ [])

abbrev pub small_store : Memory
small_store = (set_up (replicate 48 0) (replicate 16 0) 1 0).memory

pub record Computed : Type 0 where
  pub made : (advanced small_store first_calls 0).answer ≡ Answered (Stage request_lists.made)
  pub listed : OnList request_lists (after_run first_listed small_store).store 0 1
  pub waiting : InQueue request_lists (after_run first_listed small_store).store 1
  pub number : transaction_of (after_run first_listed small_store).store 1 ≡ 2
  pub not_listed : OnList request_lists (after_run anew small_store).store 0 1 → ⊥
  pub waiting_anew : InQueue request_lists (after_run anew small_store).store 1
  pub number_anew : transaction_of (after_run anew small_store).store 1 ≡ 3

pub listed_once : Computed
unfolding
    flatten bit member insert remove collect
    spliced number bytes_of data_row tag_of cell_of row_at rows_in rows_from layout filter has_tag is_own find
    any count wrote cells_of shares cleared closed no_versions empty begun begin added write removed abandon
    queued others go_on enter take_request list_requests advance
    decode store_of encode known fits on_bytes accepts set_up
listed_once = record {
  made = refl;
  listed = refl;
  waiting = refl;
  number = refl;
  not_listed = λ e. false≢true e;
  waiting_anew = refl;
  number_anew = refl;
}

-- ---- a kind of lists, as the statement names it and as the proofs see it

pub record Kind (q : WaitingLists) (o : Side) : Type 0 where
  -- no list names anyone at first, and a client that is closed is cleared from all
  pub closed : (x : ℕ) → o.list closedₛ x ≡ true → ⊥
  pub begun : (s : State) (x : ℕ) → o.list (newcomer s) x ≡ true → ⊥
  pub clears : (a : ℕ) (d : Client) → o.list (clear_both a d) a ≡ true → ⊥
  -- what a client does leaves the others' lists no longer
  pub fewer : {a : ℕ} {f : Client → Client} → Tame a f → (d : Client) (x : ℕ) → o.list (f d) x ≡ true → o.list d x ≡ true
  -- at stage 0 a client is in no queue
  pub outside : (g : ℕ) → g ≡ 0 → o.phase g ≡ 0
  -- a step makes the list, of others in the queue, or leaves it no longer
  pub lists : {s : State} {a : ℕ} {c : Client} → Up s a c
      → Fork (suc (s.cl a).stage ≡ q.made) ((x : ℕ) → o.list c x ≡ true → list_of o s.cl a x ≡ true)
      ((x : ℕ) → o.list c x ≡ true → (1 ≤ phase_of o s.cl x) × (x ≢ a))
  -- who is on a list after its own step has not left the queue
  pub stays : {s : State} {a : ℕ} {c : Client} (f : Client → Client) → Up s a c → (c.stage ≡ 13 → (d : Client) → (f d).cwait a ≡ true → ⊥)
      → (d : Client) → o.list (f d) a ≡ true → 1 ≤ phase_of o s.cl a → 1 ≤ o.phase c.stage
  -- the list is not made at stage 0, and the Advance that makes it answers so
  pub late : 2 ≤ q.made
  pub answers : (i : Image) (k : ℕ) → k < clients → 1 ≤ number_of i k → suc (stage_of i k) ≡ q.made
      → (perform (Advance k) i).answer ≡ Answered (Stage q.made)
  pub seen : (i : Image) (k j : ℕ) → member (get_or (q.kept (encoded i).store) k 0) j ≡ list_of o (view i).cl k j
  pub phased : Phased q.queue o.phase

request_lists_lem : Kind request_lists request_side
unfolding closedₛ rphase encoded store_of view clients_as client_of advance list_requests go_on
request_lists_lem = record {
  closed = λ x e. false≢true e;
  begun = λ s x e. false≢true e;
  clears = λ a d. clear_own a d.rwait;
  fewer = λ tame. tame.fewer_R;
  outside = λ g e. omega arith;
  lists = λ u. (λ n. u.rwait.0 (λ e. n (omega arith)), λ e. u.rwait.1 (omega arith));
  stays = λ f u z d l h. omega (arith, u.low);
  late = omega arith;
  answers = λ i k h p e.
      let g : stage_of i k ≡ 3 = omega arith in
      rw (lt-leb clients k h, ne_eqb (number_of i k) 0 (λ z. omega arith), g);
  seen = λ i k j. refl;
  phased = phased_requests;
}

commit_lists_lem : Kind commit_lists commit_side
unfolding closedₛ encoded store_of view clients_as client_of advance list_commits go_on
commit_lists_lem = record {
  closed = λ x e. false≢true e;
  begun = λ s x e. false≢true e;
  clears = λ a d. clear_own a d.cwait;
  fewer = λ tame. tame.fewer_C;
  outside = out_of_commits;
  lists = λ u. (λ n. u.cwait.0 (λ e. n (omega arith)), λ e. u.cwait.1 (omega arith));
  stays = λ {s} {a} {c} f u z d l h. go (phases (s.cl a).stage) (phases c.stage) u.low u.top h (λ e. z e d l);
  late = omega arith;
  answers = λ i k h p e.
      let g : stage_of i k ≡ 9 = omega arith in
      rw (lt-leb clients k h, ne_eqb (number_of i k) 0 (λ z. omega arith), g);
  seen = λ i k j. refl;
  phased = phased_commits;
}
  where
    go : {g h : ℕ} → Phases g → Phases h → g ≤ h → h ≤ 13 → 1 ≤ m.cphase g → (h ≡ 13 → ⊥) → 1 ≤ m.cphase h
    go x (inr y) le top h z = absurd (z (omega arith))
    go (inr x) (inl y) le top h z = absurd (omega arith)
    go (inl x) (inl y) le top h z = omega arith

-- ---- one call

module _ {q : WaitingLists} {o : Side} (kind : Kind q o) where
  -- a list names another client in the queue, and its owner is past stage 0
  abbrev Kept : (ℕ → Client) → Type 0
  Kept cl = (b x : ℕ) → list_of o cl b x ≡ true → (1 ≤ (cl b).stage) × (1 ≤ phase_of o cl x) × (x ≢ b)

  -- call k, from clients cl to cl': client x was on client b's list before, and both have the transactions that they had; or k makes the list
  data How (cl cl' : ℕ → Client) (k : Call) (b x : ℕ) : Type 0 where
    was : list_of o cl b x ≡ true → (cl' b).number ≡ (cl b).number → (cl' x).number ≡ (cl x).number → How cl cl' k b x
    makes : k ≡ Advance b → suc (cl b).stage ≡ q.made → How cl cl' k b x

  record Law (cl cl' : ℕ → Client) (k : Call) (b x : ℕ) : Type 0 where
    pub kept : (1 ≤ (cl' b).stage) × (1 ≤ phase_of o cl' x) × (x ≢ b)
    pub how : How cl cl' k b x

  -- client a becomes c, and f is what the others become
  module _ (k : Call) (cl : ℕ → Client) (before : Kept cl) (a : ℕ) (c : Client) (f : Client → Client) (tame : Tame a f) where
    abbrev cl' : ℕ → Client
    cl' = putₛ a c f cl

    -- of its own list
    abbrev Own : ℕ → Type 0
    Own x = (1 ≤ c.stage) × (1 ≤ phase_of o cl x) × (x ≢ a) × How cl cl' k a x

    number-at-a : (cl' a).number ≡ c.number
    number-at-a = ap (λ (d : Client). d.number) (put_at a c f cl)

    number-off : (b : ℕ) → b ≢ a → (cl' b).number ≡ (cl b).number
    number-off b n = ap (λ (d : Client). d.number) (put_off a c f cl b n) ∙ tame.number (cl b)

    stage-at-a : (cl' a).stage ≡ c.stage
    stage-at-a = ap (λ (d : Client). d.stage) (put_at a c f cl)

    stage-off : (b : ℕ) → b ≢ a → (cl' b).stage ≡ (cl b).stage
    stage-off b n = ap (λ (d : Client). d.stage) (put_off a c f cl b n) ∙ tame.stage (cl b)

    phase-off : (b : ℕ) → b ≢ a → phase_of o cl' b ≡ phase_of o cl b
    phase-off b n = ap o.phase (stage-off b n)

    one-put : ((x : ℕ) → o.list c x ≡ true → Own x)
        → ((d : Client) → o.list (f d) a ≡ true → 1 ≤ phase_of o cl a → (1 ≤ o.phase c.stage) × (c.number ≡ (cl a).number))
        → (b x : ℕ) → list_of o cl' b x ≡ true → Law cl cl' k b x
    one-put mine there = each a (λ b. (x : ℕ) → list_of o cl' b x ≡ true → Law cl cl' k b x) its others
      where
        its : (x : ℕ) → list_of o cl' a x ≡ true → Law cl cl' k a x
        its x e =
            let w = mine x (ap (λ (d : Client). o.list d x) (sym (put_at a c f cl)) ∙ e) in
            record { kept = (omega (arith, stage-at-a, w.0), omega (arith, phase-off x w.2, w.1), w.2); how = w.3 }

        others : (b : ℕ) → b ≢ a → (x : ℕ) → list_of o cl' b x ≡ true → Law cl cl' k b x
        others b n x e =
            let l : o.list (f (cl b)) x ≡ true = ap (λ (d : Client). o.list d x) (sym (put_off a c f cl b n)) ∙ e in
            let old : list_of o cl b x ≡ true = kind.fewer tame (cl b) x l in
            let w = before b x old in
            let now : (1 ≤ phase_of o cl' x) × ((cl' x).number ≡ (cl x).number) = by_cases (ℕ_discrete x a)
            (λ i. subst (λ (y : ℕ). o.list (f (cl b)) y ≡ true → 1 ≤ phase_of o cl y → (1 ≤ phase_of o cl' y) × ((cl' y).number ≡ (cl y).number)) (sym i)
            (λ l h. let z = there (cl b) l h in (omega (arith, z.0, ap o.phase stage-at-a), number-at-a ∙ z.1)) l w.1)
            (λ m. (omega (arith, phase-off x m, w.1), number-off x m)) in
            record { kept = (omega (arith, stage-off b n, w.0), now.0, w.2); how = was old (number-off b n) now.1 }

  law : {s : State} {k : Call} {t : Out (Answer (Observed k))} → ((b : ℕ) → (s.cl b).number ≡ 0 → (s.cl b).stage ≡ 0) → Kept s.cl → Change s k t
      → (b x : ℕ) → list_of o t.state.cl b x ≡ true → Law s.cl t.state.cl k b x
  unfolding begunₛ
  law {s} idle kept (rests t e w r c n z) = rw e (λ b x l. record { kept = kept b x l; how = was l refl refl })
  law {s} {k} idle kept (starts a h shut) =
      one-put k s.cl kept a (newcomer s) same (tame_same a) (λ x e. absurd (kind.begun s x e))
      (λ d l h. absurd (omega (arith, h, kind.outside (s.cl a).stage (idle a shut))))
  law {s} {k} idle kept (moves a c x f R C last m u v l tame out lr lc) =
      one-put k s.cl kept a c f tame
      (λ x e. by_cases (ℕ_discrete (suc (s.cl a).stage) q.made)
      (λ i. let z = (kind.lists u).1 i x e in (l, z.0, z.1, makes refl i))
      (λ n. let z = (kind.lists u).0 n x e in let w = kept a x z in
      (l, w.1, w.2, was z (ap (λ (d : Client). d.number) (put_at a c f s.cl) ∙ u.number) (number-off k s.cl kept a c f tame x w.2))))
      (λ d e h. (kind.stays f u out d e h, u.number))
  law {s} {k} idle kept (ends a d e n) =
      one-put k s.cl kept a closedₛ (clear_both a) (tame_both a) (λ x e. absurd (kind.closed x e)) (λ d l h. absurd (kind.clears a d l))

-- ---- the record of an image

record_of_lem : (i : Image) → (encoded i).store ≡ store_of i
unfolding encoded
record_of_lem i = refl

number_seen : (i : Image) (k : ℕ) → transaction_of (encoded i).store k ≡ ((view i).cl k).number
unfolding encoded store_of view clients_as client_of
number_seen i k = refl

stage_seen : (i : Image) (k : ℕ) → get_or (encoded i).store.stage k 0 ≡ stage_of i k
unfolding encoded store_of
stage_seen i k = refl

module _ {bounds : Bounds} {w : ℕ} {i : Image} {p : Plain} (g : Reached bounds w i p) where
  open_past_0 : (k : ℕ) → 1 ≤ ((view i).cl k).stage → 1 ≤ ((view i).cl k).number
  open_past_0 k h =
      by_cases (ℕ_discrete ((view i).cl k).number 0) (λ e. absurd (omega (arith, h, (g.inv.one k).idle e))) (λ n. omega (arith, n))

-- ---- a list of calls

-- client j is on the list from the start on, and both clients have had the same transactions since
record Still (q : WaitingLists) (m : Memory) (qs : List Call) (k j : ℕ) : Type 0 where
  pub named : OnList q m.store k j
  pub own : SameTransaction m.store (after_run qs m).store k
  pub other : SameTransaction m.store (after_run qs m).store j

record Followed (q : WaitingLists) (m : Memory) (qs : List Call) (k j : ℕ) : Type 0 where
  pub apart : j ≢ k
  pub waiting : InQueue q (after_run qs m).store j
  pub since : Still q m qs k j ⊎ WasListed q m qs k j

-- one call more before the others
later : {q : WaitingLists} {m : Memory} (c : Call) {qs : List Call} {k j : ℕ} → WasListed q (step c m).memory qs k j → WasListed q m (c ∷ qs) k j
later c l = record {
  before = c ∷ l.before;
  between = l.between;
  calls = ap (λ (r : List Call). c ∷ r) l.calls;
  made = l.made;
  named = l.named;
  own = l.own;
  other = l.other;
}

-- the first call made the list
first : {q : WaitingLists} {m : Memory} {c : Call} {qs : List Call} {k j : ℕ}
    → c ≡ Advance k → (step (Advance k) m).answer ≡ Answered (Stage q.made)
    → Still q (step c m).memory qs k j → WasListed q m (c ∷ qs) k j
first {q} {m} {c} {qs} {k} {j} e a =
    subst (λ (c : Call). Still q (step c m).memory qs k j → WasListed q m (c ∷ qs) k j) (sym e)
    (λ l. record { before = []; between = qs; calls = refl; made = a; named = l.named; own = l.own; other = l.other })

earlier : {old then now : Store} {k : ℕ} → transaction_of old k ≡ transaction_of then k → SameTransaction then now k → SameTransaction old now k
earlier e l = record { is_open = l.is_open; number = e ∙ l.number }

module _ {q : WaitingLists} {o : Side} (kind : Kind q o) {bounds : Bounds} where
  called : {w : ℕ} {i : Image} {p : Plain} → Reached bounds w i p → Kept kind (view i).cl → (c : Call) (b x : ℕ)
      → list_of o (view (perform c i).image).cl b x ≡ true → Law kind (view i).cl (view (perform c i).image).cl c b x
  called {w} {i} {p} g kept c = law kind (λ b. (g.inv.one b).idle) kept (change (view i) (λ b. (g.inv.one b).idle) (transition_of g c))

  -- at the end
  here : {w : ℕ} {i : Image} {p : Plain} → Reached bounds w i p → Kept kind (view i).cl → (k j : ℕ) → OnList q (encoded i).store k j
      → Followed q (encoded i) [] k j
  here {w} {i} {p} g kept k j on =
      let z = kept k j (sym (kind.seen i k j) ∙ on) in
      record {
        apart = z.2;
        waiting = ap (queued q.queue) (stage_seen i j) ∙ sym (kind.phased.within (stage_of i j) (g.fine.tidy.stage.each j))
            ∙ says_yes (dec_le 1 (o.phase (stage_of i j))) (omega (arith, z.1, ap o.phase (stage_at i j)));
        since = inl record {
          named = on;
          own = record { is_open = omega (arith, number_seen i k, open_past_0 g k z.0); number = refl };
          other = record { is_open = omega (arith, number_seen i j, open_past_0 g j (in_queue z.1)); number = refl };
        };
      }
    where
      in_queue : 1 ≤ phase_of o (view i).cl j → 1 ≤ ((view i).cl j).stage
      in_queue h =
          by_cases (ℕ_discrete ((view i).cl j).stage 0)
          (λ e. absurd (omega (arith, h, kind.outside ((view i).cl j).stage e)))
          (λ n. omega (arith, n))

  -- before one call more
  back : {w : ℕ} {i : Image} {p : Plain} → Reached bounds w i p → Kept kind (view i).cl → (c : Call) (qs : List Call) (k j : ℕ)
      → Followed q (step c (encoded i)).memory qs k j → Followed q (encoded i) (c ∷ qs) k j
  back {w} {i} {p} g kept c qs k j f = record { apart = f.apart; waiting = f.waiting; since = go f.since }
    where
      next : Image
      next = (perform c i).image

      same_store : (step c (encoded i)).memory ≡ encoded next
      same_store = same_memory i g.fine c

      same_number : (b : ℕ) → ((view next).cl b).number ≡ ((view i).cl b).number
          → transaction_of (encoded i).store b ≡ transaction_of (step c (encoded i)).memory.store b
      same_number b e =
          number_seen i b ∙ sym e ∙ sym (number_seen next b) ∙ ap (λ (x : Memory). transaction_of x.store b) (sym same_store)

      go : Still q (step c (encoded i)).memory qs k j ⊎ WasListed q (step c (encoded i)).memory qs k j
          → Still q (encoded i) (c ∷ qs) k j ⊎ WasListed q (encoded i) (c ∷ qs) k j
      go (inr l) = inr (later c l)
      go (inl l) = by (called g kept c k j on).how
        where
          on : list_of o (view next).cl k j ≡ true
          on = sym (kind.seen next k j) ∙ subst (λ (x : Memory). OnList q x.store k j) same_store l.named

          by : How kind (view i).cl (view next).cl c k j → Still q (encoded i) (c ∷ qs) k j ⊎ WasListed q (encoded i) (c ∷ qs) k j
          by (was e nk nj) = inl record {
            named = kind.seen i k j ∙ e;
            own = earlier (same_number k nk) l.own;
            other = earlier (same_number j nj) l.other;
          }
          by (makes e n) =
              let p = open_past_0 g k (omega (arith, n, kind.late)) in
              inr (first e (ap (λ (a : After Progress). a.answer) (crossed i g.fine (Advance k))
              ∙ kind.answers i k ((g.inv.one k).below p) (omega (arith, p, number_at_lem i k)) (ap suc (sym (stage_at i k)) ∙ n)) l)

  follow : (qs : List Call) {w : ℕ} {i : Image} {p : Plain} → Reached bounds w i p → Kept kind (view i).cl → (k j : ℕ)
      → OnList q (after_run qs (encoded i)).store k j → Followed q (encoded i) qs k j
  follow [] g kept k j on = here g kept k j on
  follow (c ∷ qs) {w} {i} {p} g kept k j on =
      back g kept c qs k j
      (subst (λ (x : Memory). OnList q (after_run qs x).store k j → Followed q x qs k j) (sym (same_memory i g.fine c))
      (follow qs (good_next g c) (λ b x e. (called g kept c b x e).kept) k j) on)

-- ---- from set-up

module _ {q : WaitingLists} {o : Side} (kind : Kind q o) where
  none_listed : (r l w k j : ℕ) → list_of o (view (empty r l w)).cl k j ≡ true → ⊥
  unfolding m.fresh
  none_listed r l w k j e =
      kind.closed j (ap (λ (s : State). list_of o s.cl k j) (sym (empty-view r l w)) ∙ e)

  all_named : (d c : List ℕ) (w l : ℕ) → w ≤ 4294967295 → (qs : List Call) → NameTransactions q (set_up d c w l).memory qs
  all_named d c w l h qs k j = go (accepts (length d) (length c) w l) refl
    where
      m₀ : Memory
      m₀ = (set_up d c w l).memory

      listed : Followed q (encoded (first_image d w l)) qs k j → NamesTransaction q (encoded (first_image d w l)) qs k j
      listed f = record {
        apart = f.apart;
        waiting = f.waiting;
        listed = elim f.since [
          | inl z ↦ absurd (none_listed _ _ _ k j (sym (kind.seen (first_image d w l) k j) ∙ z.named))
          | inr z ↦ z
        ];
      }

      refused : (rs : List Call) → OnList q (after_run rs (unused d c)).store k j → ⊥
      refused [] on =
          let e = ap (λ (s : Store). member (get_or (q.kept s) k 0) j) (record_of_lem (empty 0 0 0)) in
          none_listed 0 0 0 k j (sym (kind.seen (empty 0 0 0) k j) ∙ e ∙ on)
      refused (r ∷ rs) on =
          refused rs (subst (λ (x : Memory). OnList q (after_run rs x).store k j) (ap (λ (a : After (Result r)). a.memory) (refused_call d c r)) on)

      go : (b : Bool) → accepts (length d) (length c) w l ≡ b → OnList q (after_run qs m₀).store k j → NamesTransaction q m₀ qs k j
      go true e =
          let a = accepted (length d) (length c) w l e in
          subst (λ (x : Memory). OnList q (after_run qs x).store k j → NamesTransaction q x qs k j) (sym (set_up_whole d c w l e))
          (λ on. listed (follow kind qs (start_good (length d / 24) (limit_of l) (w - 1) a.some a.most (omega arith))
          (λ b x y. absurd (none_listed _ _ _ b x y)) k j on))
      go false e = λ on. absurd (refused qs (subst (λ (x : Memory). OnList q (after_run qs x).store k j) (refused_memory d c w l e) on))

-- "Lists name transactions, not clients": for every set-up, refused or not, and every list of calls. w is the first W, a number of 32 bits by its
-- type.
pub lists_name_transactions : (d c : List ℕ) (w l : ℕ) → w ≤ 4294967295 → (qs : List Call) → ListsNameTransactions (set_up d c w l).memory qs
lists_name_transactions d c w l h qs = record { requests = all_named request_lists_lem d c w l h qs; commits = all_named commit_lists_lem d c w l h qs }
