-- Advance on an image is, by the view, what Transition.antt says of it, step by step. Three steps have a refusal that a store grown from set-up never
-- meets: R at its top, C at its top, a full committed buffer (`Ready` says that there is room; Meets.antt and Room.antt prove it).
-- Assumes nothing.
use Rattle.std.specs.Prelude.{None, Some}
use Prim.Native.Nat.{ℕ, ◌+◌, ◌^◌, ◌≤◌, ◌<◌}
use mathlib.Core.Path.{◌≡◌, refl, sym, ap, ◌∙◌}
use mathlib.Core.Logic.{◌≢◌, if_pos, if_neg, by_cases}
use mathlib.Core.Bool.{true, false, not, ◌&&◌}
use mathlib.Core.List.{[], ◌∷◌, ◌++◌, map, Memᴰ as In}
use mathlib.Core.Option.{Option, none, some}
use native.Mathlib.Decide.{ℕ_discrete}
use native.Mathlib.Numerals.{add-one}
use native.Mathlib.Omega.{arith}
use borrow.Author.Tests.{eq-eqb, ne_eqb, eqb-true, leb-true, leb-false, not-true, not-false}
use lib.ListN.{length, get_or}
use lib.Dec.{eqb, leb}
use Rattle.spec.specs.Set.{clients, member, size, collect, strike}
use Rattle.spec.specs.Rows.{commit_row, has_tag, cells}
use Rattle.spec.proofs.Rows.{commit_number-commit_row, commit_tag-commit_row}
use Rattle.spec.specs.Share.{any, shares, conflict}
use Rattle.spec.specs.declared.Progress.TheVariants.{Stage, Waiting, Done}
use Rattle.spec.specs.Answers.{Answered, no_client, not_open}
use Rattle.spec.specs.Image.{Clients, Image, with_clients, with_rows, with_requested, with_taken, with_last, set_request, set_commit}
use Rattle.spec.specs.Image.{set_request_waits, set_commit_waits, is_open, stage_of, number_of, snapshot_of, request_of, commit_number_of}
use Rattle.spec.specs.Calls.{replies, look_of, full_look}
use Rattle.spec.specs.Numbers.{top, Number}
use Rattle.spec.specs.Steps as st
use Rattle.spec.specs.Steps.{request_queue, commit_queue, struck, others, steps, no_step}
use Rattle.spec.specs.Run.{Advance}
use Rattle.history.proofs.Wellformed.{Wellformed, strike-le}
use Rattle.history.proofs.Lists.{none-some, same_some}
use Rattle.history.proofs.Tickets.{listing, look}
use Rattle.history.proofs.Model as m
use Rattle.history.proofs.Model.{DRow, putₛ, clear_c, out, at_stageₛ, with_rwait, with_cwait, rphase, cphase, sharing?}
use Rattle.history.proofs.Transition.{HasRow, no_advance, at0, ends0, at1, at2, at3, at4, at5, at6, at7, at8, at9, at10, at11, at12, at13}
use Rattle.history.proofs.View.{data_row_of, commit_row_of, client_of, clients_as, view, stage_put, request_put, commit_put}
use Rattle.history.proofs.View.{request_waits_put, commit_waits_put, left_put, closed_put, waits_put, map_join, stage_at, past_number}
use Rattle.history.proofs.Searches.{has_row, no_row, shares_view, as_number, number_in, check_view}
use Rattle.history.proofs.Listings.{count_view, size_none, size-zero, phased_requests, phased_commits, others_view, some_view, look_view}
use Rattle.history.proofs.Simulates.{observed_outcome, Simulates, simulates, simulates_if, not_open_lem, open_number}
use Rattle.history.proofs.Simple.{number_of_lem, removed-view}

-- what the calls ask of the image: numbers of 32 bits, cells that there are, a number to be taken, a free committed row, and that a look by the
-- version table is as good as the full one
pub record Ready (i : Image) : Type 0 where
  pub fine : Wellformed i
  pub numbers : (k : ℕ) → number_of i k < 4294967296
  pub inside : (r : DRow) → In r (view i).dat → r.cell < cells
  pub commits : (k : ℕ) → stage_of i k ≡ 11 → commit_number_of i k < 4294967296
  pub request : (k : ℕ) → k < clients → 1 ≤ ((view i).cl k).number → stage_of i k ≡ 1 → i.counters.requested < top
  pub commit : (k : ℕ) → k < clients → 1 ≤ ((view i).cl k).number → stage_of i k ≡ 7 → i.counters.taken < top
  pub room : (k : ℕ) → 1 ≤ ((view i).cl k).number → stage_of i k ≡ 11 → length i.commit_rows < i.rows
  pub looks : (k x : ℕ) → is_open i k ≡ true → look_of k x i ≡ full_look k x i

-- no other stage is at most 13
next : (n g : ℕ) → n ≤ g → g ≢ n → n + 1 ≤ g
next n g h d = omega (arith, d)

not_both : (g : ℕ) → g ≤ 13 → 14 ≤ g → ⊥
not_both g h l = omega arith

between : (g : ℕ) → g ≤ 13 → g ≢ 0 → g ≢ 1 → g ≢ 2 → g ≢ 3 → g ≢ 4 → g ≢ 5 → g ≢ 6 → g ≢ 7 → g ≢ 8 → g ≢ 9 → g ≢ 10 → g ≢ 11 → g ≢ 12 → g ≢ 13 → ⊥
between g l n0 n1 n2 n3 n4 n5 n6 n7 n8 n9 n10 n11 n12 n13 =
    not_both g l (next 13 g (next 12 g (next 11 g (next 10 g (next 9 g
    (next 8 g (next 7 g (next 6 g (next 5 g (next 4 g (next 3 g (next 2 g (next 1 g (next 0 g (omega arith) n0) n1) n2) n3) n4) n5) n6)
    n7) n8) n9) n10) n11) n12) n13)

commit_row_lem : (n t : ℕ) → n < 4294967296 → t < 4294967296 → commit_row_of (commit_row n t) ≡ record { number = n; tag = t }
unfolding commit_row_of
commit_row_lem n t h g = λ i. record { number = commit_number-commit_row n t h i; tag = commit_tag-commit_row n t g i }

snapshot_of_lem : (c : Clients) (k : ℕ) → (clients_as c k).snapshot ≡ get_or c.snapshot k 0
unfolding clients_as client_of
snapshot_of_lem c k = refl

commit_of_lem : (c : Clients) (k : ℕ) → (clients_as c k).commit ≡ get_or c.commit k 0
unfolding clients_as client_of
commit_of_lem c k = refl

module _ (i : Image) (ready : Ready i) (k : ℕ) (h : k < clients) where
  go_on-view : (g : ℕ) → observed_outcome (Advance k) (st.go_on g k i) ≡ m.step_to (view i) k g
  unfolding st.go_on view
  go_on-view g = rw (stage_put i.clients ready.fine.tidy k h g)

  -- 1 and 7: numbers taken
  request_view : observed_outcome (Advance k) (st.go_on 2 k (with_requested
      (with_clients i (set_request k (i.counters.requested + 1) i.clients)) (i.counters.requested + 1))) ≡ m.take_r (view i) k
  unfolding st.go_on m.take_r view
  request_view = rw (request_put i.clients ready.fine.tidy k h 2 (i.counters.requested + 1), add-one i.counters.requested)

  number_view : observed_outcome (Advance k) (st.go_on 8 k (with_taken (with_clients i (set_commit k (i.counters.taken + 1) i.clients))
      (i.counters.taken + 1))) ≡ m.take_c (view i) k
  unfolding st.go_on m.take_c view
  number_view = rw (commit_put i.clients ready.fine.tidy k h 8 (i.counters.taken + 1), add-one i.counters.taken)

  -- 3 and 9: the lists
  put_requests : (g w : ℕ)
      → observed_outcome (Advance k) (st.go_on g k (with_clients i (set_request_waits k w i.clients))) ≡ out
      (m.move (view i) k (with_rwait ((view i).cl k) g (member w))) (Answered (Stage g))
  unfolding st.go_on view
  put_requests g w = rw (request_waits_put i.clients ready.fine.tidy k h g w)

  put_commits : (g w : ℕ)
      → observed_outcome (Advance k) (st.go_on g k (with_clients i (set_commit_waits k w i.clients))) ≡ out
      (m.move (view i) k (with_cwait ((view i).cl k) g (member w))) (Answered (Stage g))
  unfolding st.go_on view
  put_commits g w = rw (commit_waits_put i.clients ready.fine.tidy k h g w)

  listed_requests : member (collect (λ j. member (others request_queue k i) j && shares i.data_rows (number_of i k) (number_of i j)) clients)
      ≡ listing (m.rph (view i)) (λ b. sharing? (view i).dat ((view i).cl b).number ((view i).cl k).number) k
  unfolding view clients_as client_of
  listed_requests =
      some_view request_queue rphase phased_requests i k ready.fine.tidy.stage.each (λ j. shares i.data_rows (number_of i k) (number_of i j))
      (λ b. sharing? (map data_row_of i.data_rows) (number_of i b) (number_of i k)) (λ j. shares_view i.data_rows (number_of i k) (number_of i j))

  listed_commits : member (others commit_queue k i) ≡ listing (m.cph (view i)) {P = λ _. Unit {0}} (λ _. yes tt) k
  unfolding view clients_as client_of
  listed_commits = others_view commit_queue cphase phased_commits i k ready.fine.tidy.stage.each

  list_requests_lem : observed_outcome (Advance k) (st.list_requests k i) ≡ m.list_r (view i) k
  unfolding st.list_requests m.list_r
  list_requests_lem = put_requests 4 (collect (λ j. member (others request_queue k i) j && shares i.data_rows (number_of i k) (number_of i j))
      clients) ∙ rw listed_requests

  list_commits_lem : observed_outcome (Advance k) (st.list_commits k i) ≡ m.list_c (view i) k
  unfolding st.list_commits m.list_c
  list_commits_lem = put_commits 10 (others commit_queue k i) ∙ rw listed_commits

  -- 4 and 10: the looks
  abbrev left_requests : ℕ
  left_requests = strike (λ j. struck request_queue (request_of i k) (stage_of i j) (request_of i j)) (get_or i.clients.request_waits k 0) clients

  abbrev left_commits : ℕ
  left_commits = strike (λ j. struck commit_queue (commit_number_of i k) (stage_of i j) (commit_number_of i j)) (get_or i.clients.commit_waits k 0) clients

  left_requests_view : member left_requests ≡ look (m.rph (view i)) (λ b. ((view i).cl b).request) k ((view i).cl k).rwait
  unfolding view clients_as client_of
  left_requests_view =
      look_view request_queue rphase phased_requests (λ j. stage_of i j) (λ j. request_of i j) ready.fine.tidy.stage.each k
      (get_or i.clients.request_waits k 0) (ready.fine.tidy.request_waits.each k)

  left_commits_view : member left_commits ≡ look (m.cph (view i)) (λ b. ((view i).cl b).commit) k ((view i).cl k).cwait
  unfolding view clients_as client_of
  left_commits_view =
      look_view commit_queue cphase phased_commits (λ j. stage_of i j) (λ j. commit_number_of i j) ready.fine.tidy.stage.each k
      (get_or i.clients.commit_waits k 0) (ready.fine.tidy.commit_waits.each k)

  few_requests : left_requests < 2 ^ clients
  few_requests = omega (
    arith,
    strike-le (λ j. struck request_queue (request_of i k) (stage_of i j) (request_of i j))
        (get_or i.clients.request_waits k 0) clients,
    ready.fine.tidy.request_waits.each k,
  )

  few_commits : left_commits < 2 ^ clients
  few_commits = omega (
    arith,
    strike-le (λ j. struck commit_queue (commit_number_of i k) (stage_of i j) (commit_number_of i j))
        (get_or i.clients.commit_waits k 0) clients,
    ready.fine.tidy.commit_waits.each k,
  )

  wait_requests : (w n : ℕ) → stage_of i k ≡ 4
      → observed_outcome (Advance k) (replies (with_clients i (set_request_waits k w i.clients)) (Waiting n)) ≡ out
      (m.move (view i) k (with_rwait ((view i).cl k) 4 (member w))) (Answered (Waiting n))
  unfolding view
  wait_requests w n e = rw (ap clients_as (waits_put (set_request_waits k w i.clients) k 4 e) ∙ request_waits_put i.clients
      ready.fine.tidy k h 4 w)

  wait_commits : (w n : ℕ) → stage_of i k ≡ 10
      → observed_outcome (Advance k) (replies (with_clients i (set_commit_waits k w i.clients)) (Waiting n)) ≡ out
      (m.move (view i) k (with_cwait ((view i).cl k) 10 (member w))) (Answered (Waiting n))
  unfolding view
  wait_commits w n e = rw (ap clients_as (waits_put (set_commit_waits k w i.clients) k 10 e) ∙ commit_waits_put i.clients
      ready.fine.tidy k h 10 w)

  looked_requests : (w : ℕ) → w < 2 ^ clients → stage_of i k ≡ 4
      → observed_outcome (Advance k) (st.looked 5 k w (with_clients i (set_request_waits k w i.clients))) ≡ m.look_r (view i) k (member w)
  unfolding st.looked m.look_r
  looked_requests w l e =
      rw (count_view clients w) (by_cases (ℕ_discrete w 0)
      (λ p. rw (eq-eqb w 0 p) (put_requests 5 w ∙ sym (if_pos (ℕ_discrete (size clients w) 0) (ap (size clients) p ∙ size-zero clients) _ _)))
      (λ n. rw (ne_eqb w 0 n) (wait_requests w (size clients w) e ∙ sym
      (if_neg (ℕ_discrete (size clients w) 0) (λ q. n (size_none clients w l q)) _ _))))

  looked_commits : (w : ℕ) → w < 2 ^ clients → stage_of i k ≡ 10
      → observed_outcome (Advance k) (st.looked 11 k w (with_clients i (set_commit_waits k w i.clients))) ≡ m.look_c (view i) k (member w)
  unfolding st.looked m.look_c
  looked_commits w l e =
      rw (count_view clients w) (by_cases (ℕ_discrete w 0)
      (λ p. rw (eq-eqb w 0 p) (put_commits 11 w ∙ sym (if_pos (ℕ_discrete (size clients w) 0) (ap (size clients) p ∙ size-zero clients) _ _)))
      (λ n. rw (ne_eqb w 0 n) (wait_commits w (size clients w) e ∙ sym
      (if_neg (ℕ_discrete (size clients w) 0) (λ q. n (size_none clients w l q)) _ _))))

  look_requests_lem : stage_of i k ≡ 4
      → observed_outcome (Advance k) (st.look_requests k i) ≡ m.look_r (view i) k
      (look (m.rph (view i)) (λ b. ((view i).cl b).request) k ((view i).cl k).rwait)
  unfolding st.look_requests
  look_requests_lem e = looked_requests left_requests few_requests e ∙ ap (m.look_r (view i) k) left_requests_view

  look_commits_lem : stage_of i k ≡ 10
      → observed_outcome (Advance k) (st.look_commits k i) ≡ m.look_c (view i) k
      (look (m.cph (view i)) (λ b. ((view i).cl b).commit) k ((view i).cl k).cwait)
  unfolding st.look_commits
  look_commits_lem e = looked_commits left_commits few_commits e ∙ ap (m.look_c (view i) k) left_commits_view

  -- 5: the check
  checked-view : (c : Number) (w : Option (ℕ × DRow)) → as_number c ≡ number_in w
      → observed_outcome (Advance k) (st.checked c k i) ≡ m.checkedₛ (view i) k w
  unfolding m.checkedₛ
  checked-view None none e = go_on-view 6
  checked-view None (some w) e = absurd (none-some refl e)
  checked-view (Some n) none e = absurd (none-some refl (sym e))
  checked-view (Some n) (some w) e = let q : n ≡ w.0 = same_some e in rw (removed-view i k ready.fine.tidy h, q)

  found : as_number (conflict (number_of i k) (snapshot_of i k) i.data_rows i.commit_rows)
      ≡ number_in (m.smallestₛ (m.check_key (view i).dat (view i).comm ((view i).cl k).number ((view i).cl k).snapshot) (view i).dat)
  unfolding view clients_as client_of
  found = check_view i.data_rows i.commit_rows (number_of i k) (snapshot_of i k)

  checks : observed_outcome (Advance k) (st.check k i) ≡ m.checkedₛ (view i) k
      (m.smallestₛ (m.check_key (view i).dat (view i).comm ((view i).cl k).number ((view i).cl k).snapshot) (view i).dat)
  unfolding st.check
  checks = checked-view (conflict (number_of i k) (snapshot_of i k) i.data_rows i.commit_rows) _ found

  -- 11: the committed row
  made_commit : stage_of i k ≡ 11
      → observed_outcome (Advance k) (st.go_on 12 k (with_last (with_rows i i.data_rows
      (i.commit_rows ++ (commit_row (commit_number_of i k) (number_of i k) ∷ []))) (commit_number_of i k))) ≡ m.committed (view i) k
  unfolding st.go_on m.committed view
  made_commit e =
      rw (
        stage_put i.clients ready.fine.tidy k h 12,
        map_join commit_row_of i.commit_rows (commit_row (commit_number_of i k) (number_of i k) ∷ []),
        commit_row_lem (commit_number_of i k) (number_of i k) (ready.commits k e) (ready.numbers k),
        commit_of_lem i.clients k,
        number_of_lem i.clients k,
      )

  -- 12 and 13
  leave_commits_lem : observed_outcome (Advance k) (st.leave_commits k i) ≡ out
      (m.with_clientsₛ (view i) (putₛ k (at_stageₛ (clear_c k ((view i).cl k)) 13) (clear_c k) (view i).cl)) (Answered (Stage 13))
  unfolding st.leave_commits st.go_on view
  leave_commits_lem = rw (left_put i.clients ready.fine.tidy k h)

  leave_requests_lem : observed_outcome (Advance k) (st.leave_requests k i) ≡ out (m.leave (view i) k (view i).dat)
      (Answered (Done ((view i).cl k).commit))
  unfolding st.leave_requests st.finished view
  leave_requests_lem = rw (closed_put i.clients ready.fine.tidy k h, commit_of_lem i.clients k)

  leave_nothing : observed_outcome (Advance k) (st.finished (snapshot_of i k) k i) ≡ out (m.leave (view i) k (view i).dat)
      (Answered (Done ((view i).cl k).snapshot))
  unfolding st.finished view
  leave_nothing = rw (closed_put i.clients ready.fine.tidy k h, snapshot_of_lem i.clients k)

  -- the step that the stage calls for
  module _ (o : 1 ≤ ((view i).cl k).number) where
    has-rows : any (has_tag (number_of i k)) i.data_rows ≡ true → HasRow ((view i).cl k).number (view i).dat
    unfolding view clients_as client_of
    has-rows e = has_row (number_of i k) i.data_rows e

    no_rows : any (has_tag (number_of i k)) i.data_rows ≡ false → HasRow ((view i).cl k).number (view i).dat → ⊥
    unfolding view clients_as client_of
    no_rows e = no_row (number_of i k) i.data_rows e

    at : {g : ℕ} → stage_of i k ≡ g → ((view i).cl k).stage ≡ g
    at e = stage_at i k ∙ e

    enters : stage_of i k ≡ 0 → Simulates i (Advance k) (st.enter k i)
    unfolding st.enter
    enters e =
        simulates_if i (Advance k) (not (any (has_tag (number_of i k)) i.data_rows))
        (λ n. simulates i (Advance k) _ leave_nothing (ends0 k h o (at e)
        (no_rows (not-true (any (has_tag (number_of i k)) i.data_rows) n))))
        (λ n. simulates i (Advance k) _ (go_on-view 1) (at0 k h o (at e) (has-rows (not-false (any (has_tag (number_of i k)) i.data_rows) n))))

    requested : stage_of i k ≡ 1 → Simulates i (Advance k) (st.take_request k i)
    unfolding st.take_request
    requested e =
        simulates_if i (Advance k) (eqb i.counters.requested top)
        (λ t. absurd (omega (arith, eqb-true i.counters.requested top t, ready.request k h o e)))
        (λ _. simulates i (Advance k) _ request_view (at1 k h o (at e)))

    taken : stage_of i k ≡ 7 → Simulates i (Advance k) (st.take_commit k i)
    unfolding st.take_commit
    taken e =
        simulates_if i (Advance k) (eqb i.counters.taken top)
        (λ t. absurd (omega (arith, eqb-true i.counters.taken top t, ready.commit k h o e)))
        (λ _. simulates i (Advance k) _ number_view (at7 k h o (at e)))

    committed : stage_of i k ≡ 11 → Simulates i (Advance k) (st.add_commit k i)
    unfolding st.add_commit
    committed e =
        simulates_if i (Advance k) (leb i.rows (length i.commit_rows))
        (λ t. absurd (omega (arith, leb-true i.rows (length i.commit_rows) t, ready.room k o e)))
        (λ _. simulates i (Advance k) _ (made_commit e) (at11 k h o (at e)))

    step-simulates : (g : ℕ) → stage_of i k ≡ g → g ≤ 13 → Simulates i (Advance k) (get_or steps g no_step k i)
    step-simulates g e l =
        by_cases (ℕ_discrete g 0) (λ p. rw p (enters (e ∙ p))) (λ n0.
        by_cases (ℕ_discrete g 1) (λ p. rw p (requested (e ∙ p))) (λ n1.
        by_cases (ℕ_discrete g 2) (λ p. rw p (simulates i (Advance k) (st.go_on 3 k i) (go_on-view 3) (at2 k h o (at (e ∙ p))))) (λ n2.
        by_cases (ℕ_discrete g 3) (λ p. rw p (simulates i (Advance k) (st.list_requests k i) list_requests_lem (at3 k h o (at (e ∙ p))))) (λ n3.
        by_cases (ℕ_discrete g 4) (λ p. rw p (simulates i (Advance k) (st.look_requests k i) (look_requests_lem (e ∙ p)) (at4 k h o (at (e ∙ p))))) (λ n4.
        by_cases (ℕ_discrete g 5) (λ p. rw p (simulates i (Advance k) (st.check k i) checks (at5 k h o (at (e ∙ p))))) (λ n5.
        by_cases (ℕ_discrete g 6) (λ p. rw p (simulates i (Advance k) (st.go_on 7 k i) (go_on-view 7) (at6 k h o (at (e ∙ p))))) (λ n6.
        by_cases (ℕ_discrete g 7) (λ p. rw p (taken (e ∙ p))) (λ n7.
        by_cases (ℕ_discrete g 8) (λ p. rw p (simulates i (Advance k) (st.go_on 9 k i) (go_on-view 9) (at8 k h o (at (e ∙ p))))) (λ n8.
        by_cases (ℕ_discrete g 9) (λ p. rw p (simulates i (Advance k) (st.list_commits k i) list_commits_lem (at9 k h o (at (e ∙ p))))) (λ n9.
        by_cases (ℕ_discrete g 10) (λ p. rw p (simulates i (Advance k) (st.look_commits k i) (look_commits_lem (e ∙ p)) (at10 k h o (at (e ∙ p))))) (λ n10.
        by_cases (ℕ_discrete g 11) (λ p. rw p (committed (e ∙ p))) (λ n11.
        by_cases (ℕ_discrete g 12) (λ p. rw p (simulates i (Advance k) (st.leave_commits k i) leave_commits_lem (at12 k h o (at (e ∙ p))))) (λ n12.
        by_cases (ℕ_discrete g 13) (λ p. rw p (simulates i (Advance k) (st.leave_requests k i) leave_requests_lem (at13 k h o (at (e ∙ p))))) (λ n13.
        absurd (between g l n0 n1 n2 n3 n4 n5 n6 n7 n8 n9 n10 n11 n12 n13)))))))))))))))

pub advance_simulates : (i : Image) (k : ℕ) → Ready i → Simulates i (Advance k) (st.advance k i)
unfolding st.advance
advance_simulates i k ready =
    simulates_if i (Advance k) (leb clients k)
    (λ h. record { did = no_advance k no_client (omega arith) (past_number i ready.fine.tidy k (leb-true clients k h)) }) (λ h.
    simulates_if i (Advance k) (not (is_open i k)) (λ e. record { did = no_advance k not_open (omega arith) (not_open_lem i k e) }) (λ o.
    step-simulates i ready k (leb-false clients k h) (open_number i k o) (stage_of i k) refl (ready.fine.tidy.stage.each k)))
