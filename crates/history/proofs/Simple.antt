-- Begin, Read, Abandon and Free on an image are, by the view, what Transition.antt says of them: the client opened, the value found, the client
-- closed with its rows gone, the free figure. Each call is its chain of tests, then one equation on the view.
-- Assumes nothing.
use Rattle.std.specs.Prelude.{None, Some}
use Prim.Native.Nat.{ℕ, ◌+◌, ◌≤◌, ◌<◌}
use mathlib.Core.Path.{◌≡◌, refl, ap, ◌∙◌}
use mathlib.Core.Bool.{true, not}
use mathlib.Core.List.{List, map}
use mathlib.Core.Option.{Option}
use native.Mathlib.Numerals.{add-one}
use native.Mathlib.Omega.{arith}
use borrow.Author.Tests.{ltb-true, ltb-false, leb-true, leb-false, eqb-true, eqb-false, eq-eqb, not-false}
use lib.ListN.{length, get_or}
use lib.Dec.{ltb, leb, eqb}
use Rattle.spec.specs.Set.{clients}
use Rattle.spec.specs.Rows.{Row, cells}
use Rattle.spec.specs.Look.{is_own, find, version_of, newest, own_or, look_for, Found, Lookup, version}
use Rattle.spec.specs.Answers.{Answered, no_client, no_cell, already_open, not_open, wrong_stage, numbers_used_up}
use Rattle.spec.specs.Image.{Clients, Image, with_versions, is_open, stage_of, number_of, snapshot_of}
use Rattle.spec.specs.Calls.{begun, begin, reading, look_of, full_look, replies_found, read, removed, abandon, free}
use Rattle.spec.specs.Numbers.{top}
use Rattle.spec.specs.Run.{Begin, Read, Abandon, Free}
use Rattle.spec.specs.Table.{Value, or_else, bytes_read}
use Rattle.spec.specs.Right.{for_client, for_open, for_numbers, for_no_cell, for_late, for_commit}
use Rattle.history.proofs.Wellformed.{Wellformed, Tidy}
use Rattle.history.proofs.Model as m
use Rattle.history.proofs.Model.{out, largest, read_key, lookup, committed_at}
use Rattle.history.proofs.Transition.{no_begin, no_read, no_abandon, begins, reads, abandons, frees}
use Rattle.history.proofs.View.{data_row_of, commit_row_of, Fields, client_of, clients_as, view, clients-put, closed_put, none_listed}
use Rattle.history.proofs.View.{stage_at, past_number, free_at, W_at}
use Rattle.history.proofs.Searches.{own_value, own_view, version_in, newest_view, removed_rows}
use Rattle.history.proofs.Simulates.{observed_outcome, Simulates, simulates, simulates_if, shut, same_open, not_open_lem, open_number}

-- ---- Begin

begun-view : (i : Image) (k : ℕ) → Tidy i.clients → k < clients → observed_outcome (Begin k) (begun k i) ≡ m.begunₛ (view i) k
unfolding begun m.begunₛ view client_of
begun-view i k z h =
    let o : Fields = record {
      stage = 0;
      number = i.counters.issued + 1;
      snapshot = i.counters.last;
      request = 0;
      commit = 0;
      request_waits = 0;
      commit_waits = 0;
    } in
    rw (clients-put i.clients z k h o, none_listed, add-one i.counters.issued)

pub begin_simulates : (i : Image) (k : ℕ) → Wellformed i → i.counters.issued ≤ top → Simulates i (Begin k) (begin k i)
unfolding begin
begin_simulates i k z w =
    simulates_if i (Begin k) (leb clients k) (λ h. record { did = no_begin k no_client (omega arith) (for_client (leb-true clients k h)) }) (λ h.
    let l : k < clients = leb-false clients k h in
    simulates_if i (Begin k) (is_open i k) (λ e. record { did = no_begin k already_open (omega arith) (for_open l (same_open i k ∙ e)) }) (λ e.
    simulates_if i (Begin k) (eqb i.counters.issued top)
    (λ n. record {
      did = no_begin k numbers_used_up (omega arith) (for_numbers l (same_open i k ∙ e)
          (omega (arith, eqb-true i.counters.issued top n, W_at i)));
    }) (λ n.
    let d : i.counters.issued ≡ top → ⊥ = eqb-false i.counters.issued top n in
    simulates i (Begin k) (begun k i) (begun-view i k z.tidy l) (begins k l (shut i k e) (omega (arith, d, W_at i))))))

-- ---- Read

chosen : (ds : List Row) (o : Found) (w : Lookup) → bytes_read ds (reading (own_or o w)) ≡ or_else (own_value ds o) (m.value_ofₛ (version_in ds w))
unfolding own_or m.value_ofₛ data_row_of
chosen ds (Some j) w = refl
chosen ds None None = refl
chosen ds None (Some f) = refl

found_view : (t x b : ℕ) (cs ds : List Row)
    → bytes_read ds (reading (look_for t x b ds cs)) ≡ or_else (m.findₛ t x (map data_row_of ds))
    (m.value_ofₛ (largest (read_key (map commit_row_of cs) x b) (map data_row_of ds)))
unfolding look_for
found_view t x b cs ds = rw (own_view t x ds, ← newest_view x b cs ds) (chosen ds (find (is_own t x) 0 ds) (newest (version_of x b cs) 0 ds))

lookup-view : (i : Image) (k x : ℕ) → bytes_read i.data_rows (reading (full_look k x i)) ≡ lookup (view i) k x
unfolding lookup committed_at view clients_as client_of
lookup-view i k x = found_view (number_of i k) x (snapshot_of i k) i.commit_rows i.data_rows

-- the view does not see the version table
versions_view : (i : Image) (v : List ℕ) → view (with_versions i v) ≡ view i
unfolding view
versions_view i v = refl

-- where the look by the entry finds what the full look finds (Versions.antt has that it does)
pub read_simulates : (i : Image) (k x : ℕ) → Wellformed i → (is_open i k ≡ true → look_of k x i ≡ full_look k x i)
    → Simulates i (Read k x) (read k x i)
unfolding read
read_simulates i k x z full =
    rw (eq-eqb (length i.versions) cells z.table) (simulates_if i (Read k x) (leb clients k)
    (λ h. record {
      did = no_read k x no_client (omega arith) (λ o. absurd
          (omega (arith, o, past_number i z.tidy k (leb-true clients k h))));
    }) (λ h.
    simulates_if i (Read k x) (leb cells x) (λ g. record { did = no_read k x no_cell (omega arith) (λ _. for_no_cell (leb-true cells x g)) }) (λ g.
    simulates_if i (Read k x) (not (is_open i k)) (λ e. record {
      did = no_read k x not_open (omega arith)
          (λ o. absurd (omega (arith, o, not_open_lem i k e)));
    }) (λ o.
    simulates_if i (Read k x) (ltb 11 (stage_of i k))
    (λ l. record {
      did = no_read k x wrong_stage (omega arith) (λ _. for_late (leb-false cells x g)
          (omega (arith, ltb-true 11 (stage_of i k) l, stage_at i k)));
    }) (λ l.
    simulates i (Read k x) (replies_found x (look_of k x i) i)
    (rw (full (not-false (is_open i k) o), versions_view i) (ap (λ (v : Option Value). out (view i) (Answered v)) (lookup-view i k x)))
    (reads k x (leb-false cells x g) (open_number i k o) (omega (arith, ltb-false 11 (stage_of i k) l, stage_at i k))))))))

-- ---- Abandon

pub number_of_lem : (c : Clients) (k : ℕ) → (clients_as c k).number ≡ get_or c.number k 0
unfolding clients_as client_of
number_of_lem c k = refl

pub removed-view : (i : Image) (k : ℕ) → Tidy i.clients → k < clients → view (removed k i) ≡ m.removedₛ (view i) k
unfolding removed view
removed-view i k z h = rw (closed_put i.clients z k h, number_of_lem i.clients k, removed_rows (get_or i.clients.number k 0) i.data_rows)

pub abandon_simulates : (i : Image) (k : ℕ) → Wellformed i → Simulates i (Abandon k) (abandon k i)
unfolding abandon
abandon_simulates i k z =
    simulates_if i (Abandon k) (leb clients k)
    (λ h. record {
      did = no_abandon k no_client (omega arith) (λ o. absurd
          (omega (arith, o, past_number i z.tidy k (leb-true clients k h))));
    }) (λ h.
    simulates_if i (Abandon k) (not (is_open i k)) (λ e. record {
      did = no_abandon k not_open (omega arith)
          (λ o. absurd (omega (arith, o, not_open_lem i k e)));
    }) (λ o.
    simulates_if i (Abandon k) (leb 12 (stage_of i k))
    (λ g. record { did = no_abandon k wrong_stage (omega arith) (λ _. for_commit (omega (arith, leb-true 12 (stage_of i k) g, stage_at i k))) }) (λ g.
    let l : k < clients = leb-false clients k h in
    simulates i (Abandon k) _ (rw (← removed-view i k z.tidy l, free_at (removed k i)))
    (abandons k l (open_number i k o) (omega (arith, leb-false 12 (stage_of i k) g, stage_at i k))))))

-- ---- Free

pub free_simulates : (i : Image) → Simulates i Free (free i)
unfolding free
free_simulates i = simulates i Free _ (rw (← free_at i)) frees
