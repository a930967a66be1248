-- The words of specs/Rounds in accord with document 02, 8 and 12: laws of them, and one small run, computed, which shows what lists of calls are rounds,
-- and in which round a transaction is closed. In it, in a store of three rows, clients 0 and 1 have written a cell each and entered the request
-- queue; client 2 has begun and is at stage 0.
-- Assumes nothing.
use Prim.Native.Nat.{ℕ}
use mathlib.Core.Path.{◌≡◌, refl, sym, ap, ◌∙◌}
use mathlib.Core.Logic.{◌≢◌, by_cases}
use mathlib.Core.Bool.{Bool, true, false, ◌||◌, false≢true}
use mathlib.Core.List.{List, [], ◌∷◌, ◌++◌, flatten}
use mathlib.Core.Option.{Option, none, some}
use native.Mathlib.Decide.{ℕ_discrete}
use native.Mathlib.Omega.{arith}
use borrow.Author.Tests.{ne_eqb}
use lib.ListN.{replicate}
use Rattle.spec.specs.Set.{clients, bit, member, insert, remove, size, collect, strike}
use Rattle.spec.specs.Rows.{value_of, spliced, number, bytes_of, data_row, tag_of, cell_of, commit_row, commit_number, commit_tag, row_at, rows_in}
use Rattle.spec.specs.Rows.{rows_from, layout, filter, has_tag}
use Rattle.spec.specs.Numbers.{lesser, smallest, above, at_least, up_to}
use Rattle.spec.specs.Look.{commit_of, is_own, find, version_of, newer, version_at, newest, own_or, look_for}
use Rattle.spec.specs.Look.{least_looked, version_from, look_from, versions_after}
use Rattle.spec.specs.Share.{any, count, wrote, cells_of, shares, clash, conflict}
use Rattle.spec.specs.Image.{cleared, closed, no_versions, empty}
use Rattle.spec.specs.Calls.{begun, begin, read, replaced, added, write, removed, abandon}
use Rattle.spec.specs.Steps.{queued, struck, others, go_on, enter, take_request, list_requests, looked, look_requests, check, take_commit}
use Rattle.spec.specs.Steps.{list_commits, look_commits, add_commit, leave_commits, leave_requests, finished, advance}
use Rattle.spec.specs.declared.Progress.TheVariants.{Conflict}
use Rattle.spec.specs.Answers.{Answered}
use Rattle.spec.specs.Bytes.{decode, store_of, encode, known, fits, on_bytes, accepts, set_up, Memory}
use Rattle.spec.specs.Run.{Call, Begin, Read, Write, Advance, Abandon, step}
use Rattle.spec.specs.Table.{Open, Table, blank, override, on_stage, update}
use Rattle.spec.specs.Right.{observed}
use Rattle.demands.specs.Afterwards.{after_run, table_after}
use Rattle.demands.specs.Rounds.{Fate, StillOpen, Closed, Abandoned, is_over, fate_by, earlier, fate, Queued, serves, served, Round, round_limit}

-- ---- laws

-- "4 × n × n + 32 rounds, 4,128 for 32"; document 02, 12: "16,416 by the same formula"
pub for_32 : round_limit 32 ≡ 4128
for_32 = refl

pub for_64 : round_limit clients ≡ 16416
for_64 = refl

-- the fate of a transaction that is over is decided by one call, before which it was open
abbrev pub Decided : ℕ → Memory → List Call → Type 0
Decided k m qs =
    (before : List Call) × (q : Call) × (rest : List Call)
    × (qs ≡ before ++ (q ∷ rest)) × (fate k m before ≡ StillOpen) × (fate k m qs ≡ fate_by k q (observed q (after_run before m)))

pub decided : (k : ℕ) (m : Memory) (qs : List Call) → is_over (fate k m qs) ≡ true → Decided k m qs
decided k m [] h = absurd (false≢true h)
decided k m (q ∷ qs) h = go (fate_by k q (observed q m)) refl h (decided k (step q m).memory qs)
  where
    next : Memory
    next = (step q m).memory

    by : {f : Fate} → fate_by k q (observed q m) ≡ f → (l : List Call) → fate k m (q ∷ l) ≡ earlier f (fate k next l)
    by e l = ap (λ (f : Fate). earlier f (fate k next l)) e

    go : (f : Fate) → fate_by k q (observed q m) ≡ f → is_over (earlier f (fate k next qs)) ≡ true
        → (is_over (fate k next qs) ≡ true → Decided k next qs) → Decided k m (q ∷ qs)
    go StillOpen e h rec =
        let r = rec h in (q ∷ r.0, r.1, r.2, ap (λ (l : List Call). q ∷ l) r.3, by e r.0 ∙ r.4, by e qs ∙ r.5)
    go Closed e h rec = ([], q, qs, refl, refl, by e qs ∙ sym e)
    go Abandoned e h rec = ([], q, qs, refl, refl, by e qs ∙ sym e)

-- a round may go on: what comes after all have been served does not unmake it
pub longer : (m : Memory) (t : Table) (qs more : List Call) → Round m t qs → Round m t (qs ++ more)
longer m t qs more r k q = go qs m (r k q)
  where
    one-or : (a b c : Bool) → (b ≡ true → c ≡ true) → (a || b) ≡ true → (a || c) ≡ true
    one-or true b c f e = refl
    one-or false b c f e = f e

    go : (l : List Call) (m : Memory) → served k m l ≡ true → served k m (l ++ more) ≡ true
    go [] m e = absurd (false≢true e)
    go (c ∷ l) m e =
        let n : Memory = (step c m).memory in
        one-or (serves k c (observed c m)) (served k n l) (served k n (l ++ more)) (go l n) e

-- ---- the run

abbrev value : List ℕ
value = replicate 16 0

abbrev fresh : Memory
fresh = (set_up (replicate 72 0) (replicate 24 0) 1 0).memory

abbrev calls : List Call
calls = Begin 0 ∷ Begin 1 ∷ Begin 2 ∷ Write 0 7 value ∷ Write 1 8 value ∷ Advance 0 ∷ Advance 1 ∷ []

abbrev memory : Memory
memory = after_run calls fresh

abbrev table : Table
table = table_after calls fresh blank

abbrev stage_in : Option Open → ℕ
stage_in none = 0
stage_in (some o) = o.stage

-- ---- what is computed

record Computed : Type 0 where
  pub twelve : fate 0 memory (replicate 12 (Advance 0)) ≡ StillOpen
  pub thirteen : fate 0 memory (replicate 13 (Advance 0)) ≡ Closed
  pub waits : stage_in (table.clients 1) ≡ 1
  pub begins : stage_in (table.clients 2) ≡ 0
  pub others : (k : ℕ) → k ≢ 0 → k ≢ 1 → k ≢ 2 → stage_in (table.clients k) ≡ 0
  pub first : served 0 memory (Advance 0 ∷ Abandon 1 ∷ []) ≡ true
  pub second : served 1 memory (Advance 0 ∷ Abandon 1 ∷ []) ≡ true
  pub unserved : served 1 memory (Advance 0 ∷ Read 1 8 ∷ []) ≡ false
  pub gives_up : fate 1 memory (Advance 0 ∷ Abandon 1 ∷ []) ≡ Abandoned

computed : Computed
unfolding
    flatten
    bit member insert remove size collect strike
    spliced number bytes_of data_row tag_of cell_of commit_row commit_number commit_tag row_at rows_in rows_from layout filter has_tag
    lesser smallest above at_least up_to commit_of is_own find version_of newer version_at newest own_or look_for least_looked version_from look_from versions_after value_of
    any count wrote cells_of shares clash conflict
    cleared closed no_versions empty begun begin read replaced added write removed abandon
    queued struck others go_on enter take_request list_requests looked look_requests check take_commit list_commits look_commits add_commit
    leave_commits leave_requests finished advance
    decode store_of encode known fits on_bytes accepts set_up
    blank override on_stage update
computed = record {
  twelve = refl;
  thirteen = refl;
  waits = refl;
  begins = refl;
  others = λ k n0 n1 n2. rw (ne_eqb k 0 n0, ne_eqb k 1 n1, ne_eqb k 2 n2);
  first = refl;
  second = refl;
  unserved = refl;
  gives_up = refl;
}

-- ---- what it shows

idle : (k : ℕ) → k ≢ 0 → k ≢ 1 → Queued table k → ⊥
idle k n0 n1 q =
    omega (
      arith,
      q.2,
      ap stage_in (sym q.1),
      by_cases (ℕ_discrete k 2) (λ e. ap (λ (j : ℕ). stage_in (table.clients j)) e ∙ computed.begins) (λ n2. computed.others k n0 n1 n2),
    )

at_stage_1 : (t : Table) (k : ℕ) (x : Option Open) → t.clients k ≡ x → stage_in x ≡ 1 → Queued t k
at_stage_1 t k none e h = absurd (omega arith)
at_stage_1 t k (some o) e h = (o, e, omega arith, omega arith)

-- "advanced at least once or closed before its end": client 0 is advanced, client 1 abandoned; client 2 needs nothing
pub a_round : Round memory table (Advance 0 ∷ Abandon 1 ∷ [])
a_round k q =
    by_cases (ℕ_discrete k 0)
    (λ e. ap (λ (j : ℕ). served j memory (Advance 0 ∷ Abandon 1 ∷ [])) e ∙ computed.first)
    (λ n0. by_cases (ℕ_discrete k 1)
    (λ e. ap (λ (j : ℕ). served j memory (Advance 0 ∷ Abandon 1 ∷ [])) e ∙ computed.second)
    (λ n1. absurd (idle k n0 n1 q)))

-- "every client at stages 1 to 13": client 1 is not, if it only reads
pub no_round : Round memory table (Advance 0 ∷ Read 1 8 ∷ []) → ⊥
no_round r = false≢true (sym computed.unserved ∙ r 1 (at_stage_1 table 1 (table.clients 1) refl computed.waits))

-- advanced alone, client 0 is closed with the thirteenth Advance, and not before
pub not_in_twelve : fate 0 memory (replicate 12 (Advance 0)) ≡ StillOpen
not_in_twelve = computed.twelve

pub in_thirteen : fate 0 memory (replicate 13 (Advance 0)) ≡ Closed
in_thirteen = computed.thirteen

-- "closed, Done or Conflict", and abandoned is another thing
pub by_conflict : fate_by 3 (Advance 3) (Answered (Conflict 9)) ≡ Closed
by_conflict = refl

pub by_abandon_lem : fate 1 memory (Advance 0 ∷ Abandon 1 ∷ []) ≡ Abandoned
by_abandon_lem = computed.gives_up
