-- Document 01: "Lists name transactions, not clients." In the record a waiting list is a set of clients, and a client that is closed may begin anew.
-- Here it is said of the record itself, after any calls: whoever is on a list has the transaction open that was listed, and it is still in the
-- queue. m is what a set-up handed back, qs the calls since; client k has the list, client j is on it.
-- Assumes nothing.
use Rattle.std.specs.Prelude.{ℕ, ◌≤◌, ◌≡◌, ◌≢◌, true, List, ◌∷◌, ◌++◌, get_or}
use Rattle.spec.specs.Set.{member}
use Rattle.spec.specs.declared.Store.{Store}
use Rattle.spec.specs.declared.Queue.{Queue}
use Rattle.spec.specs.declared.Progress.{Progress}
use Rattle.spec.specs.declared.Progress.TheVariants.{Stage}
use Rattle.spec.specs.Answers.{Answered}
use Rattle.spec.specs.Steps.{request_queue, commit_queue, queued}
use Rattle.spec.specs.Bytes.{Memory, After}
use Rattle.spec.specs.Run.{Call, Advance, step}
use Rattle.demands.specs.Afterwards.{after_run}

-- ---- the two kinds of lists

-- of which queue, where in the record, and the stage that the Advance which makes one answers
pub record WaitingLists : Type 0 where
  pub queue : Queue
  pub kept : Store → List ℕ
  pub made : ℕ

-- 3: "list the other queue rows that share a cell, once", and the stage is 4
abbrev pub request_lists : WaitingLists
request_lists = record { queue = request_queue; kept = λ s. s.request_waits; made = 4 }

-- 9: "list all other commit queue rows, once", and the stage is 10
abbrev pub commit_lists : WaitingLists
commit_lists = record { queue = commit_queue; kept = λ s. s.commit_waits; made = 10 }

-- ---- what a record says

-- client j is on client k's list
abbrev pub OnList : WaitingLists → Store → ℕ → ℕ → Type 0
OnList q s k j = member (get_or (q.kept s) k 0) j ≡ true

-- client j is in the queue
abbrev pub InQueue : WaitingLists → Store → ℕ → Type 0
InQueue q s j = queued q.queue (get_or s.stage j 0) ≡ true

-- the number of client k's open transaction, the W that its Begin took, 0 if none is open; no two transactions have one number (demand 3, `right`)
abbrev pub transaction_of : Store → ℕ → ℕ
transaction_of s k = get_or s.number k 0

-- client k has a transaction open now, and it is the one that it had open then
pub record SameTransaction (then now : Store) (k : ℕ) : Type 0 where
  pub is_open : 1 ≤ transaction_of now k
  pub number : transaction_of then k ≡ transaction_of now k

-- ---- the claim

-- an Advance of client k after the calls `before`: what it left and answered
abbrev pub advanced : Memory → List Call → ℕ → After Progress
advanced m before k = step (Advance k) (after_run before m)

-- one of the calls is the Advance of client k that made the list: it has listed client j, and both clients still have the transactions that they
-- had then
pub record WasListed (q : WaitingLists) (m : Memory) (qs : List Call) (k j : ℕ) : Type 0 where
  pub before : List Call
  pub between : List Call
  pub calls : qs ≡ before ++ (Advance k ∷ between)
  pub made : (advanced m before k).answer ≡ Answered (Stage q.made)
  pub named : OnList q (advanced m before k).memory.store k j
  pub own : SameTransaction (advanced m before k).memory.store (after_run qs m).store k
  pub other : SameTransaction (advanced m before k).memory.store (after_run qs m).store j

-- whoever is on a list is another client, is in the queue, and has the transaction open that was listed
pub record NamesTransaction (q : WaitingLists) (m : Memory) (qs : List Call) (k j : ℕ) : Type 0 where
  pub apart : j ≢ k
  pub waiting : InQueue q (after_run qs m).store j
  pub listed : WasListed q m qs k j

abbrev pub NameTransactions : WaitingLists → Memory → List Call → Type 0
NameTransactions q m qs = (k j : ℕ) → OnList q (after_run qs m).store k j → NamesTransaction q m qs k j

-- the lists of both queues
pub record ListsNameTransactions (m : Memory) (qs : List Call) : Type 0 where
  pub requests : NameTransactions request_lists m qs
  pub commits : NameTransactions commit_lists m qs
