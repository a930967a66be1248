-- Document 02, 8, "Nobody waits for ever". A list of calls is cut into rounds. What a round is, and what becomes of a transaction, is told from
-- the calls and their answers alone: the stages are the plain table's. m is the record and the buffers as a call finds them, t the plain table
-- that was told the calls before, k a client.
-- Assumes nothing.
use Rattle.std.specs.Prelude.{ℕ, zero, suc, ◌+◌, ◌*◌, ◌≤◌, ◌<◌, ◌≡◌, ◌≢◌, Bool, true, false, ◌||◌, eqb, length}
use mathlib.Core.List.{List, [], ◌∷◌, flatten}
use Rattle.std.proofs.Math.Option.{Option, none, some}
use Rattle.std.specs.Prelude.{if◌then◌else◌}
use Rattle.spec.specs.Set.{clients}
use Rattle.spec.specs.declared.Progress.{Progress}
use Rattle.spec.specs.declared.Progress.TheVariants.{Stage, Waiting, Conflict, Done}
use Rattle.spec.specs.Answers.{Answer, Answered, Refused}
use Rattle.spec.specs.Run.{Call, Begin, Read, Write, Advance, Abandon, Trim, Free, step}
use Rattle.spec.specs.Bytes.{Memory}
use Rattle.spec.specs.Table.{Open, Table, blank, Observed}
use Rattle.spec.specs.Right.{observed}
use Rattle.demands.specs.Afterwards.{after_run, table_after}

-- ---- "where only clients below n are named"

-- the number that a call names its client by
abbrev pub named : Call → Option ℕ
named (Begin k) = some k
named (Read k x) = some k
named (Write k x v) = some k
named (Advance k) = some k
named (Abandon k) = some k
named Trim = none
named Free = none

-- a client that the call names is below n; a number from `clients` on is no client's, and is refused
abbrev pub Below : ℕ → Call → Type 0
Below n q = (k : ℕ) → named q ≡ some k → k < clients → k < n

abbrev pub AllBelow : ℕ → List Call → Type 0
AllBelow n [] = Unit {0}
AllBelow n (q ∷ qs) = Below n q × AllBelow n qs

-- ---- what becomes of a transaction

-- "closed, Done or Conflict", or abandoned
pub data Fate : Type 0 where
  StillOpen : Fate
  Closed : Fate
  Abandoned : Fate

abbrev pub is_over : Fate → Bool
is_over StillOpen = false
is_over Closed = true
is_over Abandoned = true

-- by the answer to its Advance, and to its Abandon
abbrev pub by_advance : Answer Progress → Fate
by_advance (Answered (Stage g)) = StillOpen
by_advance (Answered (Waiting n)) = StillOpen
by_advance (Answered (Conflict n)) = Closed
by_advance (Answered (Done n)) = Closed
by_advance (Refused n) = StillOpen

abbrev pub by_abandon : Answer ℕ → Fate
by_abandon (Answered n) = Abandoned
by_abandon (Refused n) = StillOpen

-- by a call so answered, if it is client k's
abbrev pub fate_by : ℕ → (q : Call) → Answer (Observed q) → Fate
fate_by k (Begin j) a = StillOpen
fate_by k (Read j x) a = StillOpen
fate_by k (Write j x v) a = StillOpen
fate_by k (Advance j) a = if eqb j k then by_advance a else StillOpen
fate_by k (Abandon j) a = if eqb j k then by_abandon a else StillOpen
fate_by k Trim a = StillOpen
fate_by k Free a = StillOpen

-- the first call that ends it decides
abbrev pub earlier : Fate → Fate → Fate
earlier StillOpen f = f
earlier Closed f = Closed
earlier Abandoned f = Abandoned

-- by a list of calls, if it is the one that client k has open
abbrev pub fate : ℕ → Memory → List Call → Fate
fate k m [] = StillOpen
fate k m (q ∷ qs) = earlier (fate_by k q (observed q m)) (fate k (step q m).memory qs)

-- ---- "Call it a round when every client at stages 1 to 13 at its start is advanced at least once or closed before its end."

-- client k is at one of the stages 1 to 13: its transaction "has entered the request queue"
abbrev pub Queued : Table → ℕ → Type 0
Queued t k = (o : Open) × (t.clients k ≡ some o) × (1 ≤ o.stage) × (o.stage ≤ 13)

-- the call is an Advance of client k
abbrev pub is_advance : ℕ → Call → Bool
is_advance k (Begin j) = false
is_advance k (Read j x) = false
is_advance k (Write j x v) = false
is_advance k (Advance j) = eqb j k
is_advance k (Abandon j) = false
is_advance k Trim = false
is_advance k Free = false

-- client k is advanced by a call so answered, whatever the answer, or closed by it
abbrev pub serves : ℕ → (q : Call) → Answer (Observed q) → Bool
serves k q a = is_advance k q || is_over (fate_by k q a)

-- by one of the calls
abbrev pub served : ℕ → Memory → List Call → Bool
served k m [] = false
served k m (q ∷ qs) = serves k q (observed q m) || served k (step q m).memory qs

abbrev pub Round : Memory → Table → List Call → Type 0
Round m t qs = (k : ℕ) → Queued t k → served k m qs ≡ true

-- each is a round, and begins where the one before it ended
abbrev pub Rounds : Memory → Table → List (List Call) → Type 0
Rounds m t [] = Unit {0}
Rounds m t (r ∷ rs) = Round m t r × Rounds (after_run r m) (table_after r m t) rs

-- ---- the limit

-- "4 × n × n + 32"
abbrev pub round_limit : ℕ → ℕ
round_limit n = 4 * n * n + 32

-- "a transaction that has entered the request queue and isn't abandoned is closed, Done or Conflict, within" so many rounds
abbrev pub ClosedWithin : ℕ → Memory → Table → List (List Call) → Type 0
ClosedWithin most m t rounds =
    Rounds m t rounds → most ≤ length rounds
    → (k : ℕ) → Queued t k → fate k m (flatten rounds) ≢ Abandoned → fate k m (flatten rounds) ≡ Closed

-- "In a store grown from set-up where only clients below n are named": grown by the calls qs, m is what the set-up handed back
abbrev pub NobodyWaits : Memory → List Call → Type 0
NobodyWaits m qs =
    (n : ℕ) → AllBelow n qs → (rounds : List (List Call)) → AllBelow n (flatten rounds)
    → ClosedWithin (round_limit n) (after_run qs m) (table_after qs m blank) rounds

-- document 02, 12: "The limit on rounds becomes 16,416 by the same formula": whoever is named
abbrev pub WhoeverCalls : Memory → List Call → Type 0
WhoeverCalls m qs = (rounds : List (List Call)) → ClosedWithin 16416 (after_run qs m) (table_after qs m blank) rounds

-- ---- there are such rounds: to advance the clients below n in turn is one

abbrev pub in_turn : ℕ → List Call
in_turn zero = []
in_turn (suc k) = Advance k ∷ in_turn k

abbrev pub RoundsExist : Memory → List Call → Type 0
RoundsExist m qs = (n : ℕ) → AllBelow n qs → AllBelow n (in_turn n) × Round (after_run qs m) (table_after qs m blank) (in_turn n)
