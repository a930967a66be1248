-- What demand 3 says of each answer, by the plain table that was told all calls before it, and of a whole list of calls.
-- Assumes nothing.
use Rattle.std.specs.Prelude.{ℕ, zero, suc, ◌+◌, ◌≤◌, ◌<◌, ◌≡◌, ◌≢◌, ◌⊎◌, Bool, true, false, length, take, drop}
use mathlib.Core.List.{List, [], ◌∷◌, Memᴰ}
use Rattle.std.proofs.Math.Option.{Option, none, some}
use Rattle.std.specs.Prelude.{if◌then◌else◌}
use Rattle.spec.specs.Set.{clients}
use Rattle.spec.specs.Rows.{data_rows_in, cells}
use Rattle.spec.specs.declared.Begun.{Begun}
use Rattle.spec.specs.declared.Progress.{Progress}
use Rattle.spec.specs.declared.Progress.TheVariants.{Stage, Waiting, Conflict, Done}
use Rattle.spec.specs.Answers.{
  Answer,
  Answered,
  Refused,
  unfit,
  no_client,
  no_cell,
  already_open,
  wrong_stage,
  numbers_used_up,
  cell_limit,
  no_free_row,
  wrong_length,
}
use Rattle.spec.specs.Numbers.{top}
use Rattle.spec.specs.Bytes.{rows_of, fits, limit_of, Memory}
use Rattle.spec.specs.Run.{Call, Begin, Read, Write, Advance, Abandon, Trim, Free, refusals, Listed, step}
use Rattle.spec.specs.Table.{Value, Values, has, Commit, Open, Table, or_else, Observed, observe_answer, update}

-- ---- the words of the demands

-- what a set-up gives its store: the rows, and the cell limit, how many cells a transaction may write
pub record Bounds : Type 0 where
  pub rows : ℕ
  pub limit : ℕ

-- by the data buffer and the limit that it was given
abbrev pub bounds_of : List ℕ → ℕ → Bounds
bounds_of d l = record { rows = rows_of (length d); limit = limit_of l }

-- the last number in the book, 0 if there is none
unfoldable pub last_number : List Commit → ℕ
last_number [] = 0
last_number (e ∷ []) = e.number
last_number (e ∷ f ∷ l) = last_number (f ∷ l)

-- the commit shares a cell with the writes
abbrev pub Shares : Commit → Values → Type 0
Shares e w = (x : ℕ) × (e.wrote x ≡ true) × (has (w x) ≡ true)

-- "the commits in the book since the client began that share a cell with its writes"
pub record Clash (t : Table) (o : Open) (e : Commit) : Type 0 where
  pub since : Memᴰ e (drop o.since t.book)
  pub shares : Shares e o.writes

abbrev pub NoClash : Table → Open → Type 0
NoClash t o = (e : Commit) → Clash t o e → ⊥

-- how many cells below n have a value
unfoldable pub valued : ℕ → Values → ℕ
valued zero w = 0
valued (suc n) w = (if has (w n) then 1 else 0) + valued n w

-- the client has written a cell
abbrev pub Wrote : Open → Type 0
Wrote o = (x : ℕ) × (has (o.writes x) ≡ true)

-- ---- Done with number n, to a client that was open: in one of two ways

-- with its commit: "closed only by Done, which gives its commit number, by then in the book"
pub record DoneCommitted (t : Table) (o : Open) (n : ℕ) : Type 0 where
  pub from : o.stage ≡ 13
  pub number : n ≡ o.commit
  pub booked : (e : Commit) × (e.number ≡ n) × Memᴰ e t.book

-- document 02, 2, without a change: "at stage 0 with nothing written"; "the number given is the last in the book when the client began, 0 if
-- none"
pub record DoneUnchanged (t : Table) (o : Open) (n : ℕ) : Type 0 where
  pub from : o.stage ≡ 0
  pub nothing : Wrote o → ⊥
  pub number : n ≡ last_number (take o.since t.book)

-- ---- an Advance of an open client, by its answer

-- "With Stage 12 its commit is made": "the book still has no such commit but its own", and its number is above all in the book: "Numbers in the
-- book rise"
pub record Commits (t : Table) (o : Open) : Type 0 where
  pub alone : NoClash t o
  pub above : last_number t.book < o.commit

-- "Each call of Advance takes the one step that its stage calls for", "Advance answers Stage with the new stage": the stages follow document 01's
-- table, 13 is the last; with nothing written stage 1 is never reached, so nothing of it "enters a queue" (document 02, 2); the check answers
-- "Stage 6 if there are none" of such commits
pub record StageAnswered (t : Table) (o : Open) (g : ℕ) : Type 0 where
  pub next : g ≡ o.stage + 1
  pub most : g ≤ 13
  pub wrote : g ≡ 1 → Wrote o
  pub passed : g ≡ 6 → NoClash t o
  pub made : g ≡ 12 → Commits t o

-- "at 4 and 10, Waiting with the number of transactions still on its list": with none left it does not wait
pub record WaitingAnswered (o : Open) (n : ℕ) : Type 0 where
  pub stage : (o.stage ≡ 4) ⊎ (o.stage ≡ 10)
  pub left : 1 ≤ n

-- "The check is an Advance at stage 5: it answers Conflict with the smallest number among the commits in the book since the client began that
-- share a cell with its writes"; "no other call answers Conflict"
pub record ConflictAnswered (t : Table) (o : Open) (n : ℕ) : Type 0 where
  pub stage : o.stage ≡ 5
  pub commit : Commit
  pub number : commit.number ≡ n
  pub clash : Clash t o commit
  pub smallest : (e : Commit) → Clash t o e → n ≤ e.number

abbrev pub RightProgress : Table → Open → Progress → Type 0
RightProgress t o (Stage g) = StageAnswered t o g
RightProgress t o (Waiting n) = WaitingAnswered o n
RightProgress t o (Conflict n) = ConflictAnswered t o n
RightProgress t o (Done n) = DoneCommitted t o n ⊎ DoneUnchanged t o n

-- an answered Advance is one of an open client
pub record AdvanceAnswered (t : Table) (k : ℕ) (a : Progress) : Type 0 where
  pub entry : Open
  pub found : t.clients k ≡ some entry
  pub progress : RightProgress t entry a

-- an Advance of an open client is never refused: neither with 11, which "never occurs any more" (document 02, 2), nor with 2: a store grown from
-- set-up does not meet the refusals 2 of Advance
abbrev pub RightAdvance : Table → ℕ → Answer Progress → Type 0
RightAdvance t k (Answered a) = AdvanceAnswered t k a
RightAdvance t k (Refused n) = t.clients k ≡ none

-- ---- a Begin of client k; next is the next number to be issued

-- "Begin takes the next W", "taking a number adds 1 and gives the result": the number is the next one, while there is one; "the snapshot that Begin
-- answers is the last of them, 0 if there is none"; "no Begin of it is answered" while a client is open
pub record BeginAnswered (next : ℕ) (t : Table) (k : ℕ) (b : Begun) : Type 0 where
  pub client : k < clients
  pub closed : t.clients k ≡ none
  pub number : b.number ≡ next
  pub most : b.number ≤ top
  pub snapshot : b.snapshot ≡ last_number t.book

-- refused with n: "2 unfit store, 3 client above 31, 5 already open, 8 if W 4,294,967,295 has been issued", in this order and for nothing else, so
-- never with 6; with 2 only a closed client's, after a refused set-up (never after another: `AllFit`). Document 02, 12: "refusal 3 begins at 64"
pub data BeginRefusal (next k : ℕ) (opened : Bool) : ℕ → Type 0 where
  for_store : opened ≡ false → BeginRefusal next k opened unfit
  for_client : clients ≤ k → BeginRefusal next k opened no_client
  for_open : k < clients → opened ≡ true → BeginRefusal next k opened already_open
  for_numbers : k < clients → opened ≡ false → top < next → BeginRefusal next k opened numbers_used_up

abbrev pub RightBegin : ℕ → Table → ℕ → Answer Begun → Type 0
RightBegin next t k (Answered b) = BeginAnswered next t k b
RightBegin next t k (Refused n) = BeginRefusal next k (has (t.clients k)) n

-- ---- a Read of cell x by client k

-- "An answered Read gives the client's own value for the cell, else its copy's, Unwritten if that has none"; at every stage from 0 to 11, as
-- document 02, 1 asks: "Reads during a commit obey the same rule of one moment as earlier reads"; and of a cell that there is
pub record ReadAnswered (t : Table) (k x : ℕ) (v : Option Value) : Type 0 where
  pub entry : Open
  pub found : t.clients k ≡ some entry
  pub value : v ≡ or_else (entry.writes x) (entry.copy x)
  pub stage : entry.stage ≤ 11
  pub cell : x < cells

-- document 02, 1: "Read now answers at stages 1 to 11 [..]; stages 12 and 13 still give 7": at stage g an open client's Read of cell x is refused
-- with 4 for its cell, or with 7 from stage 12 on, and for nothing else, so never with 6
pub data ReadRefusal (x g : ℕ) : ℕ → Type 0 where
  for_no_cell : cells ≤ x → ReadRefusal x g no_cell
  for_late : x < cells → 12 ≤ g → ReadRefusal x g wrong_stage

abbrev pub RightRead : Table → ℕ → ℕ → Answer (Option Value) → Type 0
RightRead t k x (Answered v) = ReadAnswered t k x v
RightRead t k x (Refused n) = (o : Open) → t.clients k ≡ some o → ReadRefusal x o.stage n

-- ---- a Write of value v to cell x by an open client at stage g with the writes w, under a cell limit

-- of a cell that there is, with sixteen bytes, at stage 0
pub record Writable (g x : ℕ) (v : Value) : Type 0 where
  pub cell : x < cells
  pub bytes : length v ≡ 16
  pub stage : g ≡ 0

-- answered only so: a new cell with fewer cells written than the limit, which is 8 where set-up was given 0 (document 02, 9)
pub record WriteAllowed (limit g : ℕ) (w : Values) (x : ℕ) (v : Value) : Type 0 where
  pub may : Writable g x v
  pub fewer : has (w x) ≡ false → valued cells w < limit

-- an answered Write is one of an open client; f, what it answers, is the free figure, as Free would answer next
pub record WriteAnswered (limit : ℕ) (t : Table) (k x : ℕ) (v : Value) (f : ℕ) (next : Answer ℕ) : Type 0 where
  pub entry : Open
  pub found : t.clients k ≡ some entry
  pub allowed : WriteAllowed limit entry.stage entry.writes x v
  pub figure : next ≡ Answered f

-- refused with n: "4, 12 value not 16 bytes, [..] 7; then, if it has no row for that cell yet, 9 cell limit reached, 10 no free row", in this order
-- and for nothing else, so never with 6; next is what Free would answer next
pub data WriteRefusal (limit g : ℕ) (w : Values) (x : ℕ) (v : Value) (next : Answer ℕ) : ℕ → Type 0 where
  for_cell : cells ≤ x → WriteRefusal limit g w x v next no_cell
  for_length : x < cells → length v ≢ 16 → WriteRefusal limit g w x v next wrong_length
  for_stage : x < cells → length v ≡ 16 → 1 ≤ g → WriteRefusal limit g w x v next wrong_stage
  for_limit : Writable g x v → has (w x) ≡ false → limit ≤ valued cells w → WriteRefusal limit g w x v next cell_limit
  for_rows : Writable g x v → has (w x) ≡ false → valued cells w < limit → next ≡ Answered 0 → WriteRefusal limit g w x v next no_free_row

abbrev pub RightWrite : ℕ → Table → ℕ → ℕ → Value → Answer ℕ → Answer ℕ → Type 0
RightWrite limit t k x v (Answered f) next = WriteAnswered limit t k x v f next
RightWrite limit t k x v (Refused n) next = (o : Open) → t.clients k ≡ some o → WriteRefusal limit o.stage o.writes x v next n

-- ---- the other calls

-- an answered Abandon is one of an open client; from stage 12 on none is answered; f, what it answers, is the free figure, as Free would answer
-- next
pub record AbandonAnswered (t : Table) (k f : ℕ) (next : Answer ℕ) : Type 0 where
  pub entry : Open
  pub found : t.clients k ≡ some entry
  pub stage : entry.stage < 12
  pub figure : next ≡ Answered f

-- "7 at stages 12 and 13": at stage g an open client's Abandon is refused with 7 from stage 12 on, and for nothing else: "no call of that client
-- gets 6"
pub data AbandonRefusal (g : ℕ) : ℕ → Type 0 where
  for_commit : 12 ≤ g → AbandonRefusal g wrong_stage

abbrev pub RightAbandon : Table → ℕ → Answer ℕ → Answer ℕ → Type 0
RightAbandon t k (Answered f) next = AbandonAnswered t k f next
RightAbandon t k (Refused n) next = (o : Open) → t.clients k ≡ some o → AbandonRefusal o.stage n

-- "the free figure, as Free would answer next, is the set-up's rows less the cells with a value in the table": together they are the rows
pub record TrimmedFree (rows : ℕ) (t : Table) (next : Answer ℕ) : Type 0 where
  pub free : ℕ
  pub figure : next ≡ Answered free
  pub whole : free + valued cells t.values ≡ rows

-- so "after an answered Trim with no client open"; a Trim is refused after a refused set-up alone, as a Free is (`AllFit`, `AllListed`)
abbrev pub RightTrim : ℕ → Table → Answer ℕ → Answer ℕ → Type 0
RightTrim rows t (Answered n) next = ((k : ℕ) → t.clients k ≡ none) → TrimmedFree rows t next
RightTrim rows t (Refused n) next = Unit {0}

-- ---- every call

-- of a store with these bounds: the answer a to a call q is right, by the table t and the next number w to be issued; next is what Free would
-- answer next
abbrev pub Right : Bounds → ℕ → Table → (q : Call) → Answer (Observed q) → Answer ℕ → Type 0
Right b w t (Begin k) a next = RightBegin w t k a
Right b w t (Read k x) a next = RightRead t k x a
Right b w t (Write k x v) a next = RightWrite b.limit t k x v a next
Right b w t (Advance k) a next = RightAdvance t k a
Right b w t (Abandon k) a next = RightAbandon t k a next
Right b w t Trim a next = RightTrim b.rows t a next
Right b w t Free a next = Unit {0}

-- the next number to be issued, after this call: one above the last that a Begin answered, at first the first W
abbrev pub next_after : (q : Call) → Answer (Observed q) → ℕ → ℕ
next_after (Begin k) (Answered b) w = b.number + 1
next_after (Begin k) (Refused n) w = w
next_after (Read k x) a w = w
next_after (Write k x v) a w = w
next_after (Advance k) a w = w
next_after (Abandon k) a w = w
next_after Trim a w = w
next_after Free a w = w

-- ---- a list of calls on a record and two buffers

-- what a call tells: a read's value is that of the data rows in use when it returns
abbrev pub observed : (q : Call) → Memory → Answer (Observed q)
observed q m = observe_answer q (data_rows_in (step q m).memory.store.used (step q m).memory.data_bytes) (step q m).answer

-- Every answer of the list is right, by the plain table that was told the calls and answers before it.
abbrev pub RightRun : Bounds → ℕ → Table → Memory → List Call → Type 0
RightRun b w t m [] = Unit {0}
RightRun b w t m (q ∷ qs) =
    Right b w t q (observed q m) (step Free (step q m).memory).answer
    × RightRun b (next_after q (observed q m) w) (update q (observed q m) t) (step q m).memory qs

-- the call gets 2 and changes nothing; so does every call of the list
pub record GetsUnfit (q : Call) (m : Memory) : Type 0 where
  pub answer : (step q m).answer ≡ Refused unfit
  pub memory : (step q m).memory ≡ m

abbrev pub AllUnfit : Memory → List Call → Type 0
AllUnfit m [] = Unit {0}
AllUnfit m (q ∷ qs) = GetsUnfit q m × AllUnfit m qs

-- a record and two buffers that are fit
abbrev pub Fit : Memory → Type 0
Fit m = fits m.store (length m.data_bytes) (length m.commit_bytes) ≡ true

-- the call leaves a fit store, and was not refused with 2: neither for an unfit store nor, as document 01 has it of an Advance, because "the R or C
-- to be taken is already 4,294,967,295, or the committed buffer is full at stage 11. A store grown from set-up meets neither."
pub record StaysFit (q : Call) (m : Memory) : Type 0 where
  pub after : Fit (step q m).memory
  pub answer : (step q m).answer ≢ Refused unfit

-- so does every call of the list
abbrev pub AllFit : Memory → List Call → Type 0
AllFit m [] = Unit {0}
AllFit m (q ∷ qs) = StaysFit q m × AllFit (step q m).memory qs

-- every refused call of the list gets a number that document 01 has for it
abbrev pub AllListed : Memory → List Call → Type 0
AllListed m [] = Unit {0}
AllListed m (q ∷ qs) = Listed (refusals q) (step q m).answer × AllListed (step q m).memory qs
