-- The plain table of document 01 ("The plain table"). It is fed the calls, their arguments and their answers, never the record or the buffers.
-- Client k, cell x, value v.
-- Assumes nothing.
use Rattle.std.specs.Prelude.{ℕ, ◌+◌, Bool, true, false, List, [], ◌∷◌, ◌++◌, length, get_or, eqb, None, Some}
use Rattle.std.proofs.Math.Option.{Option, none, some}
use Rattle.std.specs.Prelude.{if◌then◌else◌}
use Rattle.spec.specs.Rows.{Row, value_of}
use Rattle.spec.specs.declared.Begun.{Begun}
use Rattle.spec.specs.declared.Progress.{Progress}
use Rattle.spec.specs.declared.Progress.TheVariants.{Stage, Waiting, Conflict, Done}
use Rattle.spec.specs.Answers.{Answer, Answered, Refused, Reading}
use Rattle.spec.specs.Run.{Call, Begin, Read, Write, Advance, Abandon, Trim, Free, Result}

-- the sixteen bytes of a value
abbrev pub Value : Type 0
Value = List ℕ

-- for each cell a value or unwritten
abbrev pub Values : Type 0
Values = ℕ → Option Value

abbrev pub unwritten : Values
unwritten x = none

-- there is a value
abbrev pub has : {A : Type 0} → Option A → Bool
has none = false
has (some v) = true

-- "a book of commits, each with number and cells"
pub record Commit : Type 0 where
  pub number : ℕ
  pub wrote : ℕ → Bool

-- "For each open client it keeps a copy of the table and the book's length as they were when it began, its writes by cell, its stage and its
-- commit number."
pub record Open : Type 0 where
  pub copy : Values
  pub since : ℕ
  pub writes : Values
  pub stage : ℕ
  pub commit : ℕ

-- "It keeps for each cell a value or unwritten [..]; a count of commit numbers [..]; a book of commits": the oldest commit stands first
pub record Table : Type 0 where
  pub values : Values
  pub count : ℕ
  pub book : List Commit
  pub clients : ℕ → Option Open

-- "at first all unwritten", "at first 0", "at first empty"
unfoldable pub blank : Table
blank = record { values = unwritten; count = 0; book = []; clients = λ k. none }

-- ---- changes

-- what stands at k replaced
unfoldable pub override : {A : Type 0} → ℕ → A → (ℕ → A) → ℕ → A
override k a f j = if eqb j k then a else f j

-- the one value, else the other
abbrev pub or_else : Option Value → Option Value → Option Value
or_else none o = o
or_else (some v) o = some v

-- writes laid over values
abbrev pub overlay : Values → Values → Values
overlay w t x = or_else (w x) (t x)

abbrev pub with_client : ℕ → Option Open → Table → Table
with_client k o t = record { values = t.values; count = t.count; book = t.book; clients = override k o t.clients }

-- the same client with other writes; at another stage, with a commit number
abbrev pub with_writes : Values → Open → Open
with_writes w o = record { copy = o.copy; since = o.since; writes = w; stage = o.stage; commit = o.commit }

abbrev pub at_stage : ℕ → ℕ → Open → Open
at_stage g n o = record { copy = o.copy; since = o.since; writes = o.writes; stage = g; commit = n }

-- ---- what an answered call does to the table

-- "Begin: the client is open, at stage 0, with no writes."
abbrev pub newly_open : Table → Open
newly_open t = record { copy = t.values; since = length t.book; writes = unwritten; stage = 0; commit = 0 }

-- "Write: the value replaces the client's earlier one for that cell."
abbrev pub on_write : ℕ → ℕ → Value → Table → Option Open → Table
on_write k x v t none = t
on_write k x v t (some o) = with_client k (some (with_writes (override x (some v) o.writes) o)) t

-- "With Stage 8 the count rises by 1 and is its commit number."
abbrev pub on_number : ℕ → Table → Open → Table
on_number k t o = record {
  values = t.values;
  count = t.count + 1;
  book = t.book;
  clients = override k (some (at_stage 8 (t.count + 1) o)) t.clients;
}

-- "With Stage 12 its commit is made: all its writes go into the table, its number and cells to the end of the book."
abbrev pub on_commit : ℕ → Table → Open → Table
on_commit k t o = record {
  values = overlay o.writes t.values;
  count = t.count;
  book = t.book ++ (record { number = o.commit; wrote = λ x. has (o.writes x) } ∷ []);
  clients = override k (some (at_stage 12 o.commit o)) t.clients;
}

-- "Advance answering Stage: that becomes its stage."
unfoldable pub on_stage : ℕ → ℕ → Table → Option Open → Table
on_stage k g t none = t
on_stage k g t (some o) =
    if eqb g 8 then on_number k t o else
    if eqb g 12 then on_commit k t o else
    with_client k (some (at_stage g o.commit o)) t

-- "Advance answering Conflict or Done, and Abandon: the client is closed, its writes forgotten."
abbrev pub on_close : ℕ → Table → Table
on_close k t = with_client k none t

abbrev pub on_progress : ℕ → Table → Progress → Table
on_progress k t (Stage g) = on_stage k g t (t.clients k)
on_progress k t (Waiting n) = t
on_progress k t (Conflict n) = on_close k t
on_progress k t (Done n) = on_close k t

-- ---- calls and answers as the table is told them

-- what a call gives, with the value itself for a read
abbrev pub Observed : Call → Type 0
Observed (Begin k) = Begun
Observed (Read k x) = Option Value
Observed (Write k x v) = ℕ
Observed (Advance k) = Progress
Observed (Abandon k) = ℕ
Observed Trim = ℕ
Observed Free = ℕ

-- "hands back the sixteen bytes as they stand in the data buffer": ds are the data rows in use when the call returns
abbrev pub bytes_read : List Row → Reading → Option Value
bytes_read ds (Some at) = some (value_of (get_or ds at []))
bytes_read ds None = none

abbrev pub observe : (q : Call) → List Row → Result q → Observed q
observe (Begin k) ds a = a
observe (Read k x) ds a = bytes_read ds a
observe (Write k x v) ds a = a
observe (Advance k) ds a = a
observe (Abandon k) ds a = a
observe Trim ds a = a
observe Free ds a = a

abbrev pub observe_answer : (q : Call) → List Row → Answer (Result q) → Answer (Observed q)
observe_answer q ds (Answered a) = Answered (observe q ds a)
observe_answer q ds (Refused n) = Refused n

-- "A refused call changes nothing." "Waiting, Read, Trim, Free: nothing changes."
abbrev pub effect : (q : Call) → Observed q → Table → Table
effect (Begin k) a t = with_client k (some (newly_open t)) t
effect (Read k x) a t = t
effect (Write k x v) a t = on_write k x v t (t.clients k)
effect (Advance k) a t = on_progress k t a
effect (Abandon k) a t = on_close k t
effect Trim a t = t
effect Free a t = t

unfoldable pub update : (q : Call) → Answer (Observed q) → Table → Table
update q (Answered a) t = effect q a t
update q (Refused n) t = t
