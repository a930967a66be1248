-- Demand 3 of document 01 ("The plain table"): "one claim about the whole list of calls", from what one set-up handed back. d and c are the
-- bytes of the buffers given to set-up, w the first W, l the limit, qs the calls; client k, cell x.
-- Assumes nothing.
use Rattle.std.specs.Prelude.{ℕ, ◌≤◌, ◌<◌, ◌≡◌, ◌≢◌, true, false, length}
use mathlib.Core.List.{List, [], ◌∷◌, ◌++◌, Memᴰ}
use Rattle.std.proofs.Math.Option.{Option, some}
use Rattle.spec.specs.declared.Begun.{Begun}
use Rattle.spec.specs.declared.Progress.{Progress}
use Rattle.spec.specs.declared.Progress.TheVariants.{Stage, Waiting, Conflict, Done}
use Rattle.spec.specs.Answers.{Answered}
use Rattle.spec.specs.Rows.{cells}
use Rattle.spec.specs.Bytes.{limit_of, accepts, set_up, Memory}
use Rattle.spec.specs.Run.{Call, Begin, Read, Write, Advance, Abandon, Trim, Free, step}
use Rattle.spec.specs.Table.{Value, Values, has, Commit, Open, Table, blank, Observed}
use Rattle.spec.specs.Right.{bounds_of, valued, observed, RightRun, AllListed, AllUnfit, AllFit}
use Rattle.demands.specs.Afterwards.{after_run, table_after}
use Rattle.demands.specs.Listing.{ListsNameTransactions}
use Rattle.demands.specs.Rounds.{NobodyWaits, WhoeverCalls, RoundsExist}
use Rattle.demands.specs.Versions.{FullLooks, Entries}

-- ---- the book

-- each number is below the next
abbrev pub Rising : List Commit → Type 0
Rising [] = Unit {0}
Rising (e ∷ []) = Unit {0}
Rising (e ∷ f ∷ l) = (e.number < f.number) × Rising (f ∷ l)

-- a commit in the book wrote the cell
abbrev pub Committed : ℕ → List Commit → Type 0
Committed x l = (e : Commit) × Memᴰ e l × (e.wrote x ≡ true)

-- the cell has a value just where it was ever committed
pub record Valued (x : ℕ) (t : Values) (l : List Commit) : Type 0 where
  pub ever : has (t x) ≡ true → Committed x l
  pub still : Committed x l → has (t x) ≡ true

-- ---- the cell limit

-- the client has written at most as many cells as the limit says
abbrev pub Within : ℕ → Open → Type 0
Within limit o = valued cells o.writes ≤ limit

-- so has every open client
abbrev pub Capped : ℕ → Table → Type 0
Capped limit t = (k : ℕ) (o : Open) → t.clients k ≡ some o → Within limit o

-- ---- what happens between two calls of one transaction

-- this progress does not end the transaction
abbrev pub GoesOn : Progress → Type 0
GoesOn (Stage g) = Unit {0}
GoesOn (Waiting n) = Unit {0}
GoesOn (Conflict n) = ⊥
GoesOn (Done n) = ⊥

-- nor does it make its commit
abbrev pub Waits : Progress → Type 0
Waits (Stage g) = g ≢ 12
Waits (Waiting n) = Unit {0}
Waits (Conflict n) = ⊥
Waits (Done n) = ⊥

-- a call so answered does not abandon the transaction of client k; a Write of k goes to a cell as W says, an Advance of k is answered as P says
abbrev pub Spares : (ℕ → Type 0) → (Progress → Type 0) → ℕ → (q : Call) → Observed q → Type 0
Spares W P k (Begin j) a = Unit {0}
Spares W P k (Read j y) a = Unit {0}
Spares W P k (Write j y v) a = j ≡ k → W y
Spares W P k (Advance j) a = j ≡ k → P a
Spares W P k (Abandon j) a = j ≢ k
Spares W P k Trim a = Unit {0}
Spares W P k Free a = Unit {0}

-- every answered call of the list is such a call
abbrev pub Undisturbed : (ℕ → Type 0) → (Progress → Type 0) → ℕ → Memory → List Call → Type 0
Undisturbed W P k m [] = Unit {0}
Undisturbed W P k m (q ∷ qs) = ((a : Observed q) → observed q m ≡ Answered a → Spares W P k q a) × Undisturbed W P k (step q m).memory qs

-- ---- reads of one transaction

-- a cell other than x
abbrev pub Besides : ℕ → ℕ → Type 0
Besides x y = y ≢ x

-- two answered reads of one client at one cell, in one transaction and with no write of it to the cell between them, give the same
abbrev pub Steady : Memory → List Call → Type 0
Steady m qs =
    (k x : ℕ) (before between rest : List Call) (u v : Option Value)
    → qs ≡ before ++ (Read k x ∷ (between ++ (Read k x ∷ rest)))
    → observed (Read k x) (after_run before m) ≡ Answered u
    → Undisturbed (Besides x) GoesOn k (after_run (before ++ (Read k x ∷ [])) m) between
    → observed (Read k x) (after_run (before ++ (Read k x ∷ between)) m) ≡ Answered v
    → u ≡ v

-- until its commit is made, a client that has read a cell is answered again there, and alike
abbrev pub Unbroken : Memory → List Call → Type 0
Unbroken m qs =
    (k x : ℕ) (before between rest : List Call) (u : Option Value)
    → qs ≡ before ++ (Read k x ∷ (between ++ (Read k x ∷ rest)))
    → observed (Read k x) (after_run before m) ≡ Answered u
    → Undisturbed (Besides x) Waits k (after_run (before ++ (Read k x ∷ [])) m) between
    → observed (Read k x) (after_run (before ++ (Read k x ∷ between)) m) ≡ Answered u

-- ---- an enquiry

-- no cell, and no answer
abbrev pub Nowhere : ℕ → Type 0
Nowhere y = ⊥

abbrev pub Never : Progress → Type 0
Never a = ⊥

-- a client that has begun, and neither wrote nor advanced since, is answered Done with the snapshot that its Begin was answered with
abbrev pub Enquiry : Memory → List Call → Type 0
Enquiry m qs =
    (k : ℕ) (before between rest : List Call) (b : Begun)
    → qs ≡ before ++ (Begin k ∷ (between ++ (Advance k ∷ rest)))
    → observed (Begin k) (after_run before m) ≡ Answered b
    → Undisturbed Nowhere Never k (after_run (before ++ (Begin k ∷ [])) m) between
    → observed (Advance k) (after_run (before ++ (Begin k ∷ between)) m) ≡ Answered (Done b.snapshot)

-- ---- the demand

pub record Demand3 (d c : List ℕ) (w l : ℕ) (qs : List Call) : Type 0 where
  -- every answer is right by the plain table that was told the calls and answers before it: `Right` says what that is for each call, beside
  -- document 01's sentences, from "the snapshot that Begin answers is the last of them" to the free figure "after an answered Trim"; the first
  -- number that a Begin answers is w: "W starts one below the first W given at set-up"
  pub right : RightRun (bounds_of d l) w blank (set_up d c w l).memory qs
  -- "Numbers in the book rise"
  pub rising : Rising (table_after qs (set_up d c w l).memory blank).book
  -- "the cells with a value in the table: those are the cells ever committed"
  pub valued : (x : ℕ) → Valued x (table_after qs (set_up d c w l).memory blank).values (table_after qs (set_up d c w l).memory blank).book
  -- "repeated reads need no read set": what a client reads in a cell stays the same until its transaction ends, its own writes there apart;
  -- through all stages of its commit, as document 02, 1 asks: "Reads during a commit obey the same rule of one moment as earlier reads"
  pub steady : Steady (set_up d c w l).memory qs
  -- document 02, 1: "A screen box that also saves its layout goes blank while its commit waits. Read now answers at stages 1 to 11": it reads on,
  -- whatever it waits for and whatever the others do
  pub unbroken : Unbroken (set_up d c w l).memory qs
  -- document 02, 2: "Advance at stage 0 with nothing written now answers Done with the snapshot number": at once, whatever the others do
  pub enquiry : Enquiry (set_up d c w l).memory qs
  -- document 02, 9: "one runaway box can use many rows. A cell limit of 0 at set-up now stands for 8": a transaction has written at most as many
  -- cells as the limit says, whatever was called
  pub capped : Capped (limit_of l) (table_after qs (set_up d c w l).memory blank)
  -- document 02, 8: "a transaction that has entered the request queue and isn't abandoned is closed, Done or Conflict, within 4 × n × n + 32
  -- rounds", where "only clients below n are named"
  pub nobody_waits : NobodyWaits (set_up d c w l).memory qs
  -- "4,128 for 32" and, document 02, 12, "16,416 by the same formula" for 64; "whatever else is begun, written, abandoned or trimmed meanwhile":
  -- whatever the calls are
  pub whoever_calls : WhoeverCalls (set_up d c w l).memory qs
  -- and there are rounds, after every list of calls
  pub rounds_exist : RoundsExist (set_up d c w l).memory qs
  -- "Lists name transactions, not clients": who is on a list is in the queue, with the transaction that was listed
  pub lists : ListsNameTransactions (set_up d c w l).memory qs
  -- document 02, 3: "In a store grown from set-up every answer must equal that of the full look, trims between the reads included"
  pub full_looks : FullLooks (set_up d c w l).memory qs
  -- and what the version table holds: "If it finds a commit above the entry, it stores that there"
  pub entries : Entries (set_up d c w l).memory qs
  -- "Refusal by operation": a refused call gets one of the numbers listed for it; 11 is in no list: it "never occurs any more" (document 02, 2)
  pub listed : AllListed (set_up d c w l).memory qs
  -- "after a refused one every call gets 2"
  pub unfit : accepts (length d) (length c) w l ≡ false → AllUnfit (set_up d c w l).memory qs
  -- after one that is not refused the store is never unfit, and no call gets 2: "A store grown from set-up meets neither"
  pub fit : accepts (length d) (length c) w l ≡ true → AllFit (set_up d c w l).memory qs
