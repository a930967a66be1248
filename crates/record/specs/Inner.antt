-- What the contracts of inner functions need beyond the words of the papers: nobody has to believe it.
-- Assumes nothing.
use Rattle.std.specs.Prelude.{ℕ, ◌≡◌, ◌≤◌, ◌*◌, Bool, not, List, ltb, eqb, Some, None}
use Rattle.std.specs.Prelude.{if◌then◌else◌}
use Rattle.spec.specs.Rows.{data_width, commit_width}
use Rattle.spec.specs.Numbers.{Number, lesser, smallest}
use Rattle.spec.specs.declared.Store.{Store}
use Rattle.spec.specs.Answers.{Answer}
use Rattle.spec.specs.Image.{counters_of, Clients, clients_of, zeros, Image}
use Rattle.spec.specs.Calls.{Outcome, readers}
use Rattle.spec.specs.Bytes.{record_of, decode, memory_of, after_of, encode, fits, Performs}
use Rattle.record.specs.declared.Head.{Head}
use Rattle.record.specs.declared.Record.{Record}

-- ---- A record apart, as the code has it: its eight numbers, and its arrays by client lent, a column each.

-- the record of these numbers and columns
abbrev pub whole : Head → Clients → Store
whole h k = record_of h.rows h.limit (counters_of h.issued h.requested h.taken h.last) k h.used h.entries

-- the columns of a record apart, and the record that it is
abbrev pub clients_at : Record → Clients
clients_at r = clients_of r.stage.now r.number.now r.snapshot.now r.request.now r.commit.now r.request_waits.now r.commit_waits.now

abbrev pub store_at : Record → Store
store_at r = whole r.head (clients_at r)

-- the arrays lent are the same ones
abbrev pub SameArrays : Record → Record → Type 0
SameArrays r s =
    (s.stage.ghost_name ≡ r.stage.ghost_name) × (s.number.ghost_name ≡ r.number.ghost_name) × (s.snapshot.ghost_name ≡ r.snapshot.ghost_name)
    × (s.request.ghost_name ≡ r.request.ghost_name) × (s.commit.ghost_name ≡ r.commit.ghost_name)
    × (s.request_waits.ghost_name ≡ r.request_waits.ghost_name) × (s.commit_waits.ghost_name ≡ r.commit_waits.ghost_name)

-- the columns where nothing is open
abbrev pub no_clients : Clients
no_clients = clients_of zeros zeros zeros zeros zeros zeros zeros

-- ---- The promises of calls: each has found a record s with buffers d and c, and left s' with d' and c', and the answer a, as its definition f says.

-- of a call that is not lent the version table: so with every one, which stays
abbrev pub PerformsOn : {A : Type 0} → (Image → Outcome A) → Store → List ℕ → List ℕ → Store → List ℕ → List ℕ → Answer A → Type 0
PerformsOn f s d c s' d' c' a = (v : List ℕ) → Performs f (memory_of s d c v) (memory_of s' d' c' v) a

-- of a call's inner part, where the store is known to be fit
abbrev pub Transforms : {A : Type 0} → (Image → Outcome A) → Store → List ℕ → List ℕ → Store → List ℕ → List ℕ → Answer A → Type 0
Transforms f s d c s' d' c' a = (v : List ℕ) → after_of s' d' c' v a ≡ encode s d c (f (decode s d c v))

-- ---- What is seen in some of the columns, whatever the others hold.

-- r says whether the store is fit, for buffers of d and c bytes
abbrev pub Suits : Head → List ℕ → ℕ → ℕ → Bool → Type 0
Suits h stage d c r = (n s q m b w : List ℕ) → r ≡ fits (whole h (clients_of stage n s q m b w)) d c

-- what is known of a fit store's numbers, for buffers of d and c bytes
pub record HasRoom (h : Head) (d c : ℕ) : Type 0 where
  pub some : 1 ≤ h.rows
  pub most : h.rows ≤ 1024
  pub data_length : d ≡ data_width * h.rows
  pub commit_length : c ≡ commit_width * h.rows
  pub data_rows : h.used ≤ h.rows
  pub commit_rows : h.entries ≤ h.rows

-- the number, or none where it has more than 32 bits
unfoldable pub short_number : ℕ → Number
short_number n = if ltb n 4294967296 then Some n else None

-- r is the smaller of b and the snapshot s of a client with number n, if it is open
abbrev pub Lowers : ℕ → ℕ → ℕ → ℕ → Type 0
Lowers b n s r = short_number r ≡ lesser (if not (eqb n 0) then Some s else None) (short_number b)

-- the smallest snapshot of the open ones of the clients below k, by their arrays alone
abbrev pub SmallestOpen : List ℕ → List ℕ → ℕ → Number → Type 0
SmallestOpen numbers snapshots k r =
    (x : Image) → x.clients.number ≡ numbers → x.clients.snapshot ≡ snapshots → r ≡ smallest (readers x k)

-- the clients from k on and below m count nothing for it
abbrev pub AllClosed : List ℕ → ℕ → ℕ → Type 0
AllClosed numbers k m = (x : Image) → x.clients.number ≡ numbers → smallest (readers x m) ≡ smallest (readers x k)
