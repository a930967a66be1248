-- What holds between two calls, of the store and the plain table together.
-- Of each client (`OneClient`): the table has its stage and commit number; from its check to its commit no commit since it began shares a cell with
-- it (`fresh`); a commit number that waits for its commit is above the last one made (`ahead`). Of the two queues: `Tickets`. Of rows and book
-- (`Tab`): an open client's rows are its writes, a committed row is in the book with its value (`sound`), and an entry's cell has its row unless
-- the book has a later entry for that cell that every reader sees (`kept`): so a read, the check and a trim by the rows say what the book says.
-- Assumes nothing.
use Prim.Native.Nat.{ℕ, ◌-◌, min, ◌≤◌, ◌<◌}
use mathlib.Core.Path.{◌≡◌}
use mathlib.Core.Logic.{◌≢◌, ◌⊎◌, ite}
use mathlib.Core.Bool.{true, false}
use mathlib.Core.List.{List, [], ◌∷◌, Memᴰ as In}
use mathlib.Core.Option.{Option, none, some, IsSome}
use native.Mathlib.Decide.{dec_le}
use lib.ListN.{length}
use Rattle.history.proofs.Tickets.{TicketQueue}
use Rattle.history.proofs.Model.{DRow, CRow, Client, State, findₛ, num_of, rph, cph}
use Rattle.history.proofs.Plain.{Entry, PClient, Plain, Sharesₚ, newerₚ, olderₚ, last_ofₚ}
use Rattle.spec.specs.Table.{Value, or_else}
use Rattle.spec.specs.Set.{clients}
use Rattle.spec.specs.Rows.{cells}
use Rattle.spec.specs.Right.{Bounds}

-- Of each client, what the rows and the book are held to. `late` is 0 below stage 12.
pub record Reader : Type 0 where
  pub num : ℕ
  pub snap : ℕ
  pub late : ℕ
  pub since : ℕ
  pub copy : ℕ → Option Value
  pub writes : ℕ → Option Value

unfoldable pub lateness : ℕ → ℕ
lateness k = min (k - 11) 1

abbrev pub reader_of : State → Plain → ℕ → Reader
reader_of s p b = record {
  num = (s.cl b).number;
  snap = (s.cl b).snapshot;
  late = lateness (s.cl b).stage;
  since = (p.cl b).since;
  copy = (p.cl b).copy;
  writes = (p.cl b).writes;
}

-- No two rows have one tag and one cell.
abbrev pub Uniq : List DRow → Type 0
Uniq [] = Unit {0}
Uniq (r ∷ l) = ((r' : DRow) → In r' l → r'.tag ≡ r.tag → r'.cell ≡ r.cell → ⊥) × Uniq l

abbrev pub RisingBook : List Entry → Type 0
RisingBook [] = Unit {0}
RisingBook (e ∷ l) = ((d : Entry) → In d l → d.number < e.number) × RisingBook l

-- The table by the commits of the book up to number S, and by all of them.
unfoldable pub values_up_to : ℕ → List Entry → ℕ → Option Value
values_up_to S [] x = none
values_up_to S (e ∷ l) x = ite (dec_le e.number S) (or_else (e.puts x) (values_up_to S l x)) (values_up_to S l x)

unfoldable pub values_of : List Entry → ℕ → Option Value
values_of [] x = none
values_of (e ∷ l) x = or_else (e.puts x) (values_of l x)

-- The book has a later commit to the cell, and every open transaction sees it.
abbrev pub Superseded : List Entry → ℕ → (ℕ → Reader) → Entry → ℕ → Type 0
Superseded book last v e x =
    (d : Entry) × In d book × (e.number < d.number) × IsSome (d.puts x) × (d.number ≤ last) × ((a : ℕ) → 1 ≤ (v a).num → d.number ≤ (v a).snap)

abbrev pub RowOf : List DRow → List CRow → ℕ → ℕ → Type 0
RowOf dat comm n x = (r : DRow) × In r dat × (r.cell ≡ x) × (num_of r.tag comm ≡ some n)

-- An open client, by the rows and the book.
pub record Mine (dat : List DRow) (comm : List CRow) (last W : ℕ) (book : List Entry) (z : Reader) : Type 0 where
  pub num_le : z.num ≤ W
  pub not_yet : z.late ≡ 0 → num_of z.num comm ≡ none
  pub held : z.late ≡ 0 → (x : ℕ) → findₛ z.num x dat ≡ z.writes x
  pub snap_le : z.snap ≤ last
  pub since_le : z.since ≤ length book
  pub is_newer : (e : Entry) → In e (newerₚ z.since book) → In e book × (z.snap < e.number)
  pub newer_is : (e : Entry) → In e book → z.snap < e.number → In e (newerₚ z.since book)
  pub copied : (x : ℕ) → z.copy x ≡ values_up_to z.snap book x
  pub began : last_ofₚ (olderₚ z.since book) ≡ z.snap

pub record Tab (dat : List DRow) (comm : List CRow) (last W : ℕ) (table : ℕ → Option Value) (book : List Entry) (v : ℕ → Reader) : Type 0 where
  pub mine : (a : ℕ) → 1 ≤ (v a).num → Mine dat comm last W book (v a)
  pub apart : (a b : ℕ) → a ≢ b → 1 ≤ (v a).num → (v a).num ≢ (v b).num
  -- tags
  pub comm_le : (t n : ℕ) → num_of t comm ≡ some n → (t ≤ W) × (n ≤ last)
  pub comm_inj : (t u n : ℕ) → num_of t comm ≡ some n → num_of u comm ≡ some n → t ≡ u
  pub row_of : (r : DRow) → In r dat → ((a : ℕ) × (1 ≤ (v a).num) × ((v a).late ≡ 0) × (r.tag ≡ (v a).num)) ⊎ ((n : ℕ) × (num_of r.tag comm ≡ some n))
  pub row_cell : (r : DRow) → In r dat → r.cell < cells
  pub uniq : Uniq dat
  -- the rows and the book
  pub sound : (r : DRow) (n : ℕ) → In r dat → num_of r.tag comm ≡ some n
      → (e : Entry) × In e book × (e.number ≡ n) × (e.puts r.cell ≡ some r.value)
  pub kept : (e : Entry) (x : ℕ) → In e book → IsSome (e.puts x) → RowOf dat comm e.number x ⊎ Superseded book last v e x
  pub rising : RisingBook book
  pub book_last : last_ofₚ book ≡ last
  pub all_table : (x : ℕ) → table x ≡ values_of book x

-- Client b in the store (its transaction number, stage and commit number) and in the plain table.
pub record OneClient (last : ℕ) (book : List Entry) (b num stage commit : ℕ) (q : PClient) : Type 0 where
  pub on_stage : q.stage ≡ stage
  pub live : 1 ≤ num → q.live ≡ true
  pub dead : num ≡ 0 → q.live ≡ false
  pub idle : num ≡ 0 → stage ≡ 0
  pub below : 1 ≤ num → b < clients
  pub numbered : 8 ≤ stage → q.commit ≡ commit
  pub ahead : 8 ≤ stage → stage ≤ 11 → last < commit
  pub in_book : 12 ≤ stage → (e : Entry) × In e book × (e.number ≡ commit)
  pub fresh : 6 ≤ stage → stage ≤ 11 → (e : Entry) → In e (newerₚ q.since book) → Sharesₚ e.puts q.writes → ⊥

abbrev pub EachClient : State → Plain → Type 0
EachClient s p = (b : ℕ) → OneClient s.last p.book b (s.cl b).number (s.cl b).stage (s.cl b).commit (p.cl b)

-- Two clients' transactions wrote one cell, by the rows.
abbrev pub Rel : List DRow → (ℕ → Client) → ℕ → ℕ → Type 0
Rel dat cl a b = Sharesₚ (λ x. findₛ (cl a).number x dat) (λ x. findₛ (cl b).number x dat)

abbrev pub Always : ℕ → ℕ → Type 0
Always a b = Unit {0}

abbrev pub RQ : State → Type 0
RQ s = TicketQueue (rph s) (λ b. (s.cl b).request) (λ b. (s.cl b).rwait) s.R (Rel s.dat s.cl)

abbrev pub CQ : State → Type 0
CQ s = TicketQueue (cph s) (λ b. (s.cl b).commit) (λ b. (s.cl b).cwait) s.C Always

pub record Inv (bounds : Bounds) (s : State) (p : Plain) : Type 0 where
  pub same_bounds : s.bounds ≡ bounds
  pub counted : p.count ≡ s.C
  pub last_le : s.last ≤ s.C
  pub one : EachClient s p
  pub rq : RQ s
  pub cq : CQ s
  pub tab : Tab s.dat s.comm s.last s.W p.table p.book (reader_of s p)
