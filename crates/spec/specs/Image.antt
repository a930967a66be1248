-- The image of a store: all that its record, its two buffers and its version table hold, with the rows in use as lists of rows. The calls are defined on
-- images (Calls.antt, Steps.antt); how an image stands in memory is said once (Bytes.antt).
-- antt has no record update: each record below is written out once, as a function of its fields, and each change names what it changes.
-- Assumes nothing.
use Rattle.std.specs.Prelude.{ℕ, Bool, not, List, [], map, get_or, set, replicate, eqb}
use Rattle.spec.specs.Set.{clients, remove}
use Rattle.spec.specs.Rows.{Row, cells}

-- "Three counters, 32 bits: W (transactions), R (commit requests), C (commits)": the last number taken of each; and "the last commit number"
pub record Counters : Type 0 where
  pub issued : ℕ
  pub requested : ℕ
  pub taken : ℕ
  pub last : ℕ

-- "arrays by client: stage, number, snapshot, request and commit numbers, waiting lists": `request_waits` are those waited for at stage 4, `commit_waits`
-- those at stage 10
pub record Clients : Type 0 where
  pub stage : List ℕ
  pub number : List ℕ
  pub snapshot : List ℕ
  pub request : List ℕ
  pub commit : List ℕ
  pub request_waits : List ℕ
  pub commit_waits : List ℕ

-- rows of the store, the cell limit, the data rows and committed rows in use, and, document 02, 3, the version table: "one entry for each of the 1,024
-- cells"
pub record Image : Type 0 where
  pub rows : ℕ
  pub limit : ℕ
  pub counters : Counters
  pub clients : Clients
  pub data_rows : List Row
  pub commit_rows : List Row
  pub versions : List ℕ

-- ---- the three records by their fields

abbrev pub counters_of : ℕ → ℕ → ℕ → ℕ → Counters
counters_of w r c l = record { issued = w; requested = r; taken = c; last = l }

abbrev pub clients_of : List ℕ → List ℕ → List ℕ → List ℕ → List ℕ → List ℕ → List ℕ → Clients
clients_of g n s r c b a = record { stage = g; number = n; snapshot = s; request = r; commit = c; request_waits = b; commit_waits = a }

abbrev pub image_of : ℕ → ℕ → Counters → Clients → List Row → List Row → List ℕ → Image
image_of r l n c d m v = record { rows = r; limit = l; counters = n; clients = c; data_rows = d; commit_rows = m; versions = v }

-- ---- changes of the image

abbrev pub with_counters : Image → Counters → Image
with_counters i n = image_of i.rows i.limit n i.clients i.data_rows i.commit_rows i.versions

abbrev pub with_clients : Image → Clients → Image
with_clients i c = image_of i.rows i.limit i.counters c i.data_rows i.commit_rows i.versions

abbrev pub with_rows : Image → List Row → List Row → Image
with_rows i d m = image_of i.rows i.limit i.counters i.clients d m i.versions

abbrev pub with_versions : Image → List ℕ → Image
with_versions i v = image_of i.rows i.limit i.counters i.clients i.data_rows i.commit_rows v

-- ---- changes of the counters

abbrev pub with_issued : Image → ℕ → Image
with_issued i w = with_counters i (counters_of w i.counters.requested i.counters.taken i.counters.last)

abbrev pub with_requested : Image → ℕ → Image
with_requested i r = with_counters i (counters_of i.counters.issued r i.counters.taken i.counters.last)

abbrev pub with_taken : Image → ℕ → Image
with_taken i c = with_counters i (counters_of i.counters.issued i.counters.requested c i.counters.last)

abbrev pub with_last : Image → ℕ → Image
with_last i l = with_counters i (counters_of i.counters.issued i.counters.requested i.counters.taken l)

-- ---- changes of client k

abbrev pub set_stage : ℕ → ℕ → Clients → Clients
set_stage k g c = clients_of (set c.stage k g) c.number c.snapshot c.request c.commit c.request_waits c.commit_waits

abbrev pub set_request : ℕ → ℕ → Clients → Clients
set_request k r c = clients_of c.stage c.number c.snapshot (set c.request k r) c.commit c.request_waits c.commit_waits

abbrev pub set_commit : ℕ → ℕ → Clients → Clients
set_commit k n c = clients_of c.stage c.number c.snapshot c.request (set c.commit k n) c.request_waits c.commit_waits

abbrev pub set_request_waits : ℕ → ℕ → Clients → Clients
set_request_waits k w c = clients_of c.stage c.number c.snapshot c.request c.commit (set c.request_waits k w) c.commit_waits

abbrev pub set_commit_waits : ℕ → ℕ → Clients → Clients
set_commit_waits k w c = clients_of c.stage c.number c.snapshot c.request c.commit c.request_waits (set c.commit_waits k w)

-- waiting lists that no longer name client k: "cleared as rows go"
unfoldable pub cleared : ℕ → List ℕ → List ℕ
cleared k l = map (λ (w : ℕ). remove w k) l

-- no waiting list of the commit queue names client k
abbrev pub unlisted : ℕ → Clients → Clients
unlisted k c = clients_of c.stage c.number c.snapshot c.request c.commit c.request_waits (cleared k c.commit_waits)

-- client k at stage 0 with a number and a snapshot, and zero in all else
abbrev pub opened : ℕ → ℕ → ℕ → Clients → Clients
opened k n s c =
    clients_of (set c.stage k 0) (set c.number k n) (set c.snapshot k s) (set c.request k 0) (set c.commit k 0)
    (set c.request_waits k 0) (set c.commit_waits k 0)

-- client k closed: zero in all its fields, and no waiting list names it
unfoldable pub closed : ℕ → Clients → Clients
closed k c =
    clients_of (set c.stage k 0) (set c.number k 0) (set c.snapshot k 0) (set c.request k 0) (set c.commit k 0)
    (set (cleared k c.request_waits) k 0) (set (cleared k c.commit_waits) k 0)

-- ---- what an image says of client k

abbrev pub stage_of : Image → ℕ → ℕ
stage_of i k = get_or i.clients.stage k 0

-- the number of its open transaction, which is the tag of its rows, 0 if it has none
abbrev pub number_of : Image → ℕ → ℕ
number_of i k = get_or i.clients.number k 0

abbrev pub snapshot_of : Image → ℕ → ℕ
snapshot_of i k = get_or i.clients.snapshot k 0

abbrev pub request_of : Image → ℕ → ℕ
request_of i k = get_or i.clients.request k 0

abbrev pub commit_number_of : Image → ℕ → ℕ
commit_number_of i k = get_or i.clients.commit k 0

abbrev pub is_open : Image → ℕ → Bool
is_open i k = not (eqb (number_of i k) 0)

-- the entry of cell x in the version table
abbrev pub entry_for : Image → ℕ → ℕ
entry_for i x = get_or i.versions x 0

-- ---- "W starts one below the first W given at set-up, R and C at 0", "the last commit number is a field of its own, 0 at first", and of the
-- version table, document 02, 3, "all zero at set-up": the image after a set-up of r rows with cell limit l, W at w; no client open, no row in use

abbrev pub zeros : List ℕ
zeros = replicate clients 0

unfoldable pub no_versions : List ℕ
no_versions = replicate cells 0

unfoldable pub empty : ℕ → ℕ → ℕ → Image
empty r l w = image_of r l (counters_of w 0 0 0) (clients_of zeros zeros zeros zeros zeros zeros zeros) [] [] no_versions
