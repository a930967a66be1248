-- How an image stands in memory, a record, two buffers and the version table, once for all calls; fitness; set-up. Store s, data buffer d, committed
-- buffer c, version table v.
-- Assumes nothing.
use Rattle.std.specs.Prelude.{ℕ, zero, suc, ◌*◌, ◌-◌, ◌/◌, ◌≡◌, Bool, true, false, not, List, [], ◌∷◌, length, replicate, ltb, eqb}
use Rattle.std.specs.Prelude.{if◌then◌else◌}
use Rattle.spec.specs.Set.{clients}
use Rattle.spec.specs.Rows.{data_width, commit_width, data_rows_in, commit_rows_in, layout}
use Rattle.spec.specs.declared.Store.{Store}
use Rattle.spec.specs.Answers.{Answer, Answered, Refused, bad_set_up, unfit}
use Rattle.spec.specs.Image.{Counters, counters_of, Clients, clients_of, image_of, Image, no_versions, empty}
use Rattle.spec.specs.Calls.{Outcome}

-- ---- the record and the image

abbrev pub counters_in : Store → Counters
counters_in s = counters_of s.issued s.requested s.taken s.last

abbrev pub clients_in : Store → Clients
clients_in s = clients_of s.stage s.number s.snapshot s.request s.commit s.request_waits s.commit_waits

abbrev pub record_of : ℕ → ℕ → Counters → Clients → ℕ → ℕ → Store
record_of r l n c d m = record {
  rows = r;
  limit = l;
  issued = n.issued;
  requested = n.requested;
  taken = n.taken;
  last = n.last;
  used = d;
  entries = m;
  stage = c.stage;
  number = c.number;
  snapshot = c.snapshot;
  request = c.request;
  commit = c.commit;
  request_waits = c.request_waits;
  commit_waits = c.commit_waits;
}

-- the image that a record, two buffers and a version table show
unfoldable pub decode : Store → List ℕ → List ℕ → List ℕ → Image
decode s d c v = image_of s.rows s.limit (counters_in s) (clients_in s) (data_rows_in s.used d) (commit_rows_in s.entries c) v

-- the record of an image
unfoldable pub store_of : Image → Store
store_of i = record_of i.rows i.limit i.counters i.clients (length i.data_rows) (length i.commit_rows)

-- ---- a call on a memory

-- what a call finds and leaves: the record, each byte of both buffers, and each entry of the version table
pub record Memory : Type 0 where
  pub store : Store
  pub data_bytes : List ℕ
  pub commit_bytes : List ℕ
  pub versions : List ℕ

abbrev pub memory_of : Store → List ℕ → List ℕ → List ℕ → Memory
memory_of s d c v = record { store = s; data_bytes = d; commit_bytes = c; versions = v }

-- all that a call leaves: that, and the answer
pub record After (A : Type 0) : Type 0 where
  pub memory : Memory
  pub answer : Answer A

abbrev pub after_of : {A : Type 0} → Store → List ℕ → List ℕ → List ℕ → Answer A → After A
after_of s d c v a = record { memory = memory_of s d c v; answer = a }

-- the outcome of a call in the place of what the record s and the buffers d and c held
unfoldable pub encode : {A : Type 0} → Store → List ℕ → List ℕ → Outcome A → After A
encode s d c o =
    after_of (store_of o.image) (layout data_width s.used o.image.data_rows d) (layout commit_width s.entries o.image.commit_rows c)
    o.image.versions o.answer

-- "rows 1 to 1,024"
abbrev pub most_rows : ℕ
most_rows = 1024

-- the stages of the clients below n are known ones
unfoldable pub known : List ℕ → ℕ → Bool
known l zero = true
known [] (suc n) = true
known (g ∷ l) (suc n) = if ltb 13 g then false else known l n

-- "A store is unfit if a buffer's length isn't that of its set-up, a row count exceeds its rows, its rows aren't 1 to 1,024, or a stage is
-- unknown": here the store is fit, with a data buffer of d bytes and a committed buffer of c
unfoldable pub fits : Store → ℕ → ℕ → Bool
fits s d c =
    if ltb s.rows 1 then false else
    if ltb most_rows s.rows then false else
    if not (eqb d (data_width * s.rows)) then false else
    if not (eqb c (commit_width * s.rows)) then false else
    if ltb s.rows s.used then false else
    if ltb s.rows s.entries then false else
    known s.stage clients

-- 2 for an unfit store, and else what the call makes of the image, laid out in its place
unfoldable pub on_bytes : {A : Type 0} → (Image → Outcome A) → Store → List ℕ → List ℕ → List ℕ → After A
on_bytes f s d c v =
    if fits s (length d) (length c) then encode s d c (f (decode s d c v)) else
    after_of s d c v (Refused unfit)

abbrev pub on_memory : {A : Type 0} → (Image → Outcome A) → Memory → After A
on_memory f m = on_bytes f m.store m.data_bytes m.commit_bytes m.versions

-- The promise of a call: it has found the memory m and left m' and the answer a, and so does its definition f.
abbrev pub Performs : {A : Type 0} → (Image → Outcome A) → Memory → Memory → Answer A → Type 0
Performs f m m' a = after_of m'.store m'.data_bytes m'.commit_bytes m'.versions a ≡ on_memory f m

-- ---- "Set-up is given the buffers, the first W and the cell limit", and document 02, 9: "A cell limit of 0 at set-up now stands for 8."

abbrev pub default_limit : ℕ
default_limit = 8

abbrev pub most_limit : ℕ
most_limit = 64

abbrev pub limit_of : ℕ → ℕ
limit_of l = if eqb l 0 then default_limit else l

-- the rows of a data buffer of d bytes
abbrev pub rows_of : ℕ → ℕ
rows_of d = d / data_width

-- "Refused 1 if the data length isn't 24 × rows with rows 1 to 1,024, the committed length isn't 8 × rows, the first W is 0, or the limit is
-- above 64": here it is accepted, for buffers of d and c bytes
unfoldable pub accepts : ℕ → ℕ → ℕ → ℕ → Bool
accepts d c w l =
    if not (eqb d (data_width * rows_of d)) then false else
    if ltb (rows_of d) 1 then false else
    if ltb most_rows (rows_of d) then false else
    if not (eqb c (commit_width * rows_of d)) then false else
    if eqb w 0 then false else
    not (ltb most_limit l)

-- "The record handed back then has 0 rows and zeros in all else, and the buffers keep their bytes. Success zeroes both buffers." The version table is
-- made by every set-up: "all zero at set-up" (document 02, 3)
unfoldable pub set_up : List ℕ → List ℕ → ℕ → ℕ → After ℕ
set_up d c w l =
    let r : ℕ = rows_of (length d) in
    if accepts (length d) (length c) w l
    then after_of (store_of (empty r (limit_of l) (w - 1))) (replicate (length d) 0) (replicate (length c) 0) no_versions (Answered r)
    else after_of (store_of (empty 0 0 0)) d c no_versions (Refused bad_set_up)

-- the promise of a set-up, which was given the buffers d and c
abbrev pub SetsUp : List ℕ → List ℕ → ℕ → ℕ → Memory → Answer ℕ → Type 0
SetsUp d c w l m' a = after_of m'.store m'.data_bytes m'.commit_bytes m'.versions a ≡ set_up d c w l
