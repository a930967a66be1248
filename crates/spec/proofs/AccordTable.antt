-- Tables of examples: what a call finds in memory, and what document 01 says that it leaves there and answers, all written out. The
-- files Accord… that follow hold the tables; each is one theorem, checked by computing the definitions. Nothing here uses a definition of how a record
-- is changed or of how a row stands in bytes: records are written by their fields, rows by their bytes.
-- Assumes nothing.
use Prim.Native.Nat.{ℕ, zero, suc, ◌+◌}
use Prim.Native.String.{String}
use mathlib.Core.List.{List, [], ◌∷◌}
use lib.ListN.{replicate}
use Rattle.spec.specs.declared.Store.{Store}
use Rattle.spec.specs.Answers.{Answered, Refused}
use Rattle.spec.specs.Bytes.{Memory, After}
use Rattle.spec.specs.Run.{Call, Result, step}

-- ---- bytes

-- n numbers from b on
abbrev pub counting : ℕ → ℕ → List ℕ
counting zero b = []
counting (suc n) b = b ∷ counting n (b + 1)

-- a value: the sixteen bytes b, b + 1, .. b + 15
abbrev pub sixteen : ℕ → List ℕ
sixteen b = counting 16 b

-- "24-byte rows. Bytes 0 to 3 hold the tag [..], 4 and 5 the cell, 6 and 7 zero, 8 to 23 the value": tags and cells below 256, the value from b on
abbrev pub row : ℕ → ℕ → ℕ → List ℕ
row tag cell b = tag ∷ 0 ∷ 0 ∷ 0 ∷ cell ∷ 0 ∷ 0 ∷ 0 ∷ sixteen b

-- "8-byte rows, commit number then tag, 4 bytes each": both below 256
abbrev pub entry : ℕ → ℕ → List ℕ
entry n tag = n ∷ 0 ∷ 0 ∷ 0 ∷ tag ∷ 0 ∷ 0 ∷ 0 ∷ []

-- n bytes that no call wrote
abbrev pub rubbish : ℕ → List ℕ
rubbish n = replicate n 170

-- ---- records

-- a figure of clients 0, 1 and 2, and 0 of the 61 others
abbrev pub three : ℕ → ℕ → ℕ → List ℕ
three a b c = a ∷ b ∷ c ∷ replicate 61 0

abbrev pub none : List ℕ
none = replicate 64 0

pub record Counts : Type 0 where
  pub w : ℕ
  pub r : ℕ
  pub c : ℕ
  pub final : ℕ

-- the counters W, R and C, and the last commit number
abbrev pub counts : ℕ → ℕ → ℕ → ℕ → Counts
counts w r c l = record { w = w; r = r; c = c; final = l }

pub record Boxes : Type 0 where
  pub stages : List ℕ
  pub numbers : List ℕ
  pub snapshots : List ℕ
  pub requests : List ℕ
  pub commits : List ℕ
  pub first_lists : List ℕ
  pub second_lists : List ℕ

-- the clients: stages, numbers, snapshots, request numbers, commit numbers, the lists of the request queue and those of the commit queue
abbrev pub boxes : List ℕ → List ℕ → List ℕ → List ℕ → List ℕ → List ℕ → List ℕ → Boxes
boxes g n s r c a b =
    record { stages = g; numbers = n; snapshots = s; requests = r; commits = c; first_lists = a; second_lists = b }

-- nobody has anything open
abbrev pub idle : Boxes
idle = boxes none none none none none none none

-- a record of r rows with limit l, u data rows and e committed rows in use
abbrev pub holds : ℕ → ℕ → ℕ → ℕ → Counts → Boxes → Store
holds r l u e n b = record {
  rows = r;
  limit = l;
  issued = n.w;
  requested = n.r;
  taken = n.c;
  last = n.final;
  used = u;
  entries = e;
  stage = b.stages;
  number = b.numbers;
  snapshot = b.snapshots;
  request = b.requests;
  commit = b.commits;
  request_waits = b.first_lists;
  commit_waits = b.second_lists;
}

-- ---- examples

-- a version table: 9 for cell 0, n for cell 7, 0 for all others
abbrev pub entries : ℕ → List ℕ
entries n = 9 ∷ 0 ∷ 0 ∷ 0 ∷ 0 ∷ 0 ∷ 0 ∷ n ∷ replicate 1016 0

-- a record, a data buffer, a committed buffer and a version table
abbrev pub finds_with : List ℕ → Store → List ℕ → List ℕ → Memory
finds_with v s d c = record { store = s; data_bytes = d; commit_bytes = c; versions = v }

-- with a version table that the call does not change
abbrev pub finds : Store → List ℕ → List ℕ → Memory
finds s d c = finds_with (entries 0) s d c

abbrev pub leaves : {A : Type 0} → Memory → A → After A
leaves m a = record { memory = m; answer = Answered a }

-- refused with n, and nothing changed
abbrev pub keeps : {A : Type 0} → Memory → ℕ → After A
keeps m n = record { memory = m; answer = Refused n }

-- a call, what it finds, and what it leaves and answers
pub record Example : Type 0 where
  pub name : String
  pub call : Call
  pub before : Memory
  pub after : After (Result call)

abbrev pub example : String → (q : Call) → Memory → After (Result q) → Example
example t q m a = record { name = t; call = q; before = m; after = a }

-- a call that is refused with n, and changes nothing
abbrev pub refusing : String → (q : Call) → Memory → ℕ → Example
refusing t q m n = example t q m (keeps m n)

-- what an example says, and what the definitions compute of it
abbrev pub computed : Example → Example
computed e = record { name = e.name; call = e.call; before = e.before; after = step e.call e.before }
