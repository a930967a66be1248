-- What the contracts of inner functions need beyond the words of the papers: nobody has to believe it.
-- Assumes nothing.
use Rattle.std.specs.Prelude.{ℕ, ◌<◌, ◌≡◌, List, length, get_or, Result, Ok, Err}
use Rattle.spec.specs.Rows.{cells}
use Rattle.spec.specs.declared.Store.{Store}
use Rattle.spec.specs.declared.Refusal.{Refusal}
use Rattle.spec.specs.Look.{Lookup, versions_after}
use Rattle.spec.specs.Answers.{Answer, Answered, Refused, code, Reading}
use Rattle.spec.specs.Image.{Clients, clients_of}
use Rattle.spec.specs.Calls.{free, reading, read}
use Rattle.spec.specs.Bytes.{After, after_of, memory_of, on_bytes, Performs}
use Rattle.record.specs.declared.Head.{Head}
use Rattle.record.specs.Inner.{whole, PerformsOn}

-- what a Read of cell x leaves, and answers, that has come to a look or to a refusal
abbrev pub sought_after : Store → List ℕ → List ℕ → List ℕ → ℕ → Result Lookup Refusal → After Reading
sought_after s d c v x (Ok l) = after_of s d c (versions_after x l v) (Answered (reading l))
sought_after s d c v x (Err r) = after_of s d c v (Refused (code r))

-- so it is with every version table in which the cell's entry is e
abbrev pub Seeks : ℕ → ℕ → ℕ → Store → List ℕ → List ℕ → Result Lookup Refusal → Type 0
Seeks k x e s d c r = (v : List ℕ) → length v ≡ cells → e ≡ get_or v x 0 → sought_after s d c v x r ≡ on_bytes (read k x) s d c v

-- there is such a cell, where there was a look
abbrev pub OfCell : ℕ → Result Lookup Refusal → Type 0
OfCell x (Ok l) = x < cells
OfCell x (Err r) = Unit {0}

-- P holds of the columns as Read is lent them: of these stages, numbers of transactions and snapshots, and of any others, which it does not see
abbrev pub read_columns : (Clients → Type 0) → List ℕ → List ℕ → List ℕ → Type 0
read_columns P g n s = (q m b w : List ℕ) → P (clients_of g n s q m b w)

-- a Read of client k, of those at these stages, with these numbers of transactions and snapshots, has found the version table v and left v'
abbrev pub Reads : ℕ → ℕ → Head → List ℕ → List ℕ → List ℕ → List ℕ → List ℕ → List ℕ → List ℕ → Answer Reading → Type 0
Reads k x h g n s d c v v' a =
    read_columns (λ l. Performs (read k x) (memory_of (whole h l) d c v) (memory_of (whole h l) d c v') a) g n s

-- a Free of a store with these stages: so with all that the code is not lent
abbrev pub Frees : Head → List ℕ → List ℕ → List ℕ → Answer ℕ → Type 0
Frees h g d c a = (n s q m b w : List ℕ) → PerformsOn free (whole h (clients_of g n s q m b w)) d c (whole h (clients_of g n s q m b w)) d c a
