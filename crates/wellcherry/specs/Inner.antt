-- What the contracts of the exported calls need beyond the words of the papers: the promise of a call for C, of a record in its parts.
-- Assumes nothing.
use Rattle.std.specs.Prelude.{ℕ, List, get_or}
use Rattle.std.specs.Borrow.{MutBor}
use denote.Triple.Both.{Both}
use Rattle.spec.specs.declared.Store.{Store}
use Rattle.spec.specs.Image.{Image, clients_of}
use Rattle.spec.specs.Calls.{Outcome}
use Rattle.spec.specs.Bytes.{memory_of}
use Rattle.spec.specs.Told.{Told, Tells}
use Rattle.record.specs.declared.Head.{Head}
use Rattle.record.specs.Inner.{whole}

-- the eight numbers of a record, one behind the other
unfoldable pub head_in : List ℕ → Head
head_in l = record {
  rows = get_or l 0 0;
  limit = get_or l 1 0;
  issued = get_or l 2 0;
  requested = get_or l 3 0;
  taken = get_or l 4 0;
  last = get_or l 5 0;
  used = get_or l 6 0;
  entries = get_or l 7 0;
}

-- the record of these numbers and arrays by client
abbrev pub store_from : List ℕ → List ℕ → List ℕ → List ℕ → List ℕ → List ℕ → List ℕ → List ℕ → Store
store_from l g n s q m b w = whole (head_in l) (clients_of g n s q m b w)

-- a part of the record that is lent to be changed, as a contract sees it: before and after
abbrev pub LentPart : Type 0
LentPart = Both (MutBor (List ℕ)) (MutBor (List ℕ))

-- the record that a call has found in the parts, and the one that it has left there
abbrev pub store_found : LentPart → LentPart → LentPart → LentPart → LentPart → LentPart → LentPart → LentPart → Store
store_found l g n s q m b w = store_from l.entry.now g.entry.now n.entry.now s.entry.now q.entry.now m.entry.now b.entry.now w.entry.now

abbrev pub store_left : LentPart → LentPart → LentPart → LentPart → LentPart → LentPart → LentPart → LentPart → Store
store_left l g n s q m b w = store_from l.exit.now g.exit.now n.exit.now s.exit.now q.exit.now m.exit.now b.exit.now w.exit.now

-- the call has told t, and left what its definition f says of the record, the buffers and the version table that it has found
abbrev pub TellsWith : {A : Type 0} → (A → Told) → (Image → Outcome A)
    → Store → List ℕ → List ℕ → List ℕ → Store → List ℕ → List ℕ → List ℕ → Told → Type 0
TellsWith g f s d c v s' d' c' v' t = Tells g f (memory_of s d c v) (memory_of s' d' c' v') t

-- so has one that is not lent the version table, with every such table, which stays
abbrev pub TellsOn : {A : Type 0} → (A → Told) → (Image → Outcome A)
    → Store → List ℕ → List ℕ → Store → List ℕ → List ℕ → Told → Type 0
TellsOn g f s d c s' d' c' t = (v : List ℕ) → TellsWith g f s d c v s' d' c' v t
