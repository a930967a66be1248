-- `search::with_writers`: the members are those of the set, and those of the clients so far that are queued and have the number, eight a turn.
use Prim.Native.Nat.{ℕ, ◌+◌, ◌*◌}
use mathlib.Core.Bool.{Bool, ◌&&◌}
use mathlib.Core.List.{List}
use lib.Dec.{eqb}
use lib.ListN.{get_or}
use Rattle.spec.specs.Set.{member}
use Rattle.search.proofs.Sharing.{JoinedBelow}
use Rattle.search.proofs.with_writers.Given as goal

-- the client is queued and has the number
abbrev pub writes : ℕ → List ℕ → ℕ → ℕ → Bool
writes queued numbers tag j = member queued j && eqb (get_or numbers j 0) tag

abbrev pub invariant-loop-t : goal.invariant-loop-t
invariant-loop-t l = JoinedBelow l.found (writes l.queued l.numbers l.tag) (8 * l.t) l.out

abbrev pub invariant-loop-j : goal.invariant-loop-j
invariant-loop-j l = JoinedBelow l.found (writes l.queued l.numbers l.tag) (8 * l.t + l.j) l.out
