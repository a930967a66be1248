-- The data rows of committed row j are walked over their chain; rows of other transactions are passed over.
use Prim.Native.Nat.{ℕ, ◌+◌, ◌-◌}
use mathlib.Core.List.{List}
use lib.Dec.{leb}
use Rattle.spec.specs.Rows.{row_at, commit_tag, commit_number}
use Rattle.orderly.specs.Inner.{row_entry, Chain}
use Rattle.serving.proofs.Stamps.{Stamped}
use Rattle.serving.proofs.Stamps.{Paired}
use Rattle.serving.proofs.Serving.{Serving}
use Rattle.serving.proofs.serve.Given as goal

-- the rows before i are done
abbrev pub Walked : ℕ → ℕ → ℕ → ℕ → List ℕ → List ℕ → List ℕ → List ℕ → List ℕ → List ℕ → List ℕ → List ℕ → List ℕ → List ℕ → ℕ → Type 0
Walked low n m j s c seen₀ marks₀ flags₀ uses₀ seen marks flags uses i =
    Serving (leb (commit_number (row_at 8 j c)) low) (commit_tag (row_at 8 j c)) (j + 1) n j s marks₀ flags₀ uses₀ marks flags uses i
    × Stamped (commit_tag (row_at 8 j c)) (j + 1) n s seen₀ seen i
    × Paired (leb (commit_number (row_at 8 j c)) low) (j + 1) marks₀ marks seen

abbrev pub invariant-loop-i : goal.invariant-loop-i
invariant-loop-i l =
    Chain (row_entry l.entries l.commits l.rows) l.used l.follows l.j l.i
    × Walked l.low l.used l.entries l.j l.rows l.commits l.initial.seen l.initial.marks l.initial.flags l.initial.uses l.seen l.marks l.flags l.uses l.i

abbrev pub decreases-loop-i : goal.decreases-loop-i
decreases-loop-i l = l.used - l.i
