-- Before row i the rows of the place have their flags, and from it on no row has one; rows of other places are passed over.
use Prim.Native.Nat.{ℕ, ◌-◌}
use Rattle.orderly.specs.Inner.{Chain, Walk}
use Rattle.orderly.proofs.Flagged.{Flagged}
use Rattle.orderly.proofs.chain_flags.Given as goal

abbrev pub invariant-loop-i : goal.invariant-loop-i
invariant-loop-i l =
    (key : ℕ → ℕ) (x : ℕ) → Walk key x l.used l.follows l.first → Chain key l.used l.follows x l.i × Flagged key x l.used l.flags l.i

abbrev pub decreases-loop-i : goal.decreases-loop-i
decreases-loop-i l = l.used - l.i
