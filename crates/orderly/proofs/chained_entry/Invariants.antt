-- No row from `from` on and before row i has the tag: the rows of the chain that were met have another, and rows of other places too.
use Prim.Native.Nat.{ℕ, ◌-◌, ◌≤◌, ◌<◌}
use mathlib.Core.Path.{◌≡◌}
use Rattle.spec.specs.Rows.{row_at, commit_tag}
use Rattle.places.specs.Inner.{place}
use Rattle.orderly.specs.Inner.{tag_place, Chain}
use Rattle.orderly.proofs.chained_entry.Given as goal

abbrev pub invariant-loop-i : goal.invariant-loop-i
invariant-loop-i l =
    Chain (tag_place l.commits) l.entries l.nexts (place l.tag) l.i × (l.from ≤ l.i)
    × ((k : ℕ) → l.from ≤ k → k < l.i → commit_tag (row_at 8 k l.commits) ≡ l.tag → ⊥)

abbrev pub decreases-loop-i : goal.decreases-loop-i
decreases-loop-i l = l.entries - l.i
