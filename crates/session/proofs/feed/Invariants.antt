-- `session::feed`: what is left to say, behind what was said, is all that is to be said.
-- Assumes nothing.
use Prim.Native.Nat.{ℕ, ◌-◌, ◌≤◌, ◌<◌}
use mathlib.Core.Path.{◌≡◌}
use mathlib.Core.Logic.{◌⊎◌}
use mathlib.Core.List.{List, ◌++◌}
use lib.ListN.{length, take, drop}
use Rattle.spec.specs.Session.{answers, memory_after}
use Rattle.spec.specs.Bytes.{Memory, memory_of}
use Rattle.record.specs.Inner.{SameArrays, store_at}
use Rattle.session.specs.Inner.{lines_of, rest_of}
use Rattle.session.proofs.feed.Given as goal

-- from the memory w₀ and the text in out₀ the lines between start and from have led to w and the text in out
abbrev pub SoFar : List ℕ → ℕ → Memory → List ℕ → ℕ → Memory → List ℕ → ℕ → ℕ → Type 0
SoFar buf start w₀ out₀ at w out from used =
    (from ≤ length buf) × (used ≤ length out) × (length out ≡ length out₀) ×
    (length w.data_bytes ≡ length w₀.data_bytes) × (length w.commit_bytes ≡ length w₀.commit_bytes) ×
    (take used out ++ answers w (lines_of (drop from buf)) ≡ take at out₀ ++ answers w₀ (lines_of (drop start buf))) ×
    (memory_after w (lines_of (drop from buf)) ≡ memory_after w₀ (lines_of (drop start buf))) ×
    (rest_of (drop from buf) ≡ rest_of (drop start buf)) × ((start < from) ⊎ ((from ≡ start) × (used ≡ at)))

abbrev pub invariant-loop-from : goal.invariant-loop-from
invariant-loop-from l =
    SameArrays l.initial.r l.r
    × SoFar l.buf l.start (memory_of (store_at l.initial.r) l.initial.rows l.initial.commits l.initial.versions) l.initial.out l.at
    (memory_of (store_at l.r) l.rows l.commits l.versions) l.out l.from l.used

abbrev pub decreases-loop-from : goal.decreases-loop-from
decreases-loop-from l = length l.buf - l.from
