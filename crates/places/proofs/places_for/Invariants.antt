-- The rows from k on are entered.
use Prim.Native.Nat.{ℕ, ◌<◌}
use mathlib.Core.Path.{◌≡◌}
use Rattle.places.proofs.Places.{Entered}
use Rattle.places.proofs.places_for.Given as goal

abbrev pub invariant-loop-k : goal.invariant-loop-k
invariant-loop-k g l =
    (t : ℕ → ℕ) → ((k x : ℕ) → k < l.n → g.F.Fn.post l.tag (k, tt) x → x ≡ t k) → Entered t l.n l.places l.k
