-- A row that is found is one of those searched.
-- Assumes nothing.
use Prim.Native.Nat.{ℕ, suc, ◌+◌, ◌<◌}
use mathlib.Core.Path.{◌≡◌}
use mathlib.Core.Bool.{Bool, true, false}
use mathlib.Core.List.{List, [], ◌∷◌}
use native.Mathlib.Omega.{arith}
use lib.ListN.{length}
use Rattle.std.specs.Prelude.{if◌then◌else◌, Some}
use Rattle.spec.specs.Rows.{Row}
use Rattle.spec.specs.Look.{find}

pub find_below : (p : Row → Bool) (i j : ℕ) (rs : List Row) → find p i rs ≡ Some j → j < i + length rs
unfolding find
find_below p i j [] e = let z : ◌≡◌ {A = ℕ} 0 1 = cc in omega arith
find_below p i j (r ∷ rs) e = go (p r) (find_below p (i + 1) j rs) e
  where
    go : (t : Bool) → (find p (i + 1) rs ≡ Some j → j < i + 1 + length rs) → (if t then Some i else find p (i + 1) rs) ≡ Some j → j < i + suc (length rs)
    go true h e = let q : i ≡ j = cc in omega arith
    go false h e = omega (arith, h e)
