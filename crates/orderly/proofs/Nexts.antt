-- The next hit from a number on (`Next`): none at the end, one here, past a miss; and it is one number.
-- Assumes nothing.
use Prim.Native.Nat.{ℕ, ◌+◌, ◌<◌}
use mathlib.Core.Path.{◌≡◌, refl}
use native.Mathlib.Decide.{dec_lt}
use native.Mathlib.Omega.{arith}
use Rattle.search.specs.Inner.{Next}
use Rattle.search.proofs.Passes.{past_none, past-miss, past-found, past-joined}

pub next_none : {Hit : ℕ → Type 0} (n : ℕ) → Next Hit n n n
next_none n = past_none refl

pub next_here : {Hit : ℕ → Type 0} {n : ℕ} (i : ℕ) → i < n → Hit i → Next Hit i n i
next_here i h e = past-found (past_none refl) h e

pub next_past : {Hit : ℕ → Type 0} {n : ℕ} (i r : ℕ) → (Hit i → ⊥) → Next Hit (i + 1) n r → Next Hit i n r
next_past i r ne p = past-joined (past-miss (past_none refl) refl ne) p

-- there is one next hit
pub next_one : {Hit : ℕ → Type 0} {from n : ℕ} (r q : ℕ) → Next Hit from n r → Next Hit from n q → r ≡ q
next_one r q a b = go (dec_lt r q) (dec_lt q r)
  where
    go : Dec (r < q) → Dec (q < r) → r ≡ q
    go (yes l) d = absurd (b.misses r a.start l (a.hit (omega (arith, b.end))))
    go (no l) (yes g) = absurd (a.misses q b.start g (b.hit (omega (arith, a.end))))
    go (no l) (no g) = omega (arith, l, g)
