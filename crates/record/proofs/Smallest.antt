-- The smallest snapshot of open clients, one client further.
-- Assumes nothing.
use Prim.Native.Nat.{ℕ, suc, ◌<◌, ◌≤◌}
use mathlib.Core.Path.{◌≡◌, refl, ap, ◌∙◌}
use mathlib.Core.Bool.{Bool, true, false}
use mathlib.Core.List.{List}
use native.Mathlib.Omega.{arith}
use lib.ListN.{get_or}
use lib.Dec.{ltb}
use borrow.Author.Tests.{lt-ltb, le-ltb, eq-eqb, ltb-false}
use Rattle.std.specs.Prelude.{if◌then◌else◌, None, Some}
use Rattle.spec.specs.Numbers.{lesser, smallest}
use Rattle.spec.specs.Calls.{readers}
use Rattle.record.specs.Inner.{short_number, Lowers, SmallestOpen, AllClosed}

-- ---- a snapshot s beside the smallest so far, b

pub lesser_new : (s b : ℕ) → s < 4294967296 → s < b → short_number s ≡ lesser (Some s) (short_number b)
unfolding lesser short_number
lesser_new s b h g = rw (lt-ltb s 4294967296 h) (go (ltb b 4294967296))
  where
    go : (t : Bool) → Some s ≡ lesser (Some s) (if t then Some b else None)
    go true = rw (le-ltb b s (omega (arith, g)))
    go false = refl

pub lesser_old : (s b : ℕ) → s < 4294967296 → b ≤ s → short_number b ≡ lesser (Some s) (short_number b)
unfolding lesser short_number
lesser_old s b h g = rw (lt-ltb b 4294967296 (omega (arith, h, g))) (go (ltb b s) refl)
  where
    go : (t : Bool) → ltb b s ≡ t → Some b ≡ (if t then Some b else Some s)
    go true e = refl
    go false e = let same : b ≡ s = omega (arith, g, ltb-false b s e) in rw same

-- ---- one client further

-- client k beside those below it, in the lists l of numbers and p of snapshots
pub one_lower : (l p : List ℕ) (k b r : ℕ) {m : ℕ} → m ≡ suc k → Lowers b (get_or l k 0) (get_or p k 0) r
    → SmallestOpen l p k (short_number b) → SmallestOpen l p m (short_number r)
unfolding readers smallest
one_lower l p k b r e i f x n s = rw e (rw (← n, ← s) at i ∙ ap (lesser _) (f x n s))

-- one more closed client
pub closed_more : (l : List ℕ) (k m : ℕ) {q : ℕ} → q ≡ suc m → get_or l m 0 ≡ 0 → AllClosed l k m → AllClosed l k q
unfolding readers smallest lesser
closed_more l k m e o f x n = rw (e, f x n, n, eq-eqb (get_or l m 0) 0 o)
