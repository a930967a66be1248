-- The lesser of two numbers may be taken in any grouping; what is missing changes nothing.
-- Assumes nothing.
use mathlib.Core.Path.{◌≡◌, refl}
use mathlib.Core.Bool.{Bool, true, false}
use native.Mathlib.Omega.{arith}
use lib.Dec.{ltb}
use borrow.Author.Tests.{lt-ltb, le-ltb, ltb-true, ltb-false}
use Rattle.std.specs.Prelude.{if◌then◌else◌, None, Some}
use Rattle.spec.specs.Numbers.{lesser, Number}

pub lesser_assoc : (a b c : Number) → lesser (lesser a b) c ≡ lesser a (lesser b c)
unfolding lesser
lesser_assoc None b c = refl
lesser_assoc (Some m) None c = refl
lesser_assoc (Some m) (Some n) None = go (ltb n m)
  where
    go : (t : Bool) → lesser (if t then Some n else Some m) None ≡ (if t then Some n else Some m)
    go true = refl
    go false = refl
lesser_assoc (Some m) (Some n) (Some o) = go (ltb n m) (ltb o n) refl refl
  where
    go : (t u : Bool) → ltb n m ≡ t → ltb o n ≡ u → lesser (if t then Some n else Some m) (Some o) ≡ lesser (Some m) (if u then Some o else Some n)
    go true true e f = rw (f, lt-ltb o m (omega (arith, ltb-true n m e, ltb-true o n f)))
    go true false e f = rw (f, e)
    go false true e f = refl
    go false false e f = rw (e, le-ltb o m (omega (arith, ltb-false n m e, ltb-false o n f)))

pub lesser-none : (a : Number) → lesser a None ≡ a
unfolding lesser
lesser-none None = refl
lesser-none (Some n) = refl
