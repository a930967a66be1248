-- `given::acceptable`: the tests of set-up, in the definition's order.
-- Assumes nothing.
use Prim.Native.Nat.{ℕ, ◌*◌, ◌/◌}
use mathlib.Core.Path.{◌≡◌, refl}
use mathlib.Core.Bool.{Bool, true, false, not}
use native.Mathlib.Omega.{arith}
use borrow.Author.Tests.{lt-ltb, le-ltb, eq-eqb, ne_eqb, leb-true, leb-false}
use lib.Dec.{leb, ltb}
use Rattle.spec.specs.Bytes.{accepts}
use Rattle.given.proofs.acceptable.Goals as goal

-- at most 64 is not above 64
limit_test : (l : ℕ) → leb l 64 ≡ not (ltb 64 l)
limit_test l = go (leb l 64) refl
  where
    go : (b : Bool) → leb l 64 ≡ b → b ≡ not (ltb 64 l)
    go true e = rw (le-ltb 64 l (leb-true l 64 e))
    go false e = rw (lt-ltb 64 l (leb-false l 64 e))

pub returns-then-d-n : goal.returns-then-d-n
unfolding accepts
returns-then-d-n c = let a = c.args in rw (ne_eqb a.d (24 * (a.d / 24)) c.if-d-n.true)

pub returns-then-n-lt1 : goal.returns-then-n-lt1
unfolding accepts
returns-then-n-lt1 c = let a = c.args in rw (eq-eqb a.d (24 * (a.d / 24)) (omega arith), lt-ltb (a.d / 24) 1 (omega arith))

pub returns-then-n-gt1024 : goal.returns-then-n-gt1024
unfolding accepts
returns-then-n-gt1024 c = let a = c.args in rw (
  eq-eqb a.d (24 * (a.d / 24)) (omega arith),
  le-ltb (a.d / 24) 1
      (omega arith),
  lt-ltb 1024 (a.d / 24) (omega arith),
)

pub returns-then-c-n : goal.returns-then-c-n
unfolding accepts
returns-then-c-n c = let a = c.args in rw (
  eq-eqb a.d (24 * (a.d / 24)) (omega arith),
  le-ltb (a.d / 24) 1 (omega arith),
  le-ltb 1024 (a.d / 24) (omega arith),
  ne_eqb
      a.c (8 * (a.d / 24)) c.if-c-n.true,
)

pub returns-then-first-eq0 : goal.returns-then-first-eq0
unfolding accepts
returns-then-first-eq0 c = let a = c.args in rw (
  eq-eqb a.d (24 * (a.d / 24)) (omega arith),
  le-ltb (a.d / 24) 1 (omega arith),
  le-ltb 1024 (a.d / 24) (omega arith),
  eq-eqb
      a.c (8 * (a.d / 24)) (omega arith),
  eq-eqb a.first 0 (omega arith),
)

pub returns : goal.returns
unfolding accepts
returns c = let a = c.args in rw (
  eq-eqb a.d (24 * (a.d / 24)) (omega arith),
  le-ltb (a.d / 24) 1 (omega arith),
  le-ltb 1024 (a.d / 24) (omega arith),
  eq-eqb
      a.c (8 * (a.d / 24)) (omega arith),
  ne_eqb a.first 0 c.if-first-eq0.false,
) (limit_test a.limit)
