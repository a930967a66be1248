-- Before row i the rows of the place have their flags, and from it on no row has one; rows of other places are passed over.
use Prim.Native.Nat.{◌≤◌, ◌<◌}
use lib.ListN.{get_or}
use native.Mathlib.Omega.{arith}
use Rattle.orderly.proofs.Chains.{chain-rises, chain_more}
use Rattle.orderly.proofs.Flagged.{flagged_start, flagged_more, flagged_end}
use Rattle.orderly.proofs.chain_flags.Goals as goal

pub loop-i-init : goal.loop-i-init
loop-i-init c = λ key x w. (
  w.chain,
  flagged_start key x c.args.used c.requires.used_bound c.args.flags.now c.requires.flags_value c.args.first w.start,
)

pub loop-i-smaller : goal.loop-i-smaller
loop-i-smaller c =
    let rises : let a = c.args in
    let i = c.loop-i.i in (i < get_or a.follows.now i 0) × (get_or a.follows.now i 0 ≤ a.used) = let a = c.args in
    let some = c.requires.some_walk in
    chain-rises some.key a.used a.follows.now some.at c.loop-i.i c.loop-i-test.true
    (c.loop-i.invariant some.key some.at some.walk).0 in
    omega (arith, rises)

pub loop-i-preserved : goal.loop-i-preserved
loop-i-preserved c =
    let a = c.args in
    let loop = c.loop-i in
    let h = c.loop-i-test.true in
    λ key x w.
    let now = loop.invariant key x w in (
      chain_more key a.used a.follows.now x loop.i h now.0,
      flagged_more key x a.used c.requires.used_bound a.follows.now loop.flags loop.i h now.0 now.1,
    )

pub returns : goal.returns
returns c =
    let loop = c.loop-i in
    λ key x w. flagged_end key x c.args.used loop.flags loop.i c.loop-i-test.false (loop.invariant key x w).1
