-- `search::first_hit`: the numbers of a turn are below end, and those before them are passed.
use Prim.Native.Nat.{ℕ, ◌+◌, ◌*◌, ◌-◌, ◌/◌, ◌≤◌, ◌<◌}
use native.Mathlib.Nat.{mul_comm}
use native.Mathlib.Omega.{arith}
use Rattle.std.proofs.Common.{rules}
use Rattle.std.proofs.lemmas.Nat.{mul-add-lt}
use Rattle.search.proofs.first_hit.Goals as goal

within : (width from end t j : ℕ) → from ≤ end → t < (end - from) / width → j < width → from + width * t + j < end
within width from end t j h l b = omega (arith, mul-add-lt t width j ((end - from) / width) l b, mul_comm width t)

pub hit-requires : goal.hit-requires
hit-requires g c =
    c.requires.callable _ (omega arith)
    (within g.row.N c.args.from c.args.end c.loop-t.t c.loop-j.j c.requires.from_le_end c.loop-t-test.true c.loop-j-test.true)

pub returns-then-hit : goal.returns-then-hit
returns-then-hit g c =
    let below = within g.row.N c.args.from c.args.end c.loop-t.t c.loop-j.j c.requires.from_le_end c.loop-t-test.true c.loop-j-test.true in
    record { start = omega arith; end = omega (arith, below); misses = c.loop-j.invariant; hit = λ b. search rules }
