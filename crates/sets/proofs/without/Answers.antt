-- `sets::without`: digit k, as much as it counts for, is taken away. Assumes nothing.
use mathlib.Core.Path.{sym}
use native.Mathlib.Omega.{arith}
use lib.Bits.{and_le_l}
use Rattle.spec.specs.Set.{clients, remove}
use Rattle.spec.proofs.Sets.{member_above, one_shifted, remove_and}
use Rattle.sets.proofs.without.Goals as goal

pub returns-then-client-ge-LIMIT : goal.returns-then-client-ge-LIMIT
unfolding remove
returns-then-client-ge-LIMIT c = rw (member_above clients c.args.set c.args.client c.ranges.set.fits (omega arith))

pub overflow_sub-result : goal.overflow_sub-result
overflow_sub-result c = and_le_l c.args.set _

pub returns : goal.returns
returns c =
    let a = c.args in
    rw (one_shifted clients a.client (omega arith)) (sym (remove_and a.set a.client))
