-- `sets::count` gives the size: the count of ones of a number below 2 ^ clients. Assumes nothing.
use mathlib.Core.Path.{sym, ap, ◌∙◌}
use native.Mathlib.Nat.{mod-eq_of_lt}
use lib.Count.{ones}
use Rattle.spec.specs.Set.{clients}
use Rattle.spec.proofs.Sets.{size-ones}
use Rattle.sets.proofs.count.Goals as goal

pub returns : goal.returns
returns c = sym (size-ones clients c.args.set ∙ ap ones (mod-eq_of_lt c.ranges.set.fits))
