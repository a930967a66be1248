use borrow.Author.Rules.{rules}
use mathlib.Core.Path.{sym, refl}
use Rattle.spec.specs.Set.{clients, member, bit}
use Rattle.spec.proofs.Sets.{member_above}
use Rattle.sets.proofs.has.Goals as goal

pub returns-then-client-ge-LIMIT : goal.returns-then-client-ge-LIMIT
returns-then-client-ge-LIMIT c = sym (member_above clients _ _ c.ranges.set.fits (search rules))

pub returns : goal.returns
unfolding member bit
returns c = refl
