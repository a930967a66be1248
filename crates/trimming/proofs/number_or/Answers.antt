-- By the variant.
use Rattle.trimming.specs.Inner.{number_or}
use Rattle.trimming.proofs.number_or.Goals as goal

pub returns-in-Some : goal.returns-in-Some
unfolding number_or
returns-in-Some c = rw c.in-Some.is

pub returns-in-None : goal.returns-in-None
unfolding number_or
returns-in-None c = rw c.in-None.is
