-- `looks::least_tag`: what it has come to is at most the reader's number and the tags of the rows passed.
use Rattle.looks.specs.Inner.{LeastTag}
use Rattle.looks.proofs.least_tag.Given as goal

abbrev pub invariant-loop-i : goal.invariant-loop-i
invariant-loop-i l = LeastTag l.commits l.from l.i l.tag l.least
