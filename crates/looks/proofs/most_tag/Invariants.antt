-- `looks::most_tag`: what it has come to is at least the reader's number and the tags of the rows passed that are numbered up to the snapshot.
use Rattle.looks.specs.Inner.{MostTag}
use Rattle.looks.proofs.most_tag.Given as goal

abbrev pub invariant-loop-i : goal.invariant-loop-i
invariant-loop-i l = MostTag l.commits l.from l.i l.tag l.snapshot l.most
