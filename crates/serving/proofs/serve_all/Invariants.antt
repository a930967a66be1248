-- After committed row j the marks, the flags and what else is known are right.
use Rattle.spec.specs.Marked.{Marks}
use Rattle.serving.specs.Inner.{SoFar, Judged, Used}
use Rattle.serving.proofs.serve_all.Given as goal

abbrev pub invariant-loop-j : goal.invariant-loop-j
invariant-loop-j l =
    Marks l.low l.used l.entries l.rows l.commits l.j l.marks × SoFar l.used l.entries l.rows l.commits l.j l.seen
    × Judged l.low l.used l.entries l.rows l.commits l.j l.flags × Used l.low l.used l.entries l.rows l.commits l.j l.uses
