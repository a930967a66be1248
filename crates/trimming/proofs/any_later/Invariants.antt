-- Any row later among all is any among the rows from i on.

use mathlib.Core.Path.{◌≡◌}
use mathlib.Core.List.{List}
use Rattle.spec.specs.Rows.{Row, rows_in, rows_from}
use Rattle.spec.specs.Share.{any}
use Rattle.spec.specs.Trim.{later}
use Rattle.trimming.specs.Inner.{Numbers}
use Rattle.trimming.proofs.any_later.Given as goal

abbrev pub invariant-loop-i : goal.invariant-loop-i
invariant-loop-i l =
    (cs : List Row) → Numbers l.used cs l.rows l.numbers
    → any (later cs l.low l.cell l.n) (rows_in 24 l.used l.rows) ≡ any (later cs l.low l.cell l.n) (rows_from 24 l.used l.i l.rows)
