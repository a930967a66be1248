-- `looks::last_cell`: no row has a cell above 65,535; of the others the test holds of the rows that are hits, and of no others.
use native.Mathlib.Omega.{arith}
use Rattle.std.proofs.Common.{rules}
use Rattle.search.proofs.Passes.{last_by, last_none}
use Rattle.looks.proofs.Sight.{cell_fits}
use Rattle.looks.proofs.last_cell.Goals as goal

pub returns-then-cell-gt65535 : goal.returns-then-cell-gt65535
returns-then-cell-gt65535 c =
    last_none
    (λ k b e. omega (arith, cell_fits k c.args.rows.now (omega arith) (λ j. (c.type_inv.rows j).fits)))

pub returns : goal.returns
returns c = last_by c.last_hit.ensures (λ k l a. search rules) (λ k l a h. search rules)
