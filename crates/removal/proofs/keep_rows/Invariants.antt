-- Before row i the rows that are kept so far stand at the front, and the next one goes directly behind them.
use Prim.Native.Nat.{ℕ, ◌≤◌, ◌<◌}
use mathlib.Core.Path.{◌≡◌}
use mathlib.Core.Bool.{Bool, true}
use lib.ListN.{length}
use Rattle.spec.specs.Rows.{Row, row_at, rows_from}
use Rattle.removal.specs.Inner.{Says, kept_by}
use Rattle.removal.proofs.Moving.{Moving}
use Rattle.removal.proofs.keep_rows.Given as goal

abbrev pub invariant-loop-i : goal.invariant-loop-i
invariant-loop-i g l =
    record {
      fewer : l.left ≤ l.i;
      size : length l.buf ≡ length l.initial.buf;
      moved : (p : ℕ → Row → Bool) → Says (λ k row b. g.F.Fn.post l.stays (k, (row, tt)) b) p g.row.WIDTH l.used
          → ((k : ℕ) → k < l.first → p k (row_at g.row.WIDTH k l.initial.buf) ≡ true)
          → Moving (λ i. kept_by p i (rows_from g.row.WIDTH l.used i l.initial.buf)) g.row.WIDTH l.used l.initial.buf l.buf l.left l.i;
    }
