-- Before row i the rows that are kept so far stand at the front, and the next one goes directly behind them.
use Prim.Native.Nat.{ℕ}
use mathlib.Core.Path.{◌≡◌, refl, sym, ◌∙◌}
use mathlib.Core.List.{List}
use native.Mathlib.Omega.{arith}
use borrow.Author.Rules.{rules}
use Rattle.spec.specs.Rows.{Row, row_at, rows_from}
use Rattle.spec.proofs.Rows.{rows_start}
use Rattle.removal.specs.Inner.{kept_by}
use Rattle.removal.proofs.Moving.{kept_no, kept_yes, kept_end, moving_room, moving_row}
use Rattle.removal.proofs.Moving.{moving-start, moving_skip, moving-keep, moving-end}
use Rattle.removal.proofs.keep_rows.Goals.{else-stays, then-stays}
use Rattle.removal.proofs.keep_rows.Goals as goal

pub loop-i-init : goal.loop-i-init
loop-i-init g c =
    let a = c.args in
    let w = g.row.WIDTH in
    record {
      fewer = omega arith;
      size = refl;
      moved = λ p says stay.
          moving-start (λ i. kept_by p i (rows_from w a.used i a.buf.now)) w a.used a.buf.now c.requires.used_in_bounds a.first c.requires.first_le_used
          (λ k h. kept_yes p w a.used k a.buf.now (omega arith) (stay k h));
    }

pub overflow_mul-left : goal.overflow_mul-left
overflow_mul-left g c =
    let loop = c.loop-i in
    let room = moving_room g.row.WIDTH c.args.used _ loop.left loop.i c.requires.used_in_bounds c.loop-i-test.true loop.invariant.fewer in
    omega (arith, room)

pub put-requires : goal.put-requires
put-requires g c =
    let loop = c.loop-i in
    let room = moving_room g.row.WIDTH c.args.used _ loop.left loop.i c.requires.used_in_bounds c.loop-i-test.true loop.invariant.fewer in
    omega (arith, room)

pub loop-i-preserved : goal.loop-i-preserved
loop-i-preserved g c =
    let a = c.args in
    let loop = c.loop-i in
    let w = g.row.WIDTH in
    let n = a.used in
    let s = a.buf.now in
    record {
      fewer = search rules;
      size = search rules;
      moved = λ p says stay.
          let K : ℕ → List Row = λ i. kept_by p i (rows_from w n i s) in
          let m = loop.invariant.moved p says stay in
          let same : c.bytes_at-row.result ≡ row_at w loop.i s = c.bytes_at-row.ensures ∙ moving_row K w n s loop.buf loop.left loop.i m in
          let told = says loop.i _ _ (omega arith) (search rules) c.stays.ensures in
          elim c.if-stays.branch [
            | then-stays v ↦ rw (v.left-is, v.buf-is, v.put.ensures, c.bytes_at-row.ensures) (moving-keep K w n s c.requires.used_in_bounds loop.buf
                loop.left loop.i (omega arith) (kept_yes p w n loop.i s (omega arith) (rw same at (sym told ∙ v.if-stays.true))) m)
            | else-stays v ↦ rw (v.left-is, v.buf-is) (moving_skip K w n s loop.buf loop.left loop.i (omega arith)
                (kept_no p w n loop.i s (omega arith) (rw same at (sym told ∙ v.if-stays.false))) m)
          ];
    }

pub returns-clause-kept : goal.returns-clause-kept
returns-clause-kept g c = λ p says stay.
    let a = c.args in
    let w = g.row.WIDTH in
    let loop = c.loop-i in
    moving-end (λ i. kept_by p i (rows_from w a.used i a.buf.now)) w a.used a.buf.now c.requires.used_in_bounds _
    (rw (rows_start w a.used a.buf.now)) loop.buf loop.left loop.i c.loop-i-test.false
    (kept_end p w a.used loop.i a.buf.now c.loop-i-test.false) (loop.invariant.moved p says stay)
