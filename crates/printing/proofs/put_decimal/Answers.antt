-- Three digits or four are those of the hundreds, and two more. Assumes nothing.
use native.Mathlib.Omega.{arith}
use Rattle.printing.proofs.Texts.{put_then, decimal_four}
use Rattle.printing.proofs.put_decimal.Goals as goal

pub returns-then-n-lt10000 : goal.returns-then-n-lt10000
returns-then-n-lt10000 c =
    let s = c.put_short-a.ensures in
    let p = c.put_pair.ensures in
    rw (decimal_four c.args.n c.if-n-lt100.false c.if-n-lt10000.true) (record { put = put_then s.put p; upper_bound = omega (arith, s.upper_bound, p.place) })
