-- The part that is lent is the digits. Assumes nothing.
use mathlib.Core.Path.{◌∙◌}
use native.Mathlib.Omega.{arith}
use Rattle.std.proofs.lemmas.List.{take_rest}
use Rattle.printing.proofs.Texts.{spelled_length}
use Rattle.printing.proofs.put_long.Goals as goal

pub returns : goal.returns
returns c =
    let d = c.digits_of-s.result in
    let s = c.digits_of-s.ensures in
    let p = rw (take_rest d.bytes d.from ∙ s.whole) at c.put.ensures in
    record { put = p; upper_bound = omega (arith, p.place, spelled_length s) }
