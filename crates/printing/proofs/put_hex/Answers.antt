-- The text up to o with the digits of the bytes from b on is the whole text. Assumes nothing.
use native.Mathlib.Omega.{arith}
use Rattle.printing.proofs.Texts.{hex_all, hex_length}
use Rattle.printing.proofs.put_hex.Goals as goal

pub returns : goal.returns
returns c =
    let l = c.loop-b in
    let v = c.args.value.now in
    record { place = omega (arith, hex_length v); text = hex_all l.out v _ l.o l.b-index l.invariant.1 c.loop-b-test.false }
