-- A word, the digits and the end, or one word. Assumes nothing.
use mathlib.Core.List.{append_assoc}
use native.Mathlib.Omega.{arith}
use Rattle.printing.proofs.Texts.{put_then, hex_length}
use Rattle.reply.proofs.put_reading.Goals as goal

pub put-requires : goal.put-requires
put-requires c = omega (arith, c.put_hex-b.ensures.place, c.put-a.ensures.place, hex_length c.args.value.now)

pub returns-in-Some : goal.returns-in-Some
returns-in-Some c =
    let w = c.put-a.ensures in
    let v = c.put_hex-b.ensures in
    let e = c.put.ensures in
    rw c.in-Some.is
    (record {
      put = simp append_assoc (put_then w (put_then v e));
      upper_bound = omega (arith, w.place, v.place, e.place, hex_length c.args.value.now);
    })
