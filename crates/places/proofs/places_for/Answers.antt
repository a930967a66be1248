-- The rows from k on are entered.
use Prim.Native.Nat.{◌+◌, ◌-◌}
use mathlib.Core.Path.{◌≡◌, ap, ◌∙◌}
use native.Mathlib.Omega.{arith}
use Rattle.places.specs.Inner.{place}
use Rattle.places.proofs.Places.{entered_none, entered_more}
use Rattle.places.proofs.places_for.Goals as goal

pub loop-k-init : goal.loop-k-init
loop-k-init g c = λ t h. entered_none t c.args.n

pub loop-k-preserved : goal.loop-k-preserved
loop-k-preserved g c = λ t h.
    let loop = c.loop-k in
    let same : loop.k - 1 + 1 ≡ loop.k = omega arith in
    rw same
    (entered_more t c.args.n loop.places loop.k c.place_of.result c.loop-k-test.true
    (c.place_of.ensures.0 ∙ ap place (h _ _ (omega arith) c.tag.ensures)) (loop.invariant t h))
