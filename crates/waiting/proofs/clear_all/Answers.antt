-- `waiting::clear_all`: the bit is cleared in the lists passed.
-- Assumes nothing.
use Prim.Native.Nat.{ℕ}
use mathlib.Core.Path.{◌≡◌}
use borrow.Author.Rules.{rules}
use native.Mathlib.Omega.{arith}
use lib.ListN.{length, get_or}
use Rattle.std.proofs.lemmas.List.Edits.{map_over_more}
use Rattle.std.proofs.lemmas.Grind.{common_steps}
use Rattle.spec.specs.Set.{clients, remove}
use Rattle.spec.specs.Image.{cleared}
use Rattle.waiting.proofs.clear_all.Goals as goal

pub loop-list-preserved : goal.loop-list-preserved
loop-list-preserved c =
    let loop = c.loop-list in
    let n : length c.args.lists ≡ clients = search rules in
    rw c.without.ensures
    (map_over_more (λ (w : ℕ). remove w c.args.client) c.args.lists loop.list-items loop.list-index (get_or loop.list-items loop.list-index 0)
    (omega arith) loop.invariant (grind (arith, common_steps)))

pub returns : goal.returns
unfolding cleared
returns c = grind (arith, common_steps, c.loop-list.invariant)
