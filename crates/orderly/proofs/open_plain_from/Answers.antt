-- Where there is no row that is not committed nothing is to be shown of one. Few rows are tested along their chain; else flags are their places.
use Rattle.orderly.proofs.Flagged.{flags-alike, flags-start, flags-test}
use Rattle.orderly.proofs.open_plain_from.Goals as goal

pub open_plain-requires-clause-alike : goal.open_plain-requires-clause-alike
open_plain-requires-clause-alike c =
    let a = c.args in
    let some = c.requires.some_tag_walk in
    flags-alike some.key some.at a.used _ (c.chain_flags.ensures some.key some.at some.walk.walk) a.rows.now some.walk.alike

pub open_plain-requires-clause-next : goal.open_plain-requires-clause-next
open_plain-requires-clause-next c =
    let a = c.args in
    let some = c.requires.some_tag_walk in
    flags-start some.key some.at a.used _ (c.chain_flags.ensures some.key some.at some.walk.walk) a.first some.walk.walk.start

pub returns-then-first-used : goal.returns-then-first-used
returns-then-first-used c =
    let a = c.args in
    λ key x w. flags-test key x a.used _ (c.chain_flags.ensures key x w.walk) a.rows.now _ c.open_plain.ensures
