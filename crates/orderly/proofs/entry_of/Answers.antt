-- The chain of the tag's place is searched: no row before its first one has the tag.
use Prim.Native.Nat.{◌<◌}
use Rattle.places.specs.Inner.{place}
use Rattle.orderly.proofs.Nexts.{next_one}
use Rattle.orderly.proofs.Entries.{entry_next, from_head}
use Rattle.orderly.proofs.entry_of.Goals as goal

pub returns : goal.returns
returns c =
    let place-small : place c.args.tag < 4096 = rw c.place_of-x.ensures.0 at c.place_of-x.ensures.1 in
    let a = c.args in
    next_one c.chained_entry.result _
    (from_head a.tag a.entries a.commits.now a.heads.now a.nexts.now 0 c.chained_entry.result
    place-small c.requires.linked (rw c.place_of-x.ensures.0 at c.chained_entry.ensures))
    (entry_next a.tag a.entries a.commits.now)
