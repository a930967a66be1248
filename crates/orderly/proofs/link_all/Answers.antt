-- In order as far as it goes, and the rest by the table of tags.
use mathlib.Core.Path.{sym}
use Rattle.orderly.specs.Inner.{row_entry, entry_places}
use Rattle.orderly.proofs.Chains.{linked_none}
use Rattle.orderly.proofs.TagsRise.{rising_order}
use Rattle.orderly.proofs.link_all.Goals.{else-both_rise, then-both_rise+else-from-eq0}
use Rattle.orderly.proofs.link_all.Goals as goal

pub returns-then-from-eq0-clause-value : goal.returns-then-from-eq0-clause-value
returns-then-from-eq0-clause-value c =
    let a = c.args in
    let up = c.both_rise.ensures c.if-both_rise.true in
    sym (rising_order a.entries a.commits.now up)

pub link_rows-requires-clause-linked_2 : goal.link_rows-requires-clause-linked_2
link_rows-requires-clause-linked_2 c =
    let a = c.args in
    let pre = c.requires in
    elim c.if-both_rise.branch [
      | then-both_rise+else-from-eq0 v ↦ rw (v.firsts-is, v.follows-is, v.from-is) v.link_in_order-from.ensures.linked
      | else-both_rise v ↦ rw (v.firsts-is, v.follows-is, v.from-is, pre.firsts_value) (linked_none (row_entry a.entries a.commits.now a.rows.now) a.used
          entry_places a.follows.now pre.follows_len)
    ]
