-- The row at the tag's place has the tag, or none is there, or another tag has the place.
use Prim.Native.Nat.{◌≤◌}
use mathlib.Core.Path.{◌≡◌, sym, ◌∙◌}
use lib.ListN.{get_or}
use native.Mathlib.Omega.{arith}
use Rattle.places.specs.Inner.{place}
use Rattle.places.proofs.Places.{at_most, row_found, row_nowhere, row_missed}
use Rattle.trimming.proofs.use_flag.Goals as goal

pub returns-then-at-eq0 : goal.returns-then-at-eq0
returns-then-at-eq0 c =
    let at_place : get_or c.args.places.now c.place_of-x.result 0 ≡ get_or c.args.places.now
    (place c.args.tag) 0 = rw c.place_of-x.ensures.0 in
    let a = c.args in
    rw (row_nowhere a.left a.rows.now a.places.now c.requires.places a.tag _ at_place c.if-at-eq0.true)

pub returns-then-tag_at-tag : goal.returns-then-tag_at-tag
returns-then-tag_at-tag c =
    let at_place : get_or c.args.places.now c.place_of-x.result 0 ≡ get_or c.args.places.now
    (place c.args.tag) 0 = rw c.place_of-x.ensures.0 in
    let within : get_or c.args.places.now c.place_of-x.result 0 ≤ c.args.left =
    at_most _ c.args.left c.args.places.now c.requires.places c.args.tag _ at_place in
    let a = c.args in
    rw (row_found a.left a.rows.now a.tag _ (omega (arith, within))
    (sym c.tag_at.ensures ∙ c.if-tag_at-tag.true))

pub returns-then-next_tag-left : goal.returns-then-next_tag-left
returns-then-next_tag-left c =
    let a = c.args in
    let next = c.next_tag in
    rw (row_found a.left a.rows.now a.tag next.result c.if-next_tag-left.true (next.ensures.hit c.if-next_tag-left.true))

pub returns-else-next_tag-left : goal.returns-else-next_tag-left
returns-else-next_tag-left c =
    let at_place : get_or c.args.places.now c.place_of-x.result 0 ≡ get_or c.args.places.now
    (place c.args.tag) 0 = rw c.place_of-x.ensures.0 in
    let a = c.args in
    let next = c.next_tag in
    rw (row_missed a.left a.rows.now a.places.now c.requires.places a.tag _
    at_place next.result
    (λ e. c.if-tag_at-tag.false (c.tag_at.ensures ∙ e)) next.ensures c.if-next_tag-left.false)
