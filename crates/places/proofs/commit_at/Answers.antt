-- The row at the tag's place is the first with the tag, or none is there, or another tag has the place.
use mathlib.Core.Path.{◌≡◌, sym, ap, ◌∙◌}
use lib.ListN.{get_or}
use Rattle.std.specs.Prelude.{Some}
use Rattle.places.specs.Inner.{place}
use Rattle.places.proofs.Places.{commit_nowhere, commit_found}
use Rattle.places.proofs.commit_at.Goals as goal

pub returns-then-at-eq0 : goal.returns-then-at-eq0
returns-then-at-eq0 c =
    let at_place : get_or c.args.places.now c.place_of-x.result 0 ≡ get_or c.args.places.now
    (place c.args.tag) 0 = rw c.place_of-x.ensures.0 in
    let a = c.args in
    sym (commit_nowhere a.entries a.commits.now a.places.now c.requires.places a.tag _ at_place c.if-at-eq0.true)

pub returns-then-commit_tag_at-tag : goal.returns-then-commit_tag_at-tag
returns-then-commit_tag_at-tag c =
    let at_place : get_or c.args.places.now c.place_of-x.result 0 ≡ get_or c.args.places.now
    (place c.args.tag) 0 = rw c.place_of-x.ensures.0 in
    let a = c.args in
    ap Some c.commit_number_at.ensures
    ∙ sym (commit_found a.entries a.commits.now a.places.now c.requires.places a.tag _
    at_place c.if-at-eq0.false
    (sym c.commit_tag_at.ensures ∙ c.if-commit_tag_at-tag.true))
