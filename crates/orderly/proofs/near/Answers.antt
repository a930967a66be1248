-- The tag is that of row at, or lies between those of two neighbours.
use Prim.Native.Nat.{◌<◌}
use mathlib.Core.Path.{sym, ◌∙◌}
use native.Mathlib.Omega.{arith}
use Rattle.spec.specs.Rows.{row_at, commit_tag}
use Rattle.orderly.proofs.TagsRise.{entry_is, entry_none}
use Rattle.orderly.proofs.near.Goals.{else-at-entries, then-at-entries+else-tag-here+else-here-tag}
use Rattle.orderly.proofs.near.Goals as goal

pub returns-then-tag-here : goal.returns-then-tag-here
returns-then-tag-here c =
    let a = c.args in
    λ l. sym (entry_is a.entries a.commits.now c.requires.tags_rise a.tag a.at c.if-at-entries.true
    (sym c.commit_tag_at-here.ensures ∙ sym c.if-tag-here.true))

pub returns-then-at-eq0 : goal.returns-then-at-eq0
returns-then-at-eq0 c =
    let a = c.args in
    -- the tag of row at is above
    let above : a.at < a.entries → a.tag < commit_tag (row_at 8 a.at a.commits.now) = λ h.
    elim c.if-at-entries.branch [
      | then-at-entries+else-tag-here+else-here-tag v ↦
          omega (arith, v.commit_tag_at-here.ensures, v.if-tag-here.false, v.if-here-tag.false)
      | else-at-entries v ↦ absurd (omega (arith, v.if-at-entries.false))
    ] in
    let low = c.if-at-eq0.true in
    λ l. sym (entry_none a.entries a.commits.now c.requires.tags_rise a.tag a.at c.requires.at_le_entries
    (λ h. absurd (omega (arith, low))) above)

pub returns-then-commit_tag_at-tag : goal.returns-then-commit_tag_at-tag
returns-then-commit_tag_at-tag c =
    let a = c.args in
    -- the tag of row at is above
    let above : a.at < a.entries → a.tag < commit_tag (row_at 8 a.at a.commits.now) = λ h.
    elim c.if-at-entries.branch [
      | then-at-entries+else-tag-here+else-here-tag v ↦
          omega (arith, v.commit_tag_at-here.ensures, v.if-tag-here.false, v.if-here-tag.false)
      | else-at-entries v ↦ absurd (omega (arith, v.if-at-entries.false))
    ] in
    λ l. sym (entry_none a.entries a.commits.now c.requires.tags_rise a.tag a.at c.requires.at_le_entries
    (λ h. omega (arith, c.commit_tag_at.ensures, c.if-commit_tag_at-tag.true)) above)
