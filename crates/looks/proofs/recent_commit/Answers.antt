-- `looks::recent_commit`: committed rows before row from are numbered below least, so that a row with the tag counts only from there on, and only if
-- none before it has the tag.
use Rattle.std.specs.Prelude.{Some}
use Prim.Native.Nat.{ℕ, ◌≤◌, ◌<◌}
use mathlib.Core.Path.{◌≡◌, sym, ap, ◌∙◌}
use mathlib.Core.List.{List}
use native.Mathlib.Decide.{dec_lt}
use native.Mathlib.Omega.{arith}
use Rattle.spec.specs.Rows.{row_at, commit_number, commit_tag}
use Rattle.spec.specs.Numbers.{at_least, up_to}
use Rattle.search.specs.Inner.{Next}
use Rattle.search.proofs.Folds.{commit_first}
use Rattle.looks.specs.Inner.{NumberedBelow}
use Rattle.looks.proofs.Recent.{too_small, too_large, in_bounds, Outside, outside_from, all_outside, first_outside}
use Rattle.looks.proofs.recent_commit.Goals as goal

-- the rows before row r, where none from row from on has the tag
before : (m s tag n from r : ℕ) (c : List ℕ) → NumberedBelow c from m → Next (λ k. commit_tag (row_at 8 k c) ≡ tag) from n r
    → (k : ℕ) → k < r → Outside m s tag n c k
before m s tag n from r c below pass = outside_from m s tag n c below (λ k l b e. absurd (pass.misses k l b e))

pub returns-then-entries-at : goal.returns-then-entries-at
returns-then-entries-at c =
    let a = c.args in
    let pass = c.next_commit-at.ensures in
    sym (all_outside a.least a.snapshot a.tag a.entries a.commits.now
    (λ k b. before a.least a.snapshot a.tag a.entries a.from c.next_commit-at.result a.commits.now c.requires.numbered_below pass k
    (omega (arith, c.if-entries-at.true))))

pub returns-then-number-least : goal.returns-then-number-least
returns-then-number-least c =
    let a = c.args in
    let at = c.next_commit-at.result in
    let pass = c.next_commit-at.ensures in
    let h : at < a.entries = omega (arith, c.if-entries-at.false) in
    sym (first_outside a.least a.snapshot a.tag a.entries a.commits.now at h (pass.hit h)
    (before a.least a.snapshot a.tag a.entries a.from at a.commits.now c.requires.numbered_below pass)
    (too_small a.least a.snapshot (commit_number (row_at 8 at a.commits.now)) (omega (arith, c.if-number-least.true, c.commit_number_at-number.ensures))))

pub returns-then-snapshot-number : goal.returns-then-snapshot-number
returns-then-snapshot-number c =
    let a = c.args in
    let at = c.next_commit-at.result in
    let pass = c.next_commit-at.ensures in
    let h : at < a.entries = omega (arith, c.if-entries-at.false) in
    sym (first_outside a.least a.snapshot a.tag a.entries a.commits.now at h (pass.hit h)
    (before a.least a.snapshot a.tag a.entries a.from at a.commits.now c.requires.numbered_below pass)
    (too_large a.least a.snapshot (commit_number (row_at 8 at a.commits.now))
    (omega (arith, c.if-snapshot-number.true, c.commit_number_at-number.ensures))))

pub returns-then-next_commit-from : goal.returns-then-next_commit-from
returns-then-next_commit-from c =
    let a = c.args in
    let first = c.next_commit.result in
    let pass = c.next_commit.ensures in
    let h : first < a.from = omega (arith, c.if-next_commit-from.true) in
    sym (first_outside a.least a.snapshot a.tag a.entries a.commits.now first (omega (arith, h, c.requires.from_le_entries)) (pass.hit h)
    (λ k b e. absurd (pass.misses k (omega arith) b e))
    (too_small a.least a.snapshot (commit_number (row_at 8 first a.commits.now)) (c.requires.numbered_below first h)))

pub returns : goal.returns
returns c =
    let a = c.args in
    let at = c.next_commit-at.result in
    let pass = c.next_commit-at.ensures in
    let none = c.next_commit.ensures in
    let h : at < a.entries = omega (arith, c.if-entries-at.false) in
    let number = c.commit_number_at-number.ensures in
    ap Some number
    ∙ sym (ap (λ x. at_least a.least (up_to a.snapshot x))
    (commit_first a.tag a.entries a.commits.now at h (pass.hit h)
    (λ k b. go a.tag a.entries a.from at c.next_commit.result a.commits.now pass none (omega (arith, c.if-next_commit-from.false)) k b))
    ∙ in_bounds a.least a.snapshot (commit_number (row_at 8 at a.commits.now))
    (omega (arith, c.if-number-least.false, number)) (omega (arith, c.if-snapshot-number.false, number)))
  where
    go : (tag n from at r : ℕ) (c : List ℕ) → Next (λ k. commit_tag (row_at 8 k c) ≡ tag) from n at → Next (λ k. commit_tag (row_at 8 k c) ≡ tag) 0 from r
        → from ≤ r → (k : ℕ) → k < at → commit_tag (row_at 8 k c) ≡ tag → ⊥
    go tag n from at r c pass none h k b = step (dec_lt k from)
      where
        step : Dec (k < from) → commit_tag (row_at 8 k c) ≡ tag → ⊥
        step (yes a) = none.misses k (omega arith) (omega arith)
        step (no a) = pass.misses k (omega (arith, a)) b
