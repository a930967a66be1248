-- The rows from i on are linked by their committed rows, and `at` is the committed row of the tag `last`.
use Prim.Native.Nat.{ℕ, ◌+◌, ◌-◌, ◌<◌}
use mathlib.Core.Path.{◌≡◌, sym, ap, ◌∙◌}
use native.Mathlib.Omega.{arith}
use Rattle.spec.specs.Rows.{rows_in}
use Rattle.orderly.specs.Inner.{entry_of, row_entry, entry_places}
use Rattle.orderly.proofs.Entries.{entry_next}
use Rattle.orderly.proofs.link_rows.Goals as goal

pub link-requires-clause-x_in_bounds : goal.link-requires-clause-x_in_bounds
link-requires-clause-x_in_bounds c =
    let a = c.args in
    let small = (entry_next c.tag_at-tag.result a.entries a.commits.now).end in
    omega (arith, small, c.entry_again-at.ensures, c.requires.entries_bound, c.loop-k.invariant.1.size)

pub loop-k-preserved : goal.loop-k-preserved
loop-k-preserved c =
    let inside : c.loop-k.k - 1 < c.args.used = omega (arith, c.loop-k.invariant.0, c.loop-k-test.true) in
    let a = c.args in
    let loop = c.loop-k in
    let again = c.entry_again-at in
    let h = inside in
    let z : loop.k - 1 + 1 ≡ loop.k = omega (arith, c.loop-k-test.true) in
    let right : again.result ≡ row_entry a.entries a.commits.now a.rows.now (loop.k - 1) =
    again.ensures ∙ ap (λ (t : ℕ). entry_of t (rows_in 8 a.entries a.commits.now)) c.tag_at-tag.ensures in (
      omega (arith, loop.invariant.0),
      c.link.ensures.one entry_places (row_entry a.entries a.commits.now a.rows.now) a.used h (sym right) (rw z loop.invariant.1),
      again.ensures,
    )
