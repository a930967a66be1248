-- The bytes are orderly just if every test is passed; then all committed rows are gone through.
use mathlib.Core.Path.{sym, ap, ◌∙◌}
use Prim.Native.Nat.{ℕ, ◌≤◌}
use mathlib.Core.List.{List}
use lib.ListN.{get_or}
use native.Mathlib.Omega.{arith}
use Rattle.spec.specs.Rows.{rows_in}
use Rattle.orderly.specs.Inner.{entry_of, row_entry, RowsLinked, TagWalk}
use Rattle.orderly.proofs.Chains.{chain-start}
use Rattle.orderly.proofs.Order.{disorder_commits, disorder_rows, order_decided}
use Rattle.serving.proofs.Marking.{marks_start, plain_start, judged_start, used_start, all_plain}
use Rattle.marking.proofs.from_newest.Goals as goal

-- the data rows that are not committed are a chain
walk : (n m : ℕ) (s c firsts follows : List ℕ) → m ≤ 1024 → RowsLinked n m s c firsts follows
    → TagWalk (row_entry m c s) m n s follows (get_or firsts m 0)
walk n m s c firsts follows small l =
    record {
      walk = record {
        start = l.head m (omega arith);
        chain = chain-start (row_entry m c s) n follows firsts m 0 (omega arith) l;
      };
      alike = λ i k h g e. ap (λ (tag : ℕ). entry_of tag (rows_in 8 m c)) e;
    }

pub returns-then-not-link_all-clause-value : goal.returns-then-not-link_all-clause-value
returns-then-not-link_all-clause-value c =
    let a = c.args in
    sym (disorder_commits (rows_in 24 a.used a.rows.now) (rows_in 8 a.entries a.commits.now)
    (sym c.link_all.ensures.value ∙ c.if-not-link_all.true))

pub returns-then-not-open_plain_from-clause-value : goal.returns-then-not-open_plain_from-clause-value
returns-then-not-open_plain_from-clause-value c =
    let a = c.args in
    let linked = c.link_all.ensures.rows_linked c.if-not-link_all.false in
    let test = c.open_plain_from in
    let chain = walk a.used a.entries a.rows.now a.commits.now _ _ c.requires.entries_bound linked in
    sym (disorder_rows (rows_in 24 a.used a.rows.now) (rows_in 8 a.entries a.commits.now)
    ((test.ensures _ _ chain).not_plain c.if-not-open_plain_from.true))

pub serve_all-requires-clause-marks : goal.serve_all-requires-clause-marks
serve_all-requires-clause-marks c =
    let a = c.args in
    rw c.requires.marks_value (marks_start a.low a.used a.entries a.rows.now a.commits.now)

pub serve_all-requires-clause-so_far : goal.serve_all-requires-clause-so_far
serve_all-requires-clause-so_far c =
    let a = c.args in
    plain_start a.low a.used a.entries a.rows.now a.commits.now

pub serve_all-requires-clause-judged : goal.serve_all-requires-clause-judged
serve_all-requires-clause-judged c =
    let a = c.args in
    rw c.requires.flags_value (judged_start a.low a.used a.entries a.rows.now a.commits.now c.requires.used_bound)

pub serve_all-requires-clause-used : goal.serve_all-requires-clause-used
serve_all-requires-clause-used c =
    let a = c.args in
    rw c.requires.uses_value (used_start a.low a.used a.entries a.rows.now a.commits.now c.requires.entries_bound)

pub returns-clause-value : goal.returns-clause-value
returns-clause-value c =
    let a = c.args in
    let linked = c.link_all.ensures.rows_linked c.if-not-link_all.false in
    let ordered = sym c.link_all.ensures.value ∙ c.if-not-link_all.false in
    let test = c.open_plain_from in
    let chain = walk a.used a.entries a.rows.now a.commits.now _ _ c.requires.entries_bound linked in
    let plain = (test.ensures _ _ chain).plain c.if-not-open_plain_from.false in
    order_decided c.serve_all.result (rows_in 24 a.used a.rows.now) (rows_in 8 a.entries a.commits.now) ordered
    (λ e. all_plain a.low a.used a.entries a.rows.now a.commits.now _ (c.serve_all.ensures.so_far_2 e) plain)
    c.serve_all.ensures.rows_value
