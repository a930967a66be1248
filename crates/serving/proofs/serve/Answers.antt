-- The data rows of committed row j are walked over their chain; rows of other transactions are passed over.
use Prim.Native.Nat.{ℕ, ◌+◌, ◌≤◌, ◌<◌}
use mathlib.Core.Path.{◌≡◌, sym}
use mathlib.Core.Bool.{Bool, true, false}
use mathlib.Core.List.{List}
use lib.ListN.{length, get_or, set}
use lib.Dec.{leb}
use borrow.Author.Tests.{le-leb, lt-leb}
use native.Mathlib.Omega.{arith}
use Rattle.spec.specs.Rows.{row_at, rows_in, tag_of, cell_of, commit_tag, commit_number}
use Rattle.orderly.specs.Inner.{row_entry, entry_places}
use Rattle.spec.specs.Orderly.{orderly_commits}
use Rattle.orderly.proofs.Chains.{chain-start, chain_more, chain_carry, head_carry}
use Rattle.orderly.proofs.Order.{differ, displain, plain_large}
use Rattle.orderly.proofs.Entries.{entry_tag, entry_of_tag}
use Rattle.serving.proofs.Stamps.{stamped_start, stamped-other, stamped-more, stamped-twice}
use Rattle.serving.proofs.Stamps.{paired_start, paired-stamp, paired-mark, later_mark}
use Rattle.serving.proofs.Serving.{serving_start, serving-other, serving-served, serving-mark, serving-idle}
use Rattle.serving.proofs.Marking.{unmarked, marks-done, plain_done, judged-done, used-done}
use Rattle.serving.proofs.serve.Invariants.{Walked}
use Rattle.serving.proofs.serve.Goals.{then-marks-at-eq0+then-number-low, then-marks-at-eq0+else-number-low+else-seen-at, else-marks-at-eq0+else-mark-seen}
use Rattle.serving.proofs.serve.Goals as goal

module _ (low n m j : ℕ) (s c seen₀ marks₀ flags₀ uses₀ : List ℕ) (ordered : orderly_commits (rows_in 8 m c) ≡ true) (h : j < m) where
  -- a row of another transaction is passed over
  past : (seen marks flags uses : List ℕ) (k : ℕ) → k < n → (row_entry m c s k ≡ j → ⊥)
      → Walked low n m j s c seen₀ marks₀ flags₀ uses₀ seen marks flags uses k
      → Walked low n m j s c seen₀ marks₀ flags₀ uses₀ seen marks flags uses (k + 1)
  past seen marks flags uses k l ne w =
      let other : tag_of (row_at 24 k s) ≡ commit_tag (row_at 8 j c) → ⊥ = λ e. ne (entry_of_tag m c s k ordered j h e) in (
        serving-other (leb (commit_number (row_at 8 j c)) low) (commit_tag (row_at 8 j c)) (j + 1) n j s marks₀ flags₀ uses₀ marks flags uses k
            l w.0 other,
        stamped-other (commit_tag (row_at 8 j c)) (j + 1) n s seen₀ seen k w.1 other,
        w.2,
      )

pub loop-i-init : goal.loop-i-init
loop-i-init c =
    let a = c.args in
    let pre = c.requires in
    let small : a.j < entry_places = omega (arith, pre.j_lt_entries, pre.entries_bound) in
    let counts = leb (commit_number (row_at 8 a.j a.commits.now)) a.low in (
      chain-start (row_entry a.entries a.commits.now a.rows.now) a.used a.follows.now a.firsts.now a.j 0 small pre.rows_linked,
      head_carry (row_entry a.entries a.commits.now a.rows.now) a.used
          (λ i. Walked a.low a.used a.entries a.j a.rows.now a.commits.now a.seen.now a.marks.now a.flags.now
          a.uses.now a.seen.now a.marks.now a.flags.now a.uses.now i)
          a.follows.now a.j
          (past a.low a.used a.entries a.j a.rows.now a.commits.now a.seen.now a.marks.now a.flags.now a.uses.now
          pre.commits_value pre.j_lt_entries a.seen.now a.marks.now a.flags.now a.uses.now)
          a.firsts.now 0 small pre.rows_linked (
            serving_start counts (commit_tag (row_at 8 a.j a.commits.now)) (a.j + 1)
                a.used a.j a.rows.now a.marks.now a.flags.now a.uses.now
                pre.marks.size pre.judged.size pre.used.size,
            stamped_start (commit_tag (row_at 8 a.j a.commits.now)) (a.j + 1) a.used a.rows.now a.seen.now pre.so_far.room
                (λ x l q. pre.so_far.fresh x a.j l (omega arith) q),
            paired_start counts (a.j + 1) a.marks.now a.seen.now (λ x l q. pre.so_far.fresh x a.j l (omega arith) q),
          ),
    )

pub returns-then-at-ge1024-clause-rows_value : goal.returns-then-at-ge1024-clause-rows_value
returns-then-at-ge1024-clause-rows_value c =
    let a = c.args in
    let loop = c.loop-i in
    let h = c.loop-i-test.true in
    let large : 1024 ≤ cell_of (row_at 24 loop.i a.rows.now) = omega (arith, c.cell_at-at.ensures, c.if-at-ge1024.true) in
    λ e. displain a.used a.rows.now loop.i (omega arith) (plain_large a.used a.rows.now loop.i h large)

pub returns-then-seen-at-clause-rows_value : goal.returns-then-seen-at-clause-rows_value
returns-then-seen-at-clause-rows_value c =
    let a = c.args in
    let loop = c.loop-i in
    let cell = c.cell_at-at in
    let own = entry_tag a.entries a.commits.now a.rows.now loop.i a.j c.requires.j_lt_entries
    (loop.invariant.0.here c.loop-i-test.true) in
    λ e. stamped-twice (commit_tag (row_at 8 a.j a.commits.now)) (a.j + 1) a.used a.rows.now a.seen.now loop.seen loop.i
    loop.invariant.1.1
    own cell.result cell.ensures c.loop-i-test.true (omega (arith, c.if-at-ge1024.false)) c.if-seen-at.true

pub returns-then-mark-seen-clause-rows_value : goal.returns-then-mark-seen-clause-rows_value
returns-then-mark-seen-clause-rows_value c =
    let a = c.args in
    let loop = c.loop-i in
    let cell = c.cell_at-at in
    let own = entry_tag a.entries a.commits.now a.rows.now loop.i a.j c.requires.j_lt_entries
    (loop.invariant.0.here c.loop-i-test.true) in
    λ e. stamped-twice (commit_tag (row_at 8 a.j a.commits.now)) (a.j + 1) a.used a.rows.now a.seen.now loop.seen loop.i
    loop.invariant.1.1
    own cell.result cell.ensures c.loop-i-test.true (omega (arith, c.if-at-ge1024.false)) (sym c.if-mark-seen.true)

pub loop-i-preserved : goal.loop-i-preserved
loop-i-preserved c =
    let a = c.args in
    let n = a.used in
    let s = a.rows.now in
    let loop = c.loop-i in
    let now = c.if-marks-at-eq0 in
    let cell = c.cell_at-at in
    let x = cell.result in
    let number = c.commit_number_at-number in
    let tag : ℕ = commit_tag (row_at 8 a.j a.commits.now) in
    let counts : Bool = leb (commit_number (row_at 8 a.j a.commits.now)) a.low in
    let seen = set loop.seen x (a.j + 1) in
    let h = c.loop-i-test.true in
    -- the row that was met is the transaction's
    let own = entry_tag a.entries a.commits.now s loop.i a.j c.requires.j_lt_entries (loop.invariant.0.here h) in
    let small : x < 1024 = omega (arith, c.if-at-ge1024.false) in
    let room : a.j < 1024 = omega (arith, c.requires.j_lt_entries, c.requires.entries_bound) in
    let row : loop.i < 1024 = omega (arith, h, c.requires.used_bound) in
    let served = loop.invariant.1.0 in
    let stamped = loop.invariant.1.1 in
    let paired = loop.invariant.1.2 in
    let fits : x < length loop.seen = omega (arith, stamped.room) in
    let room-marks : x < length loop.marks = omega (arith, served.marks_size) in
    let more = stamped-more tag (a.j + 1) n s a.seen.now loop.seen loop.i stamped own x cell.ensures small in
    let stamp = paired-stamp counts (a.j + 1) a.marks.now loop.marks loop.seen paired x fits in
    -- it is done
    let met : Walked a.low n a.entries a.j s a.commits.now a.seen.now a.marks.now a.flags.now a.uses.now
    seen now.marks now.flags now.uses (loop.i + 1) = elim now.branch [
      | then-marks-at-eq0+then-number-low v ↦
          let yes : counts ≡ true = le-leb (commit_number (row_at 8 a.j a.commits.now)) a.low (omega (arith, number.ensures, v.if-number-low.true)) in (
            rw (v.marks-is, v.flags-is, v.uses-is)
                (serving-mark counts tag (a.j + 1) n a.j s a.marks.now a.flags.now a.uses.now loop.marks loop.flags loop.uses
                loop.i h served own x cell.ensures small (omega (arith, v.if-marks-at-eq0.true)) room yes),
            more (λ q. paired.marked yes x small q v.if-marks-at-eq0.true),
            rw v.marks-is (paired-mark counts (a.j + 1) a.marks.now loop.marks loop.seen paired x fits (omega arith) room-marks),
          )
      | then-marks-at-eq0+else-number-low+else-seen-at v ↦
          let no : counts ≡ false = lt-leb (commit_number (row_at 8 a.j a.commits.now)) a.low (omega (arith, number.ensures, v.if-number-low.false)) in (
            rw (v.marks-is, v.flags-is, v.uses-is)
                (serving-idle counts tag (a.j + 1) n a.j s a.marks.now a.flags.now a.uses.now loop.marks loop.flags loop.uses
                loop.i h served own x cell.ensures small (omega (arith, v.if-marks-at-eq0.true)) room no),
            more v.if-seen-at.false,
            rw v.marks-is (stamp (λ e z. differ e no)),
          )
      | else-marks-at-eq0+else-mark-seen v ↦
          let new : get_or loop.seen x 0 ≡ a.j + 1 → ⊥ = λ q. v.if-mark-seen.false (sym q) in
          let old = paired.kept x small new in
          let fresh = unmarked a.low n a.entries s a.commits.now a.j c.requires.j_lt_entries a.marks.now c.requires.marks x small in
          let above : a.j + 1 < get_or loop.marks x 0 =
          rw old (later_mark (get_or a.marks.now x 0) (a.j + 1) fresh (λ z. v.if-marks-at-eq0.false (rw old z))) in (
            rw (v.marks-is, v.flags-is, v.uses-is)
                (serving-served counts tag (a.j + 1) n a.j s a.marks.now a.flags.now a.uses.now loop.marks loop.flags loop.uses
                loop.i h served own x cell.ensures small row above),
            more new,
            rw v.marks-is (stamp (λ e z. v.if-marks-at-eq0.false z)),
          )
    ] in (
      chain_more (row_entry a.entries a.commits.now s) n a.follows.now a.j loop.i h loop.invariant.0,
      chain_carry (row_entry a.entries a.commits.now s) n
          (λ i. Walked a.low n a.entries a.j s a.commits.now a.seen.now a.marks.now a.flags.now
          a.uses.now seen now.marks now.flags now.uses i)
          a.follows.now a.j
          (past a.low n a.entries a.j s a.commits.now a.seen.now a.marks.now a.flags.now a.uses.now
          c.requires.commits_value c.requires.j_lt_entries
          seen now.marks now.flags now.uses)
          loop.i h loop.invariant.0 met,
    )

pub returns-clause-marks_2 : goal.returns-clause-marks_2
returns-clause-marks_2 c = λ e.
    let a = c.args in
    let loop = c.loop-i in
    let pre = c.requires in
    marks-done a.low a.used a.entries a.rows.now a.commits.now a.j pre.j_lt_entries a.marks.now pre.marks pre.commits_value
    a.seen.now a.flags.now a.uses.now pre.so_far
    loop.seen loop.marks loop.flags loop.uses loop.i c.loop-i-test.false loop.invariant.1.0 loop.invariant.1.1

pub returns-clause-so_far_2 : goal.returns-clause-so_far_2
returns-clause-so_far_2 c = λ e.
    let a = c.args in
    let loop = c.loop-i in
    let pre = c.requires in
    plain_done a.low a.used a.entries a.rows.now a.commits.now a.j pre.j_lt_entries a.marks.now pre.marks pre.commits_value
    a.seen.now a.flags.now a.uses.now pre.so_far
    loop.seen loop.marks loop.flags loop.uses loop.i c.loop-i-test.false loop.invariant.1.0 loop.invariant.1.1

pub returns-clause-judged_2 : goal.returns-clause-judged_2
returns-clause-judged_2 c = λ e.
    let a = c.args in
    let loop = c.loop-i in
    let pre = c.requires in
    judged-done a.low a.used a.entries a.rows.now a.commits.now a.j pre.j_lt_entries a.marks.now pre.marks pre.commits_value
    a.seen.now a.flags.now a.uses.now pre.so_far
    loop.seen loop.marks loop.flags loop.uses loop.i c.loop-i-test.false loop.invariant.1.0 loop.invariant.1.1
    pre.judged

pub returns-clause-used_2 : goal.returns-clause-used_2
returns-clause-used_2 c = λ e.
    let a = c.args in
    let loop = c.loop-i in
    let pre = c.requires in
    used-done a.low a.used a.entries a.rows.now a.commits.now a.j pre.j_lt_entries a.marks.now pre.marks pre.commits_value
    a.seen.now a.flags.now a.uses.now pre.so_far
    loop.seen loop.marks loop.flags loop.uses loop.i c.loop-i-test.false loop.invariant.1.0 loop.invariant.1.1
    pre.used
