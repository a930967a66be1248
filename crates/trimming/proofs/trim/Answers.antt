-- Two removals, the second by what the first left; none where no row is committed.
use native.Mathlib.Omega.{arith}
use Rattle.removal.proofs.Moving.{kept_at_most}
use Rattle.trimming.proofs.Trimmed.{trim_leaves, untrimmed}
use Rattle.trimming.proofs.trim.Goals as goal

pub returns-then-entries-eq0 : goal.returns-then-entries-eq0
returns-then-entries-eq0 c =
    let a = c.args in
    rw c.if-entries-eq0.true (untrimmed a.low a.used a.rows.now a.commits.now)

pub commit_flags-marks-requires : goal.commit_flags-marks-requires
commit_flags-marks-requires c =
    let a = c.args in
    let few = kept_at_most c.stay_flags-flags.result 24 a.used a.rows.now in
    omega (arith, c.close_up-left.ensures.rows, c.close_up-left.auto.buf, c.requires)

pub returns : goal.returns
returns c =
    let a = c.args in
    let stay = c.stay_flags-flags in
    let marks = c.commit_flags-marks in
    trim_leaves a.low a.used a.entries a.rows.now a.commits.now stay.result marks.result c.close_up-left.new.buf
    c.close_up-kept.new.buf c.close_up-left.result c.close_up-kept.result
    c.requires.used_in_bounds stay.ensures c.close_up-left.ensures marks.ensures c.close_up-kept.ensures
