-- `looks::look_for`: the last row that counts is the reader's own, or the one that `look_before` starts at.
use mathlib.Core.Path.{◌∙◌}
use Rattle.spec.specs.Look.{least_looked}
use Rattle.looks.proofs.Recent.{at_least_from}
use Rattle.looks.proofs.Sight.{seen_all, seen_last}
use Rattle.looks.proofs.look_for.Goals as goal

pub look_before-requires-clause-snapshot_bound : goal.look_before-requires-clause-snapshot_bound
look_before-requires-clause-snapshot_bound c =
    at_least_from (least_looked c.args.entry c.args.snapshot) _
    (c.in_ok-last.ensures.other (λ e. c.if-tag_at-tag.false (c.tag_at.ensures ∙ e)))

pub look_before-requires-clause-seen : goal.look_before-requires-clause-seen
look_before-requires-clause-seen c = seen_last c.in_ok-last.ensures (λ e. c.if-tag_at-tag.false (c.tag_at.ensures ∙ e))

pub returns-in_err-last : goal.returns-in_err-last
returns-in_err-last c = c.from_residual.ensures ∙ seen_all c.args.entry c.in_err-last.ensures
