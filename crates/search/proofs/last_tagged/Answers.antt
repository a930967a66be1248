-- `search::last_tagged`: the test holds of the rows that are hits, and of no others.
use Rattle.std.proofs.Common.{rules}
use Rattle.search.proofs.Passes.{last_by}
use Rattle.search.proofs.last_tagged.Goals as goal

pub returns : goal.returns
returns c = last_by c.last_hit.ensures (λ k l a. search rules) (λ k l a h. search rules)
