-- `search::next_marked`: the test holds of the rows that are hits, and of no others.
use Rattle.std.proofs.Common.{rules}
use Rattle.search.proofs.Passes.{next_by}
use Rattle.search.proofs.next_marked.Goals as goal

pub returns : goal.returns
returns c = next_by c.first_hit.ensures (λ k l a. search rules) (λ k l a h. search rules)
