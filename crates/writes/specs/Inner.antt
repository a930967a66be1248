-- What the contracts of inner functions need beyond the words of the papers: nobody has to believe it.
-- Assumes nothing.
use Rattle.std.specs.Prelude.{ℕ, List}
use Rattle.spec.specs.Answers.{Answer}
use Rattle.spec.specs.Image.{clients_of}
use Rattle.spec.specs.Calls.{write}
use Rattle.record.specs.declared.Head.{Head}
use Rattle.record.specs.Inner.{whole, PerformsOn}

-- a Write of client k, of those at these stages and with these numbers of transactions: so with all that the code is not lent
abbrev pub Writes : ℕ → ℕ → List ℕ → List ℕ → List ℕ → List ℕ → Head → List ℕ → Head → List ℕ → Answer ℕ → Type 0
Writes k x v stages numbers c h d h' d' a =
    (s q m b w : List ℕ)
    → PerformsOn (write k x v) (whole h (clients_of stages numbers s q m b w)) d c (whole h' (clients_of stages numbers s q m b w)) d' c a
