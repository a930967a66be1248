-- What the contracts of inner functions need beyond the words of the papers: nobody has to believe it.
-- Assumes nothing.
use Rattle.std.specs.Prelude.{ℕ, List}
use Rattle.spec.specs.Answers.{Answer}
use Rattle.spec.specs.Image.{clients_of}
use Rattle.spec.specs.Calls.{added, replaced}
use Rattle.record.specs.declared.Head.{Head}
use Rattle.record.specs.Inner.{whole, Transforms}

-- client k, of those with these numbers of transactions, adds a row for cell x with value v: so with all that the code is not lent
abbrev pub Adds : ℕ → ℕ → List ℕ → List ℕ → Head → List ℕ → Head → List ℕ → Answer ℕ → Type 0
Adds k x v numbers h d h' d' a =
    (g s q m b w c : List ℕ)
    → Transforms (added k x v) (whole h (clients_of g numbers s q m b w)) d c (whole h' (clients_of g numbers s q m b w)) d' c a

-- row j has another value v: so with all that the code is not lent
abbrev pub Replaces : ℕ → List ℕ → Head → List ℕ → List ℕ → Answer ℕ → Type 0
Replaces j v h d d' a =
    (g n s q m b w c : List ℕ)
    → Transforms (replaced j v) (whole h (clients_of g n s q m b w)) d c (whole h (clients_of g n s q m b w)) d' c a
