-- What the contracts of inner functions need beyond the words of the papers: nobody has to believe it.
-- Assumes nothing.
use Rattle.std.specs.Prelude.{ℕ, List}
use Rattle.spec.specs.Answers.{Answer}
use Rattle.spec.specs.Image.{clients_of}
use Rattle.spec.specs.Trim.{trimmed_rows}
use Rattle.spec.specs.Calls.{trimmed_to, trim}
use Rattle.record.specs.declared.Head.{Head}
use Rattle.record.specs.Inner.{whole, PerformsOn, Transforms}

-- Trim's work by l: so with all that the code is not lent
abbrev pub TrimsBy : ℕ → Head → List ℕ → List ℕ → Head → List ℕ → List ℕ → Answer ℕ → Type 0
TrimsBy l h d c h' d' c' a =
    (g n s q m b w : List ℕ)
    → Transforms (λ i. trimmed_to (trimmed_rows l i.data_rows i.commit_rows) i) (whole h (clients_of g n s q m b w)) d c
    (whole h' (clients_of g n s q m b w)) d' c' a

-- a Trim of a store with these stages, numbers of transactions and snapshots: so with all that the code is not lent
abbrev pub Trims : List ℕ → List ℕ → List ℕ → Head → List ℕ → List ℕ → Head → List ℕ → List ℕ → Answer ℕ → Type 0
Trims g n s h d c h' d' c' a =
    (q m b w : List ℕ) → PerformsOn trim (whole h (clients_of g n s q m b w)) d c (whole h' (clients_of g n s q m b w)) d' c' a
