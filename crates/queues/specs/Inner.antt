-- What the contracts of inner functions need beyond the words of the papers: nobody has to believe it.
-- Assumes nothing.
use Rattle.std.specs.Prelude.{ℕ, List, Result}
use Rattle.spec.specs.Image.{Image}
use Rattle.spec.specs.Calls.{Outcome}
use Rattle.spec.specs.declared.Store.{Store}
use Rattle.spec.specs.declared.Progress.{Progress}
use Rattle.spec.specs.declared.Refusal.{Refusal}
use Rattle.spec.specs.Answers.{answer_of}
use Rattle.record.specs.declared.Record.{Record}
use Rattle.record.specs.Inner.{store_at, Transforms}

-- the promise of a step of Advance: what it leaves of the record and the buffers is what its definition makes of the image, laid out
abbrev pub Step : (Image → Outcome Progress) → Store → List ℕ → List ℕ → Store → List ℕ → List ℕ → Result Progress Refusal → Type 0
Step f s d c s' d' c' a = Transforms f s d c s' d' c' (answer_of a)

-- of one that is lent no buffer: so with any two, which stay
abbrev pub StepAlone : (Image → Outcome Progress) → Record → Record → Result Progress Refusal → Type 0
StepAlone f r r' a = (d c : List ℕ) → Step f (store_at r) d c (store_at r') d c a
