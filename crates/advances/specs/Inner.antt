-- What the contracts of inner functions need beyond the words of the papers: nobody has to believe it.
-- Assumes nothing.
use Rattle.std.specs.Prelude.{ℕ, List, Result, get_or}
use Rattle.spec.specs.declared.Store.{Store}
use Rattle.spec.specs.declared.Progress.{Progress}
use Rattle.spec.specs.declared.Refusal.{Refusal}
use Rattle.spec.specs.Steps.{steps, no_step}
use Rattle.queues.specs.Inner.{Step}

-- the promise of the one step that the stage of client i calls for
abbrev pub StepDue : ℕ → Store → List ℕ → List ℕ → Store → List ℕ → List ℕ → Result Progress Refusal → Type 0
StepDue i s d c s' d' c' a = Step (get_or steps (get_or s.stage i 0) no_step i) s d c s' d' c' a
