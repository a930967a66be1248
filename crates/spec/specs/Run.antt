-- Lists of calls on a memory: a record, two buffers and a version table.
-- Assumes nothing.
use Rattle.std.specs.Prelude.{ℕ}
use mathlib.Core.List.{List, [], ◌∷◌, Memᴰ}
use Rattle.spec.specs.declared.Begun.{Begun}
use Rattle.spec.specs.declared.Progress.{Progress}
use Rattle.spec.specs.Answers.{Answer, Answered, Refused, Reading}
use Rattle.spec.specs.Image.{Image}
use Rattle.spec.specs.Calls.{Outcome, free, begin, read, write, abandon, trim}
use Rattle.spec.specs.Steps.{advance}
use Rattle.spec.specs.Bytes.{Memory, After, on_memory}

-- a call with its arguments: client, cell, value
pub data Call : Type 0 where
  Begin : ℕ → Call
  Read : ℕ → ℕ → Call
  Write : ℕ → ℕ → List ℕ → Call
  Advance : ℕ → Call
  Abandon : ℕ → Call
  Trim : Call
  Free : Call

-- what a call gives where it is not refused
abbrev pub Result : Call → Type 0
Result (Begin k) = Begun
Result (Read k x) = Reading
Result (Write k x v) = ℕ
Result (Advance k) = Progress
Result (Abandon k) = ℕ
Result Trim = ℕ
Result Free = ℕ

-- "Refusal by operation": the numbers with which it may be refused, in their order. 11 stands nowhere: it "never occurs any more" (document 02, 2)
abbrev pub refusals : Call → List ℕ
refusals (Begin k) = 2 ∷ 3 ∷ 5 ∷ 8 ∷ []
refusals (Read k x) = 2 ∷ 3 ∷ 4 ∷ 6 ∷ 7 ∷ []
refusals (Write k x v) = 2 ∷ 3 ∷ 4 ∷ 12 ∷ 6 ∷ 7 ∷ 9 ∷ 10 ∷ []
refusals (Advance k) = 2 ∷ 3 ∷ 6 ∷ []
refusals (Abandon k) = 2 ∷ 3 ∷ 6 ∷ 7 ∷ []
refusals Trim = 2 ∷ []
refusals Free = 2 ∷ []

-- a refusal is one of these
abbrev pub Listed : {A : Type 0} → List ℕ → Answer A → Type 0
Listed l (Answered a) = Unit {0}
Listed l (Refused n) = Memᴰ n l

-- what it makes of an image
abbrev pub perform : (q : Call) → Image → Outcome (Result q)
perform (Begin k) = begin k
perform (Read k x) = read k x
perform (Write k x v) = write k x v
perform (Advance k) = advance k
perform (Abandon k) = abandon k
perform Trim = trim
perform Free = free

-- what it leaves of a memory, and answers: what the promise of the call's code says
abbrev pub step : (q : Call) → Memory → After (Result q)
step q m = on_memory (perform q) m
