-- What a call tells a program in C: numbers for its answer, with the record, each byte of both buffers and each entry of the version table.
-- Assumes nothing.
use Rattle.std.specs.Prelude.{ℕ, ◌≡◌, List, None, Some}
use Rattle.spec.specs.declared.Begun.{Begun}
use Rattle.spec.specs.declared.Progress.{Progress}
use Rattle.spec.specs.declared.Progress.TheVariants.{Stage, Waiting, Conflict, Done}
use Rattle.spec.specs.Answers.{Answer, Answered, Refused, Reading}
use Rattle.spec.specs.Image.{Image}
use Rattle.spec.specs.Calls.{Outcome}
use Rattle.spec.specs.Bytes.{Memory, After, on_memory, set_up}

-- ---- an answer as numbers

-- the refusal's number, 0 where the call is answered; then what it gives, 0 for what there is not
pub record Told : Type 0 where
  pub refusal : ℕ
  pub first : ℕ
  pub second : ℕ

abbrev pub told_of : ℕ → ℕ → ℕ → Told
told_of r a b = record { refusal = r; first = a; second = b }

-- Set-up, Write, Abandon, Trim, Free: the figure
abbrev pub figure_told : ℕ → Told
figure_told n = told_of 0 n 0

-- Begin: the transaction's number and its snapshot
abbrev pub begin_told : Begun → Told
begin_told b = told_of 0 b.number b.snapshot

-- Read: 1 and the data row in which the value stands, or 0 for an unwritten cell
abbrev pub read_told : Reading → Told
read_told (Some at) = told_of 0 1 at
read_told None = told_of 0 0 0

-- Advance: which of its answers it is, and that answer's number
abbrev pub advance_told : Progress → Told
advance_told (Stage n) = told_of 0 1 n
advance_told (Waiting n) = told_of 0 2 n
advance_told (Conflict n) = told_of 0 3 n
advance_told (Done n) = told_of 0 4 n

-- a refused call gives its refusal's number, and nothing else
abbrev pub in_numbers : {A : Type 0} → (A → Told) → Answer A → Told
in_numbers g (Answered a) = g a
in_numbers g (Refused r) = told_of r 0 0

-- ---- the promise of a call for C

-- all that a call leaves: the memory, and the numbers
pub record Leaving : Type 0 where
  pub memory : Memory
  pub told : Told

abbrev pub leaving : Memory → Told → Leaving
leaving m t = record { memory = m; told = t }

abbrev pub told_after : {A : Type 0} → (A → Told) → After A → Leaving
told_after g o = leaving o.memory (in_numbers g o.answer)

-- The promise of a call: it has found the memory m, and left m' and told t, and so does its definition f, with its answer in numbers.
abbrev pub Tells : {A : Type 0} → (A → Told) → (Image → Outcome A) → Memory → Memory → Told → Type 0
Tells g f m m' t = leaving m' t ≡ told_after g (on_memory f m)

-- the promise of a set-up, which was given the buffers d and c
abbrev pub TellsSetUp : List ℕ → List ℕ → ℕ → ℕ → Memory → Told → Type 0
TellsSetUp d c w l m' t = leaving m' t ≡ told_after figure_told (set_up d c w l)
