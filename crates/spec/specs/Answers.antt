-- Answers in document 01's terms: a refusal by its number, or what the call gives; and which of these each answer of the code is.
-- Assumes nothing.
use Rattle.std.specs.Prelude.{ℕ, Option, Result, Ok, Err}
use Rattle.spec.specs.declared.Refusal.{Refusal}
use Rattle.spec.specs.declared.Refusal.TheVariants.{
  BadSetUp,
  Unfit,
  NoClient,
  NoCell,
  AlreadyOpen,
  NotOpen,
  WrongStage,
  NumbersUsedUp,
  CellLimit,
  NoFreeRow,
  WrongLength,
}

-- the answer of a call that gives an A
pub data Answer (A : Type 0) : Type 0 where
  Answered : A → Answer A
  Refused : ℕ → Answer A

-- what Read gives: the data row in which the value stands, none for an unwritten cell
abbrev pub Reading : Type 0
Reading = Option ℕ

-- ---- "Refusal by operation": the numbers, under names

abbrev pub bad_set_up : ℕ
bad_set_up = 1

abbrev pub unfit : ℕ
unfit = 2

abbrev pub no_client : ℕ
no_client = 3

abbrev pub no_cell : ℕ
no_cell = 4

abbrev pub already_open : ℕ
already_open = 5

abbrev pub not_open : ℕ
not_open = 6

abbrev pub wrong_stage : ℕ
wrong_stage = 7

abbrev pub numbers_used_up : ℕ
numbers_used_up = 8

abbrev pub cell_limit : ℕ
cell_limit = 9

abbrev pub no_free_row : ℕ
no_free_row = 10

-- 11 is unused: document 02, 2, "Refusal 11 never occurs any more."

abbrev pub wrong_length : ℕ
wrong_length = 12

-- of the step program: a line that is no form
abbrev pub no_form : ℕ
no_form = 13

-- ---- "Where an answer is an enum, a definition gives this paper's number and values for each case of the enum."

abbrev pub code : Refusal → ℕ
code BadSetUp = bad_set_up
code Unfit = unfit
code NoClient = no_client
code NoCell = no_cell
code AlreadyOpen = already_open
code NotOpen = not_open
code WrongStage = wrong_stage
code NumbersUsedUp = numbers_used_up
code CellLimit = cell_limit
code NoFreeRow = no_free_row
code WrongLength = wrong_length

-- an answer of the code
abbrev pub answer_of : {A : Type 0} → Result A Refusal → Answer A
answer_of (Ok a) = Answered a
answer_of (Err r) = Refused (code r)
