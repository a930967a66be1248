-- Demand 1, of one call on any record, any bytes and any version table: what a refused call leaves, what a refused set-up leaves and hands back, and that what a read
-- hands back is the value that demand 3 speaks of.
-- Assumes nothing.
use Rattle.std.specs.Prelude.{ℕ, ◌≡◌, List, [], None, Some}
use Rattle.std.proofs.Math.Option.{Option, none, some}
use Rattle.spec.specs.Answers.{Answer, Answered, Refused, Reading}
use Rattle.spec.specs.Image.{no_versions, empty}
use Rattle.spec.specs.Bytes.{store_of, Memory, After}
use Rattle.spec.specs.Run.{Call, step}
use Rattle.spec.specs.Table.{Value as Sixteen}
use Rattle.spec.specs.Values.{value_read}

-- a refused call changes no byte, no record and no entry of the version table
abbrev pub Unchanged : Call → Memory → Type 0
Unchanged q m = (n : ℕ) → (step q m).answer ≡ Refused n → (step q m).memory ≡ m

-- "Refused 1 [..] The record handed back then has 0 rows and zeros in all else, and the buffers keep their bytes"; "after a refused one every call
-- gets 2"; of the version table, document 02, 3, "all zero at set-up": a set-up of the buffers d and c has left and answered a
pub record SetUpRefused (d c : List ℕ) (a : After ℕ) : Type 0 where
  pub number : a.answer ≡ Refused 1
  pub data_kept : a.memory.data_bytes ≡ d
  pub commit_kept : a.memory.commit_bytes ≡ c
  pub all_zero : a.memory.store ≡ store_of (empty 0 0 0)
  pub new_table : a.memory.versions ≡ no_versions
  pub gets_two : (q : Call) → (step q a.memory).answer ≡ Refused 2
  pub changes_nothing : (q : Call) → (step q a.memory).memory ≡ a.memory

-- "A read hands back the sixteen bytes as they stand in the data buffer": a Read's answer with the bytes that `store::value` hands back for the
-- row that it names
abbrev pub handed : List ℕ → Answer Reading → Answer (Option Sixteen)
handed d (Answered (Some j)) = Answered (some (value_read j d))
handed d (Answered None) = Answered none
handed d (Refused n) = Refused n

-- the bytes in such an answer, none where it has none
abbrev pub bytes_in : Answer (Option Sixteen) → List ℕ
bytes_in (Answered (some v)) = v
bytes_in (Answered none) = []
bytes_in (Refused n) = []
