-- Document 02, 3, the version table: "In a store grown from set-up every answer must equal that of the full look, trims between the reads included."
-- Here it is said of what any list of calls has left, with whatever reads and trims among them. m is what a set-up handed back, qs the calls
-- since; client k, cell x.
-- Assumes nothing.
use Rattle.std.specs.Prelude.{ℕ, ◌≡◌, ◌⊎◌, true, length, get_or}
use mathlib.Core.List.{List, Memᴰ}
use Rattle.spec.specs.Rows.{cells}
use Rattle.spec.specs.Answers.{Answered, Reading}
use Rattle.spec.specs.Image.{Image, is_open}
use Rattle.spec.specs.Calls.{reading, look_of, full_look}
use Rattle.spec.specs.Bytes.{Memory, decode}
use Rattle.spec.specs.Run.{Call, Read, step}
use Rattle.spec.specs.Table.{Commit, blank}
use Rattle.demands.specs.Afterwards.{after_run, table_after}

-- the image that a memory shows
abbrev pub image_in : Memory → Image
image_in m = decode m.store m.data_bytes m.commit_bytes m.versions

-- "every answer must equal that of the full look": of a Read that is made next
abbrev pub FullAnswer : Memory → ℕ → ℕ → Type 0
FullAnswer m k x = (a : Reading) → (step (Read k x) m).answer ≡ Answered a → a ≡ reading (full_look k x (image_in m))

-- an open client finds by the entry what the full look finds: the row, and the commit number with it, which the entry may become
abbrev pub FullFound : Memory → ℕ → ℕ → Type 0
FullFound m k x = is_open (image_in m) k ≡ true → look_of k x (image_in m) ≡ full_look k x (image_in m)

pub record FullLooks (m : Memory) (qs : List Call) : Type 0 where
  pub answer : (k x : ℕ) → FullAnswer (after_run qs m) k x
  pub found : (k x : ℕ) → FullFound (after_run qs m) k x

-- "If it finds a commit above the entry, it stores that there": an entry n of cell x is 0, or the number of a commit in the book that wrote the cell
abbrev pub EntryOf : ℕ → ℕ → List Commit → Type 0
EntryOf x n book = (n ≡ 0) ⊎ ((e : Commit) × Memᴰ e book × (e.number ≡ n) × (e.wrote x ≡ true))

-- "one entry for each of the 1,024 cells"
pub record Entries (m : Memory) (qs : List Call) : Type 0 where
  pub size : length (after_run qs m).versions ≡ cells
  pub each : (x : ℕ) → EntryOf x (get_or (after_run qs m).versions x 0) (table_after qs m blank).book
