-- The papers' sentences on what Read finds and notes, in accord with the definitions: literal buffers and version tables, and the row that is read.
-- Assumes nothing.
use Rattle.std.specs.Prelude.{None, Some}
use Prim.Native.Nat.{ℕ}
use mathlib.Core.Path.{◌≡◌, refl}
use mathlib.Core.List.{List, [], ◌∷◌, ◌++◌, map, flatten}
use lib.ListN.{length, replicate}
use Rattle.spec.specs.Set.{bit, member, insert, remove, size, collect, strike}
use Rattle.spec.specs.Rows.{spliced, number, bytes_of, data_row, tag_of, cell_of, value_of, with_value, commit_row, commit_number, commit_tag}
use Rattle.spec.specs.Rows.{row_at, rows_in, rows_from, layout, filter, has_tag}
use Rattle.spec.specs.Numbers.{lesser, smallest, above, at_least, up_to}
use Rattle.spec.specs.Look.{commit_of, is_own, find, version_of, newer, version_at, newest, own_or, look_for}
use Rattle.spec.specs.Look.{least_looked, version_from, look_from, versions_after}
use Rattle.spec.specs.Share.{any, count, wrote, cells_of, shares, clash, conflict}
use Rattle.spec.specs.Trim.{between, later, overtaken, stays, trimmed_rows, in_use, trimmed_commits}
use Rattle.spec.specs.Image.{cleared, closed, empty}
use Rattle.spec.specs.Calls.{free, begun, begin, read, replaced, added, write, removed, abandon, readers, low, trimmed_to, trim}
use Rattle.spec.specs.Steps.{queued, struck, others, go_on, enter, take_request, list_requests, looked, look_requests, check, take_commit}
use Rattle.spec.specs.Steps.{list_commits, look_commits, add_commit, leave_commits, leave_requests, finished, advance}
use Rattle.spec.specs.Bytes.{Memory, decode, store_of, encode, known, fits, on_bytes}
use Rattle.spec.specs.Values.{value_read, value_from}
use Rattle.spec.specs.Answers.{Answered, Refused, Reading}
use Rattle.spec.specs.Run.{Read, Advance, Trim}
use Rattle.spec.specs.declared.Progress.TheVariants.{Stage}
use Rattle.spec.proofs.AccordTable.{sixteen, row, entry, rubbish, three, none, counts, Boxes, boxes, idle, holds, finds, leaves}
use Rattle.spec.proofs.AccordTable.{entries, finds_with, Example, example, refusing, computed}

-- client 0 has transaction 9 open, with snapshot s; the last commit is 5
abbrev reader : ℕ → Boxes
reader s = boxes none (three 9 0 0) (three s 0 0) none none none none

-- a store in which all rows are in use, as many committed rows as data rows, with the version table v
abbrev full : List ℕ → ℕ → List (List ℕ) → List (List ℕ) → Memory
full v s ds cs = finds_with v (holds (length ds) 8 (length ds) (length cs) (counts 9 5 5 5) (reader s)) (flatten ds) (flatten cs)

-- client 0 reads cell 7 there: its entry was e and is n, and nothing else changes
abbrev reads_by : ℕ → ℕ → List (List ℕ) → List (List ℕ) → Reading → ℕ → Example
reads_by e s ds cs g n = example "a read" (Read 0 7) (full (entries e) s ds cs) (leaves (full (entries n) s ds cs) g)

-- the cell's first read
abbrev reads : ℕ → List (List ℕ) → List (List ℕ) → Reading → ℕ → Example
reads s ds cs g n = reads_by 0 s ds cs g n

-- client 0 reads the cell, with a version table of another length
abbrev reads_in : ℕ → Example
reads_in l = refusing "a table of another length" (Read 0 7) (full (replicate l 0) 5 (row 1 7 16 ∷ []) (entry 5 1 ∷ [])) 2

abbrev pub readings : List Example
readings =
    -- "Read looks for a data row with the reader's tag and that cell": before any commit, and not in a row of that tag with another cell
    reads 5 (row 1 7 16 ∷ row 9 8 32 ∷ row 9 7 48 ∷ []) (entry 5 1 ∷ entry 0 0 ∷ entry 0 0 ∷ []) (Some 2) 0
    -- "failing that, for the row of that cell whose tag is committed with the largest commit number not above S": tags 1, 2, 3 are committed under
    -- 1, 2, 5, and tag 4, of the same cell, is not; rows and commits in any order
    ∷ reads 0 (row 1 7 16 ∷ row 2 7 32 ∷ row 3 7 48 ∷ []) (entry 1 1 ∷ entry 2 2 ∷ entry 5 3 ∷ []) None 0
    ∷ reads 1 (row 1 7 16 ∷ row 2 7 32 ∷ row 3 7 48 ∷ []) (entry 1 1 ∷ entry 2 2 ∷ entry 5 3 ∷ []) (Some 0) 1
    ∷ reads 2 (row 1 7 16 ∷ row 2 7 32 ∷ row 3 7 48 ∷ []) (entry 1 1 ∷ entry 2 2 ∷ entry 5 3 ∷ []) (Some 1) 2
    ∷ reads 4 (row 3 7 48 ∷ row 2 7 32 ∷ row 1 7 16 ∷ row 4 7 64 ∷ []) (entry 5 3 ∷ entry 2 2 ∷ entry 1 1 ∷ entry 0 0 ∷ []) (Some 1) 2
    ∷ reads 5 (row 1 7 16 ∷ row 3 7 48 ∷ row 2 7 32 ∷ row 4 7 64 ∷ []) (entry 1 1 ∷ entry 2 2 ∷ entry 5 3 ∷ entry 0 0 ∷ []) (Some 1) 5
    -- "failing that it answers Unwritten": other cells, and a cell that is not committed
    ∷ reads 5 (row 1 8 16 ∷ row 4 7 64 ∷ row 9 6 32 ∷ []) (entry 1 1 ∷ entry 0 0 ∷ entry 0 0 ∷ []) None 0
    -- "If the bytes hold several equal candidates, the first in row order counts": own rows, rows of one tag, and two tags under one number
    ∷ reads 5 (row 1 7 16 ∷ row 9 7 32 ∷ row 9 7 48 ∷ []) (entry 5 1 ∷ entry 0 0 ∷ entry 0 0 ∷ []) (Some 1) 0
    ∷ reads 5 (row 4 7 16 ∷ row 1 7 32 ∷ row 1 7 48 ∷ []) (entry 1 1 ∷ entry 0 0 ∷ entry 0 0 ∷ []) (Some 1) 1
    ∷ reads 5 (row 4 7 16 ∷ row 2 7 32 ∷ row 1 7 48 ∷ []) (entry 3 1 ∷ entry 3 2 ∷ entry 0 0 ∷ []) (Some 1) 3
    -- "and of several committed rows with one tag the first alone": tag 1 is committed under 1 and not under 3; and under 5, which is above S, and
    -- not under 1
    ∷ reads 3 (row 1 7 16 ∷ row 2 7 32 ∷ row 4 7 48 ∷ []) (entry 1 1 ∷ entry 3 1 ∷ entry 2 2 ∷ []) (Some 1) 2
    ∷ reads 3 (row 2 7 32 ∷ row 1 7 16 ∷ row 4 7 48 ∷ []) (entry 3 1 ∷ entry 1 1 ∷ entry 2 2 ∷ []) (Some 1) 3
    ∷ reads 3 (row 1 7 16 ∷ row 4 7 48 ∷ []) (entry 5 1 ∷ entry 1 1 ∷ []) None 0
    -- the same number in the check, by client 0 with S 2 at stage 5: tag 1 is not committed above it
    ∷ record {
      name = "a check";
      call = Advance 0;
      before =
          finds (holds 2 8 2 2 (counts 9 5 5 5) (boxes (three 5 0 0) (three 9 0 0) (three 2 0 0) (three 5 0 0) none none none))
          (row 1 7 16 ++ row 9 7 32) (entry 1 1 ++ entry 3 1);
      after =
          leaves
          (finds (holds 2 8 2 2 (counts 9 5 5 5) (boxes (three 6 0 0) (three 9 0 0) (three 2 0 0) (three 5 0 0) none none none))
          (row 1 7 16 ++ row 9 7 32) (entry 1 1 ++ entry 3 1))
          (Stage 6);
    }
    -- and in a trim: the row that goes is tag 1's, under 1, not tag 2's, under 2
    ∷ record {
      name = "a trim";
      call = Trim;
      before = finds (holds 3 8 2 3 (counts 9 5 5 5) idle) (row 1 7 16 ++ row 2 7 32 ++ row 0 0 0) (entry 1 1 ++ entry 3 1 ++ entry 2 2);
      after = leaves (finds (holds 3 8 1 1 (counts 9 5 5 5) idle) (row 2 7 32 ++ replicate 24 0 ++ row 0 0 0) (entry 2 2 ++ replicate 16 0)) 1;
    }
    ∷ []

-- Document 02, 3. Tags 1, 2 and 3 wrote cell 7, and are committed under 1, 2 and 5.
abbrev old : List (List ℕ)
old = row 1 7 16 ∷ row 2 7 32 ∷ row 3 7 48 ∷ []

abbrev numbered : List (List ℕ)
numbered = entry 1 1 ∷ entry 2 2 ∷ entry 5 3 ∷ []

abbrev pub tabled : List Example
tabled =
    -- "looks only at commits from the entry up to S if the entry is at most S", both ends included: the entry's own commit is found, and one numbered below
    -- the entry is not, which only bytes that no reads led to can show
    reads_by 2 4 old numbered (Some 1) 2
    ∷ reads_by 5 5 old numbered (Some 2) 5
    ∷ reads_by 3 4 old numbered None 3
    ∷ reads_by 2 2 (row 1 7 16 ∷ []) (entry 1 1 ∷ []) None 2
    -- "and at all up to S otherwise": the entry is above S, and does not fall
    ∷ reads_by 5 4 old numbered (Some 1) 5
    ∷ reads_by 3 2 old numbered (Some 1) 3
    ∷ reads_by 2 1 old numbered (Some 0) 2
    ∷ reads_by 4294967295 0 old numbered None 4294967295
    -- "If it finds a commit above the entry, it stores that there": the commit, and not S
    ∷ reads_by 0 4 old numbered (Some 1) 2
    ∷ reads_by 1 4 old numbered (Some 1) 2
    ∷ reads_by 2 5 old numbered (Some 2) 5
    -- "A read that isn't of its own write": an own write is found whatever the entry, and leaves it
    ∷ reads_by 0 5 (row 9 7 16 ∷ row 3 7 32 ∷ []) (entry 5 3 ∷ entry 0 0 ∷ []) (Some 0) 0
    ∷ reads_by 2 5 (row 9 7 16 ∷ row 3 7 32 ∷ []) (entry 5 3 ∷ entry 0 0 ∷ []) (Some 0) 2
    ∷ reads_by 8 5 (row 9 7 16 ∷ row 3 7 32 ∷ []) (entry 5 3 ∷ entry 0 0 ∷ []) (Some 0) 8
    -- a cell that is unwritten at S leaves it too
    ∷ reads_by 0 0 old numbered None 0
    ∷ reads_by 1 5 (row 4 7 16 ∷ row 1 8 32 ∷ []) (entry 1 1 ∷ entry 0 0 ∷ []) None 1
    -- "of several committed rows with one tag the first alone", for the entry as for S: tag 1 is committed under 1, and not under 3
    ∷ reads_by 2 5 (row 1 7 16 ∷ row 4 7 32 ∷ []) (entry 1 1 ∷ entry 3 1 ∷ []) None 2
    ∷ reads_by 2 5 (row 1 7 16 ∷ row 4 7 32 ∷ []) (entry 3 1 ∷ entry 1 1 ∷ []) (Some 0) 3
    -- "one entry for each of the 1,024 cells": with any other number of them the store is unfit, and the read is refused with 2
    ∷ reads_in 0
    ∷ reads_in 7
    ∷ reads_in 1023
    ∷ reads_in 1025
    ∷ []

pub what_is_noted : map computed tabled ≡ tabled
unfolding
    flatten number tag_of cell_of commit_number commit_tag row_at rows_in rows_from layout at_least up_to commit_of is_own find version_of newer version_at
    newest own_or look_for least_looked version_from look_from versions_after read decode store_of encode known fits on_bytes
what_is_noted = refl

pub what_is_read : map computed readings ≡ readings
unfolding
    flatten bit member insert remove size collect strike spliced number bytes_of data_row tag_of cell_of value_of with_value commit_row commit_number
    commit_tag row_at rows_in rows_from layout filter has_tag lesser smallest above at_least up_to commit_of is_own find version_of newer version_at newest own_or
    look_for least_looked version_from look_from versions_after any count wrote cells_of shares clash conflict between later overtaken stays trimmed_rows in_use trimmed_commits cleared closed empty
    free begun begin read replaced added write removed abandon readers low trimmed_to trim queued struck others go_on enter take_request
    list_requests looked look_requests check take_commit list_commits look_commits add_commit leave_commits leave_requests finished advance decode
    store_of encode known fits on_bytes
what_is_read = refl

-- "A read hands back the sixteen bytes as they stand in the data buffer": those of row 1 here, of the last row, of no row that is not there whole (23
-- bytes stand behind the last), and none for other answers
pub bytes_read_lem :
    map (value_from (row 1 7 16 ++ row 2 7 32 ++ row 3 7 48 ++ rubbish 23))
    (Answered (Some 1) ∷ Answered (Some 2) ∷ Answered (Some 3) ∷ Answered (Some 4) ∷ Answered None ∷ Refused 6 ∷ [])
    ≡ (32 ∷ 33 ∷ 34 ∷ 35 ∷ 36 ∷ 37 ∷ 38 ∷ 39 ∷ 40 ∷ 41 ∷ 42 ∷ 43 ∷ 44 ∷ 45 ∷ 46 ∷ 47 ∷ []) ∷ sixteen 48 ∷ [] ∷ [] ∷ [] ∷ [] ∷ []
unfolding value_from value_read value_of row_at
bytes_read_lem = refl
