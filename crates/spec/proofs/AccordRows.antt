-- Document 01's sentences on rows in the buffers, in accord with the definitions: calls on literal buffers. The bytes behind the rows in use are not
-- zero, so that a call which touches them is seen. How one row stands in bytes is in AccordLayout.antt.
-- Assumes nothing.
use Prim.Native.Nat.{ℕ}
use mathlib.Core.Path.{◌≡◌, refl}
use mathlib.Core.List.{List, [], ◌∷◌, ◌++◌, map, flatten}
use lib.ListN.{replicate}
use Rattle.spec.specs.Set.{bit, member, insert, remove, size, collect, strike}
use Rattle.spec.specs.Rows.{spliced, number, bytes_of, data_row, tag_of, cell_of, value_of, with_value, commit_row, commit_number, commit_tag}
use Rattle.spec.specs.Rows.{row_at, rows_in, rows_from, layout, filter, has_tag}
use Rattle.spec.specs.Numbers.{lesser, smallest, above, at_least, up_to}
use Rattle.spec.specs.Look.{commit_of, is_own, find, version_of, newer, version_at, newest, own_or, look_for}
use Rattle.spec.specs.Look.{least_looked, version_from, look_from, versions_after}
use Rattle.spec.specs.Share.{any, count, wrote, cells_of, shares, clash, conflict}
use Rattle.spec.specs.Trim.{between, later, overtaken, stays, trimmed_rows, in_use, trimmed_commits}
use Rattle.spec.specs.Image.{cleared, closed, empty}
use Rattle.spec.specs.Calls.{free, begun, begin, read, replaced, added, write, removed, abandon, readers, low, trimmed_to, trim}
use Rattle.spec.specs.Steps.{queued, struck, others, go_on, enter, take_request, list_requests, looked, look_requests, check, take_commit}
use Rattle.spec.specs.Steps.{list_commits, look_commits, add_commit, leave_commits, leave_requests, finished, advance}
use Rattle.spec.specs.Bytes.{decode, store_of, encode, known, fits, on_bytes}
use Rattle.spec.specs.Run.{Write, Advance, Abandon, Trim}
use Rattle.spec.specs.declared.Progress.TheVariants.{Stage, Conflict}
use Rattle.spec.proofs.AccordTable.{sixteen, row, entry, rubbish, three, none, Counts, counts, Boxes, boxes, idle, holds, finds}
use Rattle.spec.proofs.AccordTable.{leaves, Example, computed}

-- ---- calls in bytes: 5 rows, limit 8. Transaction 1 has committed cell 7 under 1; client 0 has transaction 2 open, client 1 transaction 3, both with
-- S 0

abbrev at_work : ℕ → Boxes
at_work g = boxes (three g 0 0) (three 2 3 0) none (three 1 0 0) (three 2 0 0) none none

-- client 0 is closed
abbrev gone : Boxes
gone = boxes none (three 0 3 0) none none none none none

-- what client 0 leaves of the rows below: "the others close up in their order and freed bytes become zero"
abbrev crowd : List ℕ
crowd = row 1 7 16 ++ row 2 8 32 ++ row 3 7 48 ++ row 2 7 64 ++ rubbish 24

abbrev closed_up : List ℕ
closed_up = row 1 7 16 ++ row 3 7 48 ++ replicate 48 0 ++ rubbish 24

abbrev now : Counts
now = counts 3 1 2 1

abbrev one : List ℕ
one = entry 1 1 ++ rubbish 32

-- a row of client 0 for cell 7 whose bytes 6 and 7 are not zero: no call writes such a one
abbrev damaged : ℕ → List ℕ
damaged b = 2 ∷ 0 ∷ 0 ∷ 0 ∷ 7 ∷ 0 ∷ 6 ∷ 7 ∷ sixteen b

abbrev pub rows_in_bytes : List Example
rows_in_bytes =
    -- "In each buffer new rows go in directly behind the last one in use": the first row of all, the second of five, the last of five; and a
    -- transaction number and a cell of several bytes
    record {
      name = "the first row";
      call = Write 0 7 (sixteen 64);
      before = finds (holds 5 8 0 0 (counts 3 0 0 0) (at_work 0)) (rubbish 120) (rubbish 40);
      after = leaves (finds (holds 5 8 1 0 (counts 3 0 0 0) (at_work 0)) (row 2 7 64 ++ rubbish 96) (rubbish 40)) 4;
    }
    ∷ record {
      name = "a row behind another";
      call = Write 0 7 (sixteen 64);
      before = finds (holds 5 8 1 1 now (at_work 0)) (row 1 7 16 ++ rubbish 96) one;
      after = leaves (finds (holds 5 8 2 1 now (at_work 0)) (row 1 7 16 ++ row 2 7 64 ++ rubbish 72) one) 3;
    }
    ∷ record {
      name = "the last row";
      call = Write 0 9 (sixteen 80);
      before = finds (holds 5 8 4 1 now (at_work 0)) crowd one;
      after = leaves (finds (holds 5 8 5 1 now (at_work 0)) (row 1 7 16 ++ row 2 8 32 ++ row 3 7 48 ++ row 2 7 64 ++ row 2 9 80) one) 0;
    }
    ∷ record {
      name = "a row of large numbers";
      call = Write 0 513 (sixteen 64);
      before =
          finds (holds 3 8 1 0 (counts 67305985 0 0 0) (boxes none (three 67305985 0 0) none none none none none))
          (row 1 7 16 ++ rubbish 48) (rubbish 24);
      after =
          leaves
          (finds (holds 3 8 2 0 (counts 67305985 0 0 0) (boxes none (three 67305985 0 0) none none none none none))
          (row 1 7 16 ++ (1 ∷ 2 ∷ 3 ∷ 4 ∷ 1 ∷ 2 ∷ 0 ∷ 0 ∷ sixteen 64) ++ rubbish 24) (rubbish 24))
          1;
    }
    -- "Where one client's transaction wrote a cell twice, the second write replaces the value in its row": not in a row of that cell with another
    -- tag, nor in one of that tag with another cell, and no byte of the row but the value's. At the limit, and with no row free, too
    ∷ record {
      name = "a second write";
      call = Write 0 7 (sixteen 96);
      before = finds (holds 5 8 4 1 now (at_work 0)) crowd one;
      after = leaves (finds (holds 5 8 4 1 now (at_work 0)) (row 1 7 16 ++ row 2 8 32 ++ row 3 7 48 ++ row 2 7 96 ++ rubbish 24) one) 1;
    }
    ∷ record {
      name = "a second write to the last row, at the limit";
      call = Write 0 7 (sixteen 96);
      before = finds (holds 4 2 4 1 now (at_work 0)) (row 1 7 16 ++ row 2 8 32 ++ row 3 7 48 ++ row 2 7 64) (entry 1 1 ++ rubbish 24);
      after = leaves (finds (holds 4 2 4 1 now (at_work 0)) (row 1 7 16 ++ row 2 8 32 ++ row 3 7 48 ++ row 2 7 96) (entry 1 1 ++ rubbish 24)) 0;
    }
    ∷ record {
      name = "a second write to a damaged row";
      call = Write 0 7 (sixteen 96);
      before = finds (holds 3 8 2 1 now (at_work 0)) (row 1 7 16 ++ damaged 64 ++ rubbish 24) (entry 1 1 ++ rubbish 16);
      after = leaves (finds (holds 3 8 2 1 now (at_work 0)) (row 1 7 16 ++ damaged 96 ++ rubbish 24) (entry 1 1 ++ rubbish 16)) 1;
    }
    -- "After any removal the others close up in their order and freed bytes become zero": by Abandon, by a Conflict, and by a Trim, which removes
    -- committed rows too
    ∷ record {
      name = "rows abandoned";
      call = Abandon 0;
      before = finds (holds 5 8 4 1 now (at_work 0)) crowd one;
      after = leaves (finds (holds 5 8 2 1 now gone) closed_up one) 3;
    }
    ∷ record {
      name = "rows of a conflict";
      call = Advance 0;
      before = finds (holds 5 8 4 1 now (at_work 5)) crowd one;
      after = leaves (finds (holds 5 8 2 1 now gone) closed_up one) (Conflict 1);
    }
    ∷ record {
      name = "rows trimmed";
      call = Trim;
      before =
          finds (holds 5 8 4 3 (counts 4 4 4 4) idle)
          (row 1 7 16 ++ row 2 8 32 ++ row 3 7 48 ++ row 4 9 64 ++ rubbish 24) (entry 2 2 ++ entry 3 1 ++ entry 4 3 ++ rubbish 16);
      after =
          leaves
          (finds (holds 5 8 3 2 (counts 4 4 4 4) idle)
          (row 2 8 32 ++ row 3 7 48 ++ row 4 9 64 ++ replicate 24 0 ++ rubbish 24) (entry 2 2 ++ entry 4 3 ++ replicate 8 0 ++ rubbish 16))
          1;
    }
    -- "add the committed row; it becomes the last commit": of client 0's transaction 134678021, under 67305985
    ∷ record {
      name = "a committed row";
      call = Advance 0;
      before =
          finds
          (holds 3 8 1 1 (counts 134678021 9 67305985 1) (boxes (three 11 0 0) (three 134678021 0 0) none (three 9 0 0) (three 67305985 0 0)
          none none))
          (row 1 7 16 ++ rubbish 48) (entry 1 1 ++ rubbish 16);
      after =
          leaves
          (finds
          (holds 3 8 1 2 (counts 134678021 9 67305985 67305985)
          (boxes (three 12 0 0) (three 134678021 0 0) none (three 9 0 0) (three 67305985 0 0) none none))
          (row 1 7 16 ++ rubbish 48) (entry 1 1 ++ (1 ∷ 2 ∷ 3 ∷ 4 ∷ 5 ∷ 6 ∷ 7 ∷ 8 ∷ []) ++ rubbish 8))
          (Stage 12);
    }
    ∷ []

pub rows_in_bytes_lem : map computed rows_in_bytes ≡ rows_in_bytes
unfolding
    flatten bit member insert remove size collect strike spliced number bytes_of data_row tag_of cell_of value_of with_value commit_row commit_number
    commit_tag row_at rows_in rows_from layout filter has_tag lesser smallest above at_least up_to commit_of is_own find version_of newer version_at newest own_or
    look_for least_looked version_from look_from versions_after any count wrote cells_of shares clash conflict between later overtaken stays trimmed_rows in_use trimmed_commits cleared closed empty
    free begun begin read replaced added write removed abandon readers low trimmed_to trim queued struck others go_on enter take_request
    list_requests looked look_requests check take_commit list_commits look_commits add_commit leave_commits leave_requests finished advance decode
    store_of encode known fits on_bytes
rows_in_bytes_lem = refl
