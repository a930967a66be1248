-- Document 01's table of steps, and how transactions begin and end, in accord with the definitions: calls with all that they find and leave. Who is in
-- which queue, by stages, is in AccordQueues.antt.
-- Assumes nothing.
use Prim.Native.Nat.{ℕ}
use mathlib.Core.Path.{◌≡◌, refl}
use mathlib.Core.List.{List, [], ◌∷◌, ◌++◌, map, flatten}
use lib.ListN.{replicate}
use Rattle.spec.specs.Set.{bit, member, insert, remove, size, collect, strike}
use Rattle.spec.specs.Rows.{spliced, number, bytes_of, data_row, tag_of, cell_of, value_of, with_value, commit_row, commit_number, commit_tag}
use Rattle.spec.specs.Rows.{row_at, rows_in, rows_from, layout, filter, has_tag}
use Rattle.spec.specs.Numbers.{lesser, smallest, above, at_least, up_to}
use Rattle.spec.specs.Look.{commit_of, is_own, find, version_of, newer, version_at, newest, own_or, look_for}
use Rattle.spec.specs.Look.{least_looked, version_from, look_from, versions_after}
use Rattle.spec.specs.Share.{any, count, wrote, cells_of, shares, clash, conflict}
use Rattle.spec.specs.Trim.{between, later, overtaken, stays, trimmed_rows, in_use, trimmed_commits}
use Rattle.spec.specs.Image.{cleared, closed, empty}
use Rattle.spec.specs.Calls.{free, begun, begin, read, replaced, added, write, removed, abandon, readers, low, trimmed_to, trim}
use Rattle.spec.specs.Steps.{queued, struck, others, go_on, enter, take_request, list_requests, looked, look_requests, check, take_commit}
use Rattle.spec.specs.Steps.{list_commits, look_commits, add_commit, leave_commits, leave_requests, finished, advance}
use Rattle.spec.specs.Bytes.{Memory, decode, store_of, encode, known, fits, on_bytes}
use Rattle.spec.specs.Run.{Begin, Advance, Abandon, Trim}
use Rattle.spec.specs.declared.Progress.{Progress}
use Rattle.spec.specs.declared.Progress.TheVariants.{Stage, Waiting, Conflict, Done}
use Rattle.spec.proofs.AccordTable.{row, entry, rubbish, three, none, Counts, counts, Boxes, boxes, idle, holds, finds, leaves}
use Rattle.spec.proofs.AccordTable.{Example, example, computed}

-- ---- the table of steps. Clients 0, 1 and 2 have transactions 1, 2 and 3 open: the first two wrote cell 7, the third cell 8. R is 5, C is 4, and the
-- last commit is 3

abbrev data3 : List ℕ
data3 = row 1 7 16 ++ row 2 7 32 ++ row 3 8 48 ++ rubbish 24

abbrev at : Counts → Boxes → Memory
at n b = finds (holds 4 8 3 0 n b) data3 (rubbish 32)

abbrev now : Counts
now = counts 3 5 4 3

-- stages, request numbers, commit numbers, the lists of the request queue, and those of the commit queue
abbrev those : List ℕ → List ℕ → List ℕ → List ℕ → List ℕ → Boxes
those g r c a b = boxes g (three 1 2 3) (three 3 3 3) r c a b

-- an Advance of client 0 that leaves the counters and answers p
abbrev advances : Boxes → Boxes → Progress → Example
advances b b' p = example "a step" (Advance 0) (at now b) (leaves (at now b') p)

abbrev pub fourteen : List Example
fourteen =
    -- 0: "enter the request queue"
    advances (those (three 0 3 1) (three 0 5 0) none (three 0 4 0) none) (those (three 1 3 1) (three 0 5 0) none (three 0 4 0) none) (Stage 1)
    -- 1: "take a request number": "taking a number adds 1 and gives the result"
    ∷ record {
      name = "a request number";
      call = Advance 0;
      before = at now (those (three 1 3 1) (three 0 5 0) none none none);
      after = leaves (at (counts 3 6 4 3) (those (three 2 3 1) (three 6 5 0) none none none)) (Stage 2);
    }
    -- 2: "note it in the queue row"
    ∷ advances (those (three 2 3 1) (three 5 4 0) none none none) (those (three 3 3 1) (three 5 4 0) none none none) (Stage 3)
    -- 3: "list the other queue rows that share a cell, once": client 1, and not client 2, whose cell is another
    ∷ advances (those (three 3 1 4) (three 5 0 4) none (three 0 1 1) none) (those (three 4 1 4) (three 5 0 4) none (three 2 1 1) none) (Stage 4)
    -- 4: "look: strike rows that are gone and rows with a larger noted number": client 1's is larger and noted, client 2's is not noted: one is left, and
    -- the record's list has no other. Then none of two is struck; then both are
    ∷ advances (those (three 4 3 2) (three 3 4 5) none (three 6 4 1) (three 6 4 1))
    (those (three 4 3 2) (three 3 4 5) none (three 4 4 1) (three 6 4 1)) (Waiting 1)
    ∷ advances (those (three 4 3 2) (three 3 2 5) none (three 6 4 1) none) (those (three 4 3 2) (three 3 2 5) none (three 6 4 1) none) (Waiting 2)
    ∷ advances (those (three 4 0 3) (three 3 0 5) none (three 6 4 1) none) (those (three 5 0 3) (three 3 0 5) none (three 0 4 1) none) (Stage 5)
    -- 5: "check commits above S for a shared cell": there is none
    ∷ advances (those (three 5 4 4) (three 3 4 5) none (three 0 1 0) none) (those (three 6 4 4) (three 3 4 5) none (three 0 1 0) none) (Stage 6)
    -- 6: "enter the commit queue"
    ∷ advances (those (three 6 4 4) (three 3 4 5) none (three 0 1 0) none) (those (three 7 4 4) (three 3 4 5) none (three 0 1 0) none) (Stage 7)
    -- 7: "take a commit number"
    ∷ record {
      name = "a commit number";
      call = Advance 0;
      before = at now (those (three 7 9 4) (three 3 4 5) (three 0 4 0) none none);
      after = leaves (at (counts 3 5 5 3) (those (three 8 9 4) (three 3 4 5) (three 5 4 0) none none)) (Stage 8);
    }
    -- 8: "note it"
    ∷ advances (those (three 8 9 4) (three 3 4 5) (three 4 3 0) none none) (those (three 9 9 4) (three 3 4 5) (three 4 3 0) none none) (Stage 9)
    -- 9: "list all other commit queue rows, once": client 2 too, whose cell is another
    ∷ advances (those (three 9 7 12) (three 3 4 5) (three 4 0 2) none (three 0 1 0))
    (those (three 10 7 12) (three 3 4 5) (three 4 0 2) none (three 6 1 0)) (Stage 10)
    -- 10: "look, as at 4, by commit number"
    ∷ advances (those (three 10 9 8) (three 9 4 5) (three 2 3 4) (three 6 4 1) (three 6 4 1))
    (those (three 10 9 8) (three 9 4 5) (three 2 3 4) (three 6 4 1) (three 4 4 1)) (Waiting 1)
    ∷ advances (those (three 10 9 8) (three 1 4 5) (three 2 1 4) none (three 6 4 1))
    (those (three 10 9 8) (three 1 4 5) (three 2 1 4) none (three 6 4 1)) (Waiting 2)
    ∷ advances (those (three 10 13 9) (three 3 4 5) (three 2 1 4) none (three 6 4 1))
    (those (three 11 13 9) (three 3 4 5) (three 2 1 4) none (three 0 4 1)) (Stage 11)
    -- 11: "add the committed row; it becomes the last commit"
    ∷ record {
      name = "a committed row";
      call = Advance 0;
      before = at now (those (three 11 9 4) (three 3 4 5) (three 4 0 0) (three 0 1 0) (three 0 1 0));
      after =
          leaves
          (finds (holds 4 8 3 1 (counts 3 5 4 4) (those (three 12 9 4) (three 3 4 5) (three 4 0 0) (three 0 1 0) (three 0 1 0))) data3
          (entry 4 1 ++ rubbish 24))
          (Stage 12);
    }
    -- 12: "leave the commit queue": the lists of the commit queue lose client 0, those of the request queue keep it
    ∷ advances (those (three 12 10 10) (three 3 4 5) (three 2 3 4) (three 0 5 1) (three 0 5 3))
    (those (three 13 10 10) (three 3 4 5) (three 2 3 4) (three 0 5 1) (three 0 4 2)) (Stage 13)
    -- 13: "leave the request queue; closed", "Done with its commit number": 2, where the last commit is 3. No list names client 0 any more
    ∷ record {
      name = "closed";
      call = Advance 0;
      before = at now (those (three 13 4 10) (three 3 4 5) (three 2 0 4) (three 4 5 1) (three 4 5 3));
      after = leaves (at now (boxes (three 0 4 10) (three 0 2 3) (three 0 3 3) (three 0 4 5) (three 0 0 4) (three 0 4 0) (three 0 4 2))) (Done 2);
    }
    ∷ []

pub fourteen_steps : map computed fourteen ≡ fourteen
unfolding
    flatten bit member insert remove size collect strike spliced number bytes_of data_row tag_of cell_of value_of with_value commit_row commit_number
    commit_tag row_at rows_in rows_from layout filter has_tag lesser smallest above at_least up_to commit_of is_own find version_of newer version_at newest own_or
    look_for least_looked version_from look_from versions_after any count wrote cells_of shares clash conflict between later overtaken stays trimmed_rows in_use trimmed_commits cleared closed empty
    free begun begin read replaced added write removed abandon readers low trimmed_to trim queued struck others go_on enter take_request
    list_requests looked look_requests check take_commit list_commits look_commits add_commit leave_commits leave_requests finished advance decode
    store_of encode known fits on_bytes
fourteen_steps = refl

-- ---- beginning, closing, conflicts and trims

-- transaction 9 of client 0, with S 1, has written cells 7, 8 and 9; commits 1, 2 and 3 are those of tags 1, 2 and 3
abbrev checking : List ℕ
checking = row 3 7 16 ++ row 2 8 32 ++ row 1 9 48 ++ row 9 7 64 ++ row 9 8 80 ++ row 9 9 96

abbrev commits : List ℕ
commits = entry 1 1 ++ entry 2 2 ++ entry 3 3

-- three commits of cell 7, and a row of an open transaction
abbrev thrice : ℕ → Boxes → Memory
thrice l b = finds (holds 4 8 4 3 (counts 9 3 3 l) b) (row 1 7 16 ++ row 2 7 32 ++ row 3 7 48 ++ row 9 7 64) (commits ++ rubbish 8)

-- the first row goes, or the first two; and the committed rows that have no data row left
abbrev one_less : Boxes → Memory
one_less b =
    finds (holds 4 8 3 2 (counts 9 3 3 2) b) (row 2 7 32 ++ row 3 7 48 ++ row 9 7 64 ++ replicate 24 0)
    (entry 2 2 ++ entry 3 3 ++ replicate 8 0 ++ rubbish 8)

abbrev two_less : Boxes → Memory
two_less b = finds (holds 4 8 2 1 (counts 9 3 3 3) b) (row 3 7 48 ++ row 9 7 64 ++ replicate 48 0) (entry 3 3 ++ replicate 16 0 ++ rubbish 8)

abbrev pub closings : List Example
closings =
    -- "Begin takes the next W and a snapshot S, the last commit number": 3, where the last C taken is 4
    record {
      name = "a beginning";
      call = Begin 2;
      before = at now (boxes (three 4 10 0) (three 1 2 0) (three 1 2 0) (three 3 4 0) (three 0 4 0) (three 2 0 0) (three 0 1 0));
      after =
          leaves
          (at (counts 4 5 4 3) (boxes (three 4 10 0) (three 1 2 4) (three 1 2 3) (three 3 4 0) (three 0 4 0) (three 2 0 0) (three 0 1 0)))
          (record { number = 4; snapshot = 3 });
    }
    -- "A client's stage is 0 while it works", whatever stood there before: its other fields are 0
    ∷ record {
      name = "a beginning over a closed client's fields";
      call = Begin 2;
      before = at now (boxes (three 4 10 9) (three 1 2 0) (three 1 2 9) (three 3 4 9) (three 0 4 9) (three 2 0 3) (three 0 1 3));
      after =
          leaves (at (counts 4 5 4 3) (boxes (three 4 10 0) (three 1 2 4) (three 1 2 3) (three 3 4 0) (three 0 4 0) (three 2 0 0) (three 0 1 0)))
          (record { number = 4; snapshot = 3 });
    }
    -- "Abandon removes the transaction's data rows and queue rows in one step", at stage 11: no list of either queue names client 0 any more
    ∷ record {
      name = "an abandoning at stage 11";
      call = Abandon 0;
      before = at now (those (three 11 10 4) (three 3 4 5) (three 4 3 0) (three 0 5 1) (three 2 5 7));
      after =
          leaves
          (finds (holds 4 8 2 0 now (boxes (three 0 10 4) (three 0 2 3) (three 0 3 3) (three 0 4 5) (three 0 3 0) (three 0 4 0) (three 0 4 6)))
          (row 2 7 32 ++ row 3 8 48 ++ replicate 24 0 ++ rubbish 24) (rubbish 32))
          2;
    }
    -- "A check that finds a shared cell answers Conflict with the smallest such commit number, removes the transaction's data rows and its queue row, and
    -- closes it": 1 is not above S, and 3 stands before 2
    ∷ record {
      name = "a conflict";
      call = Advance 0;
      before =
          finds (holds 6 8 6 3 (counts 9 3 3 3) (boxes (three 5 4 0) (three 9 8 0) (three 1 1 0) (three 1 2 0) none (three 0 3 0) (three 0 3 0)))
          checking (commits ++ rubbish 24);
      after =
          leaves
          (finds (holds 6 8 3 3 (counts 9 3 3 3) (boxes (three 0 4 0) (three 0 8 0) (three 0 1 0) (three 0 2 0) none (three 0 2 0) (three 0 2 0)))
          (row 3 7 16 ++ row 2 8 32 ++ row 1 9 48 ++ replicate 72 0) (commits ++ rubbish 24))
          (Conflict 2);
    }
    -- with S 3 there is none
    ∷ record {
      name = "no conflict";
      call = Advance 0;
      before =
          finds (holds 6 8 6 3 (counts 9 3 3 3) (boxes (three 5 0 0) (three 9 0 0) (three 3 0 0) none none none none)) checking
          (commits ++ rubbish 24);
      after =
          leaves
          (finds (holds 6 8 6 3 (counts 9 3 3 3) (boxes (three 6 0 0) (three 9 0 0) (three 3 0 0) none none none none)) checking
          (commits ++ rubbish 24))
          (Stage 6);
    }
    -- "low is the smallest S of open transactions": 2 of 2 and 3, whatever the last commit number
    ∷ record {
      name = "low 2 of two";
      call = Trim;
      before = thrice 2 (boxes none (three 9 8 0) (three 3 2 0) none none none none);
      after = leaves (one_less (boxes none (three 9 8 0) (three 3 2 0) none none none none)) 1;
    }
    -- "or the last commit number if none is open"
    ∷ example "low 2 of none" Trim (thrice 2 idle) (leaves (one_less idle) 1)
    ∷ example "low 3 of none" Trim (thrice 3 idle) (leaves (two_less idle) 2)
    -- at 1 nothing goes
    ∷ record {
      name = "low 1";
      call = Trim;
      before = thrice 3 (boxes none (three 9 8 0) (three 1 3 0) none none none none);
      after = leaves (thrice 3 (boxes none (three 9 8 0) (three 1 3 0) none none none none)) 0;
    }
    ∷ []

pub closings_and_trims : map computed closings ≡ closings
unfolding
    flatten bit member insert remove size collect strike spliced number bytes_of data_row tag_of cell_of value_of with_value commit_row commit_number
    commit_tag row_at rows_in rows_from layout filter has_tag lesser smallest above at_least up_to commit_of is_own find version_of newer version_at newest own_or
    look_for least_looked version_from look_from versions_after any count wrote cells_of shares clash conflict between later overtaken stays trimmed_rows in_use trimmed_commits cleared closed empty
    free begun begin read replaced added write removed abandon readers low trimmed_to trim queued struck others go_on enter take_request
    list_requests looked look_requests check take_commit list_commits look_commits add_commit leave_commits leave_requests finished advance decode
    store_of encode known fits on_bytes
closings_and_trims = refl
