-- Document 01's "Refusal by operation", in accord with the definitions: the numbers, the order in which they come, and both sides of each bound.
-- Assumes nothing.
use Prim.Native.Nat.{ℕ}
use mathlib.Core.Path.{◌≡◌, refl, ap, sym, ◌∙◌}
use mathlib.Core.List.{List, [], ◌∷◌, ◌++◌, map, flatten}
use lib.ListN.{replicate}
use lib.Dec.{eqb}
use Rattle.std.specs.Prelude.{if◌then◌else◌, None, Some, Ok, Err}
use Rattle.spec.specs.Set.{bit, member, insert, remove, size, collect, strike}
use Rattle.spec.specs.Rows.{spliced, number, bytes_of, data_row, tag_of, cell_of, value_of, with_value, commit_row, commit_number, commit_tag}
use Rattle.spec.specs.Rows.{row_at, rows_in, rows_from, layout, filter, has_tag}
use Rattle.spec.specs.Numbers.{lesser, smallest, above, at_least, up_to}
use Rattle.spec.specs.Look.{commit_of, is_own, find, version_of, newer, version_at, newest, own_or, look_for}
use Rattle.spec.specs.Look.{least_looked, version_from, look_from, versions_after}
use Rattle.spec.specs.Share.{any, count, wrote, cells_of, shares, clash, conflict}
use Rattle.spec.specs.Trim.{between, later, overtaken, stays, trimmed_rows, in_use, trimmed_commits}
use Rattle.spec.specs.Image.{cleared, closed, empty}
use Rattle.spec.specs.Calls.{free, begun, begin, read, replaced, added, write, removed, abandon, readers, low, trimmed_to, trim}
use Rattle.spec.specs.Steps.{queued, struck, others, go_on, enter, take_request, list_requests, looked, look_requests, check, take_commit}
use Rattle.spec.specs.Steps.{list_commits, look_commits, add_commit, leave_commits, leave_requests, finished, advance}
use Rattle.spec.specs.Bytes.{Memory, decode, store_of, encode, known, fits, on_bytes}
use Rattle.spec.specs.Answers.{Answered, Refused, no_form, code, answer_of, Reading}
use Rattle.spec.specs.Run.{Call, Begin, Read, Write, Advance, Abandon, Trim, Free, refusals}
use Rattle.spec.specs.declared.Refusal.{Refusal}
use Rattle.spec.specs.declared.Refusal.TheVariants.{BadSetUp, Unfit, NoClient, NoCell, AlreadyOpen, NotOpen, WrongStage}
use Rattle.spec.specs.declared.Refusal.TheVariants.{NumbersUsedUp, CellLimit, NoFreeRow, WrongLength}
use Rattle.spec.specs.declared.Begun.{Begun}
use Rattle.spec.specs.declared.Progress.{Progress}
use Rattle.spec.specs.declared.Progress.TheVariants.{Stage}
use Rattle.spec.proofs.AccordTable.{counting, sixteen, row, entry, rubbish, three, none, Counts, counts, Boxes, boxes, idle, holds}
use Rattle.spec.proofs.AccordTable.{finds, leaves, Example, example, refusing, computed}

-- ---- the numbers: "Refused 1 if the data length isn't ..", "2 unfit store, 3 client above 31, 5 already open, 8 if W 4,294,967,295 has been issued", "4
-- cell above 1,023, 6 nothing open, 7 stage not 0", "12 value not 16 bytes", "9 cell limit reached, 10 no free row"; 11 is unused (document 02, 2)

pub refusal_numbers :
    map code
    (BadSetUp ∷ Unfit ∷ NoClient ∷ NoCell ∷ AlreadyOpen ∷ NotOpen ∷ WrongStage ∷ NumbersUsedUp ∷ CellLimit ∷ NoFreeRow ∷ WrongLength ∷ [])
    ≡ 1 ∷ 2 ∷ 3 ∷ 4 ∷ 5 ∷ 6 ∷ 7 ∷ 8 ∷ 9 ∷ 10 ∷ 12 ∷ []
refusal_numbers = refl

-- "Any other line, an empty one or one over 80 bytes prints (line (refused 13))"
pub no_form_lem : no_form ≡ 13
no_form_lem = refl

-- no two cases of the enum have one number: the case is read off it
abbrev case_of : ℕ → Refusal
case_of n =
    if eqb n 1 then BadSetUp else
    if eqb n 2 then Unfit else
    if eqb n 3 then NoClient else
    if eqb n 4 then NoCell else
    if eqb n 5 then AlreadyOpen else
    if eqb n 6 then NotOpen else
    if eqb n 7 then WrongStage else
    if eqb n 8 then NumbersUsedUp else
    if eqb n 9 then CellLimit else
    if eqb n 10 then NoFreeRow else
    WrongLength

case_of_code : (r : Refusal) → case_of (code r) ≡ r
case_of_code BadSetUp = refl
case_of_code Unfit = refl
case_of_code NoClient = refl
case_of_code NoCell = refl
case_of_code AlreadyOpen = refl
case_of_code NotOpen = refl
case_of_code WrongStage = refl
case_of_code NumbersUsedUp = refl
case_of_code CellLimit = refl
case_of_code NoFreeRow = refl
case_of_code WrongLength = refl

pub code_injective : (a b : Refusal) → code a ≡ code b → a ≡ b
code_injective a b e = sym (case_of_code a) ∙ (ap case_of e ∙ case_of_code b)

-- "Where an answer is an enum, a definition gives this paper's number and values for each case of the enum": an answer is its value, and a refusal the
-- number of its case
pub answers_by_value : (n : ℕ) (b : Begun) (g : Reading) (p : Progress)
    → (answer_of (Ok n) ≡ Answered n) × (answer_of (Ok b) ≡ Answered b) × (answer_of (Ok g) ≡ Answered g) × (answer_of (Ok p) ≡ Answered p)
answers_by_value n b g p = (refl, refl, refl, refl)

pub refusals_by_number : {A : Type 0} (r : Refusal) → answer_of {A = A} (Err r) ≡ Refused (code r)
refusals_by_number r = refl

-- "Begin: 2, 3, 5, 8", "Read: 2, 3, 4, 6, 7", "Write: 2, 3, 4, 12, 6, 7; then [..] 9 [..], 10", "Advance: 2, 3, 6" without 11, "Abandon: 2, 3, 6, 7",
-- "Trim and Free: 2"
abbrev calls : List ℕ → List Call
calls v = Begin 0 ∷ Read 0 7 ∷ Write 0 7 v ∷ Advance 0 ∷ Abandon 0 ∷ Trim ∷ Free ∷ []

pub by_operation : (v : List ℕ) → map refusals (calls v)
    ≡ (2 ∷ 3 ∷ 5 ∷ 8 ∷ [])
    ∷ (2 ∷ 3 ∷ 4 ∷ 6 ∷ 7 ∷ [])
    ∷ (2 ∷ 3 ∷ 4 ∷ 12 ∷ 6 ∷ 7 ∷ 9 ∷ 10 ∷ [])
    ∷ (2 ∷ 3 ∷ 6 ∷ [])
    ∷ (2 ∷ 3 ∷ 6 ∷ 7 ∷ [])
    ∷ (2 ∷ [])
    ∷ (2 ∷ [])
    ∷ []
by_operation v = refl

-- ---- the calls: a store of 2 rows, limit 1. Transaction 1 has written cell 7

abbrev two : Counts → Boxes → Memory
two n b = finds (holds 2 1 1 0 n b) (row 1 7 16 ++ rubbish 24) (rubbish 16)

-- one more row in use than there are
abbrev unfit_one : Memory
unfit_one = finds (holds 2 1 3 0 (counts 4294967295 0 0 0) idle) (row 1 7 16 ++ rubbish 24) (rubbish 16)

-- no row free: transactions 1 and 2 have one each
abbrev crowded : Boxes → Memory
crowded b = finds (holds 2 2 2 0 (counts 2 0 0 0) b) (row 1 7 16 ++ row 2 7 32) (rubbish 16)

abbrev few : Counts
few = counts 2 0 0 0

-- no number is left of W, of R and of C
abbrev used_up : Counts
used_up = counts 4294967295 4294967295 4294967295 0

-- client 0 at stage g with that number: 0 for none, though it be at some stage
abbrev client : ℕ → ℕ → Boxes
client g n = boxes (three g 0 0) (three n 0 0) none none none none none

-- client 0's transaction 1 at stage g, with commit number 3; e committed rows are in use, and the last commit is l
abbrev committing : ℕ → ℕ → ℕ → List ℕ → Memory
committing g e l c =
    finds (holds 2 1 1 e (counts 4 3 3 l) (boxes (three g 0 0) (three 1 0 0) none (three 3 0 0) (three 3 0 0) none none)) (row 1 7 16 ++ rubbish 24) c

-- values of 16, 15 and 17 bytes
abbrev value : List ℕ
value = sixteen 64

abbrev short : List ℕ
short = counting 15 64

abbrev long : List ℕ
long = counting 17 64

abbrev pub refusals_in_order : List Example
refusals_in_order =
    -- 2 comes first
    refusing "2 before 3" (Begin 64) unfit_one 2
    ∷ refusing "2 before 3" (Read 64 1024) unfit_one 2
    ∷ refusing "2 before 3" (Write 64 1024 short) unfit_one 2
    ∷ refusing "2 before 3" (Advance 64) unfit_one 2
    ∷ refusing "2 before 3" (Abandon 64) unfit_one 2
    ∷ refusing "2 before 4" (Read 0 1024) unfit_one 2
    ∷ refusing "2 before 6" (Advance 0) unfit_one 2
    ∷ refusing "2 before 8" (Begin 0) unfit_one 2
    -- then 3: the clients are 0 to 63
    ∷ refusing "3 before 8" (Begin 64) (two used_up idle) 3
    ∷ refusing "3 before 4" (Read 64 1024) (two few idle) 3
    ∷ refusing "3 before 4" (Write 64 1024 short) (two few idle) 3
    ∷ refusing "3 before 12" (Write 64 7 short) (two few idle) 3
    ∷ refusing "3 before 6" (Advance 64) (two few idle) 3
    ∷ refusing "3 before 6" (Abandon 64) (two few idle) 3
    -- then 4: the cells are 0 to 1,023
    ∷ refusing "4 before 6" (Read 0 1024) (two few idle) 4
    ∷ refusing "4 before 12" (Write 0 1024 short) (two few idle) 4
    -- then 12, in a Write, before 6 and 7: "A value is 16 bytes"
    ∷ refusing "12 before 6" (Write 0 7 short) (two few idle) 12
    ∷ refusing "12 before 6" (Write 0 7 long) (two few idle) 12
    ∷ refusing "12 before 7" (Write 0 7 short) (two few (client 5 1)) 12
    ∷ refusing "12: 0 bytes" (Write 0 7 []) (two few (client 0 1)) 12
    ∷ refusing "12: 15 bytes" (Write 0 7 short) (two few (client 0 1)) 12
    ∷ refusing "12: 17 bytes" (Write 0 7 long) (two few (client 0 1)) 12
    -- 5 before 8 in a Begin
    ∷ refusing "5 before 8" (Begin 0) (two used_up (client 0 1)) 5
    ∷ refusing "5" (Begin 0) (two few (client 13 1)) 5
    ∷ refusing "8" (Begin 0) (two used_up idle) 8
    -- 6 before 7, of a client that has nothing open and stands at stage 12; and before the 2 of Advance, at stage 1
    ∷ refusing "6 before 7" (Read 0 7) (two few (client 12 0)) 6
    ∷ refusing "6 before 7" (Write 0 7 value) (two few (client 12 0)) 6
    ∷ refusing "6 before 7" (Abandon 0) (two few (client 12 0)) 6
    ∷ refusing "6 before 2" (Advance 0) (two used_up (client 1 0)) 6
    -- 7 before 9 and 10: client 0 has transaction 2, with no row for cell 8, and the limit is 1; then no row is free
    ∷ refusing "7 before 9" (Write 0 8 value) (two few (client 1 1)) 7
    ∷ refusing "7 before 10" (Write 0 8 value) (crowded (client 1 1)) 7
    -- 9 at the limit, with a row free; before 10 (limit 1, no row free); 10 below the limit
    ∷ refusing "9" (Write 0 8 value) (two few (client 0 1)) 9
    ∷ refusing "9 before 10" (Write 0 8 value) (finds (holds 2 1 2 0 few (client 0 1)) (row 1 7 16 ++ row 2 7 32) (rubbish 16)) 9
    ∷ refusing "10" (Write 0 8 value) (crowded (client 0 1)) 10
    -- "Read [..] stages 12 and 13 still give 7" (document 02, 1), "Abandon: [..] 7 at stages 12 and 13", and Write's "7 stage not 0"
    ∷ refusing "7" (Read 0 7) (two few (client 12 1)) 7
    ∷ refusing "7" (Read 0 7) (two few (client 13 1)) 7
    ∷ refusing "7" (Write 0 7 value) (two few (client 1 1)) 7
    ∷ refusing "7" (Write 0 7 value) (two few (client 13 1)) 7
    ∷ refusing "7" (Abandon 0) (two few (client 12 1)) 7
    ∷ refusing "7" (Abandon 0) (two few (client 13 1)) 7
    -- "2 also if the R or C to be taken is already 4,294,967,295, or the committed buffer is full at stage 11"
    ∷ refusing "R used up" (Advance 0) (two (counts 2 4294967295 0 0) (client 1 1)) 2
    ∷ refusing "C used up" (Advance 0) (two (counts 2 1 4294967295 0) (client 7 1)) 2
    ∷ refusing "full" (Advance 0) (committing 11 2 2 (entry 1 8 ++ entry 2 9)) 2
    ∷ []

pub refusals_in_order_lem : map computed refusals_in_order ≡ refusals_in_order
unfolding
    flatten bit member insert remove size collect strike spliced number bytes_of data_row tag_of cell_of value_of with_value commit_row commit_number
    commit_tag row_at rows_in rows_from layout filter has_tag lesser smallest above at_least up_to commit_of is_own find version_of newer version_at newest own_or
    look_for least_looked version_from look_from versions_after any count wrote cells_of shares clash conflict between later overtaken stays trimmed_rows in_use trimmed_commits cleared closed empty
    free begun begin read replaced added write removed abandon readers low trimmed_to trim queued struck others go_on enter take_request
    list_requests looked look_requests check take_commit list_commits look_commits add_commit leave_commits leave_requests finished advance decode
    store_of encode known fits on_bytes
refusals_in_order_lem = refl

-- ---- the other side of each bound: what is answered

abbrev pub answered_at_bounds : List Example
answered_at_bounds =
    -- the last W is given ("8 if W 4,294,967,295 has been issued"), to the last client; the last R, and the last C
    record {
      name = "the last W";
      call = Begin 63;
      before = two (counts 4294967294 0 3 1) (client 0 1);
      after =
          leaves
          (two (counts 4294967295 0 3 1)
          (boxes none (1 ∷ replicate 62 0 ++ (4294967295 ∷ [])) (replicate 63 0 ++ (1 ∷ [])) none none none none))
          (record { number = 4294967295; snapshot = 1 });
    }
    ∷ record {
      name = "the last R";
      call = Advance 0;
      before = two (counts 2 4294967294 4294967295 0) (client 1 1);
      after =
          leaves
          (two (counts 2 4294967295 4294967295 0) (boxes (three 2 0 0) (three 1 0 0) none (three 4294967295 0 0) none none none))
          (Stage 2);
    }
    ∷ record {
      name = "the last C";
      call = Advance 0;
      before = two (counts 2 4294967295 4294967294 0) (client 7 1);
      after =
          leaves
          (two (counts 2 4294967295 4294967295 0) (boxes (three 8 0 0) (three 1 0 0) none none (three 4294967295 0 0) none none))
          (Stage 8);
    }
    -- the last committed row
    ∷ record {
      name = "the last committed row";
      call = Advance 0;
      before = committing 11 1 1 (entry 1 8 ++ rubbish 8);
      after = leaves (committing 12 2 3 (entry 1 8 ++ entry 3 1)) (Stage 12);
    }
    -- the last cell is read, and written
    ∷ example "cell 1,023 read" (Read 0 1023) (two few (client 0 1)) (leaves (two few (client 0 1)) None)
    ∷ record {
      name = "cell 1,023 written";
      call = Write 0 1023 value;
      before = two few (client 0 2);
      after = leaves (finds (holds 2 1 2 0 few (client 0 2)) (row 1 7 16 ++ (2 ∷ 0 ∷ 0 ∷ 0 ∷ 255 ∷ 3 ∷ 0 ∷ 0 ∷ value)) (rubbish 16)) 0;
    }
    -- "9 cell limit reached": a cell that the bytes hold twice counts once
    ∷ record {
      name = "the second cell of two";
      call = Write 0 8 value;
      before = finds (holds 3 2 2 0 few (client 0 1)) (row 1 7 16 ++ row 1 7 32 ++ rubbish 24) (rubbish 24);
      after = leaves (finds (holds 3 2 3 0 few (client 0 1)) (row 1 7 16 ++ row 1 7 32 ++ row 1 8 64) (rubbish 24)) 0;
    }
    -- Read and Abandon are answered at stages 1 and 11
    ∷ example "a read at 1" (Read 0 7) (two few (client 1 1)) (leaves (two few (client 1 1)) (Some 0))
    ∷ example "a read at 11" (Read 0 7) (two few (client 11 1)) (leaves (two few (client 11 1)) (Some 0))
    ∷ record {
      name = "an abandoning at 1";
      call = Abandon 0;
      before = two few (client 1 1);
      after = leaves (finds (holds 2 1 0 0 few idle) (replicate 24 0 ++ rubbish 24) (rubbish 16)) 2;
    }
    ∷ record {
      name = "an abandoning at 11";
      call = Abandon 0;
      before = two few (client 11 1);
      after = leaves (finds (holds 2 1 0 0 few idle) (replicate 24 0 ++ rubbish 24) (rubbish 16)) 2;
    }
    ∷ []

pub answered_at_bounds_lem : map computed answered_at_bounds ≡ answered_at_bounds
unfolding
    flatten bit member insert remove size collect strike spliced number bytes_of data_row tag_of cell_of value_of with_value commit_row commit_number
    commit_tag row_at rows_in rows_from layout filter has_tag lesser smallest above at_least up_to commit_of is_own find version_of newer version_at newest own_or
    look_for least_looked version_from look_from versions_after any count wrote cells_of shares clash conflict between later overtaken stays trimmed_rows in_use trimmed_commits cleared closed empty
    free begun begin read replaced added write removed abandon readers low trimmed_to trim queued struck others go_on enter take_request
    list_requests looked look_requests check take_commit list_commits look_commits add_commit leave_commits leave_requests finished advance decode
    store_of encode known fits on_bytes
answered_at_bounds_lem = refl
