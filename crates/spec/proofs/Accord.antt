-- The definitions in accord with documents 01 and 02: sentences of them, each as a law of the definitions or as an example that they compute.
-- Assumes nothing.
use Prim.Native.Nat.{ℕ, zero, suc, ◌≤◌, ◌<◌}
use mathlib.Core.Path.{◌≡◌, refl}
use mathlib.Core.Bool.{Bool, true, false}
use mathlib.Core.Logic.{◌⊎◌, inl, inr}
use mathlib.Core.List.{List, [], ◌∷◌, flatten}
use lib.Dec.{leb}
use lib.ListN.{length, get_or, set, replicate}
use native.Mathlib.Omega.{arith}
use borrow.Author.Tests.{le-ltb, le-leb, lt-leb, eq-eqb, ne_eqb}
use Rattle.std.specs.Prelude.{if◌then◌else◌}
use Rattle.spec.specs.Set.{clients, bit, member, insert, remove, size, collect, strike}
use Rattle.spec.specs.Rows.{Row, rows_in, rows_from, layout, number, bytes_of, data_row, tag_of, cell_of, commit_row, commit_number}
use Rattle.spec.specs.Rows.{commit_tag, filter, has_tag, cells}
use Rattle.spec.specs.Numbers.{lesser, smallest, above, top}
use Rattle.spec.specs.Look.{commit_of, is_own}
use Rattle.spec.specs.Share.{any, wrote, cells_of, shares, clash, conflict}
use Rattle.spec.specs.Trim.{between, later, overtaken, stays, trimmed_rows, in_use, trimmed_commits}
use Rattle.spec.specs.declared.Progress.TheVariants.{Stage, Waiting, Conflict, Done}
use Rattle.spec.specs.declared.Store.{Store}
use Rattle.spec.specs.Answers.{Answer, Answered, Refused, unfit, no_client, not_open, wrong_stage, cell_limit}
use Rattle.spec.specs.Image.{Clients, Image, counters_of, clients_of, image_of, with_clients, with_rows, cleared, closed, stage_of}
use Rattle.spec.specs.Image.{number_of, is_open, zeros, empty}
use Rattle.spec.specs.Calls.{replies, refuse, free, begin, read, write, added, removed, abandon, readers, low, trimmed_to, trim}
use Rattle.spec.specs.Steps.{queued, struck, others, go_on, finished, enter, list_requests, looked, look_requests, list_commits}
use Rattle.spec.specs.Steps.{look_commits, check, advance}
use Rattle.spec.specs.Bytes.{counters_in, clients_in, record_of, decode, store_of, After, after_of, encode, known, fits, on_bytes, accepts, set_up}

-- ---- the cell limit (document 02, 9): d and c are the bytes of the buffers, w the first W

-- "A cell limit of 0 at set-up now stands for 8": a set-up with 0 is one with 8
pub zero_is_eight : (d c : List ℕ) (w : ℕ) → set_up d c w 0 ≡ set_up d c w 8
unfolding set_up accepts
zero_is_eight d c w = refl

-- what a set-up left, with another cell limit in the record where it was answered
abbrev limited : ℕ → After ℕ → Answer ℕ → After ℕ
limited l a (Answered n) =
    let s : Store = a.memory.store in
    after_of (record_of s.rows l (counters_in s) (clients_in s) s.used s.entries) a.memory.data_bytes a.memory.commit_bytes
    a.memory.versions (Answered n)
limited l a (Refused n) = a

abbrev pub with_limit : ℕ → After ℕ → After ℕ
with_limit l a = limited l a a.answer

if_limited : (l : ℕ) (b : Bool) (x y z : After ℕ) → x ≡ with_limit l y → z ≡ with_limit l z → (if b then x else z) ≡ with_limit l (if b then y else z)
if_limited l true x y z e f = e
if_limited l false x y z e f = f

-- "The tournament desk relied on 16 and sets 16 by name": the record's limit is 16, and all else is as 0 leaves it
pub sixteen_by_name : (d c : List ℕ) (w : ℕ) → set_up d c w 16 ≡ with_limit 16 (set_up d c w 0)
unfolding set_up accepts store_of empty
sixteen_by_name d c w = if_limited 16 (accepts (length d) (length c) w 0) _ _ _ refl refl

-- so of every limit up to 64 that a set-up names
pub by_name : (d c : List ℕ) (w l : ℕ) → 1 ≤ l → l ≤ 64 → set_up d c w l ≡ with_limit l (set_up d c w 0)
unfolding set_up accepts store_of empty
by_name d c w l h g = rw (le-ltb 64 l g, ne_eqb l 0 (λ e. omega arith)) (if_limited l (accepts (length d) (length c) w 0) _ _ _ refl refl)

-- client 0's transaction 1 wrote the cells below n, all values zero, in a store of 12 rows with a limit of 8
abbrev value : List ℕ
value = replicate 16 0

abbrev rows_below : ℕ → List Row
rows_below zero = []
rows_below (suc n) = data_row 1 n value ∷ rows_below n

abbrev wrote_below : ℕ → Image
wrote_below n = image_of 12 8 (counters_of 1 0 0 0) (clients_of zeros (set zeros 0 1) zeros zeros zeros zeros zeros) (rows_below n) [] []

-- "9 cell limit reached": the eighth cell is written, the ninth is not
pub eighth : (added 0 7 value (wrote_below 7)).answer ≡ Answered 4
unfolding added cells_of wrote any is_own has_tag tag_of cell_of number data_row bytes_of
eighth = refl

pub ninth : added 0 8 value (wrote_below 8) ≡ refuse cell_limit (wrote_below 8)
unfolding added cells_of wrote any is_own has_tag tag_of cell_of number data_row bytes_of
ninth = refl

-- ---- refusals

-- "9 cell limit reached, 10 no free row": 9 "even with no row free"
pub limit_first : (k x : ℕ) (v : List ℕ) (i : Image) → i.limit ≤ cells_of (number_of i k) i.data_rows → added k x v i ≡ refuse cell_limit i
unfolding added
limit_first k x v i h = rw (le-leb _ _ h)

-- "Abandon: [..] 7 at stages 12 and 13"
pub abandoned_late : (k : ℕ) (i : Image) → k < clients → is_open i k ≡ true → (stage_of i k ≡ 12) ⊎ (stage_of i k ≡ 13)
    → abandon k i ≡ refuse wrong_stage i
unfolding abandon
abandoned_late k i h o (inl e) = rw (lt-leb clients k h, o, e)
abandoned_late k i h o (inr e) = rw (lt-leb clients k h, o, e)

-- document 02, 12: "64 clients, 0 to 63": the tests that refusal 3 goes by
pub sixty_four : (leb clients 63 ≡ false) × (leb clients 64 ≡ true)
sixty_four = (refl, refl)

-- "refusal 3 begins at 64": in every store, and client 63 is one like the others
pub client_64 : (x : ℕ) (v : List ℕ) (i : Image) → length i.versions ≡ 1024
    → (begin 64 i ≡ refuse no_client i) × (read 64 x i ≡ refuse no_client i) × (write 64 x v i ≡ refuse no_client i)
    × (advance 64 i ≡ refuse no_client i) × (abandon 64 i ≡ refuse no_client i)
unfolding begin read write advance abandon
client_64 x v i t = rw (t) (refl, refl, refl, refl, refl)

pub client_63 : (v : List ℕ) (i : Image) → length i.versions ≡ 1024 → length v ≡ 16 → is_open i 63 ≡ false
    → (read 63 7 i ≡ refuse not_open i) × (write 63 7 v i ≡ refuse not_open i) × (advance 63 i ≡ refuse not_open i) × (abandon 63 i ≡ refuse not_open i)
unfolding read write advance abandon
client_63 v i t l c = rw (t, eq-eqb (length v) 16 l, c) (refl, refl, refl, refl)

-- "a stage is unknown", of any of the "64 clients, 0 to 63" (document 02, 12): a store of one row with nothing in use, and client 63 at stage g
abbrev last_at_lem : ℕ → Store
last_at_lem g = record_of 1 8 (counters_of 0 0 0 0) (clients_of (set zeros 63 g) zeros zeros zeros zeros zeros zeros) 0 0

pub stage_13 : on_bytes free (last_at_lem 13) (replicate 24 0) (replicate 8 0) [] ≡ after_of (last_at_lem 13) (replicate 24 0) (replicate 8 0) [] (Answered 1)
unfolding on_bytes fits known encode decode store_of free layout rows_in rows_from flatten
stage_13 = refl

pub stage_14 : on_bytes free (last_at_lem 14) (replicate 24 0) (replicate 8 0) [] ≡ after_of (last_at_lem 14) (replicate 24 0) (replicate 8 0) [] (Refused unfit)
unfolding on_bytes fits known
stage_14 = refl

-- ---- Read and Write during a commit (document 02, 1)

-- an image with other stages
abbrev staged : List ℕ → Image → Image
staged g i =
    let c : Clients = i.clients in
    with_clients i (clients_of g c.number c.snapshot c.request c.commit c.request_waits c.commit_waits)

-- "Read now answers at stages 1 to 11 with the same snapshot and the transaction's own writes": at the first and at the last of them as it would
-- at stage 0 (the plain table speaks of all of them)
pub read_while_waiting : (k x : ℕ) (i : Image) (g : List ℕ) → length i.versions ≡ 1024 → k < clients → x < cells → is_open i k ≡ true
    → (stage_of i k ≡ 1) ⊎ (stage_of i k ≡ 11) → get_or g k 0 ≡ 0 → (read k x i).answer ≡ (read k x (staged g i)).answer
unfolding read
read_while_waiting k x i g t h l o (inl e) f = rw (t, lt-leb clients k h, lt-leb cells x l, o, e, f)
read_while_waiting k x i g t h l o (inr e) f = rw (t, lt-leb clients k h, lt-leb cells x l, o, e, f)

-- "stages 12 and 13 still give 7"
pub read_late : (k x : ℕ) (i : Image) → length i.versions ≡ 1024 → k < clients → x < cells → is_open i k ≡ true
    → (stage_of i k ≡ 12) ⊎ (stage_of i k ≡ 13) → read k x i ≡ refuse wrong_stage i
unfolding read
read_late k x i t h g o (inl e) = rw (t, lt-leb clients k h, lt-leb cells x g, o, e)
read_late k x i t h g o (inr e) = rw (t, lt-leb clients k h, lt-leb cells x g, o, e)

-- only Read is answered during a commit: a Write there still gets 7
pub write_while_waiting : (k x : ℕ) (v : List ℕ) (i : Image) → k < clients → x < cells → length v ≡ 16 → is_open i k ≡ true
    → (stage_of i k ≡ 1) ⊎ (stage_of i k ≡ 11) → write k x v i ≡ refuse wrong_stage i
unfolding write
write_while_waiting k x v i h g l o (inl e) = rw (lt-leb clients k h, lt-leb cells x g, eq-eqb (length v) 16 l, o, e)
write_while_waiting k x v i h g l o (inr e) = rw (lt-leb clients k h, lt-leb cells x g, eq-eqb (length v) 16 l, o, e)

-- ---- Advance

-- "Waiting with the number of transactions still on its list": while one is left, the stage stays
pub wait_first : (g k w : ℕ) (i : Image) → (w ≡ 0 → ⊥) → looked g k w i ≡ replies i (Waiting (size clients w))
unfolding looked
wait_first g k w i h = rw (ne_eqb w 0 h)

-- the examples: a store of 4 rows, all values zero
abbrev closed_all : Clients
closed_all = clients_of zeros zeros zeros zeros zeros zeros zeros

-- numbers of clients 0, 1 and 2
abbrev three : ℕ → ℕ → ℕ → List ℕ
three a b c = set (set (set zeros 0 a) 1 b) 2 c

-- "look: strike rows that are gone and rows with a larger noted number"; "list [..] once"; "look, as at 4, by commit number". Clients 0, 1 and 2
-- wrote cell 7, by transactions 1, 2 and 3. Client 0 has number 1 in both queues and client 1 number 2; client 2 enters last
abbrev entering : List ℕ → List ℕ → List ℕ → Image
entering stages request_waits commit_waits =
    image_of 4 16 (counters_of 3 2 2 0) (clients_of stages (three 1 2 3) zeros (three 1 2 0) (three 1 2 0) request_waits commit_waits)
    (data_row 1 7 value ∷ data_row 2 7 value ∷ data_row 3 7 value ∷ []) [] []

-- client 0 has client 1 on its list, which has noted its number: it is struck, and client 2, entered since, does not come in
pub larger_struck : look_requests 0 (entering (three 4 3 1) (three 2 0 0) zeros) ≡ replies (entering (three 5 3 1) zeros zeros) (Stage 5)
unfolding
    look_requests looked go_on struck queued strike bit member remove insert size collect others
    shares any wrote is_own has_tag tag_of cell_of number data_row bytes_of
larger_struck = refl

pub larger_commit_struck : look_commits 0 (entering (three 10 9 7) zeros (three 2 0 0)) ≡ replies (entering (three 11 9 7) zeros zeros) (Stage 11)
unfolding look_commits looked go_on struck queued strike bit member remove insert size collect others
larger_commit_struck = refl

-- "A row without a noted number is not struck": client 1 has its number, and has not noted it
pub unnoted_kept : look_requests 0 (entering (three 4 2 1) (three 2 0 0) zeros) ≡ replies (entering (three 4 2 1) (three 2 0 0) zeros) (Waiting 1)
unfolding look_requests looked go_on struck queued strike bit member remove size
unnoted_kept = refl

-- client 1 has client 0 on its list, and waits
pub smaller_kept : look_requests 1 (entering (three 4 4 1) (three 0 1 0) zeros) ≡ replies (entering (three 4 4 1) (three 0 1 0) zeros) (Waiting 1)
unfolding look_requests looked go_on struck queued strike bit member remove size
smaller_kept = refl

-- document 02, 12: "both waiting lists grow to 64 clients": clients 40 and 63 wrote cell 7, by transactions 1 and 2, and are in one queue. Client
-- k is digit k of a list: 63 is the highest of 64
abbrev two : ℕ → ℕ → List ℕ
two a b = set (set zeros 40 a) 63 b

abbrev far_apart : List ℕ → List ℕ → List ℕ → Image
far_apart stages request_waits commit_waits =
    image_of 4 8 (counters_of 2 2 2 0) (clients_of stages (two 1 2) zeros (two 1 2) (two 1 2) request_waits commit_waits)
    (data_row 1 7 value ∷ data_row 2 7 value ∷ []) [] []

pub lists_63 : list_requests 40 (far_apart (two 3 3) zeros zeros) ≡ replies (far_apart (two 4 3) (two 9223372036854775808 0) zeros) (Stage 4)
unfolding list_requests go_on queued others collect insert member bit shares any wrote is_own has_tag tag_of cell_of number data_row bytes_of
lists_63 = refl

pub lists_40 : list_commits 63 (far_apart (two 9 9) zeros zeros) ≡ replies (far_apart (two 9 10) zeros (two 0 1099511627776)) (Stage 10)
unfolding list_commits go_on queued others collect insert member bit
lists_40 = refl

-- client 40 strikes client 63, which has the larger number, and client 63 waits for client 40; in the other queue alike
pub strikes_63 : look_requests 40 (far_apart (two 4 3) (two 9223372036854775808 0) zeros) ≡ replies (far_apart (two 5 3) zeros zeros) (Stage 5)
unfolding look_requests looked go_on struck queued strike bit member remove
strikes_63 = refl

abbrev waiting : Image
waiting = far_apart (two 4 4) (two 0 1099511627776) zeros

pub waits_for_40 : advance 63 waiting ≡ replies waiting (Waiting 1)
unfolding advance look_requests looked go_on struck queued strike bit member remove size
waits_for_40 = refl

pub strikes_63_commit : look_commits 40 (far_apart (two 10 9) zeros (two 9223372036854775808 0)) ≡ replies (far_apart (two 11 9) zeros zeros) (Stage 11)
unfolding look_commits looked go_on struck queued strike bit member remove
strikes_63_commit = refl

-- transaction 1 committed cell 7 under 1; client 0's transaction 2, with S 0, wrote it too, and client 1's transaction 3 has it on its list
abbrev meeting : Clients → List Row → Image
meeting c r = image_of 4 16 (counters_of 3 3 1 1) c (data_row 1 7 value ∷ r) (commit_row 1 1 ∷ []) []

abbrev met : Image
met = meeting (clients_of (three 5 4 0) (three 2 3 0) zeros (three 2 3 0) zeros (three 0 1 0) zeros) (data_row 2 7 value ∷ data_row 3 7 value ∷ [])

-- what is left when client 0 is closed: "removes the transaction's data rows and its queue row"
abbrev left : Image
left = meeting (clients_of (three 0 4 0) (three 0 3 0) zeros (three 0 3 0) zeros zeros zeros) (data_row 3 7 value ∷ [])

-- "check commits above S for a shared cell"
pub next_commit : check 0 met ≡ replies left (Conflict 1)
unfolding
    check removed closed cleared bit member remove conflict clash wrote any is_own commit_of above smallest lesser filter
    has_tag tag_of cell_of commit_tag commit_number number data_row commit_row bytes_of
next_commit = refl

-- "Abandon removes the transaction's data rows and queue rows in one step"
pub abandon_leaves : abandon 0 met ≡ replies left 2
unfolding abandon removed closed cleared bit member remove filter has_tag tag_of number data_row bytes_of
abandon_leaves = refl

-- document 02, 2: "Advance at stage 0 with nothing written now answers Done with the snapshot number and closes the transaction. Nothing enters a
-- queue, and no number is taken", even with R and C used up: the last commit is 2, client 1's transaction 4 is under way, and client 0's
-- transaction 5, with S 1, wrote nothing
abbrev store_with : Clients → Image
store_with c = image_of 4 16 (counters_of 5 top top 2) c (data_row 1 7 value ∷ data_row 2 7 value ∷ data_row 4 7 value ∷ [])
    (commit_row 1 1 ∷ commit_row 2 2 ∷ []) []

abbrev underway : Clients
underway = clients_of (set zeros 1 8) (set zeros 1 4) (set zeros 1 2) (set zeros 1 3) (set zeros 1 3) zeros zeros

abbrev and_enquiry : Clients
and_enquiry = clients_of underway.stage (set underway.number 0 5) (set underway.snapshot 0 1) underway.request underway.commit
    zeros zeros

pub done_unchanged : advance 0 (store_with and_enquiry) ≡ replies (store_with underway) (Done 1)
unfolding advance enter finished go_on closed cleared bit member remove any has_tag tag_of number data_row bytes_of
done_unchanged = refl

-- ---- Trim

-- "low is the smallest S of open transactions", of all 64 clients: client 63 has S 1, client 40 has S 2, and 3 is the last commit number
pub low_of_63 : low (image_of 4 8 (counters_of 5 3 3 3) (clients_of zeros (two 5 4) (two 2 1) zeros zeros zeros zeros) [] [] []) ≡ 1
unfolding low readers smallest lesser
low_of_63 = refl

-- "A committed data row goes if its cell has another with a larger commit number that is at most low": cell 7 was committed under 1, 2 and 3
abbrev thrice : Image
thrice =
    image_of 4 16 (counters_of 3 3 3 3) closed_all (data_row 1 7 value ∷ data_row 2 7 value ∷ data_row 3 7 value ∷ [])
    (commit_row 1 1 ∷ commit_row 2 2 ∷ commit_row 3 3 ∷ []) []

pub one_row_left : trim thrice ≡ replies (with_rows thrice (data_row 3 7 value ∷ []) (commit_row 3 3 ∷ [])) 2
unfolding
    trim trimmed_to low readers smallest lesser trimmed_rows stays overtaken later between in_use trimmed_commits any commit_of filter has_tag
    tag_of cell_of commit_tag commit_number number data_row commit_row bytes_of
one_row_left = refl
