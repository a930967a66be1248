-- Document 01's two queues, and the stages at which calls are answered, in accord with the definitions: what a call of client 0 finds and answers, at each
-- of the stages 0 to 13 of another client, or of its own.
-- Assumes nothing.
use Rattle.std.specs.Prelude.{Some}
use Prim.Native.Nat.{ℕ}
use mathlib.Core.Path.{◌≡◌, refl}
use mathlib.Core.List.{List, [], ◌∷◌, ◌++◌, map, flatten}
use lib.ListN.{get_or, replicate}
use Rattle.spec.specs.Set.{bit, member, insert, remove, size, collect, strike}
use Rattle.spec.specs.Rows.{spliced, number, bytes_of, data_row, tag_of, cell_of, value_of, with_value, commit_row, commit_number, commit_tag}
use Rattle.spec.specs.Rows.{row_at, rows_in, rows_from, layout, filter, has_tag}
use Rattle.spec.specs.Numbers.{lesser, smallest, above, at_least, up_to}
use Rattle.spec.specs.Look.{commit_of, is_own, find, version_of, newer, version_at, newest, own_or, look_for}
use Rattle.spec.specs.Look.{least_looked, version_from, look_from, versions_after}
use Rattle.spec.specs.Share.{any, count, wrote, cells_of, shares, clash, conflict}
use Rattle.spec.specs.Trim.{between, later, overtaken, stays, trimmed_rows, in_use, trimmed_commits}
use Rattle.spec.specs.Image.{cleared, closed, empty}
use Rattle.spec.specs.Calls.{free, begun, begin, read, replaced, added, write, removed, abandon, readers, low, trimmed_to, trim}
use Rattle.spec.specs.Steps.{queued, struck, others, go_on, enter, take_request, list_requests, looked, look_requests, check, take_commit}
use Rattle.spec.specs.Steps.{list_commits, look_commits, add_commit, leave_commits, leave_requests, finished, advance}
use Rattle.spec.specs.Bytes.{Memory, decode, store_of, encode, known, fits, on_bytes}
use Rattle.spec.specs.Answers.{Answer, Answered, Refused}
use Rattle.spec.specs.Run.{Read, Write, Advance, Abandon, step}
use Rattle.spec.specs.declared.Progress.{Progress}
use Rattle.spec.specs.declared.Progress.TheVariants.{Stage, Waiting}
use Rattle.spec.proofs.AccordTable.{counting, sixteen, row, rubbish, three, none, counts, boxes, holds, finds}

-- clients 0 and 1 have transactions 1 and 2 open: stages, request numbers, commit numbers, the lists of the request queue, and those of the commit queue
abbrev those : List ℕ → List ℕ → List ℕ → List ℕ → List ℕ → Memory
those g r c a b = finds (holds 4 8 2 0 (counts 2 5 4 3) (boxes g (three 1 2 0) none r c a b)) (row 1 7 16 ++ row 2 7 32 ++ rubbish 48) (rubbish 32)

-- ---- the queues, by the stage of another client, 0 to 13. Client 1 is the other one: it wrote cell 7, as client 0 did

abbrev of_stages : {A : Type 0} → (ℕ → A) → List A
of_stages f = map f (counting 14 0)

abbrev first_list : Memory → ℕ
first_list m = get_or (step (Advance 0) m).memory.store.request_waits 0 99

abbrev second_list : Memory → ℕ
second_list m = get_or (step (Advance 0) m).memory.store.commit_waits 0 99

-- Client 0 makes its list. The request queue is entered at 0 and left at 13; the commit queue is entered at 6 and left at 12
pub in_the_queues :
    of_stages (λ g. first_list (those (three 3 g 0) (three 3 4 0) none none none))
    ∷ of_stages (λ g. second_list (those (three 9 g 0) none (three 3 4 0) none none))
    ∷ []
    ≡ (0 ∷ 2 ∷ 2 ∷ 2 ∷ 2 ∷ 2 ∷ 2 ∷ 2 ∷ 2 ∷ 2 ∷ 2 ∷ 2 ∷ 2 ∷ 2 ∷ [])
    ∷ (0 ∷ 0 ∷ 0 ∷ 0 ∷ 0 ∷ 0 ∷ 0 ∷ 2 ∷ 2 ∷ 2 ∷ 2 ∷ 2 ∷ 2 ∷ 0 ∷ [])
    ∷ []
unfolding
    flatten bit member insert remove size collect strike spliced number bytes_of data_row tag_of cell_of value_of with_value commit_row commit_number
    commit_tag row_at rows_in rows_from layout filter has_tag lesser smallest above at_least up_to commit_of is_own find version_of newer version_at newest own_or
    look_for least_looked version_from look_from versions_after any count wrote cells_of shares clash conflict between later overtaken stays trimmed_rows in_use trimmed_commits cleared closed empty
    free begun begin read replaced added write removed abandon readers low trimmed_to trim queued struck others go_on enter take_request
    list_requests looked look_requests check take_commit list_commits look_commits add_commit leave_commits leave_requests finished advance decode
    store_of encode known fits on_bytes
in_the_queues = refl

-- client 0 looks, under 3, with client 1 on its list under n
abbrev looks_first : ℕ → ℕ → Answer Progress
looks_first n g = (step (Advance 0) (those (three 4 g 0) (three 3 n 0) none (three 2 0 0) none)).answer

abbrev looks_second : ℕ → ℕ → Answer Progress
looks_second n g = (step (Advance 0) (those (three 10 g 0) none (three 3 n 0) none (three 2 0 0))).answer

abbrev waits : Answer Progress
waits = Answered (Waiting 1)

abbrev goes : ℕ → Answer Progress
goes g = Answered (Stage g)

-- "strike rows that are gone and rows with a larger noted number", "A row without a noted number is not struck": a request number is noted by the step
-- from 2 to 3, a commit number by the step from 8 to 9. A larger number, then a smaller one, then the same
pub looks :
    of_stages (looks_first 4)
    ∷ of_stages (looks_first 2)
    ∷ of_stages (looks_first 3)
    ∷ of_stages (looks_second 4)
    ∷ of_stages (looks_second 2)
    ∷ of_stages (looks_second 3)
    ∷ []
    ≡ (goes 5 ∷ waits ∷ waits ∷ replicate 11 (goes 5))
    ∷ (goes 5 ∷ replicate 13 waits)
    ∷ (goes 5 ∷ replicate 13 waits)
    ∷ (replicate 7 (goes 11) ++ (waits ∷ waits ∷ replicate 5 (goes 11)))
    ∷ (replicate 7 (goes 11) ++ replicate 6 waits ++ (goes 11 ∷ []))
    ∷ (replicate 7 (goes 11) ++ replicate 6 waits ++ (goes 11 ∷ []))
    ∷ []
unfolding
    flatten bit member insert remove size collect strike spliced number bytes_of data_row tag_of cell_of value_of with_value commit_row commit_number
    commit_tag row_at rows_in rows_from layout filter has_tag lesser smallest above at_least up_to commit_of is_own find version_of newer version_at newest own_or
    look_for least_looked version_from look_from versions_after any count wrote cells_of shares clash conflict between later overtaken stays trimmed_rows in_use trimmed_commits cleared closed empty
    free begun begin read replaced added write removed abandon readers low trimmed_to trim queued struck others go_on enter take_request
    list_requests looked look_requests check take_commit list_commits look_commits add_commit leave_commits leave_requests finished advance decode
    store_of encode known fits on_bytes
looks = refl

-- ---- the stages at which client 0's calls are answered, 0 to 13: Abandon at 0 to 11 ("7 at stages 12 and 13"); Read at 0 to 11 (document 02, 1: "Read now
-- answers at stages 1 to 11 [..]; stages 12 and 13 still give 7"); Write at 0 ("7 stage not 0")

abbrev alone : ℕ → Memory
alone g = those (three g 0 0) none none none none

pub answered_at :
    (of_stages (λ g. (step (Abandon 0) (alone g)).answer) ≡ replicate 12 (Answered 3) ++ (Refused 7 ∷ Refused 7 ∷ []))
    × (of_stages (λ g. (step (Read 0 7) (alone g)).answer) ≡ replicate 12 (Answered (Some 0)) ++ (Refused 7 ∷ Refused 7 ∷ []))
    × (of_stages (λ g. (step (Write 0 8 (sixteen 64)) (alone g)).answer) ≡ Answered 1 ∷ replicate 13 (Refused 7))
unfolding
    flatten bit member insert remove size collect strike spliced number bytes_of data_row tag_of cell_of value_of with_value commit_row commit_number
    commit_tag row_at rows_in rows_from layout filter has_tag lesser smallest above at_least up_to commit_of is_own find version_of newer version_at newest own_or
    look_for least_looked version_from look_from versions_after any count wrote cells_of shares clash conflict between later overtaken stays trimmed_rows in_use trimmed_commits cleared closed empty
    free begun begin read replaced added write removed abandon readers low trimmed_to trim queued struck others go_on enter take_request
    list_requests looked look_requests check take_commit list_commits look_commits add_commit leave_commits leave_requests finished advance decode
    store_of encode known fits on_bytes
answered_at = (refl, refl, refl)
