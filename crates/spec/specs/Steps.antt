-- Advance on an image: "Each call of Advance takes the one step that its stage calls for" (document 01, "A transaction", the table of stages).
-- Client k.
-- Assumes nothing.
use Rattle.std.specs.Prelude.{ℕ, ◌+◌, Bool, true, false, not, ◌&&◌, List, [], ◌∷◌, ◌++◌, length, get_or, leb, ltb, eqb, None, Some}
use Rattle.std.specs.Prelude.{if◌then◌else◌}
use Rattle.spec.specs.Set.{clients, size, member, collect, strike}
use Rattle.spec.specs.Rows.{commit_row, has_tag}
use Rattle.spec.specs.Share.{any, shares, conflict}
use Rattle.spec.specs.declared.Queue.{Queue}
use Rattle.spec.specs.declared.Progress.{Progress}
use Rattle.spec.specs.declared.Progress.TheVariants.{Stage, Waiting, Conflict, Done}
use Rattle.spec.specs.Answers.{unfit, no_client, not_open}
use Rattle.spec.specs.Image.{
  Image,
  with_clients,
  with_rows,
  with_requested,
  with_taken,
  with_last,
  set_stage,
  set_request,
  set_commit,
  set_request_waits,
  set_commit_waits,
  unlisted,
  closed,
  stage_of,
  number_of,
  snapshot_of,
  request_of,
  commit_number_of,
  is_open,
}
use Rattle.spec.specs.Calls.{Outcome, replies, refuse, removed}
use Rattle.spec.specs.Numbers.{top, Number}

-- ---- the two queues: who is in one, and whose number is noted, is read off the stage

-- the request queue: entered at 0, the number noted at 2, left at 13; the commit queue: entered at 6, the number noted at 8, left at 12
abbrev pub request_queue : Queue
request_queue = record { first = 1; noted = 3; last = 13 }

abbrev pub commit_queue : Queue
commit_queue = record { first = 7; noted = 9; last = 12 }

-- a client at stage g is in the queue
unfoldable pub queued : Queue → ℕ → Bool
queued q g = if ltb g q.first then false else leb g q.last

-- "strike rows that are gone and rows with a larger noted number", "A row without a noted number is not struck": a look by a client with
-- number own strikes one at stage g with number n
unfoldable pub struck : Queue → ℕ → ℕ → ℕ → Bool
struck q own g n =
    if not (queued q g) then true else
    if ltb g q.noted then false else
    ltb own n

-- the clients other than k in the queue
unfoldable pub others : Queue → ℕ → Image → ℕ
others q k i = collect (λ j. not (eqb j k) && queued q (stage_of i j)) clients

-- ---- the steps

-- client k goes on to stage g
unfoldable pub go_on : ℕ → ℕ → Image → Outcome Progress
go_on g k i = replies (with_clients i (set_stage k g i.clients)) (Stage g)

-- client k is closed, with Done and number n
unfoldable pub finished : ℕ → ℕ → Image → Outcome Progress
finished n k i = replies (with_clients i (closed k i.clients)) (Done n)

-- 0: "enter the request queue"; document 02, 2: "Advance at stage 0 with nothing written now answers Done with the snapshot number and closes the
-- transaction. Nothing enters a queue, and no number is taken."
unfoldable pub enter : ℕ → Image → Outcome Progress
enter k i =
    if not (any (has_tag (number_of i k)) i.data_rows) then finished (snapshot_of i k) k i else
    go_on 1 k i

-- 1: "take a request number"; "taking a number adds 1 and gives the result"; "2 also if the R or C to be taken is already 4,294,967,295"
unfoldable pub take_request : ℕ → Image → Outcome Progress
take_request k i =
    let n : ℕ = i.counters.requested + 1 in
    if eqb i.counters.requested top then refuse unfit i else
    go_on 2 k (with_requested (with_clients i (set_request k n i.clients)) n)

-- 2: "note it in the queue row": it is noted from stage 3 on
abbrev pub note_request : ℕ → Image → Outcome Progress
note_request = go_on 3

-- 3: "list the other queue rows that share a cell, once"
unfoldable pub list_requests : ℕ → Image → Outcome Progress
list_requests k i =
    let w : ℕ = collect (λ j. member (others request_queue k i) j && shares i.data_rows (number_of i k) (number_of i j)) clients in
    go_on 4 k (with_clients i (set_request_waits k w i.clients))

-- 4: "look: strike rows that are gone and rows with a larger noted number", "5 if none is left"; else "Waiting with the number of transactions
-- still on its list"
unfoldable pub looked : ℕ → ℕ → ℕ → Image → Outcome Progress
looked g k w i =
    if eqb w 0 then go_on g k i else
    replies i (Waiting (size clients w))

unfoldable pub look_requests : ℕ → Image → Outcome Progress
look_requests k i =
    let w : ℕ = strike (λ j. struck request_queue (request_of i k) (stage_of i j) (request_of i j)) (get_or i.clients.request_waits k 0) clients in
    looked 5 k w (with_clients i (set_request_waits k w i.clients))

-- 5: "check commits above S for a shared cell"; "A check that finds a shared cell answers Conflict with the smallest such commit number,
-- removes the transaction's data rows and its queue row, and closes it."
abbrev pub checked : Number → ℕ → Image → Outcome Progress
checked None k i = go_on 6 k i
checked (Some n) k i = replies (removed k i) (Conflict n)

unfoldable pub check : ℕ → Image → Outcome Progress
check k i = checked (conflict (number_of i k) (snapshot_of i k) i.data_rows i.commit_rows) k i

-- 6: "enter the commit queue": it is in the queue from stage 7 on
abbrev pub enter_commits : ℕ → Image → Outcome Progress
enter_commits = go_on 7

-- 7: "take a commit number"
unfoldable pub take_commit : ℕ → Image → Outcome Progress
take_commit k i =
    let n : ℕ = i.counters.taken + 1 in
    if eqb i.counters.taken top then refuse unfit i else
    go_on 8 k (with_taken (with_clients i (set_commit k n i.clients)) n)

-- 8: "note it": it is noted from stage 9 on
abbrev pub note_commit : ℕ → Image → Outcome Progress
note_commit = go_on 9

-- 9: "list all other commit queue rows, once"
unfoldable pub list_commits : ℕ → Image → Outcome Progress
list_commits k i = go_on 10 k (with_clients i (set_commit_waits k (others commit_queue k i) i.clients))

-- 10: "look, as at 4, by commit number"
unfoldable pub look_commits : ℕ → Image → Outcome Progress
look_commits k i =
    let w : ℕ = strike (λ j. struck commit_queue (commit_number_of i k) (stage_of i j) (commit_number_of i j)) (get_or i.clients.commit_waits k 0) clients in
    looked 11 k w (with_clients i (set_commit_waits k w i.clients))

-- 11: "add the committed row; it becomes the last commit"; 2 if "the committed buffer is full at stage 11"
unfoldable pub add_commit : ℕ → Image → Outcome Progress
add_commit k i =
    let n : ℕ = commit_number_of i k in
    if leb i.rows (length i.commit_rows) then refuse unfit i else
    go_on 12 k (with_last (with_rows i i.data_rows (i.commit_rows ++ (commit_row n (number_of i k) ∷ []))) n)

-- 12: "leave the commit queue"
unfoldable pub leave_commits : ℕ → Image → Outcome Progress
leave_commits k i = go_on 13 k (with_clients i (unlisted k i.clients))

-- 13: "leave the request queue; closed"; "at 13, Done with its commit number"
unfoldable pub leave_requests : ℕ → Image → Outcome Progress
leave_requests k i = finished (commit_number_of i k) k i

-- the step from each stage, 0 to 13. At 2, 6 and 8 the stage alone changes: a number is noted, and a queue entered, by the stage itself
abbrev pub steps : List (ℕ → Image → Outcome Progress)
steps =
    enter
    ∷ take_request
    ∷ note_request
    ∷ list_requests
    ∷ look_requests
    ∷ check
    ∷ enter_commits
    ∷ take_commit
    ∷ note_commit
    ∷ list_commits
    ∷ look_commits
    ∷ add_commit
    ∷ leave_commits
    ∷ leave_requests
    ∷ []

-- an unknown stage
abbrev pub no_step : ℕ → Image → Outcome Progress
no_step k i = refuse unfit i

-- "Advance: 2, 3, 6", then the step
unfoldable pub advance : ℕ → Image → Outcome Progress
advance k i =
    if leb clients k then refuse no_client i else
    if not (is_open i k) then refuse not_open i else
    get_or steps (stage_of i k) no_step k i
