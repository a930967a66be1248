-- "A store is unfit if a buffer's length isn't that of its set-up, a row count exceeds its rows, its rows aren't 1 to 1,024, or a stage is unknown":
-- document 01's sentence in accord with the definitions, on both sides of each bound.
-- Assumes nothing.
use Prim.Native.Nat.{ℕ, ◌*◌}
use mathlib.Core.Path.{◌≡◌, refl}
use mathlib.Core.Bool.{true, false}
use mathlib.Core.List.{List, [], ◌∷◌, ◌++◌, map, flatten}
use lib.ListN.{set, replicate}
use Rattle.spec.specs.Set.{bit, member, insert, remove, size, collect, strike}
use Rattle.spec.specs.Rows.{spliced, number, bytes_of, data_row, tag_of, cell_of, value_of, with_value, commit_row, commit_number, commit_tag}
use Rattle.spec.specs.Rows.{row_at, rows_in, rows_from, layout, filter, has_tag}
use Rattle.spec.specs.Numbers.{lesser, smallest, above, at_least, up_to}
use Rattle.spec.specs.Look.{commit_of, is_own, find, version_of, newer, version_at, newest, own_or, look_for}
use Rattle.spec.specs.Look.{least_looked, version_from, look_from, versions_after}
use Rattle.spec.specs.Share.{any, count, wrote, cells_of, shares, clash, conflict}
use Rattle.spec.specs.Trim.{between, later, overtaken, stays, trimmed_rows, in_use, trimmed_commits}
use Rattle.spec.specs.Image.{Image, counters_of, clients_of, image_of, cleared, closed, empty}
use Rattle.spec.specs.Calls.{free, begun, begin, read, replaced, added, write, removed, abandon, readers, low, trimmed_to, trim}
use Rattle.spec.specs.Steps.{queued, struck, others, go_on, enter, take_request, list_requests, looked, look_requests, check, take_commit}
use Rattle.spec.specs.Steps.{list_commits, look_commits, add_commit, leave_commits, leave_requests, finished, advance}
use Rattle.spec.specs.Bytes.{Memory, decode, store_of, encode, known, fits, on_bytes}
use Rattle.spec.specs.Answers.{Refused}
use Rattle.spec.specs.Run.{Call, Begin, Read, Write, Advance, Abandon, Trim, Free}
use Rattle.spec.specs.declared.Store.{Store}
use Rattle.spec.proofs.AccordTable.{counting, sixteen, rubbish, three, none, counts, boxes, holds, finds, leaves, Example, example}
use Rattle.spec.proofs.AccordTable.{refusing, computed}

-- a store of r rows with u data rows and e committed rows in use, and the clients' stages; client 0 has transaction 3 open
abbrev store : ℕ → ℕ → ℕ → List ℕ → Store
store r u e g = holds r 8 u e (counts 3 1 1 1) (boxes g (three 3 0 0) (three 1 0 0) none none none none)

-- with buffers of d and c bytes
abbrev sized : Store → ℕ → ℕ → Memory
sized s d c = finds s (rubbish d) (rubbish c)

-- unfit ones, each by one line of the sentence
abbrev unfit_ones : List Memory
unfit_ones =
    -- of 2 rows: a data buffer of a byte less, and of one more; a committed buffer alike
    sized (store 2 1 1 none) 47 16
    ∷ sized (store 2 1 1 none) 49 16
    ∷ sized (store 2 1 1 none) 48 15
    ∷ sized (store 2 1 1 none) 48 17
    -- both a row more than the store, and a row less
    ∷ sized (store 2 1 1 none) 72 24
    ∷ sized (store 2 1 1 none) 24 8
    -- three data rows in use of two; three committed rows
    ∷ sized (store 2 3 1 none) 48 16
    ∷ sized (store 2 1 3 none) 48 16
    -- 0 rows, with no bytes
    ∷ sized (store 0 0 0 none) 0 0
    -- an unknown stage, of the first client, of one between, of the last
    ∷ sized (store 2 1 1 (set none 0 14)) 48 16
    ∷ sized (store 2 1 1 (set none 40 14)) 48 16
    ∷ sized (store 2 1 1 (set none 63 14)) 48 16
    ∷ sized (store 2 1 1 (set none 63 4294967295)) 48 16
    ∷ []

abbrev calls : List Call
calls = Begin 1 ∷ Read 0 7 ∷ Write 0 7 (sixteen 64) ∷ Advance 0 ∷ Abandon 0 ∷ Trim ∷ Free ∷ []

-- every call gets 2 there, and changes nothing
abbrev pub unfit_examples : List Example
unfit_examples = flatten (map (λ m. map (λ q. refusing "2" q m 2) calls) unfit_ones)

pub unfit_ones_lem : map computed unfit_examples ≡ unfit_examples
unfolding
    flatten bit member insert remove size collect strike spliced number bytes_of data_row tag_of cell_of value_of with_value commit_row commit_number
    commit_tag row_at rows_in rows_from layout filter has_tag lesser smallest above at_least up_to commit_of is_own find version_of newer version_at newest own_or
    look_for least_looked version_from look_from versions_after any count wrote cells_of shares clash conflict between later overtaken stays trimmed_rows in_use trimmed_commits cleared closed empty
    free begun begin read replaced added write removed abandon readers low trimmed_to trim queued struck others go_on enter take_request
    list_requests looked look_requests check take_commit list_commits look_commits add_commit leave_commits leave_requests finished advance decode
    store_of encode known fits on_bytes
unfit_ones_lem = refl

-- the same with what is wrong mended: the free figure is answered, and nothing changed
abbrev answers : Memory → ℕ → Example
answers m n = example "free" Free m (leaves m n)

abbrev pub fit_examples : List Example
fit_examples =
    answers (sized (store 2 1 1 none) 48 16) 1
    ∷ answers (sized (store 3 1 1 none) 72 24) 2
    ∷ answers (sized (store 1 1 1 none) 24 8) 0
    ∷ answers (sized (store 2 2 1 none) 48 16) 0
    ∷ answers (sized (store 2 1 2 none) 48 16) 1
    ∷ answers (sized (store 1 0 0 none) 24 8) 1
    ∷ answers (sized (store 2 1 1 (set none 0 13)) 48 16) 1
    ∷ answers (sized (store 2 1 1 (set none 40 13)) 48 16) 1
    ∷ answers (sized (store 2 1 1 (set none 63 13)) 48 16) 1
    ∷ []

pub fit_ones : map computed fit_examples ≡ fit_examples
unfolding
    flatten bit member insert remove size collect strike spliced number bytes_of data_row tag_of cell_of value_of with_value commit_row commit_number
    commit_tag row_at rows_in rows_from layout filter has_tag lesser smallest above at_least up_to commit_of is_own find version_of newer version_at newest own_or
    look_for least_looked version_from look_from versions_after any count wrote cells_of shares clash conflict between later overtaken stays trimmed_rows in_use trimmed_commits cleared closed empty
    free begun begin read replaced added write removed abandon readers low trimmed_to trim queued struck others go_on enter take_request
    list_requests looked look_requests check take_commit list_commits look_commits add_commit leave_commits leave_requests finished advance decode
    store_of encode known fits on_bytes
fit_ones = refl

-- "its rows aren't 1 to 1,024": by the lengths alone, a store with nothing in use whose buffers have the lengths of its set-up
pub rows_1_to_1024 : map (λ (r : ℕ). fits (store r 0 0 none) (24 * r) (8 * r)) (0 ∷ 1 ∷ 2 ∷ 1023 ∷ 1024 ∷ 1025 ∷ 4294967295 ∷ [])
    ≡ false ∷ true ∷ true ∷ true ∷ true ∷ false ∷ false ∷ []
unfolding fits known
rows_1_to_1024 = refl

-- "a stage is unknown": of each of the 64 clients. All stages up to 13 are known, 14 is not
pub stage_14_of_any : map (λ (k : ℕ). fits (store 1 0 0 (set none k 14)) 24 8) (counting 64 0) ≡ replicate 64 false
unfolding fits known
stage_14_of_any = refl

pub known_stages : map (λ (g : ℕ). fits (store 1 0 0 (replicate 64 g)) 24 8) (counting 16 0) ≡ replicate 14 true ++ (false ∷ false ∷ [])
unfolding fits known
known_stages = refl

-- "a match on the stage number 0 to 13, [..] other stages refused": with 2 too, where Advance comes to one
abbrev at_stage : ℕ → Image
at_stage g = image_of 1 8 (counters_of 1 0 0 0) (clients_of (set none 0 g) (set none 0 1) none none none none none) [] [] []

pub no_such_step : map (λ (g : ℕ). (advance 0 (at_stage g)).answer) (14 ∷ 15 ∷ 4294967295 ∷ [])
    ≡ Refused 2 ∷ Refused 2 ∷ Refused 2 ∷ []
unfolding advance
no_such_step = refl
