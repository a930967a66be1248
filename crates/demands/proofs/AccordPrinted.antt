-- The words of specs/Printed in accord with document 01 ("The step program"): document 01's run behind its set-up, with the read that document 02, 1
-- changes, and then a trim, a set-up that is refused, a line that is no form and a read of a client that has nothing open: the calls that these lines
-- ask for, and what they print, computed.
-- Assumes nothing.
use Prim.Native.Nat.{ℕ}
use Prim.Native.String.{String}
use mathlib.Core.Path.{◌≡◌, refl}
use mathlib.Core.Bool.{true, false}
use mathlib.Core.List.{List, [], ◌∷◌, ◌++◌, map, flatten}
use lib.ListN.{replicate}
use Rattle.spec.specs.Set.{bit, member, insert, remove, size, collect, strike}
use Rattle.spec.specs.Rows.{spliced, number, bytes_of, data_row, tag_of, cell_of, value_of, with_value, commit_row, commit_number, commit_tag, row_at}
use Rattle.spec.specs.Rows.{rows_in, rows_from, layout, filter, has_tag}
use Rattle.spec.specs.Numbers.{lesser, smallest, above, at_least, up_to}
use Rattle.spec.specs.Look.{commit_of, is_own, find, version_of, newer, version_at, newest, own_or, look_for}
use Rattle.spec.specs.Look.{least_looked, version_from, look_from, versions_after}
use Rattle.spec.specs.Share.{any, count, wrote, cells_of, shares, clash, conflict}
use Rattle.spec.specs.Trim.{between, later, overtaken, stays, trimmed_rows, in_use, trimmed_commits}
use Rattle.spec.specs.Image.{cleared, closed, no_versions, empty}
use Rattle.spec.specs.Calls.{free, begun, begin, read, replaced, added, write, removed, abandon, readers, low, trimmed_to, trim}
use Rattle.spec.specs.Steps.{queued, struck, others, go_on, enter, take_request, list_requests, looked, look_requests, check, take_commit}
use Rattle.spec.specs.Steps.{list_commits, look_commits, add_commit, leave_commits, leave_requests, finished, advance}
use Rattle.spec.specs.Bytes.{decode, store_of, encode, known, fits, on_bytes, accepts, set_up, Memory}
use Rattle.spec.specs.Run.{Begin, Read, Write, Advance, Abandon, Trim, Free}
use Rattle.spec.specs.Text.{str, digit_val, digits_from, decimal_from, decimal_at, decimal_on, decimal_of, hex_val, value_in, hex_digit, one_at}
use Rattle.spec.specs.Text.{spaced_at, two_at, set_up_of, write_of, form_in, form_of, numbered, head_text, line_text}
use Rattle.demands.specs.Printed.{calls_in, printed, takes_effect}

abbrev fresh : Memory
fresh = (set_up (replicate 48 0) (replicate 16 0) 1 0).memory

abbrev input : List (List ℕ)
input =
    map str (
    "(begin 0)"
    ∷ "(write 0 7 000102030405060708090a0b0c0d0e0f)"
    ∷ "(advance 0)"
    ∷ "(read 0 7)"
    ∷ "(read 0 8)"
    ∷ "(abandon 0)"
    ∷ "(free)"
    ∷ "(trim)"
    ∷ "(set-up 1025 1 0)"
    ∷ "(set-up 2 0 0)"
    ∷ "(begin)"
    ∷ "(read 0 7)"
    ∷ []
    )

abbrev output : List String
output =
    "(begin 0 (number 1) (snapshot 0))"
    ∷ "(write 0 7 (free 1))"
    ∷ "(advance 0 (stage 1))"
    ∷ "(read 0 7 (value 000102030405060708090a0b0c0d0e0f))"
    ∷ "(read 0 8 (unwritten))"
    ∷ "(abandon 0 (free 2))"
    ∷ "(free (free 2))"
    ∷ "(trim (dropped 0))"
    ∷ "(set-up (refused 1))"
    ∷ "(set-up (refused 1))"
    ∷ "(line (refused 13))"
    ∷ "(read 0 7 (refused 6))"
    ∷ []

pub the_calls : calls_in input
    ≡ Begin 0
    ∷ Write 0 7 (0 ∷ 1 ∷ 2 ∷ 3 ∷ 4 ∷ 5 ∷ 6 ∷ 7 ∷ 8 ∷ 9 ∷ 10 ∷ 11 ∷ 12 ∷ 13 ∷ 14 ∷ 15 ∷ [])
    ∷ Advance 0
    ∷ Read 0 7
    ∷ Read 0 8
    ∷ Abandon 0
    ∷ Free
    ∷ Trim
    ∷ Read 0 7
    ∷ []
unfolding digit_val digits_from decimal_from decimal_at hex_val value_in one_at spaced_at two_at set_up_of write_of form_in form_of
the_calls = refl

pub the_text : printed fresh input ≡ flatten (map (λ (s : String). str s ++ (10 ∷ [])) output)
unfolding
    flatten
    bit member insert remove size collect strike
    spliced number bytes_of data_row tag_of cell_of value_of with_value commit_row commit_number commit_tag row_at rows_in rows_from layout filter has_tag
    lesser smallest above at_least up_to commit_of is_own find version_of newer version_at newest own_or look_for least_looked version_from look_from versions_after
    any count wrote cells_of shares clash conflict between later overtaken stays trimmed_rows in_use trimmed_commits
    cleared closed no_versions empty free begun begin read replaced added write removed abandon readers low trimmed_to trim
    queued struck others go_on enter take_request list_requests looked look_requests check take_commit list_commits look_commits add_commit
    leave_commits leave_requests finished advance
    decode store_of encode known fits on_bytes accepts set_up
    digit_val digits_from decimal_from decimal_at decimal_on decimal_of hex_val value_in hex_digit one_at spaced_at two_at set_up_of write_of form_in form_of
    numbered head_text line_text
    printed
the_text = refl

-- "Refused 1 if the data length isn't 24 × rows with rows 1 to 1,024, [..] the first W is 0, or the limit is above 64"
pub which_set_ups : (takes_effect 1 1 0 ≡ true)
    × (takes_effect 1024 4294967295 64 ≡ true)
    × (takes_effect 0 1 0 ≡ false)
    × (takes_effect 1025 1 0 ≡ false)
    × (takes_effect 1 0 0 ≡ false)
    × (takes_effect 1 1 65 ≡ false)
unfolding takes_effect accepts
which_set_ups = (refl, refl, refl, refl, refl, refl)
