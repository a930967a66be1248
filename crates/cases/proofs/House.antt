-- The house cases: the definitions print, for each row of the table, just what document 01 says.
-- Assumes nothing.
use mathlib.Core.Path.{◌≡◌, refl}
use mathlib.Core.List.{map, flatten}
use Rattle.spec.specs.Set.{bit, member, insert, remove, size, collect, strike}
use Rattle.spec.specs.Rows.{spliced, number, bytes_of, data_row, tag_of, cell_of, value_of, with_value, commit_row, commit_number, commit_tag, row_at}
use Rattle.spec.specs.Rows.{rows_in, rows_from, layout, filter, has_tag}
use Rattle.spec.specs.Numbers.{lesser, smallest, above, at_least, up_to}
use Rattle.spec.specs.Look.{commit_of, is_own, find, version_of, newer, version_at, newest, own_or, look_for}
use Rattle.spec.specs.Look.{least_looked, version_from, look_from, versions_after}
use Rattle.spec.specs.Share.{any, count, wrote, cells_of, shares, clash, conflict}
use Rattle.spec.specs.Trim.{between, later, overtaken, stays, trimmed_rows, in_use, trimmed_commits}
use Rattle.spec.specs.Image.{cleared, closed, no_versions, empty}
use Rattle.spec.specs.Calls.{free, begun, begin, read, replaced, added, write, removed, abandon, readers, low, trimmed_to, trim}
use Rattle.spec.specs.Steps.{queued, struck, others, go_on, enter, take_request, list_requests, looked, look_requests, check, take_commit}
use Rattle.spec.specs.Steps.{list_commits, look_commits, add_commit, leave_commits, leave_requests, finished, advance}
use Rattle.spec.specs.Bytes.{decode, store_of, encode, known, fits, on_bytes, accepts, set_up}
use Rattle.spec.specs.Values.{value_read}
use Rattle.spec.specs.Text.{digit_val, digits_from, decimal_from, decimal_at, decimal_on, decimal_of, hex_val, value_in, hex_digit, one_at, spaced_at}
use Rattle.spec.specs.Text.{two_at, set_up_of, write_of, form_in, form_of, numbered, head_text, line_text}
use Rattle.spec.specs.Session.{initial, set_up_response, response, answer_to, answers, lines, output}
use Rattle.cases.specs.Cases.{Case, input_of, output_of, cases}

pub house : map (λ (c : Case). output (input_of c)) cases ≡ map output_of cases
unfolding
    flatten value_read bit member insert remove size collect strike spliced number bytes_of data_row tag_of cell_of value_of with_value commit_row
    commit_number commit_tag row_at rows_in rows_from layout filter has_tag lesser smallest above at_least up_to commit_of is_own find version_of newer
    version_at newest own_or look_for least_looked version_from look_from versions_after any count wrote cells_of shares clash conflict between later overtaken stays trimmed_rows in_use
    trimmed_commits cleared closed no_versions empty free begun begin read replaced added write removed abandon readers low trimmed_to trim queued struck
    others go_on enter take_request list_requests looked look_requests check take_commit list_commits look_commits add_commit leave_commits
    leave_requests finished advance decode store_of encode known fits on_bytes accepts set_up digit_val digits_from decimal_from decimal_at
    decimal_on decimal_of hex_val value_in hex_digit one_at spaced_at two_at set_up_of write_of form_in form_of numbered head_text line_text initial
    set_up_response response answer_to answers lines output
house = refl
