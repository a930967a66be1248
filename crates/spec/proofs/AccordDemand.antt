-- A run that is right, by demand 3's own words, call by call: two rows, cell limit 1, first W 1. A definition by which a client does not read what
-- it wrote, a write stores nothing, or 9 is told late, is refused here by what `Right` says of an answer.
-- Assumes nothing.
use mathlib.Core.Path.{refl, ap, subst}
use mathlib.Core.List.{List, [], ◌∷◌, flatten}
use mathlib.Core.Option.{Option, none, some}
use native.Mathlib.Omega.{arith}
use lib.ListN.{replicate}
use Rattle.spec.specs.Set.{bit, member, insert, remove, size, collect, strike}
use Rattle.spec.specs.Rows.{spliced, number, bytes_of, data_row, tag_of, cell_of, value_of, with_value, commit_number, commit_tag, row_at}
use Rattle.spec.specs.Rows.{rows_in, rows_from, layout, filter, has_tag}
use Rattle.spec.specs.Numbers.{at_least, up_to}
use Rattle.spec.specs.Look.{commit_of, is_own, find, version_of, newer, version_at, newest, own_or, look_for}
use Rattle.spec.specs.Look.{least_looked, version_from, look_from, versions_after}
use Rattle.spec.specs.Share.{any, wrote, cells_of}
use Rattle.spec.specs.Answers.{Answered}
use Rattle.spec.specs.Image.{cleared, closed, no_versions, empty}
use Rattle.spec.specs.Calls.{free, begun, begin, read, replaced, added, write, removed, abandon}
use Rattle.spec.specs.Bytes.{decode, store_of, Memory, encode, known, fits, on_bytes, accepts, set_up}
use Rattle.spec.specs.Run.{Call, Begin, Read, Write, Abandon}
use Rattle.spec.specs.Table.{Value, Open, override, newly_open, with_writes, blank, update}
use Rattle.spec.specs.Right.{bounds_of, last_number, valued, WriteRefusal, for_limit, RightRun}

abbrev ones : Value
ones = replicate 16 1

-- what the set-up hands back
abbrev start : Memory
start = (set_up (replicate 48 0) (replicate 16 0) 1 1).memory

-- client 0 writes cell 7, reads it, has no second cell and gives up; client 1 begins with the next number
abbrev calls : List Call
calls = Begin 0 ∷ Write 0 7 ones ∷ Read 0 7 ∷ Write 0 8 ones ∷ Abandon 0 ∷ Begin 1 ∷ []

-- the client in the plain table, before its write and after it
abbrev begun_client : Open
begun_client = newly_open blank

abbrev writer : Open
writer = with_writes (override 7 (some ones) begun_client.writes) begun_client

or_writer : Option Open → Open
or_writer none = writer
or_writer (some o) = o

pub right_run : RightRun (bounds_of (replicate 48 0) 1) 1 blank start calls
unfolding
    flatten
    bit member insert remove size collect strike
    spliced number bytes_of data_row tag_of cell_of value_of with_value commit_number commit_tag row_at rows_in rows_from layout filter has_tag
    at_least up_to commit_of is_own find version_of newer version_at newest own_or look_for least_looked version_from look_from versions_after
    any wrote cells_of
    cleared closed no_versions empty free begun begin read replaced added write removed abandon
    decode store_of encode known fits on_bytes accepts set_up
    override blank update last_number valued or_writer
right_run = (
  record { client = omega arith; closed = refl; number = refl; most = omega arith; snapshot = refl },
  (
    record {
      entry = begun_client;
      found = refl;
      allowed = record { may = record { cell = omega arith; bytes = refl; stage = refl }; fewer = λ e. omega arith };
      figure = refl;
    },
    (
      record { entry = writer; found = refl; value = refl; stage = omega arith; cell = omega arith },
      (
        λ o e.
            subst (λ (p : Open). WriteRefusal 1 p.stage p.writes 8 ones (Answered 1) 9) (ap or_writer e)
            (for_limit (record { cell = omega arith; bytes = refl; stage = refl }) refl (omega arith)),
        (
          record { entry = writer; found = refl; stage = omega arith; figure = refl },
          (record { client = omega arith; closed = refl; number = refl; most = omega arith; snapshot = refl }, tt),
        ),
      ),
    ),
  ),
)
