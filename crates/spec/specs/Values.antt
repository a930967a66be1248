-- The sixteen bytes of a read's value in the caller's data buffer.
-- Assumes nothing.
use Rattle.std.specs.Prelude.{ℕ, List, [], length, leb, None, Some}
use Rattle.std.specs.Prelude.{if◌then◌else◌}
use Rattle.spec.specs.Bytes.{rows_of}
use Rattle.spec.specs.Rows.{data_width, row_at, value_of}
use Rattle.spec.specs.Answers.{Answer, Answered, Refused, Reading}

-- of data row `at`, none where the buffer has no such row
unfoldable pub value_read : ℕ → List ℕ → List ℕ
value_read at d = if leb (rows_of (length d)) at then [] else value_of (row_at data_width at d)

-- of the row that a reading names, none where it names none
abbrev pub value_for : List ℕ → Reading → List ℕ
value_for d (Some at) = value_read at d
value_for d None = []

-- of the row that an answer names, none for any other answer
unfoldable pub value_from : List ℕ → Answer Reading → List ℕ
value_from d (Answered g) = value_for d g
value_from d (Refused n) = []
