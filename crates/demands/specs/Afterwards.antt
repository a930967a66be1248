-- What a list of calls leaves, of the memory and of the plain table.
-- Assumes nothing.
use Rattle.std.specs.Prelude.{List, [], ◌∷◌}
use Rattle.spec.specs.Run.{Call, step}
use Rattle.spec.specs.Bytes.{Memory}
use Rattle.spec.specs.Table.{Table, update}
use Rattle.spec.specs.Right.{observed}

-- the record, the buffers and the version table
abbrev pub after_run : List Call → Memory → Memory
after_run [] m = m
after_run (q ∷ qs) m = after_run qs (step q m).memory

-- the plain table, told the calls and their answers
abbrev pub table_after : List Call → Memory → Table → Table
table_after [] m t = t
table_after (q ∷ qs) m t = table_after qs (step q m).memory (update q (observed q m) t)
