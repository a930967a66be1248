-- The step program: what it answers to a line, and to a whole input (document 01, "The step program").
-- Assumes nothing.
use Rattle.std.specs.Prelude.{ℕ, ◌*◌, List, [], ◌∷◌, ◌++◌, take, drop, replicate, ltb, eqb}
use Rattle.std.specs.Prelude.{if◌then◌else◌}
use Rattle.spec.specs.declared.Form.{Form}
use Rattle.spec.specs.declared.Form.TheVariants.{SetUp, Begin, Read, Write, Advance, Abandon, Trim, Free, Other}
use Rattle.spec.specs.Answers.{Answer, Answered, Refused, bad_set_up, no_form}
use Rattle.spec.specs.Image.{no_versions, empty}
use Rattle.spec.specs.Rows.{data_width, commit_width}
use Rattle.spec.specs.Bytes.{most_rows, store_of, Memory, memory_of, After, set_up}
use Rattle.spec.specs.Run as call
use Rattle.spec.specs.Run.{Call, Result, step}
use Rattle.spec.specs.Values.{value_for}
use Rattle.spec.specs.Text.{form_of, value_in, free_text, dropped_text, begun_text, reading_text, progress_text, refused_text, answer_text, line_text}

-- The program has the record, two buffers of 24 × 1,024 and 8 × 1,024 bytes, of which the store's are the first 24 × rows and 8 × rows bytes, and the
-- version table.

-- "Before a set-up the store has 0 rows"
unfoldable pub initial : Memory
initial = memory_of (store_of (empty 0 0 0)) (replicate (data_width * most_rows) 0) (replicate (commit_width * most_rows) 0) no_versions

-- what a line leaves and prints
pub record Response : Type 0 where
  pub memory : Memory
  pub text : List ℕ

abbrev pub responds : Memory → List ℕ → Response
responds m t = record { memory = m; text = t }

-- the part of the program's memory that belongs to its store
abbrev pub front : Memory → Memory
front m = memory_of m.store (take (data_width * m.store.rows) m.data_bytes) (take (commit_width * m.store.rows) m.commit_bytes) m.versions

-- the program's memory, where its first r rows have become a store's memory m'
abbrev pub behind : ℕ → Memory → Memory → Memory
behind r m m' =
    memory_of m'.store (m'.data_bytes ++ drop (data_width * r) m.data_bytes) (m'.commit_bytes ++ drop (commit_width * r) m.commit_bytes) m'.versions

-- the text of what a call gives; a read's value is taken from the data buffer d
abbrev pub result_text : (q : Call) → List ℕ → Result q → List ℕ
result_text (call.Begin k) d b = begun_text b
result_text (call.Read k x) d g = reading_text (value_for d g) g
result_text (call.Write k x v) d n = free_text n
result_text (call.Advance k) d p = progress_text p
result_text (call.Abandon k) d n = free_text n
result_text call.Trim d n = dropped_text n
result_text call.Free d n = free_text n

-- a line of form f is answered by a call on the store
abbrev pub said : Form → Call → Memory → Response
said f q m =
    let a : After (Result q) = step q (front m) in
    responds (behind m.store.rows m a.memory) (line_text f (answer_text (result_text q m.data_bytes) a.answer))

-- "a refused set-up keeps the old one"
abbrev pub set_up_said : Form → ℕ → Memory → After ℕ → Answer ℕ → Response
set_up_said f r m a (Answered n) = responds (behind r m a.memory) (line_text f (free_text n))
set_up_said f r m a (Refused n) = responds m (line_text f (refused_text n))

-- "rows outside 1 to 1,024 print (set-up (refused 1))"
unfoldable pub set_up_response : Form → ℕ → ℕ → ℕ → Memory → Response
set_up_response f r first limit m =
    let a : After ℕ = set_up (take (data_width * r) m.data_bytes) (take (commit_width * r) m.commit_bytes) first limit in
    if ltb most_rows r then responds m (line_text f (refused_text bad_set_up)) else
    set_up_said f r m a a.answer

-- the answer to a form; s is the line, in which a value's digits stand
unfoldable pub response : Form → List ℕ → Memory → Response
response (SetUp r first limit) s m = set_up_response (SetUp r first limit) r first limit m
response (Begin k) s m = said (Begin k) (call.Begin k) m
response (Read k x) s m = said (Read k x) (call.Read k x) m
response (Write k x v) s m = said (Write k x v) (call.Write k x (value_in s v)) m
response (Advance k) s m = said (Advance k) (call.Advance k) m
response (Abandon k) s m = said (Abandon k) (call.Abandon k) m
response Trim s m = said Trim call.Trim m
response Free s m = said Free call.Free m
response Other s m = responds m (line_text Other (refused_text no_form))

-- the answer to a line
unfoldable pub answer_to : List ℕ → Memory → Response
answer_to s m = response (form_of s) s m

-- the answers to lines, one after the other
unfoldable pub answers : Memory → List (List ℕ) → List ℕ
answers m [] = []
answers m (l ∷ ls) = let r : Response = answer_to l m in r.text ++ answers r.memory ls

-- the memory that they leave
unfoldable pub memory_after : Memory → List (List ℕ) → Memory
memory_after m [] = m
memory_after m (l ∷ ls) = memory_after (answer_to l m).memory ls

-- "forms from standard input, one a line (the last needs no newline)"
abbrev pub glue : ℕ → List (List ℕ) → List (List ℕ)
glue b [] = (b ∷ []) ∷ []
glue b (l ∷ ls) = (b ∷ l) ∷ ls

unfoldable pub lines : List ℕ → List (List ℕ)
lines [] = []
lines (b ∷ s) = if eqb b 10 then ([] ∷ lines s) else glue b (lines s)

-- all that the program prints for an input
unfoldable pub output : List ℕ → List ℕ
output input = answers initial (lines input)
