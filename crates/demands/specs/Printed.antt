-- What the step program prints (document 01, "The step program"), told from the calls that its lines ask for and from what the plain table is told
-- of them. The calls are made on the store's own record and buffers m, as in demand 3. A line is the list of its bytes, without its newline.
-- Assumes nothing.
use Rattle.std.specs.Prelude.{ℕ, ◌*◌, ◌≡◌, Bool, true, false, List, [], ◌∷◌, ◌++◌, take}
use Rattle.std.proofs.Math.Option.{Option, none, some}
use Rattle.spec.specs.declared.Form.{Form}
use Rattle.spec.specs.declared.Form.TheVariants as form
use Rattle.spec.specs.Rows.{data_width, commit_width}
use Rattle.spec.specs.Answers.{Answered, bad_set_up, no_form}
use Rattle.spec.specs.Bytes.{Memory, After, accepts, set_up}
use Rattle.spec.specs.Run.{Call, Begin, Read, Write, Advance, Abandon, Trim, Free, step}
use Rattle.spec.specs.Table.{Value, Observed}
use Rattle.spec.specs.Right.{observed, AllUnfit}
use Rattle.spec.specs.Text.{str, hex_text, form_of, value_in, free_text, dropped_text, begun_text, progress_text, refused_text, answer_text, line_text}
use Rattle.spec.specs.Session.{memory_after, initial, front, answers, lines, output}
use Rattle.demands.specs.Demand.{Demand3}

-- ---- the text of what a call gave: "Results are free, number and snapshot, value or unwritten, stage, waiting, conflict, done, dropped, refused;
-- write and abandon print free."

-- "values as 32 lower-case hexadecimal digits"
abbrev pub value_text : Option Value → List ℕ
value_text (some v) = str "(value " ++ (hex_text v ++ str ")")
value_text none = str "(unwritten)"

abbrev pub observed_text : (q : Call) → Observed q → List ℕ
observed_text (Begin k) b = begun_text b
observed_text (Read k x) v = value_text v
observed_text (Write k x v) n = free_text n
observed_text (Advance k) p = progress_text p
observed_text (Abandon k) n = free_text n
observed_text Trim n = dropped_text n
observed_text Free n = free_text n

-- ---- what lines ask for

-- a line asks for a set-up of the store, for a call on it, or for nothing that there is
pub data Asked : Type 0 where
  ASetUp : ℕ → ℕ → ℕ → Asked
  ACall : Call → Asked
  NoForm : Asked

-- by the form of the line s: a value's digits stand in it
abbrev pub asked_by : Form → List ℕ → Asked
asked_by (form.SetUp r first limit) s = ASetUp r first limit
asked_by (form.Begin k) s = ACall (Begin k)
asked_by (form.Read k x) s = ACall (Read k x)
asked_by (form.Write k x v) s = ACall (Write k x (value_in s v))
asked_by (form.Advance k) s = ACall (Advance k)
asked_by (form.Abandon k) s = ACall (Abandon k)
asked_by form.Trim s = ACall Trim
asked_by form.Free s = ACall Free
asked_by form.Other s = NoForm

abbrev pub asked : List ℕ → Asked
asked s = asked_by (form_of s) s

-- the call, if it is one
abbrev pub call_of : Asked → Option Call
call_of (ASetUp r first limit) = none
call_of (ACall q) = some q
call_of NoForm = none

abbrev pub call_in : List ℕ → Option Call
call_in s = call_of (asked s)

abbrev pub with_call : Option Call → List Call → List Call
with_call none qs = qs
with_call (some q) qs = q ∷ qs

-- the calls that lines ask for
abbrev pub calls_in : List (List ℕ) → List Call
calls_in [] = []
calls_in (l ∷ ls) = with_call (call_in l) (calls_in ls)

-- ---- what lines print, none of which is a set-up that is answered

-- "Each answer repeats keyword, client and cell, then gives its result in inner brackets"; "rows outside 1 to 1,024 print (set-up (refused 1))",
-- as does any refused set-up; "Any other line [..] prints (line (refused 13))": f is the form of the line
abbrev pub printed_for : Form → Asked → Memory → List ℕ
printed_for f (ASetUp r first limit) m = line_text f (refused_text bad_set_up)
printed_for f (ACall q) m = line_text f (answer_text (observed_text q) (observed q m))
printed_for f NoForm m = line_text f (refused_text no_form)

-- what the call leaves; "a refused set-up keeps the old one"
abbrev pub left_by : Asked → Memory → Memory
left_by (ASetUp r first limit) m = m
left_by (ACall q) m = (step q m).memory
left_by NoForm m = m

unfoldable pub printed : Memory → List (List ℕ) → List ℕ
printed m [] = []
printed m (l ∷ ls) = printed_for (form_of l) (asked l) m ++ printed (left_by (asked l) m) ls

-- ---- set-ups among the lines

-- a set-up with these numbers is answered: it is given buffers of r rows
unfoldable pub takes_effect : ℕ → ℕ → ℕ → Bool
takes_effect r first limit = accepts (data_width * r) (commit_width * r) first limit

-- the line is such a set-up
abbrev pub is_set_up : Asked → Bool
is_set_up (ASetUp r first limit) = takes_effect r first limit
is_set_up (ACall q) = false
is_set_up NoForm = false

-- none of the lines is
abbrev pub NoSetUp : List (List ℕ) → Type 0
NoSetUp [] = Unit {0}
NoSetUp (l ∷ ls) = (is_set_up (asked l) ≡ false) × NoSetUp ls

-- ---- the claims

-- An input is cut behind a line l, a set-up that is answered, and before the next such line, if there is one: `before` are the lines before l,
-- `after` those behind it, `rest` those from the next one on.
pub record Cut (input : List ℕ) (before : List (List ℕ)) (l : List ℕ) (after rest : List (List ℕ)) (r first limit : ℕ) : Type 0 where
  pub whole : lines input ≡ before ++ (l ∷ (after ++ rest))
  pub line : form_of l ≡ form.SetUp r first limit
  pub answered : takes_effect r first limit ≡ true
  pub only : NoSetUp after

-- the bytes that the set-up is given: the first r rows of the program's buffers
abbrev pub data_at : List (List ℕ) → ℕ → List ℕ
data_at before r = take (data_width * r) (memory_after initial before).data_bytes

abbrev pub commit_at : List (List ℕ) → ℕ → List ℕ
commit_at before r = take (commit_width * r) (memory_after initial before).commit_bytes

-- what it leaves and answers
abbrev pub set_up_at : List (List ℕ) → ℕ → ℕ → ℕ → After ℕ
set_up_at before r first limit = set_up (data_at before r) (commit_at before r) first limit

-- What is printed for `after` are the answers of the calls in it on what that set-up handed back, and of these calls all that demand 3 says is
-- true: so every answer printed is right by the plain table.
pub record RightText (input : List ℕ) (before : List (List ℕ)) (l : List ℕ) (after rest : List (List ℕ)) (r first limit : ℕ) : Type 0 where
  pub text : output input
      ≡ answers initial (before ++ (l ∷ []))
      ++ (printed (set_up_at before r first limit).memory after ++ answers (memory_after initial (before ++ (l ∷ after))) rest)
  pub answered : (set_up_at before r first limit).answer ≡ Answered r
  pub demand : Demand3 (data_at before r) (commit_at before r) first limit (calls_in after)

-- Before the first set-up that is answered: "Before a set-up the store has 0 rows", and every call on it gets 2.
pub record UnfitText (input : List ℕ) (before rest : List (List ℕ)) : Type 0 where
  pub text : output input ≡ printed (front initial) before ++ answers (memory_after initial before) rest
  pub unfit : AllUnfit (front initial) (calls_in before)

-- An input has a last set-up that is answered: there it is cut, with no rest.
pub record LastSetUp (input : List ℕ) : Type 0 where
  pub before : List (List ℕ)
  pub set_up_line : List ℕ
  pub after : List (List ℕ)
  pub rows : ℕ
  pub first : ℕ
  pub limit : ℕ
  pub cut : Cut input before set_up_line after [] rows first limit
