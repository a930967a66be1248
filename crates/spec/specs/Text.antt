-- The text of the step program (document 01, "The step program"): which form a line is, and how numbers, values and results are written.
-- A line is the list of its bytes, without its newline.
-- Assumes nothing.
use Rattle.std.specs.Prelude.{ℕ, zero, suc, ◌+◌, ◌-◌, ◌*◌, ◌/◌, ◌%◌, Bool, true, false, List, [], ◌∷◌, ◌++◌, length, get_or, drop, replicate, leb, ltb, eqb, Option, Some, None}
use Prim.Native.Char.{code}
use Prim.Native.String.{String, [] as []ˢ, ◌∷◌ as ◌∷ˢ◌}
use Rattle.std.specs.Prelude.{if◌then◌else◌}
use Rattle.spec.specs.Numbers.{top}
use Rattle.spec.specs.declared.Form.{Form}
use Rattle.spec.specs.declared.Form.TheVariants.{SetUp, Begin, Read, Write, Advance, Abandon, Trim, Free, Other}
use Rattle.spec.specs.declared.Begun.{Begun}
use Rattle.spec.specs.declared.Progress.{Progress}
use Rattle.spec.specs.declared.Progress.TheVariants.{Stage, Waiting, Conflict, Done}
use Rattle.spec.specs.Answers.{Answer, Answered, Refused, Reading}

-- the bytes of a text that is written out
abbrev pub str : String → List ℕ
str []ˢ = []
str (a ∷ˢ s) = code a ∷ str s

-- ---- "decimal without leading zeros up to 4,294,967,295"

-- the value of a decimal digit, 10 for any other byte
unfoldable pub digit_val : ℕ → ℕ
digit_val b =
    if ltb b 48 then 10 else
    if ltb 57 b then 10 else
    b - 48

-- a number is found with the place behind its last digit

-- the number whose digits so far, at least one, have the value a, and whose next byte is the first of s, at place i
unfoldable pub digits_from : ℕ → ℕ → List ℕ → Option (ℕ × ℕ)
digits_from a i [] = Some (a, i)
digits_from a i (b ∷ s) =
    if ltb (digit_val b) 10 then
    (if eqb a 0 then None else
    if ltb top (a * 10 + digit_val b) then None else
    digits_from (a * 10 + digit_val b) (i + 1) s)
    else Some (a, i)

unfoldable pub decimal_from : ℕ → List ℕ → Option (ℕ × ℕ)
decimal_from i [] = None
decimal_from i (b ∷ s) = if ltb (digit_val b) 10 then digits_from (digit_val b) (i + 1) s else None

-- the number that stands in s at a place, and the place behind its last digit
unfoldable pub decimal_at : List ℕ → ℕ → Option (ℕ × ℕ)
decimal_at s at = decimal_from at (drop at s)

-- the decimal digits of n, the last k of them at most and no zero in front, before tail
unfoldable pub decimal_on : ℕ → ℕ → List ℕ → List ℕ
decimal_on zero n tail = tail
decimal_on (suc k) n tail = if eqb (n / 10) 0 then ((48 + n % 10) ∷ tail) else decimal_on k (n / 10) ((48 + n % 10) ∷ tail)

-- the decimal digits of a number of 32 bits
unfoldable pub decimal_of : ℕ → List ℕ
decimal_of n = decimal_on 10 n []

-- ---- "values as 32 lower-case hexadecimal digits"

-- the value of a hexadecimal digit, 16 for any other byte
unfoldable pub hex_val : ℕ → ℕ
hex_val b =
    if ltb b 48 then 16 else
    if ltb b 58 then b - 48 else
    if ltb b 97 then 16 else
    if ltb b 103 then b - 87 else
    16

-- the first k bytes of s are there and are hexadecimal digits
abbrev pub all_hex : ℕ → List ℕ → Bool
all_hex zero s = true
all_hex (suc k) [] = false
all_hex (suc k) (b ∷ s) = if ltb (hex_val b) 16 then all_hex k s else false

-- 32 hexadecimal digits stand in s from a place on
abbrev pub hex_at : List ℕ → ℕ → Bool
hex_at s at = all_hex 32 (drop at s)

-- the k bytes that the first 2 × k digits of s give
abbrev pub hex_bytes : ℕ → List ℕ → List ℕ
hex_bytes zero s = []
hex_bytes (suc k) [] = 0 ∷ hex_bytes k []
hex_bytes (suc k) (a ∷ []) = 0 ∷ hex_bytes k []
hex_bytes (suc k) (a ∷ b ∷ s) = (hex_val a * 16 + hex_val b) % 256 ∷ hex_bytes k s

-- the sixteen bytes whose digits stand in s from a place on; zeros where they are not all there
unfoldable pub value_in : List ℕ → ℕ → List ℕ
value_in s at = if leb (at + 32) (length s) then hex_bytes 16 (drop at s) else replicate 16 0

-- the digit of a value below 16
unfoldable pub hex_digit : ℕ → ℕ
hex_digit d = if ltb d 10 then 48 + d else 87 + d

-- bytes as hexadecimal digits
abbrev pub hex_text : List ℕ → List ℕ
hex_text [] = []
hex_text (b ∷ s) = hex_digit (b / 16) ∷ hex_digit (b % 16) ∷ hex_text s

-- ---- the form of a line: "single spaces", "fixed byte strings for keywords"

-- s begins with w
abbrev pub begins : List ℕ → List ℕ → Bool
begins [] s = true
begins (a ∷ w) [] = false
begins (a ∷ w) (b ∷ s) = if eqb a b then begins w s else false

-- the byte b stands in s at a place
abbrev pub stands : ℕ → List ℕ → ℕ → Bool
stands b s at = if ltb at (length s) then eqb (get_or s at 0) b else false

-- the last byte of s stands at a place, and is a closing bracket
abbrev pub bracket_at : List ℕ → ℕ → Bool
bracket_at s at = if eqb (length s) (at + 1) then eqb (get_or s at 0) 41 else false

-- a number and the closing bracket
abbrev pub one_after : List ℕ → Option (ℕ × ℕ) → Option ℕ
one_after s None = None
one_after s (Some (v, n)) = if bracket_at s n then Some v else None

unfoldable pub one_at : List ℕ → ℕ → Option ℕ
one_at s at = one_after s (decimal_at s at)

-- a number and a space
abbrev pub spaced : List ℕ → Option (ℕ × ℕ) → Option (ℕ × ℕ)
spaced s None = None
spaced s (Some (v, n)) = if stands 32 s n then Some (v, n + 1) else None

unfoldable pub spaced_at : List ℕ → ℕ → Option (ℕ × ℕ)
spaced_at s at = spaced s (decimal_at s at)

-- a number, a space, a number and the closing bracket
abbrev pub with_first : ℕ → Option ℕ → Option (ℕ × ℕ)
with_first a None = None
with_first a (Some b) = Some (a, b)

abbrev pub two_after : List ℕ → Option (ℕ × ℕ) → Option (ℕ × ℕ)
two_after s None = None
two_after s (Some (a, n)) = with_first a (one_at s n)

unfoldable pub two_at : List ℕ → ℕ → Option (ℕ × ℕ)
two_at s at = two_after s (spaced_at s at)

-- "Forms: set-up (rows, first W, limit), begin, read, write, advance, abandon, trim, free; the client stands first, then the cell, then the value."
abbrev pub set_up_with : ℕ → Option (ℕ × ℕ) → Form
set_up_with r None = Other
set_up_with r (Some (w, l)) = SetUp r w l

abbrev pub set_up_after : List ℕ → Option (ℕ × ℕ) → Form
set_up_after s None = Other
set_up_after s (Some (r, n)) = set_up_with r (two_at s n)

unfoldable pub set_up_of : List ℕ → Form
set_up_of s = set_up_after s (spaced_at s 8)

abbrev pub client_form : (ℕ → Form) → Option ℕ → Form
client_form f None = Other
client_form f (Some k) = f k

abbrev pub read_with : Option (ℕ × ℕ) → Form
read_with None = Other
read_with (Some (k, x)) = Read k x

abbrev pub write_value : List ℕ → ℕ → Option (ℕ × ℕ) → Form
write_value s k None = Other
write_value s k (Some (x, n)) =
    if bracket_at s (n + 32) then (if hex_at s n then Write k x n else Other) else
    Other

abbrev pub write_after : List ℕ → Option (ℕ × ℕ) → Form
write_after s None = Other
write_after s (Some (k, n)) = write_value s k (spaced_at s n)

unfoldable pub write_of : List ℕ → Form
write_of s = write_after s (spaced_at s 7)

abbrev pub bare_form : Form → List ℕ → Form
bare_form f s = if eqb (length s) 6 then f else Other

unfoldable pub form_in : List ℕ → Form
form_in s =
    if begins (str "(set-up ") s then set_up_of s else
    if begins (str "(begin ") s then client_form Begin (one_at s 7) else
    if begins (str "(read ") s then read_with (two_at s 6) else
    if begins (str "(write ") s then write_of s else
    if begins (str "(advance ") s then client_form Advance (one_at s 9) else
    if begins (str "(abandon ") s then client_form Abandon (one_at s 9) else
    if begins (str "(trim)") s then bare_form Trim s else
    if begins (str "(free)") s then bare_form Free s else
    Other

-- "Any other line, an empty one or one over 80 bytes"
abbrev pub longest_form : ℕ
longest_form = 80

unfoldable pub form_of : List ℕ → Form
form_of s = if ltb longest_form (length s) then Other else form_in s

-- ---- what is printed: "Each answer repeats keyword, client and cell, then gives its result in inner brackets."

-- a word, a number and an end
unfoldable pub numbered : List ℕ → ℕ → List ℕ → List ℕ
numbered w n e = w ++ (decimal_of n ++ e)

-- keyword, client and cell
unfoldable pub head_text : Form → List ℕ
head_text (SetUp r w l) = str "(set-up "
head_text (Begin k) = numbered (str "(begin ") k (str " ")
head_text (Read k x) = numbered (str "(read ") k (str " ") ++ numbered [] x (str " ")
head_text (Write k x v) = numbered (str "(write ") k (str " ") ++ numbered [] x (str " ")
head_text (Advance k) = numbered (str "(advance ") k (str " ")
head_text (Abandon k) = numbered (str "(abandon ") k (str " ")
head_text Trim = str "(trim "
head_text Free = str "(free "
head_text Other = str "(line "

-- "Results are free, number and snapshot, value or unwritten, stage, waiting, conflict, done, dropped, refused"
abbrev pub free_text : ℕ → List ℕ
free_text n = numbered (str "(free ") n (str ")")

abbrev pub dropped_text : ℕ → List ℕ
dropped_text n = numbered (str "(dropped ") n (str ")")

abbrev pub begun_text : Begun → List ℕ
begun_text b = numbered (str "(number ") b.number (str ") ") ++ numbered (str "(snapshot ") b.snapshot (str ")")

-- v is the value that was read
abbrev pub reading_text : List ℕ → Reading → List ℕ
reading_text v (Some at) = str "(value " ++ (hex_text v ++ str ")")
reading_text v None = str "(unwritten)"

abbrev pub progress_text : Progress → List ℕ
progress_text (Stage n) = numbered (str "(stage ") n (str ")")
progress_text (Waiting n) = numbered (str "(waiting ") n (str ")")
progress_text (Conflict n) = numbered (str "(conflict ") n (str ")")
progress_text (Done n) = numbered (str "(done ") n (str ")")

abbrev pub refused_text : ℕ → List ℕ
refused_text n = numbered (str "(refused ") n (str ")")

abbrev pub answer_text : {A : Type 0} → (A → List ℕ) → Answer A → List ℕ
answer_text f (Answered a) = f a
answer_text f (Refused n) = refused_text n

-- the whole line, with its newline
unfoldable pub line_text : Form → List ℕ → List ℕ
line_text f result = head_text f ++ (result ++ (41 ∷ 10 ∷ []))
