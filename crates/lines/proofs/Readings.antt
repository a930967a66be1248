-- The sixteen bytes that the program takes from the buffer are those that the definition prints, and no more than sixteen.
-- Assumes nothing.
use Prim.Native.Nat.{ℕ, ◌/◌, ◌≤◌}
use mathlib.Core.Path.{◌≡◌, refl}
use mathlib.Core.Bool.{Bool, true, false}
use mathlib.Core.List.{List, []}
use native.Mathlib.Omega.{arith}
use lib.Dec.{leb}
use lib.ListN.{length, length-take}
use Rattle.std.specs.Prelude.{if◌then◌else◌, None, Some}
use Rattle.spec.specs.Rows.{row_at, value_of}
use Rattle.spec.specs.declared.Form.{Form}
use Rattle.spec.specs.Answers.{Answer, Answered, Refused, Reading}
use Rattle.spec.specs.Text.{reading_text, answer_text, line_text}
use Rattle.spec.specs.Values.{value_read, value_for, value_from}

-- the text with the bytes that were taken is the text of the result
pub reading_printed : (b v : List ℕ) (form : Form) (a : Answer Reading) → v ≡ value_from b a
    → line_text form (answer_text (reading_text v) a) ≡ line_text form (answer_text (λ g. reading_text (value_for b g) g) a)
unfolding value_from
reading_printed b v form (Answered g) e = rw e
reading_printed b v form (Refused n) e = refl

-- a value has no more than sixteen bytes
pub value_short : (b : List ℕ) (a : Answer Reading) → length (value_from b a) ≤ 16
unfolding value_from value_read value_of
value_short b (Answered (Some j)) = go (leb (length b / 24) j)
  where
    go : (t : Bool) → length (if t then [] else value_of (row_at 24 j b)) ≤ 16
    go true = omega arith
    go false = simp length-take (omega arith)
value_short b (Answered None) = omega arith
value_short b (Refused n) = omega arith
