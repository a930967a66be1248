-- Document 01's sentences on lines and digits, in accord with the definitions. What is a form, and what is not, is shown by the case table.
-- Assumes nothing.
use mathlib.Core.Path.{◌≡◌, refl}
use mathlib.Core.List.{[], ◌∷◌, ◌++◌, map}
use lib.ListN.{replicate}
use Rattle.spec.specs.declared.Form.TheVariants.{Begin, Free, Other}
use Rattle.spec.specs.Text.{
  str,
  digit_val,
  digits_from,
  decimal_from,
  decimal_at,
  hex_val,
  one_at,
  spaced_at,
  two_at,
  set_up_of,
  write_of,
  form_in,
  form_of,
}
use Rattle.spec.specs.Session.{lines}
use Rattle.spec.proofs.AccordTable.{counting}

-- "forms from standard input, one a line (the last needs no newline)": no input, a newline alone, two lines with and without the last newline, and an
-- empty one between two
pub one_a_line :
    map lines
    ([]
    ∷ (10 ∷ [])
    ∷ (str "(free)" ++ (10 ∷ str "(trim)"))
    ∷ (str "(free)" ++ (10 ∷ str "(trim)") ++ (10 ∷ []))
    ∷ (str "(free)" ++ (10 ∷ 10 ∷ str "(trim)"))
    ∷ [])
    ≡ []
    ∷ ([] ∷ [])
    ∷ (str "(free)" ∷ str "(trim)" ∷ [])
    ∷ (str "(free)" ∷ str "(trim)" ∷ [])
    ∷ (str "(free)" ∷ [] ∷ str "(trim)" ∷ [])
    ∷ []
unfolding lines
one_a_line = refl

-- "decimal without leading zeros up to 4,294,967,295", "single spaces", nothing behind the closing bracket
pub forms :
    map form_of
    (str "(begin 0)"
    ∷ str "(begin 01)"
    ∷ str "(begin 4294967295)"
    ∷ str "(begin 4294967296)"
    ∷ str "(begin  1)"
    ∷ str "(begin 1) "
    ∷ str "(free)"
    ∷ str "(free) "
    ∷ [])
    ≡ Begin 0
    ∷ Other
    ∷ Begin 4294967295
    ∷ Other
    ∷ Other
    ∷ Other
    ∷ Free
    ∷ Other
    ∷ []
unfolding form_of form_in set_up_of write_of one_at two_at spaced_at decimal_at decimal_from digits_from digit_val
forms = refl

-- "decimal", of all 256 bytes: "0" to "9" are 48 to 57, and 10 stands for no digit
pub decimal_digits : map digit_val (counting 256 0) ≡ replicate 48 10 ++ counting 10 0 ++ replicate 198 10
unfolding digit_val
decimal_digits = refl

-- "lower-case hexadecimal digits": "a" to "f" are 97 to 102, and 16 stands for no digit
pub hexadecimal_digits : map hex_val (counting 256 0) ≡ replicate 48 16 ++ counting 10 0 ++ replicate 39 16 ++ counting 6 10 ++ replicate 153 16
unfolding hex_val
hexadecimal_digits = refl
