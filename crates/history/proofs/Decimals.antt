-- A number that a line says is one of 32 bits (document 01: "decimal without leading zeros up to 4,294,967,295"): so is the first W of a set-up.
-- Assumes nothing.
use Prim.Native.Nat.{ℕ, ◌+◌, ◌*◌, ◌≤◌, ◌<◌}
use mathlib.Core.Path.{◌≡◌, refl, subst}
use mathlib.Core.Bool.{Bool, true, false}
use mathlib.Core.List.{List, [], ◌∷◌}
use native.Mathlib.Omega.{arith}
use borrow.Author.Tests.{ltb-true, ltb-false}
use lib.ListN.{length, drop}
use lib.Dec.{ltb, eqb}
use Rattle.std.specs.Prelude.{Option, Some, None, if◌then◌else◌}
use Rattle.spec.specs.declared.Form.{Form}
use Rattle.spec.specs.declared.Form.TheVariants.{SetUp, Begin, Read, Write, Advance, Abandon, Trim, Free, Other}
use Rattle.spec.specs.Numbers.{top}
use Rattle.spec.specs.Text.{str, digit_val, digits_from, decimal_from, decimal_at, begins, stands, bracket_at, hex_at, spaced, spaced_at, one_at}
use Rattle.spec.specs.Text.{with_first, two_after, two_at, set_up_with, set_up_after, set_up_of, client_form, read_with, write_value, write_after}
use Rattle.spec.specs.Text.{write_of, form_in, form_of}

-- ---- a number in a line

abbrev Small : Option (ℕ × ℕ) → Type 0
Small (Some (v, n)) = v ≤ top
Small None = Unit {0}

small_if : (b : Bool) (x y : Option (ℕ × ℕ)) → Small x → Small y → Small (if b then x else y)
small_if true x y f g = f
small_if false x y f g = g

unless_large : (v : ℕ) (x : Option (ℕ × ℕ)) → (v ≤ top → Small x) → Small (if ltb top v then None else x)
unless_large v x f = go (ltb top v) refl
  where
    go : (t : Bool) → ltb top v ≡ t → Small (if t then None else x)
    go true e = tt
    go false e = f (ltb-false top v e)

digits_small : (a i : ℕ) (s : List ℕ) → a ≤ top → Small (digits_from a i s)
unfolding digits_from
digits_small a i [] h = h
digits_small a i (b ∷ s) h =
    small_if (ltb (digit_val b) 10) _ _
    (small_if (eqb a 0) _ _ tt (unless_large (a * 10 + digit_val b) _ (λ g. digits_small (a * 10 + digit_val b) (i + 1) s g))) h

from_small : (i : ℕ) (s : List ℕ) → Small (decimal_from i s)
unfolding decimal_from
from_small i [] = tt
from_small i (b ∷ s) = go (ltb (digit_val b) 10) refl
  where
    go : (t : Bool) → ltb (digit_val b) 10 ≡ t → Small (if t then digits_from (digit_val b) (i + 1) s else None)
    go true e = let h : digit_val b < 10 = ltb-true (digit_val b) 10 e in digits_small (digit_val b) (i + 1) s (omega arith)
    go false e = tt

decimal_small : (s : List ℕ) (at : ℕ) → Small (decimal_at s at)
unfolding decimal_at
decimal_small s at = from_small at (drop at s)

spaced_small : (s : List ℕ) (at : ℕ) → Small (spaced_at s at)
unfolding spaced_at
spaced_small s at = go (decimal_at s at) (decimal_small s at)
  where
    go : (d : Option (ℕ × ℕ)) → Small d → Small (spaced s d)
    go None h = tt
    go (Some (v, n)) h = small_if (stands 32 s n) _ _ h tt

-- ---- the first W of a set-up

abbrev FirstSmall : Form → Type 0
FirstSmall (SetUp r w l) = w ≤ top
FirstSmall (Begin k) = Unit {0}
FirstSmall (Read k x) = Unit {0}
FirstSmall (Write k x v) = Unit {0}
FirstSmall (Advance k) = Unit {0}
FirstSmall (Abandon k) = Unit {0}
FirstSmall Trim = Unit {0}
FirstSmall Free = Unit {0}
FirstSmall Other = Unit {0}

first_if : (b : Bool) (x y : Form) → FirstSmall x → FirstSmall y → FirstSmall (if b then x else y)
first_if true x y f g = f
first_if false x y f g = g

abbrev BothSmall : Option (ℕ × ℕ) → Type 0
BothSmall None = Unit {0}
BothSmall (Some (a, b)) = a ≤ top

two_small : (s : List ℕ) (at : ℕ) → BothSmall (two_at s at)
unfolding two_at
two_small s at = go (spaced_at s at) (spaced_small s at)
  where
    one : (a : ℕ) (o : Option ℕ) → a ≤ top → BothSmall (with_first a o)
    one a None h = tt
    one a (Some b) h = h

    go : (d : Option (ℕ × ℕ)) → Small d → BothSmall (two_after s d)
    go None h = tt
    go (Some (a, n)) h = one a (one_at s n) h

set_up_small : (s : List ℕ) → FirstSmall (set_up_of s)
unfolding set_up_of
set_up_small s = go (spaced_at s 8)
  where
    two : (r : ℕ) (t : Option (ℕ × ℕ)) → BothSmall t → FirstSmall (set_up_with r t)
    two r None h = tt
    two r (Some (w, l)) h = h

    go : (d : Option (ℕ × ℕ)) → FirstSmall (set_up_after s d)
    go None = tt
    go (Some (r, n)) = two r (two_at s n) (two_small s n)

client_small : (f : ℕ → Form) (o : Option ℕ) → ((k : ℕ) → FirstSmall (f k)) → FirstSmall (client_form f o)
client_small f None h = tt
client_small f (Some k) h = h k

read_small : (t : Option (ℕ × ℕ)) → FirstSmall (read_with t)
read_small None = tt
read_small (Some (k, x)) = tt

write_small : (s : List ℕ) → FirstSmall (write_of s)
unfolding write_of
write_small s = go (spaced_at s 7)
  where
    value : (k : ℕ) (d : Option (ℕ × ℕ)) → FirstSmall (write_value s k d)
    value k None = tt
    value k (Some (x, n)) = first_if (bracket_at s (n + 32)) _ _ (first_if (hex_at s n) _ _ tt tt) tt

    go : (d : Option (ℕ × ℕ)) → FirstSmall (write_after s d)
    go None = tt
    go (Some (k, n)) = value k (spaced_at s n)

form_small : (s : List ℕ) → FirstSmall (form_of s)
unfolding form_of form_in
form_small s =
    first_if (ltb 80 (length s)) _ _ tt
    (first_if (begins (str "(set-up ") s) _ _ (set_up_small s)
    (first_if (begins (str "(begin ") s) _ _ (client_small Begin (one_at s 7) (λ k. tt))
    (first_if (begins (str "(read ") s) _ _ (read_small (two_at s 6))
    (first_if (begins (str "(write ") s) _ _ (write_small s)
    (first_if (begins (str "(advance ") s) _ _ (client_small Advance (one_at s 9) (λ k. tt))
    (first_if (begins (str "(abandon ") s) _ _ (client_small Abandon (one_at s 9) (λ k. tt))
    (first_if (begins (str "(trim)") s) _ _ (first_if (eqb (length s) 6) _ _ tt tt)
    (first_if (begins (str "(free)") s) _ _ (first_if (eqb (length s) 6) _ _ tt tt) tt))))))))

pub first_small : (s : List ℕ) (r w l : ℕ) → form_of s ≡ SetUp r w l → w ≤ 4294967295
first_small s r w l e = subst FirstSmall e (form_small s)
