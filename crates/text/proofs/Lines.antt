-- A line read byte by byte: words and decimal numbers. Each law is one turn of a loop, or its end: what the definition says of the bytes
-- from a place on is what it says of the bytes from the next place on.
-- Assumes nothing.
use Prim.Native.Nat.{ℕ, ◌+◌, ◌*◌, ◌≤◌, ◌<◌}
use mathlib.Core.Path.{◌≡◌, refl}
use mathlib.Core.Bool.{Bool, true, false}
use mathlib.Core.List.{List, [], ◌∷◌}
use native.Mathlib.Numerals.{add-one}
use native.Mathlib.Nat.{not-suc-le-zero}
use native.Mathlib.Omega.{arith}
use lib.ListN.{length, get_or, drop, drop_of_length-le}
use lib.Seq.{drop-cons}
use lib.Dec.{eqb}
use borrow.Author.Tests.{lt-ltb, le-ltb, eq-eqb, ne_eqb}
use Rattle.std.specs.Prelude.{Some, None, if◌then◌else◌}
use Rattle.spec.specs.Text.{begins, digit_val, digits_from, decimal_from, decimal_at}

-- ---- words

pub neither : (b : Bool) → (if b then false else false) ≡ false
neither true = refl
neither false = refl

pub begins_short : (w s : List ℕ) → length s < length w → begins w s ≡ false
begins_short [] s h = absurd (not-suc-le-zero h)
begins_short (a ∷ w) [] h = refl
begins_short (a ∷ w) (b ∷ s) h = rw (begins_short w s (omega arith)) (neither (eqb a b))

module _ (w s : List ℕ) (i : ℕ) where
  pub begins_end : length w ≤ i → begins (drop i w) (drop i s) ≡ true
  begins_end h = rw (drop_of_length-le w h)

  pub begins_more : i < length w → i < length s → get_or w i 0 ≡ get_or s i 0
      → begins (drop i w) (drop i s) ≡ begins (drop (i + 1) w) (drop (i + 1) s)
  begins_more h k e = rw (add-one i, drop-cons w i 0 h, drop-cons s i 0 k, eq-eqb (get_or w i 0) (get_or s i 0) e)

  pub begins_other : i < length w → i < length s → (get_or w i 0 ≡ get_or s i 0 → ⊥) → begins (drop i w) (drop i s) ≡ false
  begins_other h k n = rw (drop-cons w i 0 h, drop-cons s i 0 k, ne_eqb (get_or w i 0) (get_or s i 0) n)

-- ---- decimal numbers

module _ (s : List ℕ) (i : ℕ) where
  pub decimal_none : length s ≤ i → decimal_at s i ≡ None
  unfolding decimal_at decimal_from
  decimal_none h = rw (drop_of_length-le s h)

  pub digits_end : (a : ℕ) → length s ≤ i → digits_from a i (drop i s) ≡ Some (a, i)
  unfolding digits_from
  digits_end a h = rw (drop_of_length-le s h)

-- d is the value of the digit at i
module _ (s : List ℕ) (i d : ℕ) (e : d ≡ digit_val (get_or s i 0)) (h : i < length s) where
  pub decimal_other : 10 ≤ d → decimal_at s i ≡ None
  unfolding decimal_at decimal_from
  decimal_other n = rw (drop-cons s i 0 h, ← e, le-ltb d 10 n)

  pub decimal_first : d < 10 → decimal_at s i ≡ digits_from d (i + 1) (drop (i + 1) s)
  unfolding decimal_at decimal_from
  decimal_first n = rw (drop-cons s i 0 h, ← e, add-one i, lt-ltb d 10 n)

  pub digits_stop : (a : ℕ) → 10 ≤ d → digits_from a i (drop i s) ≡ Some (a, i)
  unfolding digits_from
  digits_stop a n = rw (drop-cons s i 0 h, ← e, le-ltb d 10 n)

  pub digits_zero : (a : ℕ) → d < 10 → a ≡ 0 → digits_from a i (drop i s) ≡ None
  unfolding digits_from
  digits_zero a n z = rw (drop-cons s i 0 h, ← e, lt-ltb d 10 n, eq-eqb a 0 z)

  pub digits_large : (a : ℕ) → d < 10 → (a ≡ 0 → ⊥) → 4294967295 < a * 10 + d → digits_from a i (drop i s) ≡ None
  unfolding digits_from
  digits_large a n z l = rw (drop-cons s i 0 h, ← e, lt-ltb d 10 n, ne_eqb a 0 z, lt-ltb 4294967295 (a * 10 + d) l)

  pub digits_more : (a : ℕ) → d < 10 → (a ≡ 0 → ⊥) → a * 10 + d ≤ 4294967295
      → digits_from a i (drop i s) ≡ digits_from (a * 10 + d) (i + 1) (drop (i + 1) s)
  unfolding digits_from
  digits_more a n z l = rw (drop-cons s i 0 h, ← e, lt-ltb d 10 n, ne_eqb a 0 z, le-ltb 4294967295 (a * 10 + d) l, add-one i)
