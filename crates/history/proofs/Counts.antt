-- How many cells have a value (`valued`). Tables with values in the same cells have as many of them; one with a value in one cell more has one more.
-- Everything that is counted by cells goes by these two laws: the cells that a transaction wrote, by its rows (Searches) and by its writes, and the
-- rows that a trim leaves (Lookups).
-- Assumes nothing.
use Prim.Native.Nat.{ℕ, zero, suc, ◌+◌, ◌<◌}
use mathlib.Core.Path.{◌≡◌, refl, sym, ap, ◌∙◌}
use mathlib.Core.Logic.{◌≢◌, by_cases}
use mathlib.Core.Bool.{true, false, false≢true}
use mathlib.Core.Option.{Option, none, some, IsSome}
use native.Mathlib.Decide.{ℕ_discrete}
use native.Mathlib.Omega.{arith}
use Rattle.spec.specs.Table.{Value, Values, has}
use Rattle.spec.specs.Right.{valued}

-- ---- one cell

pub has_some : (o : Option Value) → has o ≡ true → IsSome o
has_some none e = absurd (false≢true e)
has_some (some v) e = tt

pub some_has : (o : Option Value) → IsSome o → has o ≡ true
some_has none h = absurd h
some_has (some v) h = refl

pub none_has : (o : Option Value) → (IsSome o → ⊥) → has o ≡ false
none_has none h = refl
none_has (some v) h = absurd (h tt)

-- ---- the cells below n

pub valued_none : (n : ℕ) (f : Values) → ((x : ℕ) → has (f x) ≡ false) → valued n f ≡ 0
unfolding valued
valued_none zero f h = refl
valued_none (suc n) f h = rw (h n, valued_none n f h)

pub valued_same : (n : ℕ) (f g : Values) → ((x : ℕ) → x < n → has (f x) ≡ has (g x)) → valued n f ≡ valued n g
unfolding valued
valued_same zero f g h = refl
valued_same (suc n) f g h = rw (h n (omega arith), valued_same n f g (λ x k. h x (omega arith)))

-- f has a value in cell y, where g has none, and in all other cells where g has one
pub valued_more : (n : ℕ) (f g : Values) (y : ℕ) → y < n → has (f y) ≡ true → has (g y) ≡ false → ((x : ℕ) → x ≢ y → has (f x) ≡ has (g x))
    → valued n f ≡ valued n g + 1
unfolding valued
valued_more zero f g y h p q s = absurd (omega arith)
valued_more (suc n) f g y h p q s =
    by_cases (ℕ_discrete y n)
    (λ e. rw (ap (λ (z : ℕ). has (f z)) (sym e) ∙ p, ap (λ (z : ℕ). has (g z)) (sym e) ∙ q)
    (omega (arith, valued_same n f g (λ x k. s x (λ d. omega arith)))))
    (λ m. rw (s n (λ e. m (sym e)), valued_more n f g y (omega (arith, m)) p q s) (omega arith))
