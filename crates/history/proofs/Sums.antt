-- Sums over the numbers below n: what two sums that differ in one place differ by, and sums that are term by term at most others. A count is a sum
-- of ones and zeros (`one`).
-- Assumes nothing.
use Prim.Native.Nat.{ℕ, zero, suc, ◌+◌, ◌≤◌, ◌<◌}
use mathlib.Core.Path.{◌≡◌, refl, sym, ap}
use mathlib.Core.Logic.{◌≢◌, ite, by_cases}
use native.Mathlib.Decide.{ℕ_discrete}
use native.Mathlib.Omega.{arith}

unfoldable pub sum : ℕ → (ℕ → ℕ) → ℕ
sum zero f = 0
sum (suc n) f = f n + sum n f

sum_same : (n : ℕ) (f g : ℕ → ℕ) → ((b : ℕ) → b < n → f b ≡ g b) → sum n f ≡ sum n g
unfolding sum
sum_same zero f g h = refl
sum_same (suc n) f g h = omega (arith, h n (omega arith), sum_same n f g (λ b l. h b (omega arith)))

pub sum_put : (n a : ℕ) (f g : ℕ → ℕ) → a < n → ((b : ℕ) → b ≢ a → f b ≡ g b) → sum n f + g a ≡ sum n g + f a
unfolding sum
sum_put zero a f g h o = absurd (omega arith)
sum_put (suc n) a f g h o =
    by_cases (ℕ_discrete a n)
    (λ e. omega (arith, ap f e, ap g e, sum_same n f g (λ b l. o b (λ q. omega arith))))
    (λ e. omega (arith, o n (λ q. e (sym q)), sum_put n a f g (omega (arith, e)) o))

pub sum_has : (n a : ℕ) (f : ℕ → ℕ) → a < n → f a ≤ sum n f
unfolding sum
sum_has zero a f h = absurd (omega arith)
sum_has (suc n) a f h = by_cases (ℕ_discrete a n) (λ e. omega (arith, ap f e)) (λ e. omega (arith, sum_has n a f (omega (arith, e))))

sum_most : (n : ℕ) (f g : ℕ → ℕ) → ((b : ℕ) → f b ≤ g b) → sum n f ≤ sum n g
unfolding sum
sum_most zero f g h = omega arith
sum_most (suc n) f g h = omega (arith, h n, sum_most n f g h)

pub sum_less : (n a : ℕ) (f g : ℕ → ℕ) → a < n → ((b : ℕ) → f b ≤ g b) → f a < g a → sum n f < sum n g
unfolding sum
sum_less zero a f g h o l = absurd (omega arith)
sum_less (suc n) a f g h o l =
    by_cases (ℕ_discrete a n)
    (λ e. omega (arith, ap f e, ap g e, sum_most n f g o))
    (λ e. omega (arith, o n, sum_less n a f g (omega (arith, e)) o l))

pub sum_ones : (n : ℕ) → sum n (λ _. 1) ≡ n
unfolding sum
sum_ones zero = refl
sum_ones (suc n) = omega (arith, sum_ones n)

-- ---- one for a yes

abbrev pub one : {P : Type 0} → Dec P → ℕ
one d = ite d 1 0

pub one_yes : {P : Type 0} (d : Dec P) → P → one d ≡ 1
one_yes (yes p) h = refl
one_yes (no n) h = absurd (n h)

pub one_no : {P : Type 0} (d : Dec P) → (P → ⊥) → one d ≡ 0
one_no (yes p) h = absurd (h p)
one_no (no n) h = refl

pub one_most : {P : Type 0} (d : Dec P) → one d ≤ 1
one_most (yes p) = omega arith
one_most (no n) = omega arith

pub one_if_lem : {P Q : Type 0} (d : Dec P) (e : Dec Q) → (P → Q) → one d ≤ one e
one_if_lem (yes p) e h = omega (arith, one_yes e (h p))
one_if_lem (no n) e h = omega arith
