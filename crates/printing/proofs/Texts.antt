-- Text in a buffer, which ends at a place: two appended texts as one, and the digits of a number and of bytes.
-- Assumes nothing.
use Prim.Native.Nat.{ℕ, zero, suc, ◌+◌, ◌-◌, ◌/◌, ◌%◌, ◌≤◌, ◌<◌}
use mathlib.Core.Path.{◌≡◌, refl, sym, ◌∙◌}
use mathlib.Core.Bool.{Bool, true, false}
use mathlib.Core.List.{List, [], ◌∷◌, ◌++◌, append-nil, append_assoc}
use native.Mathlib.Numerals.{sub-one}
use native.Mathlib.Nat.{lt_irrefl}
use native.Mathlib.Omega.{arith}
use lib.ListN.{length, take, drop, set, length-set, length-drop, length-append, drop_of_length-le}
use lib.Seq.{drop-cons, drop-set-lt, get_or-set_same}
use lib.Dec.{eqb}
use borrow.Author.Tests.{eq-eqb, ne_eqb}
use Rattle.std.specs.Prelude.{if◌then◌else◌}
use Rattle.spec.specs.Text.{hex_text, decimal_on, decimal_of}
use Rattle.printing.specs.Inner.{Put, Spelled, pair_of}

pub put_then : {a b d w v : List ℕ} {i j k : ℕ} → Put a i w b j → Put b j v d k → Put a i (w ++ v) d k
put_then {a} {b} {d} {w} {v} {i} {j} {k} p q = record {
  place = omega (arith, p.place, q.place, length-append w v);
  text = rw (q.text, p.text, append_assoc);
}

-- ---- hexadecimal digits: what is written, with the digits of the bytes from i on, is the whole

pub hex_all : (out v whole : List ℕ) (o i : ℕ) → take o out ++ hex_text (drop i v) ≡ whole → length v ≤ i → take o out ≡ whole
hex_all out v whole o i e h = sym (append-nil (take o out)) ∙ (rw (drop_of_length-le v h) at e)

pub hex_length : (v : List ℕ) → length (hex_text v) ≡ length v + length v
hex_length [] = refl
hex_length (b ∷ v) = omega (arith, hex_length v)

-- ---- decimal digits, the last first, into d before i

-- what stands from i on after a store at i
drop_stored : (d : List ℕ) (i x : ℕ) → i < length d → drop i (set d i x) ≡ x ∷ drop (suc i) d
drop_stored d i x h =
    let k : i < length (set d i x) = simp length-set h in
    let j : i < suc i = omega arith in
    rw (drop-cons (set d i x) i 0 k, get_or-set_same d i x 0 h, drop-set-lt (suc i) d i x j)

pub decimal_start : (n : ℕ) → decimal_of n ≡ decimal_on 10 n []
unfolding decimal_of
decimal_start n = refl

pub decimal_more : (d : List ℕ) (i n : ℕ) → 0 < i → i ≤ length d → (n / 10 ≡ 0 → ⊥)
    → decimal_on i n (drop i d) ≡ decimal_on (i - 1) (n / 10) (drop (i - 1) (set d (i - 1) (48 + n % 10)))
unfolding decimal_on
decimal_more d zero n h k z = absurd (lt_irrefl _ h)
decimal_more d (suc i) n h k z = rw (sub-one (suc i), ne_eqb (n / 10) 0 z, drop_stored d i (48 + n % 10) k)

pub decimal_last : (d : List ℕ) (i n : ℕ) → 0 < i → i ≤ length d → n / 10 ≡ 0
    → decimal_on i n (drop i d) ≡ drop (i - 1) (set d (i - 1) (48 + n % 10))
unfolding decimal_on
decimal_last d zero n h k z = absurd (lt_irrefl _ h)
decimal_last d (suc i) n h k z = rw (sub-one (suc i), eq-eqb (n / 10) 0 z, drop_stored d i (48 + n % 10) k)

pub decimal_end : (i n : ℕ) (d : List ℕ) → i ≤ 0 → decimal_on i n (drop i d) ≡ d
unfolding decimal_on
decimal_end i n d h = let z : i ≡ 0 = omega arith in rw z

-- ---- numbers of few digits

-- a number below 100 has two digits at most, the last ones before any tail
either_end : (b : Bool) (x y : ℕ) (t : List ℕ) → (if b then (x ∷ t) else (y ∷ x ∷ t)) ≡ (if b then (x ∷ []) else (y ∷ x ∷ [])) ++ t
either_end true x y t = refl
either_end false x y t = refl

digits_short : (k n : ℕ) (t : List ℕ) → n < 100 → decimal_on (suc (suc k)) n t ≡ decimal_of n ++ t
unfolding decimal_of decimal_on
digits_short k n t h = rw (eq-eqb (n / 10 / 10) 0 (omega arith)) (either_end (eqb (n / 10) 0) (48 + n % 10) (48 + n / 10 % 10) t)

pub decimal_one : (n : ℕ) → n < 10 → decimal_of n ≡ (48 + n) ∷ []
unfolding decimal_on
decimal_one n h =
    let m : n % 10 ≡ n = omega arith in
    rw (decimal_start n, eq-eqb (n / 10) 0 (omega arith), m)

pub decimal_two : (n : ℕ) → 10 ≤ n → n < 100 → decimal_of n ≡ pair_of n
unfolding decimal_on
decimal_two n g h =
    let m : n / 10 % 10 ≡ n / 10 = omega arith in
    rw (decimal_start n, ne_eqb (n / 10) 0 (λ e. omega arith), eq-eqb (n / 10 / 10) 0 (omega arith), m)

-- three digits or four: those of the hundreds, and two more
pub decimal_four : (n : ℕ) → 100 ≤ n → n < 10000 → decimal_of n ≡ decimal_of (n / 100) ++ pair_of (n % 100)
unfolding decimal_on
decimal_four n g h =
    let a : n / 10 / 10 ≡ n / 100 = omega arith in
    let b : n / 10 % 10 ≡ n % 100 / 10 = omega arith in
    let d : n % 10 ≡ n % 100 % 10 = omega arith in
    rw (decimal_start n, ne_eqb (n / 10) 0 (λ e. omega arith), ne_eqb (n / 10 / 10) 0 (λ e. omega arith))
    (rw (digits_short 6 (n / 10 / 10) _ (omega arith), a, b, d))

pub spelled_length : {n : ℕ} {d : List ℕ} {from : ℕ} → Spelled n d from → length (decimal_of n) ≤ 10
spelled_length s = rw (← s.whole) (simp length-drop (omega (arith, s.ten)))
