-- Laws of the client sets, each over any width w.
use mathlib.Core.Bool.{Bool, true, false, not, ◌&&◌}
use mathlib.Core.Path.{◌≡◌, refl, sym, ap, ◌∙◌}
use Prim.Native.Nat.{ℕ, zero, suc, ◌+◌, ◌-◌, ◌*◌, ◌/◌, ◌%◌, ◌^◌, ◌≤◌, ◌<◌}
use native.Mathlib.Nat.{one-mul, pow-suc, mod-lt, mod-eq_of_lt, le_of_suc-le-suc}
use native.Mathlib.Numerals.{one-add}
use native.Mathlib.Omega.{arith}
use lib.Dec.{eqb, ltb, eqb-suc-suc}
use borrow.Author.Tests.{ne_eqb, lt-ltb, le-ltb, eqb-true, eqb-false, ltb-true, ltb-false}
use lib.Pow.{pow-lt, shr-shr, pow_pos, mod-pow-add}
use lib.Count.{ones, ones_cat}
use lib.Bits.{bit_and, and_high}
use Rattle.std.specs.Prelude.{if◌then◌else◌}
use Rattle.spec.specs.Set.{clients, bit, member, insert, remove, size, collect, strike}

pub bit-zero : (s : ℕ) → bit s 0 ≡ s % 2
unfolding bit
bit-zero s = omega arith

pub bit-suc : (s k : ℕ) → bit s (suc k) ≡ bit (s / 2) k
unfolding bit
bit-suc s k = ap (λ (x : ℕ). x % 2) (sym (shr-shr s 1 k ∙ ap (λ (x : ℕ). s / 2 ^ x) (one-add k)))

pub bit-lt : (s k : ℕ) → bit s k < 2
unfolding bit
bit-lt s k = omega arith

-- a digit past a number's length is 0
bit_above : (w s k : ℕ) → s < 2 ^ w → w ≤ k → bit s k ≡ 0
bit_above zero s zero h l = omega (arith, bit-zero s)
bit_above zero s (suc k) h l = rw bit-suc (bit_above zero (s / 2) k (omega arith) (omega arith))
bit_above (suc w) s zero h l = omega arith
bit_above (suc w) s (suc k) h l = rw bit-suc (bit_above w (s / 2) k (omega (arith, pow-suc 2 w)) (le_of_suc-le-suc l))

-- a number with digit k set is at least 2 ^ k
bit_le : (s k : ℕ) → bit s k ≡ 1 → 2 ^ k ≤ s
bit_le s zero h = omega (arith, bit-zero s)
bit_le s (suc k) h = omega (arith, pow-suc 2 k, bit_le (s / 2) k (sym (bit-suc s k) ∙ h))

-- one more digit below w keeps the number below 2 ^ w
pub add-lt : (w s k : ℕ) → s < 2 ^ w → k < w → bit s k ≡ 0 → s + 2 ^ k < 2 ^ w
add-lt zero s k h l e = omega arith
add-lt (suc w) s zero h l e = omega (arith, pow-suc 2 w, bit-zero s)
add-lt (suc w) s (suc k) h l e =
    omega (arith, pow-suc 2 w, pow-suc 2 k, add-lt w (s / 2) k (omega (arith, pow-suc 2 w)) (le_of_suc-le-suc l) (sym (bit-suc s k) ∙ e))

-- the digits after 2 ^ k is added, and after it is taken away
add-bit : (s k : ℕ) → bit s k ≡ 0 → (j : ℕ) → bit (s + 2 ^ k) j ≡ (if eqb j k then 1 else (bit s j))
add-bit s zero e zero = omega (arith, bit-zero s, bit-zero (s + 1))
add-bit s zero e (suc j) =
    let h : (s + 1) / 2 ≡ s / 2 = omega (arith, bit-zero s) in
    rw (bit-suc (s + 1) j, bit-suc s j, h, ne_eqb (suc j) 0 (λ e. omega arith))
add-bit s (suc k) e zero = rw (ne_eqb 0 (suc k) (λ e. omega arith)) (omega (arith, bit-zero s, bit-zero (s + 2 ^ suc k), pow-suc 2 k))
add-bit s (suc k) e (suc j) =
    let h : (s + 2 ^ suc k) / 2 ≡ s / 2 + 2 ^ k = omega (arith, pow-suc 2 k) in
    rw (bit-suc (s + 2 ^ suc k) j, bit-suc s j, h, eqb-suc-suc j k) (add-bit (s / 2) k (sym (bit-suc s k) ∙ e) j)

sub-bit : (s k : ℕ) → bit s k ≡ 1 → (j : ℕ) → bit (s - 2 ^ k) j ≡ (if eqb j k then 0 else (bit s j))
sub-bit s zero e zero = omega (arith, bit-zero s, bit-zero (s - 1))
sub-bit s zero e (suc j) =
    let h : (s - 1) / 2 ≡ s / 2 = omega (arith, bit-zero s) in
    rw (bit-suc (s - 1) j, bit-suc s j, h, ne_eqb (suc j) 0 (λ e. omega arith))
sub-bit s (suc k) e zero = rw (ne_eqb 0 (suc k) (λ e. omega arith))
    (omega (arith, bit-zero s, bit-zero (s - 2 ^ suc k), pow-suc 2 k, bit_le s (suc k) e))
sub-bit s (suc k) e (suc j) =
    let h : (s - 2 ^ suc k) / 2 ≡ s / 2 - 2 ^ k = omega (arith, pow-suc 2 k, bit_le s (suc k) e) in
    rw (bit-suc (s - 2 ^ suc k) j, bit-suc s j, h, eqb-suc-suc j k) (sub-bit (s / 2) k (sym (bit-suc s k) ∙ e) j)

-- the count of a digit is the digit
ones_digit : (b : ℕ) → b < 2 → ones b ≡ b
unfolding ones
ones_digit zero h = refl
ones_digit (suc zero) h = refl
ones_digit (suc (suc b)) h = omega arith

-- the size is the count of ones
pub size-ones : (w s : ℕ) → size w s ≡ ones (s % 2 ^ w)
unfolding size ones bit
size-ones zero s = let h : s % 1 ≡ 0 = omega arith in rw h
size-ones (suc w) s =
    let split : s % 2 ^ suc w ≡ (s / 2 ^ w % 2) * 2 ^ w + s % 2 ^ w = ap (λ (x : ℕ). s % 2 ^ x) (sym (one-add w)) ∙ mod-pow-add s 1 w in
    rw (split, ones_cat w (s / 2 ^ w % 2) (s % 2 ^ w) (mod-lt s (pow_pos w)), ones_digit (s / 2 ^ w % 2) (bit-lt s w), size-ones w s) (omega arith)

-- what a test of membership says of the digit
member-true : (s k : ℕ) → member s k ≡ true → bit s k ≡ 1
unfolding member
member-true s k e = eqb-true (bit s k) 1 e

pub member-false : (s k : ℕ) → member s k ≡ false → bit s k ≡ 0
unfolding member
member-false s k e =
    let n : bit s k ≡ 1 → ⊥ = eqb-false (bit s k) 1 e in
    omega (arith, n, bit-lt s k)

-- no client past the width is a member
pub member_above : (w s k : ℕ) → s < 2 ^ w → w ≤ k → member s k ≡ false
unfolding member
member_above w s k h l = rw (bit_above w s k h l)

-- a member is below the width
-- a test on a chosen digit is the choice of the tests
choice_eqb : (b : Bool) (x y : ℕ) → eqb (if b then x else y) 1 ≡ (if b then (eqb x 1) else (eqb y 1))
choice_eqb true x y = refl
choice_eqb false x y = refl

choice_same : {A : Type 0} (b : Bool) (x y : A) → (b ≡ true → x ≡ y) → y ≡ (if b then x else y)
choice_same true x y h = sym (h refl)
choice_same false x y h = refl

-- the members after an insertion and after a removal
pub member-insert : (w s k j : ℕ) → k < w → member (insert w s k) j ≡ (if eqb j k then true else (member s j))
unfolding insert member
member-insert w s k j h = rw (lt-ltb k w h) (go (member s k) refl)
  where
    go : (b : Bool) → member s k ≡ b → member (if b then s else (s + 2 ^ k)) j ≡ (if eqb j k then true else (member s j))
    go true e = choice_same (eqb j k) true (member s j) (λ q. rw (eqb-true j k q) (sym e))
    go false e = rw (add-bit s k (member-false s k e) j) (choice_eqb (eqb j k) 1 (bit s j))

pub member-remove : (s k j : ℕ) → member (remove s k) j ≡ (if eqb j k then false else (member s j))
unfolding remove member
member-remove s k j = go (member s k) refl
  where
    go : (b : Bool) → member s k ≡ b → member (remove s k) j ≡ (if eqb j k then false else (member s j))
    go true e = rw (e, sub-bit s k (member-true s k e) j) (choice_eqb (eqb j k) 0 (bit s j))
    go false e = rw e (choice_same (eqb j k) false (member s j) (λ q. rw (eqb-true j k q) (sym e)))

-- a removal leaves no larger number
pub remove-le : (s k : ℕ) → remove s k ≤ s
unfolding remove
remove-le s k = go (member s k)
  where
    go : (b : Bool) → (if b then s - 2 ^ k else s) ≤ s
    go true = omega arith
    go false = omega arith

-- numbers of one width with the same digits are equal, and so are sets with the same members
same_digits : (w s t : ℕ) → s < 2 ^ w → t < 2 ^ w → ((j : ℕ) → bit s j ≡ bit t j) → s ≡ t
same_digits zero s t h g e = omega arith
same_digits (suc w) s t h g e =
    let half : s / 2 ≡ t / 2 =
    same_digits w (s / 2) (t / 2) (omega (arith, pow-suc 2 w)) (omega (arith, pow-suc 2 w)) (λ j. sym (bit-suc s j) ∙ e (suc j) ∙ bit-suc t j) in
    omega (arith, bit-zero s, bit-zero t, e 0)

digit : (s k : ℕ) → bit s k ≡ (if member s k then 1 else 0)
digit s k = go (member s k) refl
  where
    go : (b : Bool) → member s k ≡ b → bit s k ≡ (if b then 1 else 0)
    go true e = member-true s k e
    go false e = member-false s k e

pub same_members : (w s t : ℕ) → s < 2 ^ w → t < 2 ^ w → ((j : ℕ) → member s j ≡ member t j) → s ≡ t
same_members w s t h g e = same_digits w s t h g (λ j. digit s j ∙ rw (e j) (sym (digit t j)))

-- a set of clients below a width is below its power
insert-lt : (w s k : ℕ) → s < 2 ^ w → insert w s k < 2 ^ w
unfolding insert
insert-lt w s k h = go (ltb k w) (member s k) refl refl
  where
    go : (b m : Bool) → ltb k w ≡ b → member s k ≡ m → (if b then (if m then s else (s + 2 ^ k)) else s) < 2 ^ w
    go true true e f = h
    go true false e f = add-lt w s k h (ltb-true k w e) (member-false s k f)
    go false m e f = h

pub collect-lt : (p : ℕ → Bool) (m : ℕ) → collect p m < 2 ^ clients
unfolding collect
collect-lt p zero = omega arith
collect-lt p (suc m) = go (p m) (collect-lt p m)
  where
    go : (b : Bool) → collect p m < 2 ^ clients → (if b then insert clients (collect p m) m else collect p m) < 2 ^ clients
    go true h = insert-lt clients (collect p m) m h
    go false h = h

-- 1 shifted by less than the width
pub one_shifted : (w k : ℕ) → k < w → 1 * 2 ^ k % 2 ^ w ≡ 2 ^ k
one_shifted w k h = ap (λ (x : ℕ). x % 2 ^ w) (one-mul (2 ^ k)) ∙ mod-eq_of_lt (pow-lt h)

-- ---- a removal without a test: digit k, as much as it counts for, is taken away

and_digit : (s k : ℕ) → bit_and s (2 ^ k) ≡ bit s k * 2 ^ k
unfolding bit
and_digit s k =
    let alone : 2 ^ (1 + k) - 2 ^ k ≡ 2 ^ k = omega (arith, ap (λ (x : ℕ). 2 ^ x) (one-add k), pow-suc 2 k) in
    ap (λ (x : ℕ). bit_and s x) (sym alone) ∙ and_high s 1 k

pub remove_and : (s k : ℕ) → remove s k ≡ s - bit_and s (2 ^ k)
unfolding remove
remove_and s k = rw (and_digit s k) (go (member s k) refl)
  where
    go : (b : Bool) → member s k ≡ b → (if b then s - 2 ^ k else s) ≡ s - bit s k * 2 ^ k
    go true e = rw (member-true s k e, one-mul (2 ^ k))
    go false e = rw (member-false s k e) (omega arith)

-- ---- sets made and struck by a rule

ltb-suc : (j m : ℕ) → ltb j (suc m) ≡ (if eqb j m then true else ltb j m)
ltb-suc j m = go (eqb j m) refl
  where
    go : (t : Bool) → eqb j m ≡ t → ltb j (suc m) ≡ (if t then true else ltb j m)
    go true e = lt-ltb j (suc m) (omega (arith, eqb-true j m e))
    go false e = go2 (ltb j m) refl
      where
        go2 : (u : Bool) → ltb j m ≡ u → ltb j (suc m) ≡ u
        go2 true l = lt-ltb j (suc m) (omega (arith, ltb-true j m l))
        go2 false l = le-ltb j (suc m) (let n = eqb-false j m e in omega (arith, ltb-false j m l, n))

-- the members of a set made by a rule are the clients that it holds of
pub member-collect : (p : ℕ → Bool) (m j : ℕ) → m ≤ clients → member (collect p m) j ≡ (ltb j m && p j)
unfolding collect
member-collect p zero j h = member_above 0 0 j (omega arith) (omega arith) ∙ rw (le-ltb j 0 (omega arith))
member-collect p (suc m) j h = rw (ltb-suc j m) (go (eqb j m) (p m) refl refl (member-collect p m j (omega arith)))
  where
    go : (t u : Bool) → eqb j m ≡ t → p m ≡ u → member (collect p m) j ≡ (ltb j m && p j)
        → member (if u then insert clients (collect p m) m else collect p m) j ≡ ((if t then true else ltb j m) && p j)
    go true true e f ih = rw (member-insert clients (collect p m) m j (omega arith), e, eqb-true j m e, f)
    go true false e f ih = ih ∙ rw (eqb-true j m e, f, le-ltb m m (omega arith))
    go false true e f ih = rw (member-insert clients (collect p m) m j (omega arith), e) ih
    go false false e f ih = ih

-- a set made by a rule, without k, is made by that rule for the others
pub collect_others : (p : ℕ → Bool) (k : ℕ) → remove (collect p clients) k ≡ collect (λ j. not (eqb j k) && p j) clients
collect_others p k =
    same_members clients _ _ (omega (arith, remove-le (collect p clients) k, collect-lt p clients)) (collect-lt _ clients)
    (λ j. rw (
      member-remove (collect p clients) k j,
      member-collect p clients j (omega arith),
      member-collect (λ j. not (eqb j k) && p j)
          clients j (omega arith),
    )
    (go (eqb j k) (ltb j clients) (p j)))
  where
    go : (t u v : Bool) → (if t then false else (u && v)) ≡ (u && (not t && v))
    go true true v = refl
    go true false v = refl
    go false u v = refl

-- a rule strikes those members that it holds of
pub member-strike : (p : ℕ → Bool) (s m j : ℕ) → member (strike p s m) j ≡ (if ltb j m && p j then false else member s j)
unfolding strike
member-strike p s zero j = rw (le-ltb j 0 (omega arith))
member-strike p s (suc m) j = rw (ltb-suc j m) (go (eqb j m) (p m) refl refl (member-strike p s m j))
  where
    go : (t u : Bool) → eqb j m ≡ t → p m ≡ u → member (strike p s m) j ≡ (if ltb j m && p j then false else member s j)
        → member (if u then remove (strike p s m) m else strike p s m) j ≡ (if (if t then true else ltb j m) && p j then false else member s j)
    go true true e f ih = rw (member-remove (strike p s m) m j, e, eqb-true j m e, f)
    go true false e f ih = ih ∙ rw (eqb-true j m e, f, le-ltb m m (omega arith))
    go false true e f ih = rw (member-remove (strike p s m) m j, e) ih
    go false false e f ih = ih
