-- Hexadecimal digits in a line, and the bytes they give. Digits to come are counted down, bytes up: take i v has the first i of them, and
-- what is there with what is still to come is the whole.
-- Assumes nothing.
use Prim.Native.Nat.{ℕ, zero, suc, ◌+◌, ◌-◌, ◌*◌, ◌%◌, ◌≤◌, ◌<◌}
use mathlib.Core.Path.{◌≡◌, refl, sym, ◌∙◌}
use mathlib.Core.Bool.{Bool, true, false}
use mathlib.Core.List.{List, [], ◌∷◌, ◌++◌, append-nil, append_assoc}
use native.Mathlib.Numerals.{add-one, add-two, sub-one}
use native.Mathlib.Nat.{lt_irrefl, not-suc-le-zero}
use native.Mathlib.Omega.{arith}
use lib.ListN.{length, get_or, take, drop, set}
use lib.Seq.{drop-cons, take-suc-set, take_all, get_or-set_same, get_or-set_other}
use lib.Dec.{ltb, eqb}
use borrow.Author.Tests.{ltb-true, ltb-false, eqb-true, eqb-false, lt-ltb, le-ltb}
use Rattle.std.specs.Prelude.{if◌then◌else◌}
use Rattle.spec.specs.Text.{hex_val, all_hex, hex_at, hex_bytes}
use Rattle.text.proofs.Lines.{neither}

-- too few bytes are there
pub hex_short : (k : ℕ) (s : List ℕ) → length s < k → all_hex k s ≡ false
hex_short zero s h = absurd (not-suc-le-zero h)
hex_short (suc k) [] h = refl
hex_short (suc k) (b ∷ s) h = rw (hex_short k s (omega arith)) (neither (ltb (hex_val b) 16))

-- d is the value of the digit at i
module _ (s : List ℕ) (i d : ℕ) (e : d ≡ hex_val (get_or s i 0)) (l : i < length s) where
  hex_other : (k : ℕ) → 0 < k → 16 ≤ d → all_hex k (drop i s) ≡ false
  hex_other zero h n = absurd (lt_irrefl _ h)
  hex_other (suc k) h n = rw (drop-cons s i 0 l, ← e, le-ltb d 16 n)

  hex_more : (k : ℕ) → 0 < k → d < 16 → all_hex k (drop i s) ≡ all_hex (k - 1) (drop (i + 1) s)
  hex_more zero h n = absurd (lt_irrefl _ h)
  hex_more (suc k) h n = rw (drop-cons s i 0 l, ← e, lt-ltb d 16 n, add-one i, sub-one (suc k))

-- 32 digits stand in s from a place on: i of them are passed, and the largest value of those is most
unfoldable pub hex_from : List ℕ → ℕ → ℕ → ℕ → Bool
hex_from s at most i = if ltb most 16 then all_hex (32 - i) (drop (at + i) s) else false

pub hex_start : (s : List ℕ) (at : ℕ) → hex_at s at ≡ hex_from s at 0 0
unfolding hex_from
hex_start s at = let z : at + 0 ≡ at = omega arith in rw z

module _ (s : List ℕ) (at i most d m : ℕ) (e : d ≡ hex_val (get_or s (at + i) 0)) (l : at + i < length s) (h : i < 32) where
  -- one more is passed, and m is the larger one of most and d
  pub hex_next : ((most ≤ m) × (d ≤ m) × (most < 16 → d < 16 → m < 16)) → hex_from s at most i ≡ hex_from s at m (i + 1)
  unfolding hex_from
  hex_next g = rw (a, z) (go (ltb most 16) refl (ltb d 16) refl)
    where
      a : at + (i + 1) ≡ at + i + 1
      a = omega arith

      z : 32 - (i + 1) ≡ 32 - i - 1
      z = omega arith

      p : 0 < 32 - i
      p = omega arith

      go : (x : Bool) → ltb most 16 ≡ x → (y : Bool) → ltb d 16 ≡ y
          → (if x then all_hex (32 - i) (drop (at + i) s) else false)
          ≡ (if ltb m 16 then all_hex (32 - i - 1) (drop (at + i + 1) s) else false)
      go true u true v =
          rw (lt-ltb m 16 (g.2 (ltb-true most 16 u) (ltb-true d 16 v))) (hex_more s (at + i) d e l (32 - i) p (ltb-true d 16 v))
      go true u false v =
          rw (le-ltb m 16 (omega (arith, g.1, ltb-false d 16 v))) (hex_other s (at + i) d e l (32 - i) p (ltb-false d 16 v))
      go false u y v = rw (le-ltb m 16 (omega (arith, g.0, ltb-false most 16 u)))

pub hex_end : (s : List ℕ) (at most i : ℕ) → i ≡ 32 → hex_from s at most i ≡ ltb most 16
unfolding hex_from
hex_end s at most i z = rw z (go (ltb most 16))
  where
    go : (x : Bool) → (if x then true else false) ≡ x
    go true = refl
    go false = refl

-- ---- the values, stored in turn: P holds of each at its place

pub values_more : (P : ℕ → ℕ → Type 0) (d : List ℕ) (v i : ℕ) → P i v → i < length d → ((j : ℕ) → j < i → P j (get_or d j 0))
    → (j : ℕ) → j < i + 1 → P j (get_or (set d i v) j 0)
values_more P d v i p l g j h = go (eqb j i) refl
  where
    go : (x : Bool) → eqb j i ≡ x → P j (get_or (set d i v) j 0)
    go true e = rw (eqb-true j i e, get_or-set_same d i v 0 l) p
    go false e = rw (get_or-set_other d i j v 0 (eqb-false j i e)) (g j (omega (arith, eqb-false j i e)))

-- ---- the bytes

bytes_next : (s : List ℕ) (o k : ℕ) → 0 < k → o + 1 < length s
    → hex_bytes k (drop o s) ≡ ((hex_val (get_or s o 0) * 16 + hex_val (get_or s (o + 1) 0)) % 256) ∷ hex_bytes (k - 1) (drop (o + 2) s)
bytes_next s o zero h l = absurd (lt_irrefl _ h)
bytes_next s o (suc k) h l =
    let j : o < length s = omega arith in
    let m : suc o < length s = rw add-one at l in
    rw (drop-cons s o 0 j, drop-cons s (suc o) 0 m, add-one o, add-two o, sub-one (suc k))

module _ (v s whole : List ℕ) (o i : ℕ) (k : length v ≡ 16) (e : take i v ++ hex_bytes (16 - i) (drop o s) ≡ whole) where
  pub bytes_more : (high low : ℕ) → high ≡ hex_val (get_or s o 0) → low ≡ hex_val (get_or s (o + 1) 0) → i < 16 → o + 1 < length s
      → take (i + 1) (set v i ((high * 16 + low) % 256)) ++ hex_bytes (16 - (i + 1)) (drop (o + 2) s) ≡ whole
  bytes_more high low e₁ e₂ h l =
      let j : i < length v = omega arith in
      let p : 0 < 16 - i = omega arith in
      let q : 16 - i - 1 ≡ 16 - suc i = omega arith in
      rw (add-one i, take-suc-set v i ((high * 16 + low) % 256) j, append_assoc, e₁, e₂, ← q) (rw (bytes_next s o (16 - i) p l) at e)

  pub bytes_end : 16 ≤ i → i ≤ 16 → v ≡ whole
  bytes_end g h =
      let z : 16 - i ≡ 0 = omega arith in
      let a : length v ≤ i = omega arith in
      sym (append-nil v) ∙ (rw (z, take_all i v a) at e)
