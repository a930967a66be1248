-- Laws of a look, which goes over a list's members from the lowest on: the lowest member, the rest without it, and the list so far.
-- Assumes nothing.
use mathlib.Core.Bool.{Bool, true, false, not, ◌&&◌, false≢true}
use mathlib.Core.Path.{◌≡◌, refl, sym, ap, ◌∙◌}
use Prim.Native.Nat.{ℕ, zero, suc, ◌/◌, ◌%◌, ◌^◌, ◌≤◌, ◌<◌}
use native.Mathlib.Nat.{pow-suc}
use native.Mathlib.Omega.{arith}
use borrow.Author.Tests.{eq-eqb, eqb-true, ltb-false}
use lib.Dec.{eqb, ltb}
use lib.Count.{under, count_trailing_zeros}
use Rattle.std.specs.Prelude.{if◌then◌else◌}
use Rattle.spec.specs.Set.{clients, bit, member, remove, strike}
use Rattle.spec.proofs.Sets.{bit-zero, bit-suc, member_above, member-remove, remove-le, same_members, member-strike}

-- client k is below the width w, and a member of s
pub record LowestDigit (w s k : ℕ) : Type 0 where
  pub below : k < w
  pub inside : member s k ≡ true

-- a set that is not empty has a member where its trailing zeros end
pub lowest : (w s : ℕ) → (s ≡ 0 → ⊥) → s < 2 ^ w → LowestDigit w s (count_trailing_zeros w s)
unfolding count_trailing_zeros member
lowest zero s n h = absurd (n (omega arith))
lowest (suc w) s n h = go (λ q. lowest w (s / 2) q (omega (arith, pow-suc 2 w))) (s % 2) refl
  where
    go : ((s / 2 ≡ 0 → ⊥) → LowestDigit w (s / 2) (count_trailing_zeros w (s / 2)))
        → (d : ℕ) → s % 2 ≡ d → LowestDigit (suc w) s (under d (count_trailing_zeros w (s / 2)))
    go higher zero e =
        let l = higher (λ q. n (omega arith)) in
        record { below = omega (arith, l.below); inside = rw (bit-suc s (count_trailing_zeros w (s / 2))) l.inside }
    go higher (suc d) e = let one : bit s 0 ≡ 1 = omega (arith, bit-zero s) in record { below = omega arith; inside = rw one }

-- without a member a set is a smaller number
pub remove-lt : (s k : ℕ) → member s k ≡ true → remove s k < s
remove-lt s k e =
    let other : remove s k ≡ s → ⊥ =
    λ q. false≢true (sym (member-remove s k k ∙ rw (eq-eqb k k refl)) ∙ ap (λ (x : ℕ). member x k) q ∙ e) in
    omega (arith, other, remove-le s k)

-- what a look by rule p has made of the list when the clients of rest are still to be looked at
pub record Looked (p : ℕ → Bool) (list out rest : ℕ) : Type 0 where
  pub out_fits : out < 2 ^ clients
  pub rest_fits : rest < 2 ^ clients
  pub members : (j : ℕ) → member out j ≡ (if not (member rest j) && p j then false else member list j)

-- one client more has been looked at
module _ (p : ℕ → Bool) (list out rest k : ℕ) (l : Looked p list out rest) (rest' : ℕ) (f : rest' ≡ remove rest k) where
  -- the rest is no larger
  fits : rest' < 2 ^ clients
  fits = omega (arith, f, l.rest_fits, remove-le rest k)

  -- a client that the rule holds of is struck
  pub looked_struck : (out' : ℕ) → out' ≡ remove out k → p k ≡ true → Looked p list out' rest'
  looked_struck out' g e = record {
    out_fits = omega (arith, g, l.out_fits, remove-le out k);
    rest_fits = fits;
    members = λ j. rw (f, g, member-remove out k j, member-remove rest k j) (go j (eqb j k) refl);
  }
    where
      go : (j : ℕ) (t : Bool) → eqb j k ≡ t
          → (if t then false else member out j) ≡ (if not (if t then false else member rest j) && p j then false else member list j)
      go j true q = rw (eqb-true j k q, e)
      go j false q = l.members j

  -- any other stays
  pub looked_stays : p k ≡ false → Looked p list out rest'
  looked_stays e = record {
    out_fits = l.out_fits;
    rest_fits = fits;
    members = λ j. l.members j ∙ rw (f, member-remove rest k j) (go j (eqb j k) refl);
  }
    where
      none : (m x : Bool) → (if not m && false then false else x) ≡ x
      none true x = refl
      none false x = refl

      go : (j : ℕ) (t : Bool) → eqb j k ≡ t
          → (if not (member rest j) && p j then false else member list j)
          ≡ (if not (if t then false else member rest j) && p j then false else member list j)
      go j true q = rw (eqb-true j k q, e) (none (member rest k) (member list k))
      go j false q = refl

-- striking leaves no larger number
strike-le : (p : ℕ → Bool) (s m : ℕ) → strike p s m ≤ s
unfolding strike
strike-le p s zero = omega arith
strike-le p s (suc m) = go (p m) (strike-le p s m)
  where
    go : (b : Bool) → strike p s m ≤ s → (if b then remove (strike p s m) m else strike p s m) ≤ s
    go true h = omega (arith, h, remove-le (strike p s m) m)
    go false h = h

-- with no client left to be looked at, the list is struck by the rule
pub looked_all : (p : ℕ → Bool) (list out rest : ℕ) → list < 2 ^ clients → Looked p list out rest → rest ≡ 0 → out ≡ strike p list clients
looked_all p list out rest h l e =
    same_members clients out (strike p list clients) l.out_fits (omega (arith, h, strike-le p list clients))
    (λ j. l.members j ∙ rw (e, member_above 0 0 j (omega arith) (omega arith), member-strike p list clients j) (go j (ltb j clients) refl))
  where
    none : (x : Bool) → (if x then false else false) ≡ false
    none true = refl
    none false = refl

    go : (j : ℕ) (b : Bool) → ltb j clients ≡ b → (if p j then false else member list j) ≡ (if b && p j then false else member list j)
    go j true q = refl
    go j false q = rw (member_above clients list j h (ltb-false j clients q)) (none (p j))
