-- The search for a newline: one byte of it, the eights that are passed, and the first place that the library finds.
-- Assumes nothing.
use Prim.Native.Nat.{ℕ, zero, suc, ◌+◌, ◌*◌, ◌-◌, ◌≤◌, ◌<◌}
use mathlib.Core.Path.{◌≡◌, ◌∙◌, sym}
use mathlib.Core.List.{List, []}
use native.Mathlib.Numerals.{add-one}
use native.Mathlib.Omega.{arith}
use borrow.Author.Tests.{eq-eqb, ne_eqb}
use lib.Dec.{eqb}
use lib.Lanes.{chunk}
use mathlib.Core.Bool.{Bool, true, false}
use lib.ListN.{length, get_or, take, drop, length-drop, drop_of_length-le}
use lib.Seq.{get_or-drop, drop-cons, drop-drop}
use Rattle.std.specs.Prelude.{Option, Some, None}
use Rattle.std.specs.List.{AllWithin, HoldsAt, list_any}
use Rattle.std.specs.Option.{MatchOption, unwrap_or}
use Rattle.std.specs.Simd.{first_chunks}
use Rattle.std.proofs.lemmas.List.Folds.{list_any_at}
use Rattle.std.proofs.lemmas.Simd.{length-chunk, get_or-chunk}
use Rattle.scanning.specs.Inner.{newline_from, NoNewline}

module _ (s : List ℕ) (i : ℕ) where
  pub newline_end : length s ≤ i → newline_from i (drop i s) ≡ i
  unfolding newline_from
  newline_end h = rw (drop_of_length-le s h)

  pub newline_found : i < length s → get_or s i 0 ≡ 10 → newline_from i (drop i s) ≡ i
  unfolding newline_from
  newline_found h e = rw (drop-cons s i 0 h, eq-eqb (get_or s i 0) 10 e)

  pub newline_more : i < length s → (get_or s i 0 ≡ 10 → ⊥) → newline_from i (drop i s) ≡ newline_from (i + 1) (drop (i + 1) s)
  unfolding newline_from
  newline_more h n = rw (drop-cons s i 0 h, ne_eqb (get_or s i 0) 10 n, add-one i)

-- none of n bytes is a newline
pub newlines_past : (s : List ℕ) (i n : ℕ) → i + n ≤ length s → ((k : ℕ) → i ≤ k → k < i + n → get_or s k 0 ≡ 10 → ⊥) → NoNewline s i (i + n)
newlines_past s i zero h f = let z : i + 0 ≡ i = omega arith in rw z
newlines_past s i (suc n) h f =
    let z : i + 1 + n ≡ i + suc n = omega arith in
    newline_more s i (omega arith) (f i (omega arith) (omega arith))
    ∙ rw z at (newlines_past s (i + 1) n (omega arith) (λ k l u. f k (omega arith) (omega arith)))

-- what stands at a place of the bytes from i on
at_rest : (s : List ℕ) (i k : ℕ) → i ≤ k → get_or (drop i s) (k - i) 0 ≡ get_or s k 0
at_rest s i k h = let e : i + (k - i) ≡ k = omega arith in get_or-drop i s (k - i) 0 ∙ rw e

-- the search by the first newline of the bytes from i on, or by their number
pub newline_at : (s : List ℕ) (i : ℕ) (r : Option ℕ) → i ≤ length s
    → MatchOption r (AllWithin (λ b. b ≡ 10 → ⊥) (drop i s) 0 (length (drop i s)))
    (λ j. (j < length (drop i s)) × HoldsAt (λ b. b ≡ 10) (drop i s) j × AllWithin (λ b. b ≡ 10 → ⊥) (drop i s) 0 j)
    → i + unwrap_or r (length (drop i s)) ≡ newline_from i (drop i s)
newline_at s i None h f =
    let l : length (drop i s) ≡ length s - i = length-drop i s in
    let e : i + length (drop i s) ≡ length s = omega (arith, l) in
    sym (newlines_past s i (length (drop i s)) (omega arith)
    (λ k g u n. f (k - i) 0 (omega arith) (omega arith) (at_rest s i k g ∙ n))
    ∙ newline_end s (i + length (drop i s)) (omega arith))
newline_at s i (Some j) h f =
    let l : length (drop i s) ≡ length s - i = length-drop i s in
    let e : i + j - i ≡ j = omega arith in
    sym (newlines_past s i j (omega (arith, l, f.0))
    (λ k g u n. f.2 (k - i) 0 (omega arith) (omega arith) (at_rest s i k g ∙ n))
    ∙ newline_found s (i + j) (omega (arith, l, f.0)) (sym (get_or-drop i s j 0) ∙ f.1 0))

-- whether a newline is among some bytes, as the library asks
abbrev pub has_newline : List ℕ → Bool
has_newline = list_any (λ b. eqb b 10)

-- an eight without a newline
none_in_eight : (s : List ℕ) (i : ℕ) → i + 8 ≤ length s → has_newline (take 8 (drop i s)) ≡ false → NoNewline s i (i + 8)
none_in_eight s i h f =
    newlines_past s i 8 h (λ k g u n.
    let e : i + (k - i) ≡ k = omega arith in
    let l : k - i < length (chunk i 8 s) = simp (length-chunk i 8 s h) (omega arith) in
    let t : get_or (chunk i 8 s) (k - i) 0 ≡ 10 = get_or-chunk i 8 s (k - i) 0 (omega arith) ∙ rw e n in
    let y : has_newline (chunk i 8 s) ≡ true = list_any_at (λ b. eqb b 10) (chunk i 8 s) (k - i) 0 l (eq-eqb _ 10 t) in
    cc)

-- eights without a newline
pub eights_past : (s : List ℕ) (i m e : ℕ) → i + 8 * m ≤ length s → e ≤ m
    → AllWithin (λ c. has_newline c ≡ false) (first_chunks 8 m (drop i s)) 0 e → NoNewline s i (i + 8 * e)
eights_past s i m zero h g f = let z : i + 8 * 0 ≡ i = omega arith in rw z
eights_past s i zero (suc e) h g f = elim g [ ]
eights_past s i (suc m) (suc e) h g f =
    let z : i + 8 + 8 * e ≡ i + 8 * suc e = omega arith in
    let a : AllWithin (λ c. has_newline c ≡ false) (first_chunks 8 m (drop 8 (drop i s))) 0 e = (λ k x l u. f (suc k) x (omega arith) (omega arith)) in
    none_in_eight s i (omega arith) (f 0 [] (omega arith) (omega arith))
    ∙ rw z at (eights_past s (i + 8) m e (omega arith) (omega arith)
    (rw (drop-drop 8 i s) at a))

-- the search by the first of the eights that has one, or by their number
pub eights_found : (s : List ℕ) (i m : ℕ) (r : Option ℕ) → i + 8 * m ≤ length s
    → MatchOption r (AllWithin (λ c. has_newline c ≡ false) (first_chunks 8 m (drop i s)) 0 m)
    (λ j. (j < m) × HoldsAt (λ c. has_newline c ≡ true) (first_chunks 8 m (drop i s)) j
    × AllWithin (λ c. has_newline c ≡ false) (first_chunks 8 m (drop i s)) 0 j)
    → NoNewline s i (i + 8 * unwrap_or r m)
eights_found s i m None h f = eights_past s i m m h (omega arith) f
eights_found s i m (Some j) h f = eights_past s i m j h (omega (arith, f.0)) f.2
