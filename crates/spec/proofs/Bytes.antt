-- Laws of bytes in a buffer: numbers, what a store leaves, a part that was lent.
-- Assumes nothing.
use Prim.Native.Nat.{ℕ, zero, suc, ◌+◌, ◌*◌, ◌-◌, ◌/◌, ◌%◌, ◌≤◌, ◌<◌}
use mathlib.Core.Path.{◌≡◌, refl, sym, ap, ◌∙◌}
use mathlib.Core.List.{List, [], ◌∷◌, ◌++◌, append_assoc, append-nil}
use native.Mathlib.Nat.{add_assoc, add-zero, not-suc-le-zero}
use native.Mathlib.Numerals.{towards_suc}
use native.Mathlib.Omega.{arith}
use lib.ListN.{length, take, drop, get_or, set, length-append, length-drop, take-append-drop, replicate}
use lib.Seq.{drop-cons, sets-eq, take_at, drop_at, length-take-le, drop-drop, drop-append-le, take-take}
use lib.Seq.{take-add, drop-length}
use borrow.Rule.Slice.PartMut.{put_mid}
use Rattle.spec.specs.Rows.{part, number, bytes_of, spliced, data_row, commit_row}

-- ---- numbers

number_more : (k : ℕ) (s : List ℕ) (at : ℕ) → at < length s → number (part at (suc k) s) ≡ get_or s at 0 + 256 * number (part (suc at) k s)
unfolding number
number_more k s at h = rw (drop-cons s at 0 h)

pub number_two : (s : List ℕ) (at : ℕ) → at + 2 ≤ length s → number (part at 2 s) ≡ get_or s at 0 + 256 * get_or s (at + 1) 0
unfolding number
number_two s at h =
    simp towards_suc
    (number_more 1 s at (omega arith) ∙ ap (λ (n : ℕ). get_or s at 0 + 256 * n) (number_more 0 s (suc at) (omega arith) ∙ omega arith))

pub number_four : (s : List ℕ) (at : ℕ) → at + 4 ≤ length s
    → number (part at 4 s) ≡ get_or s at 0 + 256 * (get_or s (at + 1) 0 + 256 * (get_or s (at + 2) 0 + 256 * get_or s (at + 3) 0))
unfolding number
number_four s at h =
    simp towards_suc
    (omega (
      arith,
      number_more 3 s at (omega arith),
      number_more 2 s (suc at) (omega arith),
      number_more 1 s (suc (suc at)) (omega arith),
      number_more 0 s (suc (suc (suc at))) (omega arith),
    ))

-- ---- stores

pub spliced_four : (s : List ℕ) (at a b c d : ℕ) → at + 4 ≤ length s
    → set (set (set (set s at a) (at + 1) b) (at + 2) c) (at + 3) d ≡ spliced at (a ∷ b ∷ c ∷ d ∷ []) s
unfolding spliced
spliced_four s at a b c d h = simp towards_suc (simp towards_suc at (sets-eq (a ∷ b ∷ c ∷ d ∷ []) s at h))

-- the end of a loop that fills
pub fill_all : (d : List ℕ) (v n : ℕ) → n ≡ length d → replicate n v ++ drop n d ≡ replicate (length d) v
fill_all d v n h = rw (h, drop-length, append-nil)

pub spliced_next : (s u v : List ℕ) (at n : ℕ) → at + length u ≡ n → n ≤ length s → spliced n v (spliced at u s) ≡ spliced at (u ++ v) s
unfolding spliced
spliced_next s u v at n e h =
    let k : at ≤ length s = omega arith in
    let l : length (take at s ++ u) ≡ n = length-append (take at s) u ∙ rw (length-take-le at s k) e in
    let d : drop (n + length v) (take at s ++ u ++ drop (at + length u) s) ≡ drop (at + length (u ++ v)) s =
    sym (drop-drop (length v) n (take at s ++ u ++ drop (at + length u) s))
    ∙ rw (drop_at (take at s ++ u) (drop (at + length u) s) n l, drop-drop, length-append, add_assoc) in
    rw (take_at (take at s ++ u) (drop (at + length u) s) n l, d, append_assoc (take at s) u v)

-- what lies before, up to the end of, and behind what was put in
module _ (at : ℕ) (v s : List ℕ) (n : ℕ) (e : at + length v ≡ n) (h : n ≤ length s) where
  front_length : length (take at s ++ v) ≡ n
  front_length =
      let k : at ≤ length s = omega arith in
      length-append (take at s) v ∙ rw (length-take-le at s k) e

  pub take-spliced : take n (spliced at v s) ≡ take at s ++ v
  unfolding spliced
  take-spliced = take_at (take at s ++ v) (drop (at + length v) s) n front_length

  pub drop-spliced : drop n (spliced at v s) ≡ drop n s
  unfolding spliced
  drop-spliced = drop_at (take at s ++ v) (drop (at + length v) s) n front_length ∙ rw e

  pub length-spliced : length (spliced at v s) ≡ length s
  unfolding spliced
  length-spliced = length-append (take at s ++ v) (drop (at + length v) s) ∙ simp (length-drop, front_length) (omega arith)

pub take_before : (at : ℕ) (v s : List ℕ) → at ≤ length s → take at (spliced at v s) ≡ take at s
unfolding spliced
take_before at v s h = rw append_assoc (take_at (take at s) (v ++ drop (at + length v) s) at (length-take-le at s h))

-- a part that was lent, `&mut xs[a..a + k]`, and spliced, is spliced in the whole
pub lent_spliced : (xs v : List ℕ) (a k j : ℕ) → a + k ≤ length xs → j + length v ≤ k
    → put_mid a k xs (spliced j v (part a k xs)) ≡ spliced (a + j) v xs
unfolding spliced
lent_spliced xs v a k j h g =
    let rest : List ℕ = drop a xs in
    let l : length (take k rest) ≡ k = length-take-le k rest (simp length-drop (omega arith)) in
    let d : drop (j + length v) (take k rest) ++ drop k rest ≡ drop (a + j + length v) xs =
    sym (drop-append-le (j + length v) (take k rest) (drop k rest) (omega arith))
    ∙ rw (take-append-drop k rest, drop-drop, add_assoc) in
    rw (take-take j k rest (omega arith), take-add a j xs) (simp append_assoc (rw d))

pub lent_tail : (xs v : List ℕ) (a : ℕ) → a + length v ≤ length xs
    → put_mid a (length xs - a) xs (spliced 0 v (part a (length xs - a) xs)) ≡ spliced a v xs
lent_tail xs v a h = lent_spliced xs v a (length xs - a) 0 (omega arith) (omega arith) ∙ rw add-zero

pub row_written : (tag cell : ℕ) (value s : List ℕ) → cell < 65536 → 8 ≤ length s
    → spliced 8 value (spliced 4 (bytes_of 4 cell) (spliced 0 (bytes_of 4 tag) s)) ≡ spliced 0 (data_row tag cell value) s
unfolding bytes_of data_row
row_written tag cell value s h l =
    let third : cell / 256 / 256 % 256 ≡ 0 = omega arith in
    let fourth : cell / 256 / 256 / 256 % 256 ≡ 0 = omega arith in
    rw (
      spliced_next s (bytes_of 4 tag) (bytes_of 4 cell) 0 4 refl (omega arith),
      spliced_next s (bytes_of 4 tag ++ bytes_of 4 cell) value 0 8
          refl l,
      third,
      fourth,
    )

pub length-data_row : (tag cell : ℕ) (value : List ℕ) → length (data_row tag cell value) ≡ 8 + length value
unfolding bytes_of data_row
length-data_row tag cell value = omega arith

pub commit_written : (n tag : ℕ) (s : List ℕ) → 8 ≤ length s → spliced 4 (bytes_of 4 tag) (spliced 0 (bytes_of 4 n) s) ≡ spliced 0 (commit_row n tag) s
unfolding bytes_of commit_row
commit_written n tag s l = spliced_next s (bytes_of 4 n) (bytes_of 4 tag) 0 4 refl (omega arith)

pub length-commit_row : (n tag : ℕ) → length (commit_row n tag) ≡ 8
unfolding bytes_of commit_row
length-commit_row n tag = refl

-- ---- parts of parts

pub part-take : (k m w : ℕ) (l : List ℕ) → k + m ≤ w → part k m (take w l) ≡ part k m l
part-take zero m w l h = take-take m w l (omega arith)
part-take (suc k) m zero l h = absurd (not-suc-le-zero {n = k + m} (omega arith))
part-take (suc k) m (suc w) [] h = refl
part-take (suc k) m (suc w) (x ∷ l) h = part-take k m w l (omega arith)

pub part-part : (k m at w : ℕ) (s : List ℕ) → k + m ≤ w → part k m (part at w s) ≡ part (at + k) m s
part-part k m at w s h = part-take k m w (drop at s) h ∙ rw drop-drop

-- lists that agree from a on agree from b on
pub drop_later : (a b : ℕ) (x y : List ℕ) → a ≤ b → drop a x ≡ drop a y → drop b x ≡ drop b y
drop_later a b x y h e =
    let j : a + (b - a) ≡ b = omega arith in
    rw (← j, ← drop-drop (b - a) a x, ← drop-drop (b - a) a y, e)

-- ---- a number that was written is read back

pub number_bytes_four : (x : ℕ) → x < 4294967296 → number (bytes_of 4 x) ≡ x
unfolding number bytes_of
number_bytes_four x h = omega arith

pub number_bytes_two : (x : ℕ) → x < 65536 → number (bytes_of 2 x) ≡ x
unfolding number bytes_of
number_bytes_two x h = omega arith
