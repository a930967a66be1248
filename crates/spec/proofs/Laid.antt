-- Laws of `layout`: what a buffer's bytes and rows are when other rows are in use.
-- Assumes nothing.
use Prim.Native.Nat.{ℕ, suc, ◌+◌, ◌*◌, ◌-◌, ◌≤◌, ◌<◌}
use mathlib.Core.Path.{◌≡◌, refl, ◌∙◌}
use mathlib.Core.List.{List, [], ◌∷◌, ◌++◌, append_assoc, append-nil, flatten}
use native.Mathlib.Nat.{add-zero, mul-zero, mul-suc, mul-sub}
use native.Mathlib.Omega.{arith}
use lib.ListN.{length, take, drop, get_or, set, replicate, length-append}
use Rattle.spec.specs.Rows.{Row, spliced, rows_in, layout}
use Rattle.spec.proofs.Bytes.{drop_later, drop-spliced}
use Rattle.spec.proofs.Rows.{length_rows, row_inside, Wide, rows_flat, flat_rows, flat_append, flat_front, rows_at, rows_replaced}

-- ---- what a call does to a buffer, by what the code does to it

-- the rows of a buffer b' that has the same bytes behind them
laid_kept : (w n : ℕ) (b b' : List ℕ) → drop (w * n) b' ≡ drop (w * n) b → layout w n (rows_in w n b') b ≡ b'
unfolding layout
laid_kept w n b b' e =
    let z : n - n ≡ 0 = omega arith in
    rw (length_rows w n b', z, mul-zero w, add-zero n, append-nil, ← e) (flat_rows w n b')

-- nothing changed
pub laid_same : (w n : ℕ) (b : List ℕ) → layout w n (rows_in w n b) b ≡ b
laid_same w n b = laid_kept w n b b refl

-- rows were removed
pub laid_fewer : (w n : ℕ) (rs : List Row) (s : List ℕ) → length rs ≤ n
    → layout w n rs s ≡ flatten rs ++ replicate (w * n - w * length rs) 0 ++ drop (w * n) s
unfolding layout
laid_fewer w n rs s h =
    let e : length rs + (n - length rs) ≡ n = omega arith in
    rw (e, mul-sub w n (length rs))

-- a row was added behind the last in use
pub laid_append : (w n : ℕ) (r b : List ℕ) → length r ≡ w → w * n ≤ length b → layout w n (rows_in w n b ++ (r ∷ [])) b ≡ spliced (w * n) r b
unfolding layout spliced flatten
laid_append w n r b h l =
    let e : length (rows_in w n b ++ (r ∷ [])) ≡ suc n = length-append (rows_in w n b) (r ∷ []) ∙ rw (length_rows w n b) (omega arith) in
    let z : n - suc n ≡ 0 = omega arith in
    let f : flatten (rows_in w n b ++ (r ∷ [])) ≡ take (w * n) b ++ r = flat_append (rows_in w n b) (r ∷ []) ∙ rw (append-nil r, flat_front w n b l) in
    rw (e, z, mul-zero w, add-zero (suc n), append-nil, f, mul-suc w n, h)

-- a row was written over in part
pub laid_set : (w n i at : ℕ) (v b : List ℕ) → i < n → at + length v ≤ w → w * n ≤ length b
    → layout w n (set (rows_in w n b) i (spliced at v (get_or (rows_in w n b) i []))) b ≡ spliced (w * i + at) v b
laid_set w n i at v b h g l =
    let in_row : w * i + w ≤ length b = row_inside w i n (length b) h l in
    let before : w * i + w ≤ w * n = row_inside w i n (w * n) h (omega arith) in
    let rest : drop (w * n) (spliced (w * i + at) v b) ≡ drop (w * n) b =
    drop_later (w * i + at + length v) (w * n) (spliced (w * i + at) v b) b (omega arith)
    (drop-spliced (w * i + at) v b (w * i + at + length v) refl (omega arith)) in
    rw (rows_at w n i b h, ← rows_replaced w n i at v b h g l) (laid_kept w n b (spliced (w * i + at) v b) rest)

-- ---- what is read back

pub rows_laid : (w n : ℕ) (rs : List Row) (b : List ℕ) → Wide w rs → rows_in w (length rs) (layout w n rs b) ≡ rs
unfolding layout
rows_laid w n rs b h = rw append_assoc (rows_flat w rs (replicate (w * (n - length rs)) 0 ++ drop (w * (length rs + (n - length rs))) b) h)
