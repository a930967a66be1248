-- Laws of rows in a buffer, for callers that speak of rows and not of bytes.
-- A loop over rows says that what is wanted of all rows is what is wanted of the rows from i on (`rows_from`): `rows_start`, `rows_step`, `rows_end`.
-- Assumes nothing.
use Prim.Native.Nat.{ℕ, zero, suc, ◌+◌, ◌*◌, ◌-◌, ◌≤◌, ◌<◌}
use mathlib.Core.Path.{◌≡◌, refl, sym, ap, ◌∙◌}
use mathlib.Core.Bool.{Bool, true, false}
use mathlib.Core.List.{List, [], ◌∷◌, ◌++◌, append_assoc, flatten}
use native.Mathlib.Nat.{add-zero, add_comm, mul-zero, mul-suc, mul-le-mul_left, sub-zero, not-suc-le-zero}
use native.Mathlib.Numerals.{add-one}
use native.Mathlib.Decide.{dec_lt}
use native.Mathlib.Omega.{arith}
use lib.ListN.{length, take, drop, get_or, set, length-append, length-drop, length-set, take-append-drop}
use lib.Seq.{take_at, drop_at, length-take-le, drop-drop, take_all, ext_get_or, get_or-set_same, get_or-set_other}
use Rattle.std.specs.Prelude.{if◌then◌else◌}
use Rattle.spec.specs.Rows.{Row, part, number, bytes_of, spliced, data_row, tag_of, cell_of, value_of, commit_row, commit_number, commit_tag}
use Rattle.spec.specs.Rows.{row_at, rows_in, rows_from, filter}
use Rattle.spec.proofs.Bytes.{part-take, part-part, take_before, drop_later, drop-spliced, length-spliced, lent_spliced}
use Rattle.spec.proofs.Bytes.{number_bytes_four, number_bytes_two}

-- ---- rows one after the other

pub rows_start : (w n : ℕ) (s : List ℕ) → rows_in w n s ≡ rows_from w n 0 s
unfolding rows_from
rows_start w n s = simp (mul-zero, sub-zero)

pub rows_end : (w n i : ℕ) (s : List ℕ) → n ≤ i → rows_from w n i s ≡ []
unfolding rows_from rows_in
rows_end w n i s h =
    let e : n - i ≡ 0 = omega arith in
    rw e

pub rows_step : (w n i : ℕ) (s : List ℕ) → i < n → rows_from w n i s ≡ row_at w i s ∷ rows_from w n (i + 1) s
unfolding rows_from rows_in row_at
rows_step w n i s h =
    let e : n - i ≡ suc (n - (i + 1)) = omega arith in
    rw (e, drop-drop, add-one i, mul-suc w i)

-- ---- where a row stands

-- row i of n lies within a list of n rows or more
pub row_inside : (w i n l : ℕ) → i < n → w * n ≤ l → w * i + w ≤ l
row_inside w i n l h g =
    let m : w * suc i ≤ w * n = mul-le-mul_left w h in
    let e : w * suc i ≡ w * i + w = mul-suc w i in
    omega arith

pub row_length : (w i : ℕ) (s : List ℕ) → w * i + w ≤ length s → length (row_at w i s) ≡ w
unfolding row_at
row_length w i s h = length-take-le w (drop (w * i) s) (simp length-drop (omega arith))

pub length_rows : (w n : ℕ) (s : List ℕ) → length (rows_in w n s) ≡ n
unfolding rows_in
length_rows w zero s = refl
length_rows w (suc n) s = ap suc (length_rows w n (drop w s))

-- ---- fields

-- a field of a row, read where it stands in the buffer
pub field : (k m w i : ℕ) (s : List ℕ) → k + m ≤ w → number (part (w * i + k) m s) ≡ number (part k m (row_at w i s))
unfolding row_at
field k m w i s h = ap number (sym (part-part k m (w * i) w s h))

pub field_first : (m w i : ℕ) (s : List ℕ) → m ≤ w → number (part (w * i) m s) ≡ number (part 0 m (row_at w i s))
field_first m w i s h = rw (← add-zero (w * i)) (field 0 m w i s (omega arith))

pub value_part : (i : ℕ) (s : List ℕ) → part (24 * i + 8) 16 s ≡ value_of (row_at 24 i s)
unfolding value_of row_at
value_part i s = sym (part-part 8 16 (24 * i) 24 s (omega arith))

-- the fields of a row that was written
pub tag_of_data_row : (tag cell : ℕ) (value : List ℕ) → tag < 4294967296 → tag_of (data_row tag cell value) ≡ tag
unfolding tag_of data_row bytes_of
tag_of_data_row tag cell value h = number_bytes_four tag h

pub cell_of_data_row : (tag cell : ℕ) (value : List ℕ) → cell < 65536 → cell_of (data_row tag cell value) ≡ cell
unfolding cell_of data_row bytes_of
cell_of_data_row tag cell value h = number_bytes_two cell h

pub value_of_data_row : (tag cell : ℕ) (value : List ℕ) → length value ≡ 16 → value_of (data_row tag cell value) ≡ value
unfolding value_of data_row bytes_of
value_of_data_row tag cell value h = take_all 16 value (omega arith)

pub commit_number-commit_row : (n tag : ℕ) → n < 4294967296 → commit_number (commit_row n tag) ≡ n
unfolding commit_number commit_row bytes_of
commit_number-commit_row n tag h = number_bytes_four n h

pub commit_tag-commit_row : (n tag : ℕ) → tag < 4294967296 → commit_tag (commit_row n tag) ≡ tag
unfolding commit_tag commit_row bytes_of
commit_tag-commit_row n tag h = number_bytes_four tag h

-- ---- rows and bytes

-- every row has w bytes
abbrev pub Wide : ℕ → List Row → Type 0
Wide w [] = Unit {0}
Wide w (r ∷ rs) = (length r ≡ w) × Wide w rs

-- the rows of rows that stand one after the other
pub rows_flat : (w : ℕ) (rs : List Row) (t : List ℕ) → Wide w rs → rows_in w (length rs) (flatten rs ++ t) ≡ rs
unfolding rows_in flatten
rows_flat w [] t h = refl
rows_flat w (r ∷ rs) t h =
    rw (append_assoc r (flatten rs) t, take_at r (flatten rs ++ t) w h.0, drop_at r (flatten rs ++ t) w h.0, rows_flat w rs t h.1)

pub rows_wide : (w n : ℕ) (s : List ℕ) → w * n ≤ length s → Wide w (rows_in w n s)
unfolding rows_in
rows_wide w zero s h = tt
rows_wide w (suc n) s h =
    let m : w * suc n ≡ w * n + w = mul-suc w n in
    (length-take-le w s (omega arith), rows_wide w n (drop w s) (simp length-drop (omega arith)))

-- a buffer is its rows, and what lies behind them
pub flat_rows : (w n : ℕ) (s : List ℕ) → flatten (rows_in w n s) ++ drop (w * n) s ≡ s
unfolding rows_in flatten
flat_rows w zero s = rw mul-zero
flat_rows w (suc n) s =
    let m : w + w * n ≡ w * suc n = omega (arith, mul-suc w n) in
    rw (← m, ← drop-drop (w * n) w s, append_assoc, flat_rows w n (drop w s)) (take-append-drop w s)

pub length_flat : (w : ℕ) (rs : List Row) → Wide w rs → length (flatten rs) ≡ w * length rs
unfolding flatten
length_flat w [] h = rw mul-zero
length_flat w (r ∷ rs) h = length-append r (flatten rs) ∙ rw (h.0, length_flat w rs h.1, mul-suc) (omega arith)

pub flat_append : (xs ys : List Row) → flatten (xs ++ ys) ≡ flatten xs ++ flatten ys
unfolding flatten
flat_append [] ys = refl
flat_append (x ∷ xs) ys = rw (flat_append xs ys, append_assoc)

pub wide_append : (w : ℕ) (xs ys : List Row) → Wide w xs → Wide w ys → Wide w (xs ++ ys)
wide_append w [] ys h g = g
wide_append w (x ∷ xs) ys h g = (h.0, wide_append w xs ys h.1 g)

pub flat_front : (w n : ℕ) (s : List ℕ) → w * n ≤ length s → take (w * n) s ≡ flatten (rows_in w n s)
flat_front w n s l =
    ap (take (w * n)) (sym (flat_rows w n s))
    ∙ take_at (flatten (rows_in w n s)) (drop (w * n) s) (w * n) (length_flat w (rows_in w n s) (rows_wide w n s l) ∙ rw (length_rows w n s))

pub filter_wide : (w : ℕ) (p : Row → Bool) (rs : List Row) → Wide w rs → Wide w (filter p rs)
unfolding filter
filter_wide w p [] h = tt
filter_wide w p (r ∷ rs) h = go (p r) (filter_wide w p rs h.1)
  where
    go : (b : Bool) → Wide w (filter p rs) → Wide w (if b then (r ∷ filter p rs) else filter p rs)
    go true g = (h.0, g)
    go false g = g

pub filter_fewer : (p : Row → Bool) (rs : List Row) → length (filter p rs) ≤ length rs
unfolding filter
filter_fewer p [] = omega arith
filter_fewer p (r ∷ rs) = go (p r) (filter_fewer p rs)
  where
    go : (b : Bool) → length (filter p rs) ≤ length rs → length (if b then (r ∷ filter p rs) else filter p rs) ≤ suc (length rs)
    go true h = omega arith
    go false h = omega arith

-- ---- a row was replaced in part

pub rows_at : (w n k : ℕ) (s : List ℕ) → k < n → get_or (rows_in w n s) k [] ≡ row_at w k s
unfolding rows_in row_at
rows_at w zero k s h = absurd (not-suc-le-zero h)
rows_at w (suc n) zero s h = rw mul-zero
rows_at w (suc n) (suc k) s h = rows_at w n k (drop w s) (omega arith) ∙ rw (drop-drop, mul-suc w k)
    (ap (λ (m : ℕ). take w (drop m s)) (add_comm w (w * k)))

-- a row that lies before or behind what was put in
row_before : (w k at : ℕ) (v s : List ℕ) → w * k + w ≤ at → at ≤ length s → row_at w k (spliced at v s) ≡ row_at w k s
unfolding row_at
row_before w k at v s h l =
    sym (part-take (w * k) w at (spliced at v s) h) ∙ ap (part (w * k) w) (take_before at v s l) ∙ part-take (w * k) w at s h

row_behind : (w k at : ℕ) (v s : List ℕ) → at + length v ≤ w * k → w * k ≤ length s → row_at w k (spliced at v s) ≡ row_at w k s
unfolding row_at
row_behind w k at v s h l = ap (take w) (drop_later (at + length v) (w * k) (spliced at v s) s h
    (drop-spliced at v s (at + length v) refl (omega arith)))

row_inner : (w i at : ℕ) (v s : List ℕ) → at + length v ≤ w → w * i + w ≤ length s → row_at w i (spliced (w * i + at) v s) ≡ spliced at v (row_at w i s)
unfolding row_at
row_inner w i at v s h l =
    let mid : List ℕ = part (w * i) w s in
    let m : length mid ≡ w = length-take-le w (drop (w * i) s) (simp length-drop (omega arith)) in
    let y : length (spliced at v mid) ≡ w = length-spliced at v mid (at + length v) refl (omega arith) ∙ m in
    ap (part (w * i) w) (sym (lent_spliced s v (w * i) w at l h))
    ∙ ap (take w) (drop_at (take (w * i) s) (spliced at v mid ++ drop w (drop (w * i) s)) (w * i) (length-take-le (w * i) s (omega arith)))
    ∙ take_at (spliced at v mid) (drop w (drop (w * i) s)) w y

pub rows_replaced : (w n i at : ℕ) (v s : List ℕ) → i < n → at + length v ≤ w → w * n ≤ length s
    → rows_in w n (spliced (w * i + at) v s) ≡ set (rows_in w n s) i (spliced at v (row_at w i s))
rows_replaced w n i at v s h g l =
    ext_get_or [] (rows_in w n (spliced (w * i + at) v s)) (set (rows_in w n s) i (spliced at v (row_at w i s))) (simp (length-set, length_rows))
    (λ k q. at_row k (omega (arith, length_rows w n (spliced (w * i + at) v s))) (dec_lt k i) (dec_lt i k))
  where
    inside : w * i + w ≤ length s
    inside = row_inside w i n (length s) h l

    other : (k : ℕ) → k < n → (k ≡ i → ⊥) → row_at w k (spliced (w * i + at) v s) ≡ row_at w k s
        → get_or (rows_in w n (spliced (w * i + at) v s)) k [] ≡ get_or (set (rows_in w n s) i (spliced at v (row_at w i s))) k []
    other k q ne e =
        rows_at w n k (spliced (w * i + at) v s) q ∙ e ∙ sym (rows_at w n k s q)
        ∙ sym (get_or-set_other (rows_in w n s) i k (spliced at v (row_at w i s)) [] ne)

    at_row : (k : ℕ) → k < n → Dec (k < i) → Dec (i < k)
        → get_or (rows_in w n (spliced (w * i + at) v s)) k [] ≡ get_or (set (rows_in w n s) i (spliced at v (row_at w i s))) k []
    at_row k q (yes b) d =
        other k q (λ e. omega arith) (row_before w k (w * i + at) v s (omega (arith, row_inside w k i (w * i) b (omega arith)))
        (omega (arith, inside)))
    at_row k q (no nb) (yes b) =
        other k q (λ e. omega arith)
        (row_behind w k (w * i + at) v s (omega (arith, row_inside w i k (w * k) b (omega arith))) (omega (arith, row_inside w k n (length s) q l)))
    at_row k q (no nb) (no nd) =
        let e : k ≡ i = omega (arith, nb, nd) in
        rw e (rows_at w n i (spliced (w * i + at) v s) h ∙ row_inner w i at v s g inside ∙ sym
        (get_or-set_same (rows_in w n s) i (spliced at v (row_at w i s)) [] (omega (arith, length_rows w n s))))
