-- The compaction. A loop moves the rows to be kept to the front, whatever they are chosen by: before row i, `to` rows stand at the front, what is
-- still to come is what is kept of the rows from i on, and from row `to` on the bytes are the old ones. The rows before the first that goes stand
-- where they were.
-- Assumes nothing.
use Prim.Native.Nat.{ℕ, zero, suc, ◌+◌, ◌*◌, ◌-◌, ◌≤◌, ◌<◌}
use mathlib.Core.Path.{◌≡◌, refl, sym, ap, ◌∙◌}
use mathlib.Core.List.{List, [], ◌∷◌, ◌++◌, append_assoc, append-nil, flatten}
use mathlib.Core.Bool.{Bool, true, false, not}
use lib.Dec.{eqb}
use native.Mathlib.Nat.{mul-zero, mul-suc, mul-le-mul_left}
use native.Mathlib.Numerals.{add-one}
use native.Mathlib.Omega.{arith}
use borrow.Author.Count.{below_more}
use borrow.Rule.Slice.PartMut.{put_mid, Post-is}
use borrow.Author.Tests.{eq-eqb, ne_eqb, eqb-false}
use lib.ListN.{length, set, take, drop, get_or, replicate, length-append, length-drop, take-append-drop}
use lib.Seq.{take_all, take_at, drop_at, take-add, length-take-le, get_or-set_same, get_or-set_other}
use Rattle.std.specs.Prelude.{if◌then◌else◌}
use Rattle.spec.specs.Rows.{Row, part, spliced, row_at, rows_in, rows_from, layout, filter, tag_of, has_tag}
use Rattle.spec.proofs.Bytes.{take-spliced, drop-spliced, length-spliced, drop_later}
use Rattle.spec.proofs.Rows.{rows_start, rows_step, rows_end, row_inside, row_length, length_rows}
use Rattle.spec.proofs.Laid.{laid_fewer, laid_same}
use Rattle.search.proofs.Folds.{to_start}
use Rattle.removal.specs.Inner.{kept_by, kept_from, other_tag, Flags, Left, InFront, Freed}

-- a row that is moved to where it is
in_place : (at n : ℕ) (s : List ℕ) → at + n ≤ length s → spliced at (part at n s) s ≡ s
unfolding spliced
in_place at n s h =
    let wide : length (part at n s) ≡ n = length-take-le n (drop at s) (simp length-drop (omega arith)) in
    rw (wide, ← take-add at n s) (take-append-drop (at + n) s)

-- ---- the rows that a test keeps

module _ (p : ℕ → Row → Bool) (w n i : ℕ) (s : List ℕ) where
  pub kept_no : i < n → p i (row_at w i s) ≡ false → kept_by p i (rows_from w n i s) ≡ kept_by p (i + 1) (rows_from w n (i + 1) s)
  unfolding kept_by
  kept_no h e = rw (rows_step w n i s h, e)

  pub kept_yes : i < n → p i (row_at w i s) ≡ true → kept_by p i (rows_from w n i s) ≡ row_at w i s ∷ kept_by p (i + 1) (rows_from w n (i + 1) s)
  unfolding kept_by
  kept_yes h e = rw (rows_step w n i s h, e)

  pub kept_end : n ≤ i → kept_by p i (rows_from w n i s) ≡ []
  unfolding kept_by
  kept_end h = rw (rows_end w n i s h)

-- by flags, and by a test of the row alone
abbrev pub flag_set : List ℕ → ℕ → Row → Bool
flag_set flags k r = not (eqb (get_or flags k 0) 0)

pub by_flags : (flags : List ℕ) (i : ℕ) (rs : List Row) → kept_by (flag_set flags) i rs ≡ kept_from flags i rs
unfolding kept_by kept_from
by_flags flags i [] = refl
by_flags flags i (r ∷ rs) = rw (by_flags flags (i + 1) rs) (by_flag (eqb (get_or flags i 0) 0) (kept_from flags (i + 1) rs))
  where
    by_flag : (b : Bool) (rest : List Row) → (if not b then (r ∷ rest) else rest) ≡ (if b then rest else (r ∷ rest))
    by_flag true rest = refl
    by_flag false rest = refl

pub by_test : (p : Row → Bool) (i : ℕ) (rs : List Row) → kept_by (λ k. p) i rs ≡ filter p rs
unfolding kept_by filter
by_test p i [] = refl
by_test p i (r ∷ rs) = rw (by_test p (i + 1) rs)

pub flag_kept : (flags : List ℕ) (k : ℕ) → (get_or flags k 0 ≡ 0 → ⊥) → not (eqb (get_or flags k 0) 0) ≡ true
flag_kept flags k h = rw (ne_eqb _ _ h)

module _ (flags : List ℕ) (w n i : ℕ) (s : List ℕ) where
  kept_none : i < n → get_or flags i 0 ≡ 0 → kept_from flags i (rows_from w n i s) ≡ kept_from flags (i + 1) (rows_from w n (i + 1) s)
  unfolding kept_from
  kept_none h e = rw (rows_step w n i s h, eq-eqb _ _ e)

  kept_one : i < n → (get_or flags i 0 ≡ 0 → ⊥) → kept_from flags i (rows_from w n i s) ≡ row_at w i s ∷ kept_from flags (i + 1) (rows_from w n (i + 1) s)
  unfolding kept_from
  kept_one h e = rw (rows_step w n i s h, ne_eqb _ _ e)

row_same : (w i : ℕ) (x y : List ℕ) → drop (w * i) x ≡ drop (w * i) y → part (w * i) w x ≡ row_at w i y
unfolding row_at
row_same w i x y e = ap (take w) e

-- a row alone
row_alone : (w : ℕ) (r : List ℕ) → length r ≡ w → row_at w 0 r ≡ r
unfolding row_at
row_alone w r h = rw mul-zero (take_all w r (omega arith))

-- ---- the walk: `K i` are the rows that are kept of those from row i on

-- after the first i of n rows of s, `to` rows are kept, at the front of buf
pub record Moving (K : ℕ → List Row) (w n : ℕ) (s buf : List ℕ) (to i : ℕ) : Type 0 where
  pub last : i ≤ n
  pub fewer : to ≤ i
  pub size : length buf ≡ length s
  pub count : to + length (K i) ≡ length (K 0)
  pub front : take (w * to) buf ++ flatten (K i) ≡ flatten (K 0)
  pub rest : drop (w * to) buf ≡ drop (w * to) s

module _ (K : ℕ → List Row) (w n : ℕ) (s : List ℕ) where
  pub moving_skip : (buf : List ℕ) (to i : ℕ) → i < n → K i ≡ K (i + 1) → Moving K w n s buf to i → Moving K w n s buf to (i + 1)
  moving_skip buf to i h k m =
      record {
        last = omega arith;
        fewer = omega arith;
        size = m.size;
        count = rw (← k) m.count;
        front = rw (← k) m.front;
        rest = m.rest;
      }

  module _ (l : w * n ≤ length s) where
    pub moving-keep : (buf : List ℕ) (to i : ℕ) → i < n → K i ≡ row_at w i s ∷ K (i + 1) → Moving K w n s buf to i
        → Moving K w n s (spliced (w * to) (part (w * i) w buf) buf) (to + 1) (i + 1)
    unfolding flatten
    moving-keep buf to i h k m =
        let inside : w * i + w ≤ length s = row_inside w i n (length s) h l in
        let low : w * to ≤ w * i = mul-le-mul_left w m.fewer in
        let row : part (w * i) w buf ≡ row_at w i s = row_same w i buf s (drop_later (w * to) (w * i) buf s low m.rest) in
        let wide : length (row_at w i s) ≡ w = row_length w i s inside in
        let next : w * to + length (row_at w i s) ≡ w * (to + 1) = rw (wide, add-one, mul-suc) in
        let room : w * (to + 1) ≤ length buf = omega arith in
        record {
          last = omega arith;
          fewer = omega arith;
          size = rw row (length-spliced (w * to) (row_at w i s) buf (w * (to + 1)) next room ∙ m.size);
          count = omega (arith, m.count, ap length k);
          front = rw (row, take-spliced (w * to) (row_at w i s) buf (w * (to + 1)) next room, append_assoc) (rw k at m.front);
          rest = rw (row, drop-spliced (w * to) (row_at w i s) buf (w * (to + 1)) next room)
              (drop_later (w * to) (w * (to + 1)) buf s (omega arith) m.rest);
        }

    -- the rows before the first that goes
    pub moving-start : (first : ℕ) → first ≤ n → ((k : ℕ) → k < first → K k ≡ row_at w k s ∷ K (k + 1)) → Moving K w n s s first first
    moving-start zero h stay =
        record {
          last = omega arith;
          fewer = omega arith;
          size = refl;
          count = omega arith;
          front = rw mul-zero;
          rest = refl;
        }
    moving-start (suc i) h stay =
        let m = moving-start i (omega arith) (λ k g. stay k (omega arith)) in
        let next = moving-keep s i i (omega arith) (stay i (omega arith)) m in
        rw (in_place (w * i) w s (row_inside w i n (length s) (omega arith) l), add-one i) at next

    pub moving-end : (rs : List Row) → K 0 ≡ rs → (buf : List ℕ) (to i : ℕ) → n ≤ i → K i ≡ [] → Moving K w n s buf to i → InFront w n rs s buf to
    unfolding flatten
    moving-end rs e buf to i h k m =
        let f : take (w * to) buf ≡ flatten rs = sym (append-nil (take (w * to) buf)) ∙ (rw (k, e) at m.front) in
        record {
          rows = omega (arith, m.count, ap length k, ap length e);
          fewer = omega arith;
          bytes = rw (← f, ← m.rest) (sym (take-append-drop (w * to) buf));
        }

-- ---- what is left is no more than what there was

kept_fewer : (flags : List ℕ) (i : ℕ) (rs : List Row) → length (kept_from flags i rs) ≤ length rs
unfolding kept_from
kept_fewer flags i [] = omega arith
kept_fewer flags i (r ∷ rs) = by_flag (eqb (get_or flags i 0) 0) (kept_fewer flags (i + 1) rs)
  where
    by_flag : (b : Bool) → length (kept_from flags (i + 1) rs) ≤ length rs
        → length (if b then kept_from flags (i + 1) rs else (r ∷ kept_from flags (i + 1) rs)) ≤ suc (length rs)
    by_flag true h = omega arith
    by_flag false h = omega arith

pub kept_at_most : (flags : List ℕ) (w n : ℕ) (s : List ℕ) → length (kept_from flags 0 (rows_in w n s)) ≤ n
kept_at_most flags w n s = omega (arith, kept_fewer flags 0 (rows_in w n s), length_rows w n s)

-- the places of row i and of the row that it becomes lie within the buffer
pub moving_room : (w n len to i : ℕ) → w * n ≤ len → i < n → to ≤ i → (w * to ≤ w * i) × (w * i + w ≤ len)
moving_room w n len to i l h m = (mul-le-mul_left w m, row_inside w i n len h l)

-- row i is still the one that it was
pub moving_row : (K : ℕ → List Row) (w n : ℕ) (s buf : List ℕ) (to i : ℕ) → Moving K w n s buf to i → part (w * i) w buf ≡ row_at w i s
moving_row K w n s buf to i m = row_same w i buf s (drop_later (w * to) (w * i) buf s (mul-le-mul_left w m.fewer) m.rest)

-- the freed part, cleared
freed_cleared : (w n r : ℕ) (kept : List Row) (s buf : List ℕ) → r ≡ length kept → r ≤ n → w * n ≤ length s
    → buf ≡ flatten kept ++ drop (w * r) s → length buf ≡ length s
    → put_mid (w * r) (w * n - w * r) buf (replicate (length (part (w * r) (w * n - w * r) buf)) 0) ≡ layout w n kept s
freed_cleared w n r kept s buf e g l f q =
    let low : w * r ≤ w * n = mul-le-mul_left w g in
    let front : length (flatten kept) ≡ w * r = omega (arith, length-append (flatten kept) (drop (w * r) s), ap length f, length-drop (w * r) s) in
    let size : length (part (w * r) (w * n - w * r) buf) ≡ w * n - w * r =
    length-take-le (w * n - w * r) (drop (w * r) buf) (simp length-drop (omega arith)) in
    let t : take (w * r) buf ≡ flatten kept = rw f (take_at (flatten kept) (drop (w * r) s) (w * r) front) in
    let d : drop (w * r) buf ≡ drop (w * r) s = rw f (drop_at (flatten kept) (drop (w * r) s) (w * r) front) in
    rw (size, t, Post-is (w * r) (w * n) buf low, drop_later (w * r) (w * n) buf s low d, laid_fewer w n kept s (omega arith), ← e, append_assoc)

pub freed : (w n r : ℕ) (buf : List ℕ) → r ≤ n → w * n ≤ length buf
    → Freed w n r buf (put_mid (w * r) (w * n - w * r) buf (replicate (length (part (w * r) (w * n - w * r) buf)) 0))
freed w n r buf g l =
    record { left = λ rs s f q. record { rows = f.rows; bytes = freed_cleared w n r rs s buf f.rows g (omega arith) f.bytes q } }

-- ---- flags

-- the flag of a row that passes is not 0
pub flag_stays : (p : Row → Bool) (flags : List ℕ) (w n : ℕ) (s : List ℕ) (k : ℕ) → Flags p w n s flags → k < n → p (row_at w k s) ≡ true
    → get_or flags k 0 ≡ 0 → ⊥
flag_stays p flags w n s k h l e z = eqb-false 1 0 refl (sym (h.each k l ∙ rw e) ∙ z)

-- flags that were made by a test keep the rows that pass it
pub kept_where : (p : Row → Bool) (flags : List ℕ) (w n : ℕ) (s : List ℕ) → Flags p w n s flags
    → kept_from flags 0 (rows_in w n s) ≡ filter p (rows_in w n s)
unfolding filter kept_from
kept_where p flags w n s h =
    rw (rows_start w n s)
    (to_start (λ i. kept_from flags i (rows_from w n i s) ≡ filter p (rows_from w n i s)) n (rw (rows_end w n n s (omega arith)))
    (λ i l rest. step (p (row_at w i s)) i refl l rest))
  where
    step : (b : Bool) (i : ℕ) → p (row_at w i s) ≡ b → i < n
        → kept_from flags (i + 1) (rows_from w n (i + 1) s) ≡ filter p (rows_from w n (i + 1) s)
        → kept_from flags i (rows_from w n i s) ≡ filter p (rows_from w n i s)
    step true i e l rest = kept_one flags w n i s l (flag_stays p flags w n s i h l e) ∙ rw (rows_step w n i s l, e, rest)
    step false i e l rest = kept_none flags w n i s l (h.each i l ∙ rw e) ∙ rw (rows_step w n i s l, e, rest)

-- where all rows pass all stay
pub filter_all : (p : Row → Bool) (w n : ℕ) (s : List ℕ) → ((k : ℕ) → k < n → p (row_at w k s) ≡ true) → filter p (rows_in w n s) ≡ rows_in w n s
unfolding filter
filter_all p w n s h =
    rw (rows_start w n s)
    (to_start (λ i. filter p (rows_from w n i s) ≡ rows_from w n i s) n (rw (rows_end w n n s (omega arith)))
    (λ i l rest. rw (rows_step w n i s l, h i l, rest)))

-- where no flag is 0 all rows stay
pub kept_all : (flags : List ℕ) (w n : ℕ) (s : List ℕ) → ((k : ℕ) → k < n → get_or flags k 0 ≡ 0 → ⊥) → kept_from flags 0 (rows_in w n s) ≡ rows_in w n s
unfolding kept_from
kept_all flags w n s h =
    rw (rows_start w n s)
    (to_start (λ i. kept_from flags i (rows_from w n i s) ≡ rows_from w n i s) n (rw (rows_end w n n s (omega arith)))
    (λ i l rest. kept_one flags w n i s l (h i l) ∙ rw rest (sym (rows_step w n i s l))))

pub left_all : (w n : ℕ) (s : List ℕ) (rs : List Row) → rs ≡ rows_in w n s → Left w n rs s s n
left_all w n s rs e = record { rows = rw e (sym (length_rows w n s)); bytes = rw e (sym (laid_same w n s)) }

-- ---- the rows of other transactions

pub other_yes : (tag : ℕ) (r : Row) → (tag_of r ≡ tag → ⊥) → other_tag tag r ≡ true
unfolding other_tag has_tag
other_yes tag r e = rw (ne_eqb _ _ e)

-- by the tag that was read in the row
pub other_read : (tag t : ℕ) (r : Row) (b : Bool) → length r ≡ 24 → t ≡ tag_of (row_at 24 0 r) → b ≡ not (eqb t tag) → b ≡ other_tag tag r
unfolding other_tag has_tag
other_read tag t r b h e f = f ∙ rw (e, row_alone 24 r h)

-- a loop that stores f k at each index k
pub stored_more : (f : ℕ → ℕ) (l : List ℕ) (i v : ℕ) → i < length l → ((k : ℕ) → k < i → get_or l k 0 ≡ f k) → v ≡ f i
    → (k : ℕ) → k < i + 1 → get_or (set l i v) k 0 ≡ f k
stored_more f l i v h below e =
    below_more _ i (λ k g. get_or-set_other l i k v 0 (λ z. omega arith) ∙ below k g) (get_or-set_same l i v 0 h ∙ e)
