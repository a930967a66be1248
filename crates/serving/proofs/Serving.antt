-- One committed row is served: its data rows are walked, from row i on they are still to come. A cell that a later committed row has marked
-- keeps its mark, and the row goes; any other cell of the transaction gets this row's mark, where the row is numbered at most low (`counts`), and
-- the committed row is in use.
-- Assumes nothing.
use Prim.Native.Nat.{ℕ, ◌+◌, ◌≤◌, ◌<◌}
use mathlib.Core.Path.{◌≡◌, refl, sym, ◌∙◌}
use mathlib.Core.Bool.{Bool, true, false, not}
use mathlib.Core.List.{List}
use lib.Dec.{ltb}
use lib.ListN.{length, get_or, set, length-set}
use lib.Seq.{get_or-set_same, get_or-set_other}
use native.Mathlib.Omega.{arith}
use native.Mathlib.Decide.{dec_lt, ℕ_discrete}
use borrow.Author.Tests.{lt-ltb, le-ltb, eq-eqb, ne_eqb}
use Rattle.std.specs.Prelude.{if◌then◌else◌}
use Rattle.spec.specs.Rows.{Row, row_at, rows_in, rows_from, tag_of, cell_of, has_tag}
use Rattle.spec.proofs.Rows.{rows_start}
use Rattle.spec.specs.Share.{any, wrote}
use Rattle.search.proofs.Folds.{if_same, any_step, any_end, wrote_hit, wrote_miss, wrote_end, tag_yes, tag_no}

-- ---- the walk over the transaction's rows

-- a cell's mark in the end: w says whether the row marks the cell, and v is the mark before
abbrev pub due : ℕ → Bool → ℕ → ℕ
due mark w v = if ltb mark v then v else (if w then mark else v)

-- a data row of the transaction whose cell no later committed row has marked
abbrev pub lasting : ℕ → ℕ → List ℕ → Row → Bool
lasting tag mark marks r = if has_tag tag r then not (ltb mark (get_or marks (cell_of r) 0)) else false

-- a row's flag in the end
abbrev pub judge : ℕ → ℕ → List ℕ → List ℕ → List ℕ → ℕ → ℕ
judge tag mark s marks flags k = if has_tag tag (row_at 24 k s) then
    (if ltb mark (get_or marks (cell_of (row_at 24 k s)) 0) then 0 else get_or flags k 0) else get_or flags k 0

-- what is so when rows before i are done; marks₀, flags₀ and uses₀ stood there before
pub record Serving (counts : Bool) (tag mark n j : ℕ) (s marks₀ flags₀ uses₀ marks flags uses : List ℕ) (i : ℕ) : Type 0 where
  pub marks_size : length marks ≡ 1024
  pub flags_size : length flags ≡ 1024
  pub uses_size : length uses ≡ 1024
  pub each : (x : ℕ) → x < 1024
      → due mark (if counts then wrote (rows_from 24 n i s) tag x else false) (get_or marks x 0) ≡ due mark
      (if counts then wrote (rows_in 24 n s) tag x else false) (get_or marks₀ x 0)
  pub above : (x : ℕ) → x < 1024 → ltb mark (get_or marks x 0) ≡ ltb mark (get_or marks₀ x 0)
  pub flag : (k : ℕ) → k < n → get_or flags k 0 ≡ (if ltb k i then judge tag mark s marks₀ flags₀ k else get_or flags₀ k 0)
  pub in_use : (if any (lasting tag mark marks₀) (rows_from 24 n i s) then 1 else get_or uses j 0) ≡
      (if any (lasting tag mark marks₀) (rows_in 24 n s) then 1 else get_or uses₀ j 0)
  pub others : (k : ℕ) → (k ≡ j → ⊥) → get_or uses k 0 ≡ get_or uses₀ k 0

module _ (counts : Bool) (tag mark n j : ℕ) (s marks₀ flags₀ uses₀ : List ℕ) where
  abbrev At : List ℕ → List ℕ → List ℕ → ℕ → Type 0
  At = Serving counts tag mark n j s marks₀ flags₀ uses₀

  pub serving_start : length marks₀ ≡ 1024 → length flags₀ ≡ 1024 → length uses₀ ≡ 1024 → At marks₀ flags₀ uses₀ 0
  serving_start e f g =
      record {
        marks_size = e;
        flags_size = f;
        uses_size = g;
        each = λ x h. rw (rows_start 24 n s);
        above = λ x h. refl;
        flag = λ k h. rw (le-ltb k 0 (omega arith));
        in_use = rw (rows_start 24 n s);
        others = λ k ne. refl;
      }

  module _ (marks flags uses : List ℕ) (i : ℕ) (h : i < n) (m : At marks flags uses i) where
    -- of the rows but row i each is judged as before
    apart : (k : ℕ) → (k ≡ i → ⊥) → ltb k (i + 1) ≡ ltb k i
    apart k ne = go (dec_lt k i)
      where
        go : Dec (k < i) → ltb k (i + 1) ≡ ltb k i
        go (yes l) = lt-ltb k (i + 1) (omega arith) ∙ sym (lt-ltb k i l)
        go (no l) = le-ltb k (i + 1) (omega (arith, l, ne)) ∙ sym (le-ltb k i (omega (arith, l)))

    old-flag : get_or flags i 0 ≡ get_or flags₀ i 0
    old-flag = m.flag i h ∙ rw (le-ltb i i (omega arith))

    -- a row that does not last
    pass-use : lasting tag mark marks₀ (row_at 24 i s) ≡ false
        → (if any (lasting tag mark marks₀) (rows_from 24 n (i + 1) s) then 1 else get_or uses j 0) ≡
        (if any (lasting tag mark marks₀) (rows_in 24 n s) then 1 else get_or uses₀ j 0)
    pass-use e =
        let w : any (lasting tag mark marks₀) (rows_from 24 n i s) ≡ any (lasting tag mark marks₀) (rows_from 24 n (i + 1) s) =
        any_step (lasting tag mark marks₀) 24 n i s h ∙ rw e in
        rw (← w) m.in_use

    -- a row that lasts
    take-use : j < 1024 → lasting tag mark marks₀ (row_at 24 i s) ≡ true
        → (if any (lasting tag mark marks₀) (rows_from 24 n (i + 1) s) then 1 else get_or (set uses j 1) j 0) ≡
        (if any (lasting tag mark marks₀) (rows_in 24 n s) then 1 else get_or uses₀ j 0)
    take-use room e =
        let w : any (lasting tag mark marks₀) (rows_from 24 n i s) ≡ true = any_step (lasting tag mark marks₀) 24 n i s h ∙ rw e in
        let old : ◌≡◌ {A = ℕ} 1 (if any (lasting tag mark marks₀) (rows_in 24 n s) then 1 else get_or uses₀ j 0) = rw w at m.in_use in
        rw (get_or-set_same uses j 1 0 (omega (arith, m.uses_size))) (if_same (any (lasting tag mark marks₀) (rows_from 24 n (i + 1) s)) 1 ∙ old)

    pub serving-other : (tag_of (row_at 24 i s) ≡ tag → ⊥) → At marks flags uses (i + 1)
    serving-other ne =
        record {
          marks_size = m.marks_size;
          flags_size = m.flags_size;
          uses_size = m.uses_size;
          each = λ x l. rw (← wrote_miss tag x 24 n i s h ne) (m.each x l);
          above = m.above;
          flag = λ k l. flag k l (ℕ_discrete k i);
          in_use = pass-use (rw (tag_no tag (row_at 24 i s) ne));
          others = m.others;
        }
      where
        flag : (k : ℕ) → k < n → Dec (k ≡ i) → get_or flags k 0 ≡ (if ltb k (i + 1) then judge tag mark s marks₀ flags₀ k else get_or flags₀ k 0)
        flag k l (yes e) = rw (e, lt-ltb i (i + 1) (omega arith), tag_no tag (row_at 24 i s) ne) old-flag
        flag k l (no e) = rw (apart k e) (m.flag k l)

    module _ (e : tag_of (row_at 24 i s) ≡ tag) (cell : ℕ) (f : cell ≡ cell_of (row_at 24 i s)) (g : cell < 1024) where
      -- cells but this one are still to come as before
      rest : (x : ℕ) → (cell ≡ x → ⊥) → wrote (rows_from 24 n i s) tag x ≡ wrote (rows_from 24 n (i + 1) s) tag x
      rest x q = wrote_hit tag x 24 n i s h e ∙ rw (ne_eqb (cell_of (row_at 24 i s)) x (λ z. q (f ∙ z)))

      -- whether the row lasts
      lasts : (b : Bool) → ltb mark (get_or marks cell 0) ≡ b → lasting tag mark marks₀ (row_at 24 i s) ≡ not b
      lasts b q = rw (tag_yes tag (row_at 24 i s) e, ← f, ← m.above cell g, q)

      -- the cell is marked already: the row goes
      pub serving-served : i < 1024 → mark < get_or marks cell 0 → At marks (set flags i 0) uses (i + 1)
      serving-served room b =
          record {
            marks_size = m.marks_size;
            flags_size = simp length-set m.flags_size;
            uses_size = m.uses_size;
            each = λ x l. each x l (ℕ_discrete cell x);
            above = m.above;
            flag = λ k l. flag k l (ℕ_discrete k i);
            in_use = pass-use (lasts true (lt-ltb mark (get_or marks cell 0) b));
            others = m.others;
          }
        where
          each : (x : ℕ) → x < 1024 → Dec (cell ≡ x)
              → due mark (if counts then wrote (rows_from 24 n (i + 1) s) tag x else false) (get_or marks x 0) ≡ due mark
              (if counts then wrote (rows_in 24 n s) tag x else false) (get_or marks₀ x 0)
          each x l (yes q) =
              let t : ltb mark (get_or marks x 0) ≡ true = rw (← q) (lt-ltb mark (get_or marks cell 0) b) in
              rw t (sym (rw t) ∙ m.each x l)
          each x l (no q) = rw (← rest x q) (m.each x l)

          flag : (k : ℕ) → k < n → Dec (k ≡ i)
              → get_or (set flags i 0) k 0 ≡ (if ltb k (i + 1) then judge tag mark s marks₀ flags₀ k else get_or flags₀ k 0)
          flag k l (yes q) =
              let t : ltb mark (get_or marks₀ (cell_of (row_at 24 i s)) 0) ≡ true = rw (← f)
              (sym (m.above cell g) ∙ lt-ltb mark (get_or marks cell 0) b) in
              rw (q, get_or-set_same flags i 0 0 (omega (arith, m.flags_size)), lt-ltb i (i + 1) (omega arith), tag_yes tag (row_at 24 i s) e, t)
          flag k l (no q) = rw (get_or-set_other flags i k 0 0 q, apart k q) (m.flag k l)

      module _ (b : get_or marks cell 0 ≤ mark) (room : j < 1024) where
        not-above : ltb mark (get_or marks cell 0) ≡ false
        not-above = le-ltb mark (get_or marks cell 0) b

        -- the row's flag stays
        flag_stays : (k : ℕ) → k < n → Dec (k ≡ i) → get_or flags k 0 ≡ (if ltb k (i + 1) then judge tag mark s marks₀ flags₀ k else get_or flags₀ k 0)
        flag_stays k l (yes q) =
            let t : ltb mark (get_or marks₀ (cell_of (row_at 24 i s)) 0) ≡ false = rw (← f) (sym (m.above cell g) ∙ not-above) in
            rw (q, lt-ltb i (i + 1) (omega arith), tag_yes tag (row_at 24 i s) e, t) old-flag
        flag_stays k l (no q) = rw (apart k q) (m.flag k l)

        -- the cell is marked now
        pub serving-mark : counts ≡ true → At (set marks cell mark) flags (set uses j 1) (i + 1)
        serving-mark c =
            record {
              marks_size = simp length-set m.marks_size;
              flags_size = m.flags_size;
              uses_size = simp length-set m.uses_size;
              each = λ x l. rw c (each x l (ℕ_discrete x cell));
              above = λ x l. above x l (ℕ_discrete x cell);
              flag = λ k l. flag_stays k l (ℕ_discrete k i);
              in_use = take-use room (lasts false not-above);
              others = λ k ne. rw (get_or-set_other uses j k 1 0 ne) (m.others k ne);
            }
          where
            stored : get_or (set marks cell mark) cell 0 ≡ mark
            stored = get_or-set_same marks cell mark 0 (omega (arith, m.marks_size))

            before : (x : ℕ) → x < 1024 → due mark (wrote (rows_from 24 n i s) tag x) (get_or marks x 0) ≡ due mark (wrote (rows_in 24 n s) tag x)
                (get_or marks₀ x 0)
            before x l = rw c at (m.each x l)

            each : (x : ℕ) → x < 1024 → Dec (x ≡ cell) → due mark (wrote (rows_from 24 n (i + 1) s) tag x) (get_or (set marks cell mark) x 0) ≡ due mark
                (wrote (rows_in 24 n s) tag x) (get_or marks₀ x 0)
            each x l (yes q) =
                let w : wrote (rows_from 24 n i s) tag cell ≡ true = wrote_hit tag cell 24 n i s h e ∙ rw
                (eq-eqb (cell_of (row_at 24 i s)) cell (sym f)) in
                let old : due mark (wrote (rows_from 24 n i s) tag cell) (get_or marks cell 0) ≡ mark = rw (not-above, w) in
                rw (q, stored, le-ltb mark mark (omega arith)) (if_same (wrote (rows_from 24 n (i + 1) s) tag cell) mark ∙ sym old ∙ before cell g)
            each x l (no q) = rw (get_or-set_other marks cell x mark 0 q, ← rest x (λ z. q (sym z))) (before x l)

            above : (x : ℕ) → x < 1024 → Dec (x ≡ cell) → ltb mark (get_or (set marks cell mark) x 0) ≡ ltb mark (get_or marks₀ x 0)
            above x l (yes q) = rw (q, stored, le-ltb mark mark (omega arith)) (sym not-above ∙ m.above cell g)
            above x l (no q) = rw (get_or-set_other marks cell x mark 0 q) (m.above x l)

        -- the committed row is numbered above low, and marks nothing
        pub serving-idle : counts ≡ false → At marks flags (set uses j 1) (i + 1)
        serving-idle c =
            record {
              marks_size = m.marks_size;
              flags_size = m.flags_size;
              uses_size = simp length-set m.uses_size;
              each = λ x l. rw c (rw c at (m.each x l));
              above = m.above;
              flag = λ k l. flag_stays k l (ℕ_discrete k i);
              in_use = take-use room (lasts false not-above);
              others = λ k ne. rw (get_or-set_other uses j k 1 0 ne) (m.others k ne);
            }

  module _ (marks flags uses : List ℕ) (i : ℕ) (h : n ≤ i) (m : At marks flags uses i) where
    pub serving-marks : (x : ℕ) → x < 1024 → get_or marks x 0 ≡ due mark (if counts then wrote (rows_in 24 n s) tag x else false) (get_or marks₀ x 0)
    serving-marks x l = sym (idle counts) ∙ rw (wrote_end tag x 24 n i s h) at (m.each x l)
      where
        idle : (b : Bool) → due mark (if b then false else false) (get_or marks x 0) ≡ get_or marks x 0
        idle true = if_same (ltb mark (get_or marks x 0)) (get_or marks x 0)
        idle false = if_same (ltb mark (get_or marks x 0)) (get_or marks x 0)

    pub serving-flags : (k : ℕ) → k < n → get_or flags k 0 ≡ judge tag mark s marks₀ flags₀ k
    serving-flags k l = m.flag k l ∙ rw (lt-ltb k i (omega arith))

    pub serving-use : get_or uses j 0 ≡ (if any (lasting tag mark marks₀) (rows_in 24 n s) then 1 else get_or uses₀ j 0)
    serving-use = rw (any_end (lasting tag mark marks₀) 24 n i s h) at m.in_use
