-- Write on an image is, by the view, what Transition.antt says of it: the first row of the transaction and the cell has its value replaced, or a row
-- goes in behind the last. The cell limit and the free rows decide only whether the call is refused; a cell more is counted by the rows and by the
-- table of what the client wrote alike.
-- Assumes nothing.
use Prim.Native.Nat.{ℕ, ◌+◌, ◌≤◌, ◌<◌}
use mathlib.Core.Path.{◌≡◌, refl, sym, ap, ◌∙◌}
use mathlib.Core.Bool.{Bool, true, false, not, true≢false}
use mathlib.Core.List.{List, [], ◌∷◌, ◌++◌, map, append_assoc, Memᴰ as In}
use mathlib.Core.Option.{none, some}
use native.Mathlib.Omega.{arith}
use borrow.Author.Tests.{leb-true, leb-false, eqb-true, eqb-false, not-true, not-false}
use lib.ListN.{length, get_or, set, take, drop, length-append}
use lib.Seq.{get_or-append_seam, set-append_seam, take_at, drop_at, length-take-le}
use lib.Dec.{eqb, leb}
use Rattle.std.specs.Prelude.{if◌then◌else◌, None, Some}
use Rattle.spec.specs.Set.{clients}
use Rattle.spec.specs.Rows.{Row, part, number, spliced, tag_of, cell_of, value_of, data_row, with_value, cells}
use Rattle.spec.proofs.Bytes.{part-take, take_before}
use Rattle.spec.proofs.Rows.{Wide, tag_of_data_row, cell_of_data_row, value_of_data_row}
use Rattle.spec.specs.Look.{is_own, find, Found}
use Rattle.spec.specs.Share.{cells_of}
use Rattle.spec.specs.Answers.{Answered, no_client, no_cell, not_open, wrong_stage, cell_limit, no_free_row, wrong_length}
use Rattle.spec.specs.Image.{Image, with_rows, is_open, stage_of, number_of}
use Rattle.spec.specs.Calls.{replies_free, added, replaced, stored, write}
use Rattle.spec.specs.Run.{Write}
use Rattle.spec.specs.Table.{has}
use Rattle.spec.specs.Right.{valued, Writable, for_cell, for_length, for_stage, for_limit, for_rows}
use Rattle.history.proofs.Wellformed.{Wellformed}
use Rattle.history.proofs.Model as m
use Rattle.history.proofs.Model.{DRow, replace, some?, writes_of}
use Rattle.history.proofs.Transition.{no_write, replaces, adds}
use Rattle.history.proofs.View.{data_row_of, client_of, clients_as, view, map_join, free_at, limit_at, stage_at, past_number}
use Rattle.history.proofs.Searches.{own_value, own_value_lem, own_no, own_view, cells_view}
use Rattle.history.proofs.Simulates.{observed_outcome, Simulates, simulates, simulates_if, not_open_lem, open_number, at_first}

-- ---- a row with another value

module _ (r : Row) (v : List ℕ) (l : length r ≡ 24) (k : length v ≡ 16) where
  front : (a n : ℕ) → a + n ≤ 8 → part a n (spliced 8 v r) ≡ part a n r
  front a n h = sym (part-take a n 8 (spliced 8 v r) h) ∙ ap (part a n) (take_before 8 v r (omega arith)) ∙ part-take a n 8 r h

  back : part 8 16 (spliced 8 v r) ≡ v
  unfolding spliced
  back = rw (
    append_assoc (take 8 r) v (drop (8 + length v) r),
    drop_at (take 8 r) (v ++ drop (8 + length v) r) 8
        (length-take-le 8 r (omega arith)),
  ) (take_at v (drop (8 + length v) r) 16 k)

  value_view : data_row_of (with_value v r) ≡ record { tag = (data_row_of r).tag; cell = (data_row_of r).cell; value = v }
  unfolding data_row_of tag_of cell_of value_of with_value
  value_view = λ i. record { tag = ap number (front 0 4 (omega arith)) i; cell = ap number (front 4 2 (omega arith)) i; value = back i }

-- ---- a new row

row_view : (t x : ℕ) (v : List ℕ) → t < 4294967296 → x < 65536 → length v ≡ 16 → data_row_of (data_row t x v) ≡ record { tag = t; cell = x; value = v }
unfolding data_row_of
row_view t x v h g l = λ i. record { tag = tag_of_data_row t x v h i; cell = cell_of_data_row t x v g i; value = value_of_data_row t x v l i }

-- ---- the rows after a write

not_missing : {j : ℕ} → None ≡ Some j → ⊥
not_missing {j} e = let z : ◌≡◌ {A = ℕ} 0 1 = cc in omega arith

module _ (t x : ℕ) (v : List ℕ) (l : length v ≡ 16) where
  -- the rows pre, then rs, with row j's value replaced
  abbrev after : List Row → ℕ → List Row
  after ds j = set ds j (with_value v (get_or ds j []))

  replaced_from : (pre rs : List Row) (j : ℕ) → Wide 24 rs → find (is_own t x) (length pre) rs ≡ Some j
      → map data_row_of pre ++ replace t x v (map data_row_of rs) ≡ map data_row_of (after (pre ++ rs) j)
  unfolding find replace some?
  replaced_from pre [] j w e = absurd (not_missing e)
  replaced_from pre (r ∷ rs) j w e =
      let n : length (pre ++ (r ∷ [])) ≡ length pre + 1 = length-append pre (r ∷ []) in
      go (is_own t x r) refl e (λ f. replaced_from (pre ++ (r ∷ [])) rs j w.1 (rw n f))
    where
      Goal : Type 0
      Goal = map data_row_of pre ++ replace t x v (map data_row_of (r ∷ rs)) ≡ map data_row_of (after (pre ++ (r ∷ rs)) j)

      hit : is_own t x r ≡ true → length pre ≡ j → Goal
      hit h q =
          rw (
            own_value_lem t x r h,
            ← q,
            get_or-append_seam pre r rs [],
            set-append_seam pre r rs (with_value v r),
            map_join data_row_of pre (with_value v r ∷ rs),
            value_view r v w.0 l,
          )

      miss : is_own t x r ≡ false
          → map data_row_of (pre ++ (r ∷ [])) ++ replace t x v (map data_row_of rs) ≡ map data_row_of (after ((pre ++ (r ∷ [])) ++ rs) j) → Goal
      miss h ih =
          rw (own_no t x r h)
          (sym (append_assoc (map data_row_of pre) (data_row_of r ∷ []) (replace t x v (map data_row_of rs)))
          ∙ rw (append_assoc pre (r ∷ []) rs, map_join data_row_of pre (r ∷ [])) at ih)

      go : (b : Bool) → is_own t x r ≡ b → (if b then Some (length pre) else find (is_own t x) (length pre + 1) rs) ≡ Some j
          → (find (is_own t x) (length pre + 1) rs ≡ Some j
          → map data_row_of (pre ++ (r ∷ [])) ++ replace t x v (map data_row_of rs) ≡ map data_row_of (after ((pre ++ (r ∷ [])) ++ rs) j))
          → Goal
      go true h e ih = hit h (let q : length pre ≡ j = cc in q)
      go false h e ih = miss h (ih e)

-- ---- the call

module _ (i : Image) (k x : ℕ) (v : List ℕ) (z : Wellformed i) (l : length v ≡ 16) where
  replaced-view : (j : ℕ) → find (is_own (number_of i k) x) 0 i.data_rows ≡ Some j
      → m.figured (view (replaced j v i).image) ≡ m.overwritten (view i) k x v
  unfolding m.overwritten view replaced clients_as client_of
  replaced-view j e = rw (replaced_from (number_of i k) x v l [] i.data_rows j z.data_wide e)

  replaced_figure : (j : ℕ) → observed_outcome (Write k x v) (replaced j v i) ≡ m.figured (view (replaced j v i).image)
  unfolding replaced
  replaced_figure j = rw (free_at (replaced j v i).image)

  find_at : m.findₛ ((view i).cl k).number x (view i).dat ≡ own_value i.data_rows (find (is_own (number_of i k) x) 0 i.data_rows)
  unfolding view clients_as client_of
  find_at = own_view (number_of i k) x i.data_rows

  module _ (small : number_of i k < 4294967296) (below : x < cells) (isopen : 1 ≤ ((view i).cl k).number) (stage : ((view i).cl k).stage ≡ 0) where
    -- the image with the row behind the last
    more : Image
    more = with_rows i (i.data_rows ++ (data_row (number_of i k) x v ∷ [])) i.commit_rows

    added-view : m.figured (view more) ≡ m.addedₛ (view i) k x v
    unfolding m.addedₛ view clients_as client_of more
    added-view = rw (map_join data_row_of i.data_rows (data_row (number_of i k) x v ∷ []), row_view (number_of i k) x v small (omega arith) l)

    added-figure : observed_outcome (Write k x v) (replies_free more) ≡ m.figured (view more)
    added-figure = rw (free_at more)

    -- the cells that the limit is held to, by the table of what the client wrote
    count_at : (inside : (r : DRow) → In r (view i).dat → r.cell < cells)
        → cells_of (number_of i k) i.data_rows ≡ valued cells (writes_of (view i) k)
    unfolding view clients_as client_of
    count_at inside = cells_view (number_of i k) i.data_rows inside

    may : Writable ((view i).cl k).stage x v
    may = record { cell = below; bytes = l; stage = stage }

    stored-simulates : ((r : DRow) → In r (view i).dat → r.cell < cells) → (o : Found) → find (is_own (number_of i k) x) 0 i.data_rows ≡ o
        → Simulates i (Write k x v) (stored o k x v i)
    unfolding added more
    stored-simulates inside (Some j) e =
        let found : writes_of (view i) k x ≡ some (value_of (get_or i.data_rows j [])) = find_at ∙ rw e in
        simulates i (Write k x v) (replaced j v i) (replaced_figure j ∙ replaced-view j e)
        (replaces k x v (record { may = may; fewer = λ n. absurd (true≢false (sym (ap has found) ∙ n)) }) isopen (rw found tt))
    stored-simulates inside None e =
        let new : writes_of (view i) k x ≡ none = find_at ∙ rw e in
        let n : has (writes_of (view i) k x) ≡ false = ap has new in
        let c = count_at inside in
        simulates_if i (Write k x v) (leb i.limit (cells_of (number_of i k) i.data_rows))
        (λ f. record {
          did = no_write k x v cell_limit (omega arith)
              (λ _. for_limit may n (omega (arith, c, limit_at i, leb-true i.limit _ f)));
        }) (λ f.
        let fewer : valued cells (writes_of (view i) k) < (view i).bounds.limit = omega (arith, c, limit_at i, leb-false i.limit _ f) in
        simulates_if i (Write k x v) (leb i.rows (length i.data_rows))
        (λ g. record {
          did = no_write k x v no_free_row (omega arith)
              (λ _. for_rows may n fewer (ap (λ (m : ℕ). Answered m) (free_at i ∙ omega (arith, leb-true i.rows _ g))));
        }) (λ _.
        simulates i (Write k x v) (replies_free more) (added-figure ∙ added-view)
        (adds k x v (record { may = may; fewer = λ _. fewer }) isopen new)))

pub write_simulates : (i : Image) (k x : ℕ) (v : List ℕ) → Wellformed i → number_of i k < 4294967296 → ((r : DRow) → In r (view i).dat → r.cell < cells)
    → Simulates i (Write k x v) (write k x v i)
unfolding write
write_simulates i k x v z b inside =
    simulates_if i (Write k x v) (leb clients k)
    (λ h. record {
      did = no_write k x v no_client (omega arith) (λ o. absurd
          (omega (arith, o, past_number i z.tidy k (leb-true clients k h))));
    }) (λ h.
    simulates_if i (Write k x v) (leb cells x) (λ g. record { did = no_write k x v no_cell (omega arith) (λ _. for_cell (leb-true cells x g)) }) (λ g.
    let below : x < cells = leb-false cells x g in
    simulates_if i (Write k x v) (not (eqb (length v) 16))
    (λ l. record {
      did = no_write k x v wrong_length (omega arith)
          (λ _. for_length below (eqb-false (length v) 16 (not-true (eqb (length v) 16) l)));
    }) (λ l.
    let bytes : length v ≡ 16 = eqb-true (length v) 16 (not-false (eqb (length v) 16) l) in
    simulates_if i (Write k x v) (not (is_open i k)) (λ e. record {
      did = no_write k x v not_open (omega arith)
          (λ o. absurd (omega (arith, o, not_open_lem i k e)));
    }) (λ o.
    simulates_if i (Write k x v) (not (eqb (stage_of i k) 0))
    (λ f. record {
      did = no_write k x v wrong_stage (omega arith)
          (λ _. for_stage below bytes (omega (arith, stage_at i k, eqb-false (stage_of i k) 0 (not-true (eqb (stage_of i k) 0) f))));
    }) (λ f.
    stored-simulates i k x v z bytes b below (open_number i k o) (at_first i k f) inside (find (is_own (number_of i k) x) 0 i.data_rows) refl)))))
