-- A read, the check and the count after a trim, by the rows and by the plain table. The entry that a client's copy shows for a cell is the
-- largest one up to its snapshot, which no later entry at most that snapshot supersedes: so it has its row, and the read's largest row is that
-- one. An entry since the client began is above its snapshot, so nothing that the client sees supersedes it: it has its row, and the check's
-- smallest clash is the book's. After a trim with nothing open each cell with a value has one row, so rows are counted by cells.
-- Assumes nothing.
use Prim.Native.Nat.{ℕ, suc, ◌≤◌, ◌<◌}
use mathlib.Core.Path.{◌≡◌, refl, sym, ◌∙◌, ap, subst}
use mathlib.Core.Logic.{◌≢◌, ite, if_pos, if_neg, by_cases, ⊎_elim}
use mathlib.Core.List.Memᴰ.{head as here}
use mathlib.Core.List.Memᴰ.{tail as there}
use mathlib.Core.List.{List, [], ◌∷◌, Memᴰ as In}
use mathlib.Core.Option.{Option, none, some, IsSome, some-injective}
use native.Mathlib.Decide.{ℕ_discrete, dec_le, dec_lt}
use native.Mathlib.Omega.{arith}
use lib.ListN.{length}
use Rattle.history.proofs.Lists.{in_nil, in_case, ite_elim, none-some, option_case, best_none, Best, best-some, some_on}
use Rattle.history.proofs.Model.{DRow, CRow, findₛ, num_of, sift, some?, read_key, check_key, largest, smallestₛ, value_ofₛ}
use Rattle.history.proofs.Plain.{Entry, newerₚ, Sharesₚ}
use Rattle.history.proofs.Invariant.{Reader, Uniq, values_up_to, RowOf, Tab}
use Rattle.history.proofs.Booked.{is_some, book_max, same_entry, up_to_whole, Top, up_to_some, up_to_none}
use Rattle.history.proofs.Tables.{trim_dat, trim_comm, tab_trimmed, was}
use Rattle.history.proofs.Counts.{some_has, none_has, valued_none, valued_more}
use Rattle.spec.specs.Table.{Value}
use Rattle.spec.specs.Right.{valued}
use Rattle.spec.specs.Rows.{cells}

sift-some : {P : ℕ → Type 0} (d : (n : ℕ) → Dec (P n)) (o : Option ℕ) (n : ℕ) → sift d o ≡ some n → (o ≡ some n) × P n
unfolding sift
sift-some d none n e = absurd (none-some refl e)
sift-some {P} d (some m) n e =
    (ite_elim (λ o. o ≡ some n → (some m ≡ some n) × P n) (d m) (λ p q. (q, subst P (some-injective m n q) p))
    (λ _ q. absurd (none-some refl q))) e

sift_is : {P : ℕ → Type 0} (d : (n : ℕ) → Dec (P n)) (o : Option ℕ) (n : ℕ) → o ≡ some n → P n → sift d o ≡ some n
unfolding sift
sift_is d o n e p = rw e (if_pos (d n) p _ _)

pub read_some : (comm : List CRow) (x S : ℕ) (r : DRow) (n : ℕ) → read_key comm x S r ≡ some n
    → (r.cell ≡ x) × (num_of r.tag comm ≡ some n) × (n ≤ S)
unfolding read_key
read_some comm x S r n =
    ite_elim (λ o. o ≡ some n → (r.cell ≡ x) × (num_of r.tag comm ≡ some n) × (n ≤ S)) (ℕ_discrete r.cell x)
    (λ e q. let h = sift-some (λ n. dec_le n S) (num_of r.tag comm) n q in (e, h.0, h.1)) (λ _ q. absurd (none-some refl q))

pub read_is : (comm : List CRow) (x S : ℕ) (r : DRow) (n : ℕ) → r.cell ≡ x → num_of r.tag comm ≡ some n → n ≤ S → read_key comm x S r ≡ some n
unfolding read_key
read_is comm x S r n e f h = if_pos (ℕ_discrete r.cell x) e _ _ ∙ sift_is (λ n. dec_le n S) (num_of r.tag comm) n f h

check_some : (d : List DRow) (comm : List CRow) (u S : ℕ) (r : DRow) (n : ℕ) → check_key d comm u S r ≡ some n
    → IsSome (findₛ u r.cell d) × (num_of r.tag comm ≡ some n) × (S < n)
unfolding check_key
check_some d comm u S r n =
    ite_elim (λ o. o ≡ some n → IsSome (findₛ u r.cell d) × (num_of r.tag comm ≡ some n) × (S < n)) (some? (findₛ u r.cell d))
    (λ e q. let h = sift-some (λ n. dec_lt S n) (num_of r.tag comm) n q in (e, h.0, h.1)) (λ _ q. absurd (none-some refl q))

check_is : (d : List DRow) (comm : List CRow) (u S : ℕ) (r : DRow) (n : ℕ) → IsSome (findₛ u r.cell d) → num_of r.tag comm ≡ some n
    → S < n → check_key d comm u S r ≡ some n
unfolding check_key
check_is d comm u S r n e f h = if_pos (some? (findₛ u r.cell d)) e _ _ ∙ sift_is (λ n. dec_lt S n) (num_of r.tag comm) n f h

pub largest-some : (k : DRow → Option ℕ) (l : List DRow) (w : ℕ × DRow) → largest k l ≡ some w
    → Best (λ n m. n < m) (λ n m. dec_lt n m) k l w.0 w.1
unfolding largest
largest-some k l w e = best-some (λ n m. n < m) (λ n m. dec_lt n m) (λ n m j p q r. omega arith) (λ n m p q. omega arith) k l w e

smallest_some : (k : DRow → Option ℕ) (l : List DRow) (w : ℕ × DRow) → smallestₛ k l ≡ some w
    → Best (λ n m. m < n) (λ n m. dec_lt m n) k l w.0 w.1
unfolding smallestₛ
smallest_some k l w e = best-some (λ n m. m < n) (λ n m. dec_lt m n) (λ n m j p q r. omega arith) (λ n m p q. omega arith) k l w e

module _ {dat : List DRow} {comm : List CRow} {last W : ℕ} {table : ℕ → Option Value} {book : List Entry} {v : ℕ → Reader}
    (t : Tab dat comm last W table book v) (a : ℕ) (isopen : 1 ≤ (v a).num) where
  -- The commit that the plain table shows to client a has its row.
  pub shown : (x : ℕ) (w : Value) (e : Top (v a).snap book x w) → RowOf dat comm e.entry.number x
  shown x w e = ⊎_elim (λ k. k)
      (λ d. absurd (omega (arith, d.2, e.last d.0 d.1 (d.5 a isopen) d.3)))
      (t.kept e.entry x e.within (rw e.puts tt))

  pub read_right : (x : ℕ) → value_ofₛ (largest (read_key comm x (v a).snap) dat) ≡ values_up_to (v a).snap book x
  unfolding value_ofₛ largest
  read_right x = option_case (largest key dat)
      (λ q. rw q (option_case (values_up_to S book x) (λ z. sym z)
      (λ w z. let e = up_to_some S book t.rising x w z in let k = shown x w e in
      absurd (none-some (best_none (λ n m. n < m) (λ n m. dec_lt n m) key dat k.0 q k.1)
      (read_is comm x S k.0 e.entry.number k.2 k.3 e.below)))))
      (λ w q. rw q (found w (largest-some key dat w q)))
    where
      S : ℕ
      S = (v a).snap

      key : DRow → Option ℕ
      key = read_key comm x S

      found : (w : ℕ × DRow) → Best (λ n m. n < m) (λ n m. dec_lt n m) key dat w.0 w.1 → some w.1.value ≡ values_up_to S book x
      found w b =
          let r = read_some comm x S w.1 w.0 b.key in
          let e = t.sound w.1 w.0 b.within r.1 in
          let put : e.0.puts x ≡ some w.1.value = ap e.0.puts (sym r.0) ∙ e.3 in
          option_case (values_up_to S book x)
          (λ z. absurd (up_to_none S book x z e.0 e.1 (omega (arith, e.2, r.2)) (rw put tt)))
          (λ u z. let d = up_to_some S book t.rising x u z in let k = shown x u d in
          let ge = d.last e.0 e.1 (omega (arith, e.2, r.2)) (rw put tt) in
          let le = b.top k.0 d.entry.number k.1 (read_is comm x S k.0 d.entry.number k.2 k.3 d.below) in
          let same : e.0 ≡ d.entry = same_entry book t.rising e.0 d.entry e.1 d.within (omega (arith, e.2, le)) in
          sym put ∙ ap (λ (f : Entry). f.puts x) same ∙ d.puts ∙ sym z)

  module _ (late : (v a).late ≡ 0) where
    -- A commit since client a began that wrote a cell it wrote has its row.
    clash-row : (e : Entry) → In e (newerₚ (v a).since book) → Sharesₚ e.puts (v a).writes
        → (r : DRow) × In r dat × (check_key dat comm (v a).num (v a).snap r ≡ some e.number)
    clash-row e i h =
        let o = t.mine a isopen in
        let n = o.is_newer e i in
        ⊎_elim
        (λ k. (
          k.0,
          k.1,
          check_is dat comm (v a).num (v a).snap k.0 e.number
              (rw (o.held late k.0.cell, k.2) h.2) k.3 n.1,
        ))
        (λ d. absurd (omega (arith, d.2, d.5 a isopen, n.1)))
        (t.kept e h.0 n.0 h.1)

    pub check-none : smallestₛ (check_key dat comm (v a).num (v a).snap) dat ≡ none → (e : Entry) → In e (newerₚ (v a).since book)
        → Sharesₚ e.puts (v a).writes → ⊥
    unfolding smallestₛ
    check-none q e i h =
        let r = clash-row e i h in
        none-some (best_none (λ n m. m < n) (λ n m. dec_lt m n) (check_key dat comm (v a).num (v a).snap) dat r.0 q r.1) r.2

    pub check-least : (w : ℕ × DRow) → smallestₛ (check_key dat comm (v a).num (v a).snap) dat ≡ some w
        → ((e : Entry) × (e.number ≡ w.0) × (In e (newerₚ (v a).since book) × Sharesₚ e.puts (v a).writes))
        × ((e : Entry) → In e (newerₚ (v a).since book) × Sharesₚ e.puts (v a).writes → w.0 ≤ e.number)
    check-least w q =
        let o = t.mine a isopen in
        let b = smallest_some (check_key dat comm (v a).num (v a).snap) dat w q in
        let k = check_some dat comm (v a).num (v a).snap w.1 w.0 b.key in
        let e = t.sound w.1 w.0 b.within k.1 in (
          (e.0, e.2, (o.newer_is e.0 e.1 (omega (arith, e.2, k.2)), (w.1.cell, rw e.3 tt, rw (o.held late w.1.cell) at k.0))),
          λ d h. let r = clash-row d h.0 h.1 in let n = b.top r.0 d.number r.1 r.2 in omega arith,
        )

-- The cells with a value, and the rows that have each its own cell.
hide : ℕ → (ℕ → Option Value) → ℕ → Option Value
hide y f x = ite (ℕ_discrete x y) none (f x)

hide_same : (y : ℕ) (f : ℕ → Option Value) → hide y f y ≡ none
unfolding hide
hide_same y f = if_pos (ℕ_discrete y y) refl _ _

hide_other : (y : ℕ) (f : ℕ → Option Value) (x : ℕ) → x ≢ y → hide y f x ≡ f x
unfolding hide
hide_other y f x n = if_neg (ℕ_discrete x y) n _ _

abbrev Spread : List DRow → Type 0
Spread [] = Unit {0}
Spread (r ∷ l) = ((r' : DRow) → In r' l → r'.cell ≡ r.cell → ⊥) × Spread l

count_cells : (n : ℕ) (l : List DRow) (f : ℕ → Option Value) → ((r : DRow) → In r l → r.cell < n) → Spread l
    → ((r : DRow) → In r l → IsSome (f r.cell))
    → ((x : ℕ) → IsSome (f x) → (r : DRow) × In r l × (r.cell ≡ x)) → length l ≡ valued n f
count_cells n [] f below spread has row = sym (valued_none n f (λ x. none_has (f x) (λ h. in_nil (row x h).1)))
count_cells n (r ∷ l) f below spread has row =
    ap suc (count_cells n l (hide r.cell f) (λ q i. below q (there i)) spread.1
    (λ q i. rw (hide_other r.cell f q.cell (spread.0 q i)) (has q (there i)))
    (λ x h. let m : x ≢ r.cell = λ e. rw (ap (hide r.cell f) e ∙ hide_same r.cell f) at h in
    let q = row x (rw (hide_other r.cell f x m) at h) in
    in_case q.1 (λ e. absurd (m (sym q.2 ∙ ap (λ (z : DRow). z.cell) e))) (λ j. (q.0, j, q.2))))
    ∙ omega (
      arith,
      valued_more n f (hide r.cell f) r.cell (below r (here refl)) (some_has (f r.cell) (has r (here refl))) (rw (hide_same r.cell f))
          (λ x m. rw (hide_other r.cell f x m)),
    )

-- After a trim at the last commit with nothing open each cell with a value has one row.
module _ {dat : List DRow} {comm : List CRow} {last W : ℕ} {table : ℕ → Option Value} {book : List Entry} {v : ℕ → Reader}
    (t : Tab dat comm last W table book v) (none_open : (a : ℕ) → (v a).num ≡ 0) where
  low_snap : (a : ℕ) → 1 ≤ (v a).num → last ≤ (v a).snap
  low_snap a h = absurd (omega (arith, none_open a))

  after : Tab (trim_dat dat comm last) (trim_comm dat comm last) last W table book v
  after = tab_trimmed t last (omega arith) low_snap

  committed_row : (r : DRow) → In r dat → (n : ℕ) × (num_of r.tag comm ≡ some n)
  committed_row r i = ⊎_elim (λ h. absurd (omega (arith, h.1, none_open h.0))) (λ h. h) (t.row_of r i)

  alone : (r q : DRow) → In r (trim_dat dat comm last) → In q (trim_dat dat comm last) → r.cell ≡ q.cell → r.tag ≡ q.tag
  alone r q i j e =
      let r' = was t last (omega arith) low_snap r i in
      let q' = was t last (omega arith) low_snap q j in
      let n = committed_row r r'.0 in
      let m = committed_row q q'.0 in
      let rn = (t.comm_le r.tag n.0 n.1).1 in
      let qm = (t.comm_le q.tag m.0 m.1).1 in
      by_cases (ℕ_discrete n.0 m.0)
      (λ z. t.comm_inj r.tag q.tag m.0 (n.1 ∙ ap (λ (k : ℕ). some k) z) m.1)
      (λ z. by_cases (dec_lt n.0 m.0)
      (λ k. absurd (r'.1 (some_on _ n.1 (q, q'.0, (sym e, some_on _ m.1 (k, qm))))))
      (λ k. absurd (q'.1 (some_on _ m.1 (r, r'.0, (e, some_on _ n.1 (omega arith, rn)))))))

  spread : (l : List DRow) → Uniq l → ((r q : DRow) → In r l → In q l → r.cell ≡ q.cell → r.tag ≡ q.tag) → Spread l
  spread [] u h = tt
  spread (r ∷ l) u h = (λ q i e. u.0 q i (h q r (there i) (here refl) e) e, spread l u.1 (λ x y i j. h x y (there i) (there j)))

  pub trim_count : length (trim_dat dat comm last) ≡ valued cells table
  trim_count =
      count_cells cells (trim_dat dat comm last) table after.row_cell (spread _ after.uniq alone)
      (λ r i. let j = (was t last (omega arith) low_snap r i).0 in let n = committed_row r j in let e = t.sound r n.0 j n.1 in
      option_case (table r.cell)
      (λ z. absurd (up_to_none last book r.cell (sym (by-upTo r.cell) ∙ z) e.0 e.1 (all_le e.0 e.1) (rw e.3 tt)))
      (λ w z. rw z tt))
      (λ x h. let w = is_some (table x) h in
      let e = up_to_some last book t.rising x w.0 (sym (by-upTo x) ∙ w.1) in
      ⊎_elim (λ k. (k.0, k.1, k.2)) (λ d. absurd (omega (arith, d.2, e.last d.0 d.1 d.4 d.3)))
      (after.kept e.entry x e.within (rw e.puts tt)))
    where
      all_le : (e : Entry) → In e book → e.number ≤ last
      all_le e i = omega (arith, book_max book t.rising e i, t.book_last)

      by-upTo : (x : ℕ) → table x ≡ values_up_to last book x
      by-upTo x = t.all_table x ∙ sym (up_to_whole last book x all_le)
