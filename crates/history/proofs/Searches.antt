-- The searches over rows, on an image and in the model: a transaction's row for a cell, a tag's commit number, the newest version that a
-- read finds, the cells that two transactions share, the check's smallest clash, the rows that a test leaves. Both sides go over the rows from
-- the first one on, so each law is one induction; a decision of the model is held against the image's test by `says`.
-- Assumes nothing.
use Prim.Native.Nat.{ℕ, ◌+◌, ◌<◌}
use mathlib.Core.Path.{◌≡◌, refl, sym, ap, ◌∙◌, subst}
use mathlib.Core.Logic.Dec
use mathlib.Core.Logic.{◌≢◌, ite, if_pos, if_neg, by_cases}
use mathlib.Core.Bool.{Bool, true, false, not, false≢true, true≢false}
use mathlib.Core.List.Memᴰ.{head as here}
use mathlib.Core.List.Memᴰ.{tail as there}
use mathlib.Core.List.{List, [], ◌∷◌, ◌++◌, map, append_assoc, Memᴰ as In}
use mathlib.Core.Option.{Option, none, some}
use native.Mathlib.Decide.{ℕ_discrete, dec_lt, dec_le}
use native.Mathlib.Omega.{arith}
use borrow.Author.Tests.{lt-ltb, le-ltb, lt-leb, le-leb, eq-eqb, ne_eqb, eqb-true}
use lib.ListN.{length, get_or, length-append}
use lib.Seq.{get_or-append_seam}
use lib.Dec.{eqb, ltb, leb}
use Rattle.std.specs.Prelude.{if◌then◌else◌, None, Some}
use Rattle.spec.specs.Rows.{Row, tag_of, cell_of, value_of, commit_number, commit_tag, filter, has_tag, cells}
use Rattle.spec.specs.Numbers as n
use Rattle.spec.specs.Numbers.{lesser, above, up_to, Number}
use Rattle.spec.specs.Look as k
use Rattle.spec.specs.Look.{commit_of, is_own, version_of, newer, version_at, newest, Found, Lookup, version}
use Rattle.spec.specs.Share.{any, wrote, cells_of, shares, clash, conflict}
use Rattle.spec.specs.Table.{Value, Values, has}
use Rattle.spec.specs.Right.{valued}
use Rattle.history.proofs.Counts.{valued_none, valued_same, valued_more}
use Rattle.history.proofs.Lists as l
use Rattle.history.proofs.Lists.{in_nil, in_case, any?, drop?, first, or_next}
use Rattle.history.proofs.Model as m
use Rattle.history.proofs.Model.{DRow, findₛ, value_atₛ, some?, num_of, number_at, sift, sharing?, read_key, check_key, largest, smallestₛ}
use Rattle.history.proofs.Transition.{HasRow}
use Rattle.history.proofs.View.{data_row_of, commit_row_of}

-- ---- a decision as a test

abbrev pub says : {P : Type 0} → Dec P → Bool
says d = ite d true false

pub says_yes : {P : Type 0} (d : Dec P) → P → says d ≡ true
says_yes d p = if_pos d p true false

pub says_no : {P : Type 0} (d : Dec P) → (P → ⊥) → says d ≡ false
says_no d n = if_neg d n true false

says-true : {P : Type 0} (d : Dec P) → says d ≡ true → P
says-true d e = by_cases d (λ p. p) (λ n. absurd (false≢true (sym (says_no d n) ∙ e)))

says-false : {P : Type 0} (d : Dec P) → says d ≡ false → P → ⊥
says-false d e p = false≢true (sym e ∙ says_yes d p)

says_iff : {P Q : Type 0} (x : Dec P) (y : Dec Q) → (P → Q) → (Q → P) → says x ≡ says y
says_iff x y f g = by_cases x (λ p. says_yes x p ∙ sym (says_yes y (f p))) (λ n. says_no x n ∙ sym (says_no y (λ q. n (g q))))

pub says-and : {P Q : Type 0} (x : Dec P) (y : Dec Q) → says (Dec.and x y) ≡ (if says x then says y else false)
says-and x y =
    by_cases x
    (λ p. rw (says_yes x p) (says_iff (Dec.and x y) y (λ r. r.1) (λ q. (p, q))))
    (λ n. rw (says_no x n) (says_no (Dec.and x y) (λ r. n r.0)))

pub says_eq : (a b : ℕ) → says (ℕ_discrete a b) ≡ eqb a b
says_eq a b = by_cases (ℕ_discrete a b) (λ e. says_yes (ℕ_discrete a b) e ∙ sym (eq-eqb a b e)) (λ n. says_no (ℕ_discrete a b) n ∙ sym (ne_eqb a b n))

pub says_lt : (a b : ℕ) → says (dec_lt a b) ≡ ltb a b
says_lt a b = by_cases (dec_lt a b) (λ p. says_yes (dec_lt a b) p ∙ sym (lt-ltb a b p))
    (λ n. says_no (dec_lt a b) n ∙ sym (le-ltb a b (omega (arith, n))))

pub says_le : (a b : ℕ) → says (dec_le a b) ≡ leb a b
says_le a b = by_cases (dec_le a b) (λ p. says_yes (dec_le a b) p ∙ sym (le-leb a b p))
    (λ n. says_no (dec_le a b) n ∙ sym (lt-leb a b (omega (arith, n))))

-- ---- some row passes, and the rows that a test leaves

module _ {P : DRow → Type 0} (d : (r : DRow) → Dec (P r)) (p : Row → Bool) (h : (r : Row) → says (d (data_row_of r)) ≡ p r) where
  pub any_view : (rs : List Row) → says (any? d (map data_row_of rs)) ≡ any p rs
  unfolding any
  any_view [] = says_no (any? d []) (λ x. in_nil x.1)
  any_view (r ∷ rs) = go (p r) refl (any_view rs)
    where
      go : (b : Bool) → p r ≡ b → says (any? d (map data_row_of rs)) ≡ any p rs
          → says (any? d (data_row_of r ∷ map data_row_of rs)) ≡ (if b then true else any p rs)
      go true e ih = says_yes (any? d (data_row_of r ∷ map data_row_of rs)) (data_row_of r, here refl, says-true (d (data_row_of r)) (h r ∙ e))
      go false e ih = says_iff (any? d (data_row_of r ∷ map data_row_of rs)) (any? d (map data_row_of rs))
          (λ x. in_case x.1 (λ q. absurd (says-false (d (data_row_of r)) (h r ∙ e) (subst P q x.2))) (λ j. (x.0, j, x.2)))
          (λ x. (x.0, there x.1, x.2))
          ∙ ih

pub drop_view : {A : Type 0} (f : Row → A) {P : A → Type 0} (d : (a : A) → Dec (P a)) (p : Row → Bool) → ((r : Row) → not (says (d (f r))) ≡ p r)
    → (rs : List Row) → drop? d (map f rs) ≡ map f (filter p rs)
unfolding drop? filter
drop_view f d p h [] = refl
drop_view {A} f d p h (r ∷ rs) =
    by_cases (d (f r))
    (λ y. rw (sym (h r) ∙ ap not (says_yes (d (f r)) y)) (if_pos (d (f r)) y _ _ ∙ drop_view f d p h rs))
    (λ n. rw (sym (h r) ∙ ap not (says_no (d (f r)) n)) (if_neg (d (f r)) n _ _ ∙ ap (λ (l : List A). f r ∷ l) (drop_view f d p h rs)))

pub tag_view : (t : ℕ) (r : Row) → says (ℕ_discrete (data_row_of r).tag t) ≡ has_tag t r
unfolding has_tag data_row_of
tag_view t r = says_eq (tag_of r) t

pub has_row : (t : ℕ) (ds : List Row) → any (has_tag t) ds ≡ true → HasRow t (map data_row_of ds)
has_row t ds e = says-true (any? (λ r. ℕ_discrete r.tag t) (map data_row_of ds))
    (any_view (λ r. ℕ_discrete r.tag t) (has_tag t) (tag_view t) ds ∙ e)

pub no_row : (t : ℕ) (ds : List Row) → any (has_tag t) ds ≡ false → HasRow t (map data_row_of ds) → ⊥
no_row t ds e = says-false (any? (λ r. ℕ_discrete r.tag t) (map data_row_of ds))
    (any_view (λ r. ℕ_discrete r.tag t) (has_tag t) (tag_view t) ds ∙ e)

pub removed_rows : (t : ℕ) (ds : List Row) → m.without t (map data_row_of ds) ≡ map data_row_of (filter (λ r. not (has_tag t r)) ds)
unfolding m.without
removed_rows t ds = drop_view data_row_of (λ r. ℕ_discrete r.tag t) (λ r. not (has_tag t r)) (λ r. ap not (tag_view t r)) ds

-- ---- a tag's commit number

abbrev pub as_number : Number → Option ℕ
as_number (Some n) = some n
as_number None = none

pub commit_view : (t : ℕ) (cs : List Row) → num_of t (map commit_row_of cs) ≡ as_number (commit_of t cs)
unfolding num_of number_at first commit_of commit_row_of
commit_view t [] = refl
commit_view t (c ∷ cs) =
    by_cases (ℕ_discrete (commit_tag c) t)
    (λ e. rw (if_pos (ℕ_discrete (commit_tag c) t) e (some (commit_number c)) none, eq-eqb (commit_tag c) t e))
    (λ n. rw (if_neg (ℕ_discrete (commit_tag c) t) n (some (commit_number c)) none, ne_eqb (commit_tag c) t n) (commit_view t cs))

-- ---- a transaction's row for a cell

abbrev pub own_value : List Row → Found → Option Value
own_value ds (Some j) = some (value_of (get_or ds j []))
own_value ds None = none

module _ (t x : ℕ) where
  own_is : (r : Row) → is_own t x r ≡ true → (tag_of r ≡ t) × (cell_of r ≡ x)
  unfolding is_own
  own_is r h = by_cases (ℕ_discrete (tag_of r) t)
      (λ e. (e, eqb-true (cell_of r) x (rw (eq-eqb (tag_of r) t e) at h)))
      (λ n. absurd (false≢true (rw (ne_eqb (tag_of r) t n) at h)))

  pub own_value_lem : (r : Row) → is_own t x r ≡ true → value_atₛ t x (data_row_of r) ≡ some (value_of r)
  unfolding value_atₛ data_row_of
  own_value_lem r h = let e = own_is r h in if_pos (ℕ_discrete (tag_of r) t) e.0 _ none ∙ if_pos (ℕ_discrete (cell_of r) x) e.1 (some (value_of r)) none

  pub own_no : (r : Row) → is_own t x r ≡ false → value_atₛ t x (data_row_of r) ≡ none
  unfolding value_atₛ data_row_of is_own
  own_no r h =
      by_cases (ℕ_discrete (tag_of r) t)
      (λ e. if_pos (ℕ_discrete (tag_of r) t) e _ none ∙ by_cases (ℕ_discrete (cell_of r) x)
      (λ f. absurd (true≢false (rw (eq-eqb (tag_of r) t e, eq-eqb (cell_of r) x f) at h)))
      (λ f. if_neg (ℕ_discrete (cell_of r) x) f (some (value_of r)) none))
      (λ n. if_neg (ℕ_discrete (tag_of r) t) n _ none)

  own_from : (pre rs : List Row) → findₛ t x (map data_row_of rs) ≡ own_value (pre ++ rs) (k.find (is_own t x) (length pre) rs)
  unfolding findₛ first k.find
  own_from pre [] = refl
  own_from pre (r ∷ rs) =
      let e : (pre ++ (r ∷ [])) ++ rs ≡ pre ++ (r ∷ rs) = append_assoc pre (r ∷ []) rs in
      let n : length (pre ++ (r ∷ [])) ≡ length pre + 1 = length-append pre (r ∷ []) in
      go (is_own t x r) refl (rw (e, n) at (own_from (pre ++ (r ∷ [])) rs))
    where
      go : (b : Bool) → is_own t x r ≡ b
          → first (value_atₛ t x) (map data_row_of rs) ≡ own_value (pre ++ (r ∷ rs)) (k.find (is_own t x) (length pre + 1) rs)
          → or_next (value_atₛ t x (data_row_of r)) (first (value_atₛ t x) (map data_row_of rs))
          ≡ own_value (pre ++ (r ∷ rs)) (if b then Some (length pre) else k.find (is_own t x) (length pre + 1) rs)
      go true h ih = rw (own_value_lem r h, get_or-append_seam pre r rs [])
      go false h ih = rw (own_no r h) ih

  pub own_view : (ds : List Row) → findₛ t x (map data_row_of ds) ≡ own_value ds (k.find (is_own t x) 0 ds)
  own_view ds = own_from [] ds

  wrote_view : (ds : List Row) → says (some? (findₛ t x (map data_row_of ds))) ≡ wrote ds t x
  unfolding wrote any some? findₛ first
  wrote_view [] = refl
  wrote_view (r ∷ rs) = go (is_own t x r) refl (wrote_view rs)
    where
      go : (b : Bool) → is_own t x r ≡ b → says (some? (first (value_atₛ t x) (map data_row_of rs))) ≡ any (is_own t x) rs
          → says (some? (or_next (value_atₛ t x (data_row_of r)) (first (value_atₛ t x) (map data_row_of rs)))) ≡ (if b then true else any (is_own t x) rs)
      go true h ih = rw (own_value_lem r h)
      go false h ih = rw (own_no r h) ih

-- ---- how many cells a transaction wrote

has-says : (o : Option Value) → has o ≡ says (some? o)
unfolding some?
has-says none = refl
has-says (some v) = refl

has_view : (t x : ℕ) (ds : List Row) → has (findₛ t x (map data_row_of ds)) ≡ wrote ds t x
has_view t x ds = has-says (findₛ t x (map data_row_of ds)) ∙ wrote_view t x ds

-- a row in front of others: what is found for a cell with it and without it
module _ (t : ℕ) (r : Row) (rs : List Row) where
  abbrev with_it : Values
  with_it x = findₛ t x (map data_row_of (r ∷ rs))

  abbrev without_it : Values
  without_it x = findₛ t x (map data_row_of rs)

  on : (x : ℕ) → is_own t x r ≡ true → has (with_it x) ≡ true
  unfolding wrote any
  on x e = has_view t x (r ∷ rs) ∙ rw e

  off : (x : ℕ) → is_own t x r ≡ false → has (with_it x) ≡ has (without_it x)
  unfolding wrote any
  off x e = has_view t x (r ∷ rs) ∙ rw e (sym (has_view t x rs))

  own_cell : has_tag t r ≡ true → is_own t (cell_of r) r ≡ true
  unfolding is_own has_tag
  own_cell e = rw e (eq-eqb (cell_of r) (cell_of r) refl)

  other_tag_lem : has_tag t r ≡ false → (x : ℕ) → is_own t x r ≡ false
  unfolding is_own has_tag
  other_tag_lem e x = rw e

  other_cell : (x : ℕ) → x ≢ cell_of r → is_own t x r ≡ false
  unfolding is_own
  other_cell x n = go (eqb (tag_of r) t)
    where
      go : (b : Bool) → (if b then eqb (cell_of r) x else false) ≡ false
      go true = ne_eqb (cell_of r) x (λ e. n (sym e))
      go false = refl

  -- one cell more, if it is the transaction's and no row behind it is for its cell
  counted : (a : Bool) → has_tag t r ≡ a → (b : Bool) → wrote rs t (cell_of r) ≡ b → cell_of r < cells
      → (if a then (if b then 0 else 1) else 0) + valued cells without_it ≡ valued cells with_it
  counted false p b q h = omega (arith, valued_same cells with_it without_it (λ x _. off x (other_tag_lem p x)))
  counted true p true q h =
      omega (
        arith,
        valued_same cells with_it without_it (λ x _.
            by_cases (ℕ_discrete x (cell_of r))
            (λ e. rw e (on (cell_of r) (own_cell p) ∙ sym (has_view t (cell_of r) rs ∙ q)))
            (λ n. off x (other_cell x n))),
      )
  counted true p false q h =
      omega (
        arith,
        valued_more cells with_it without_it (cell_of r) h (on (cell_of r) (own_cell p)) (has_view t (cell_of r) rs ∙ q)
            (λ x n. off x (other_cell x n)),
      )

pub cells_view : (t : ℕ) (ds : List Row) → ((r : DRow) → In r (map data_row_of ds) → r.cell < cells)
    → cells_of t ds ≡ valued cells (λ x. findₛ t x (map data_row_of ds))
unfolding cells_of wrote any data_row_of
cells_view t [] inside = sym (valued_none cells (λ x. findₛ t x []) (λ x. has_view t x []))
cells_view t (r ∷ rs) inside =
    rw (cells_view t rs (λ q i. inside q (there i))) (counted t r rs (has_tag t r) refl (wrote rs t (cell_of r)) refl
    (inside (data_row_of r) (here refl)))

-- ---- the newest version that a read finds

-- a find among the rows ds
abbrev pub version_in : List Row → Lookup → Option (ℕ × DRow)
version_in ds None = none
version_in ds (Some f) = some (f.number, data_row_of (get_or ds f.at []))

newer_view : (ds : List Row) (i : ℕ) (r : Row) → get_or ds i [] ≡ r → (a : Number) (b : Lookup)
    → version_in ds (newer (version_at i a) b) ≡ l.better (λ n m. n < m) (λ n m. dec_lt n m) (as_number a) (data_row_of r) (version_in ds b)
unfolding newer version_at l.better
newer_view ds i r h None b = refl
newer_view ds i r h (Some n) None = rw h
newer_view ds i r h (Some n) (Some f) =
    let m = f.number in
    by_cases (dec_lt n m)
    (λ p. rw (lt-ltb n m p) (sym (if_pos (dec_lt n m) p _ _)))
    (λ p. rw (le-ltb n m (omega (arith, p)), h) (sym (if_neg (dec_lt n m) p _ _)))

module _ (f : Row → Number) (key : DRow → Option ℕ) (same : (r : Row) → as_number (f r) ≡ key (data_row_of r)) where
  newest_from : (pre rs : List Row) → version_in (pre ++ rs) (newest f (length pre) rs) ≡ largest key (map data_row_of rs)
  unfolding newest largest l.best
  newest_from pre [] = refl
  newest_from pre (r ∷ rs) =
      let ds : List Row = pre ++ (r ∷ rs) in
      let e : (pre ++ (r ∷ [])) ++ rs ≡ ds = append_assoc pre (r ∷ []) rs in
      let n : length (pre ++ (r ∷ [])) ≡ length pre + 1 = length-append pre (r ∷ []) in
      let ih : version_in ds (newest f (length pre + 1) rs) ≡ largest key (map data_row_of rs) = rw (e, n) at (newest_from (pre ++ (r ∷ [])) rs) in
      newer_view ds (length pre) r (get_or-append_seam pre r rs []) (f r) (newest f (length pre + 1) rs) ∙ rw (same r, ih)

up_to_lem : (s : ℕ) (c : Number) → as_number (up_to s c) ≡ sift (λ n. dec_le n s) (as_number c)
unfolding up_to sift
up_to_lem s None = refl
up_to_lem s (Some n) =
    by_cases (dec_le n s)
    (λ p. rw (le-leb n s p, if_pos (dec_le n s) p (some n) none))
    (λ p. rw (lt-leb n s (omega (arith, p)), if_neg (dec_le n s) p (some n) none))

version_key : (cell s : ℕ) (cs : List Row) (r : Row) → as_number (version_of cell s cs r) ≡ read_key (map commit_row_of cs) cell s (data_row_of r)
unfolding version_of read_key data_row_of
version_key cell s cs r =
    by_cases (ℕ_discrete (cell_of r) cell)
    (λ e. rw (eq-eqb (cell_of r) cell e, commit_view (tag_of r) cs)
    (up_to_lem s (commit_of (tag_of r) cs) ∙ sym (if_pos (ℕ_discrete (cell_of r) cell) e _ none)))
    (λ n. rw (ne_eqb (cell_of r) cell n) (sym (if_neg (ℕ_discrete (cell_of r) cell) n _ none)))

pub newest_view : (cell s : ℕ) (cs ds : List Row)
    → version_in ds (newest (version_of cell s cs) 0 ds) ≡ largest (read_key (map commit_row_of cs) cell s) (map data_row_of ds)
newest_view cell s cs ds = newest_from (version_of cell s cs) (read_key (map commit_row_of cs) cell s) (version_key cell s cs) [] ds

-- ---- shared cells

shared_row : (ds : List Row) (a b : ℕ) (r : Row)
    → says (Dec.and (ℕ_discrete (data_row_of r).tag b) (some? (findₛ a (data_row_of r).cell (map data_row_of ds)))) ≡ (if has_tag b r then wrote
    ds a (cell_of r) else false)
unfolding has_tag data_row_of
shared_row ds a b r =
    says-and (ℕ_discrete (tag_of r) b) (some? (findₛ a (cell_of r) (map data_row_of ds))) ∙ rw (says_eq (tag_of r) b, wrote_view a (cell_of r) ds)

pub shares_view : (ds : List Row) (a b : ℕ) → says (sharing? (map data_row_of ds) b a) ≡ shares ds a b
unfolding sharing? shares
shares_view ds a b =
    any_view (λ r. Dec.and (ℕ_discrete r.tag b) (some? (findₛ a r.cell (map data_row_of ds))))
    (λ r. if has_tag b r then wrote ds a (cell_of r) else false) (shared_row ds a b) ds

-- ---- the check's smallest clash: its number alone counts

abbrev pub number_in : Option (ℕ × DRow) → Option ℕ
number_in none = none
number_in (some w) = some w.0

lesser_view : (a : Number) (r : DRow) (b : Number) (w : Option (ℕ × DRow)) → as_number b ≡ number_in w
    → as_number (lesser a b) ≡ number_in (l.better (λ n m. m < n) (λ n m. dec_lt m n) (as_number a) r w)
unfolding lesser l.better
lesser_view None r b w e = e
lesser_view (Some n) r None none e = refl
lesser_view (Some n) r None (some w) e = absurd (l.none-some refl e)
lesser_view (Some n) r (Some m) none e = absurd (l.none-some refl (sym e))
lesser_view (Some n) r (Some m) (some w) e =
    let q : m ≡ w.0 = l.same_some e in
    by_cases (dec_lt w.0 n)
    (λ p. rw (lt-ltb m n (omega arith), if_pos (dec_lt w.0 n) p (some w) (some (n, r))) e)
    (λ p. rw (le-ltb m n (omega (arith, p)), if_neg (dec_lt w.0 n) p (some w) (some (n, r))))

above_view : (b : ℕ) (c : Number) → as_number (above b c) ≡ sift (λ n. dec_lt b n) (as_number c)
unfolding above sift
above_view b None = refl
above_view b (Some n) =
    by_cases (dec_lt b n)
    (λ p. rw (lt-ltb b n p, if_pos (dec_lt b n) p (some n) none))
    (λ p. rw (le-ltb b n (omega (arith, p)), if_neg (dec_lt b n) p (some n) none))

module _ (ds cs : List Row) (t b : ℕ) where
  abbrev key : DRow → Option ℕ
  key = check_key (map data_row_of ds) (map commit_row_of cs) t b

  clash_view : (q : Row) → as_number (clash ds cs t b q) ≡ key (data_row_of q)
  unfolding clash check_key data_row_of
  clash_view q =
      let d = some? (findₛ t (cell_of q) (map data_row_of ds)) in
      by_cases d
      (λ p. rw (sym (wrote_view t (cell_of q) ds) ∙ says_yes d p)
      (above_view b (commit_of (tag_of q) cs) ∙ ap (sift (λ n. dec_lt b n)) (sym (commit_view (tag_of q) cs))) ∙ sym (if_pos d p _ none))
      (λ n. rw (sym (wrote_view t (cell_of q) ds) ∙ says_no d n) (sym (if_neg d n _ none)))

  least_view : (qs : List Row) → as_number (n.smallest (map (clash ds cs t b) qs)) ≡ number_in (smallestₛ key (map data_row_of qs))
  unfolding n.smallest smallestₛ l.best
  least_view [] = refl
  least_view (q ∷ qs) = lesser_view (clash ds cs t b q) (data_row_of q) (n.smallest (map (clash ds cs t b) qs))
      (smallestₛ key (map data_row_of qs)) (least_view qs) ∙ rw (clash_view q)

  pub check_view : as_number (conflict t b ds cs) ≡ number_in (smallestₛ key (map data_row_of ds))
  unfolding conflict
  check_view = least_view ds
