-- Facts of the book (its numbers rise, so an entry is known by its number; the table up to a number by its largest entry), of rows found by tag
-- and cell, of a write (`Written`: both ways of writing change what is found for one tag and one cell alone), and of committed rows.
-- Assumes nothing.
use Prim.Native.Nat.{ℕ, suc, ◌≤◌, ◌<◌}
use mathlib.Core.Path.{◌≡◌, refl, sym, ◌∙◌, ap, subst}
use mathlib.Core.Logic.{◌≢◌, ◌⊎◌, inl, inr, if_pos, if_neg, by_cases}
use mathlib.Core.List.Memᴰ.{head as here}
use mathlib.Core.List.Memᴰ.{tail as there}
use mathlib.Core.List.{List, [], ◌∷◌, ◌++◌, Memᴰ as In}
use mathlib.Core.Option.{Option, none, some, IsSome, some-injective}
use native.Mathlib.Decide.{ℕ_discrete, dec_le}
use native.Mathlib.Omega.{arith}
use lib.ListN.{length}
use Rattle.history.proofs.Lists.{in_nil, in_case, in_one, in_left, append_case, ite_elim, none-some, option_case, drop?, drop_in}
use Rattle.history.proofs.Lists.{first, first_in, first-none, first-append, first_keep, or_next}
use Rattle.history.proofs.Model.{DRow, CRow, findₛ, value_atₛ, num_of, number_at, replace, some?, without}
use Rattle.history.proofs.Plain.{Entry, newerₚ, olderₚ, last_ofₚ}
use Rattle.history.proofs.Invariant.{Uniq, RisingBook, values_up_to, values_of}
use Rattle.spec.specs.Table.{Value, or_else}

pub book_max : (book : List Entry) → RisingBook book → (e : Entry) → In e book → e.number ≤ last_ofₚ book
unfolding last_ofₚ
book_max [] h e i = absurd (in_nil i)
book_max (d ∷ l) h e i = in_case i (λ q. omega (arith, ap (λ (z : Entry). z.number) q)) (λ j. omega (arith, h.0 e j))

pub same_entry : (book : List Entry) → RisingBook book → (d e : Entry) → In d book → In e book → d.number ≡ e.number → d ≡ e
same_entry [] h d e i j q = absurd (in_nil i)
same_entry (f ∷ l) h d e i j q =
    in_case i
    (λ x. in_case j (λ y. x ∙ sym y) (λ y. absurd (omega (arith, h.0 e y, ap (λ (z : Entry). z.number) x))))
    (λ x. in_case j (λ y. absurd (omega (arith, h.0 d x, ap (λ (z : Entry). z.number) y))) (λ y. same_entry l h.1 d e x y q))

pub newerₚ_none : (book : List Entry) → newerₚ (length book) book ≡ []
unfolding newerₚ
newerₚ_none [] = refl
newerₚ_none (e ∷ l) = if_neg (dec_le (suc (length l)) (length l)) (λ h. omega arith) _ _

pub newerₚ-cons : (n : ℕ) (e : Entry) (l : List Entry) → n ≤ length l → newerₚ n (e ∷ l) ≡ e ∷ newerₚ n l
unfolding newerₚ
newerₚ-cons n e l h = if_pos (dec_le n (length l)) h _ _

pub older_all : (book : List Entry) → olderₚ (length book) book ≡ book
unfolding olderₚ
older_all [] = refl
older_all (e ∷ l) = if_neg (dec_le (suc (length l)) (length l)) (λ h. omega arith) _ _

pub older_cons : (n : ℕ) (e : Entry) (l : List Entry) → n ≤ length l → olderₚ n (e ∷ l) ≡ olderₚ n l
unfolding olderₚ
older_cons n e l h = if_pos (dec_le n (length l)) h _ _

pub up_to_whole : (S : ℕ) (book : List Entry) (x : ℕ) → ((e : Entry) → In e book → e.number ≤ S) → values_up_to S book x ≡ values_of book x
unfolding values_up_to values_of
up_to_whole S [] x h = refl
up_to_whole S (e ∷ l) x h =
    if_pos (dec_le e.number S) (h e (here refl)) _ _ ∙ ap (or_else (e.puts x)) (up_to_whole S l x (λ d i. h d (there i)))

pub up_to_skip : (S : ℕ) (e : Entry) (l : List Entry) (x : ℕ) → S < e.number → values_up_to S (e ∷ l) x ≡ values_up_to S l x
unfolding values_up_to
up_to_skip S e l x h = if_neg (dec_le e.number S) (λ z. omega arith) _ _

-- What the table up to S holds, by the commits.
pub record Top (S : ℕ) (book : List Entry) (x : ℕ) (v : Value) : Type 0 where
  pub entry : Entry
  pub within : In entry book
  pub below : entry.number ≤ S
  pub puts : entry.puts x ≡ some v
  pub last : (d : Entry) → In d book → d.number ≤ S → IsSome (d.puts x) → d.number ≤ entry.number

nothing : {o : Option Value} → o ≡ none → IsSome o → ⊥
nothing z i = rw z at i

pub up_to_some : (S : ℕ) (book : List Entry) → RisingBook book → (x : ℕ) (v : Value) → values_up_to S book x ≡ some v → Top S book x v
unfolding values_up_to
up_to_some S [] h x v q = absurd (none-some refl q)
up_to_some S (e ∷ l) h x v q =
    by_cases (dec_le e.number S)
    (λ le. option_case (e.puts x)
    (λ z. later (up_to_some S l h.1 x v (rw z at (sym (if_pos (dec_le e.number S) le _ _) ∙ q))) (λ k i. nothing z i))
    (λ w z. record {
      entry = e;
      within = here refl;
      below = le;
      puts = z ∙ (rw z at (sym (if_pos (dec_le e.number S) le _ _) ∙ q));
      last = λ d i k j. in_case i (λ y. omega (arith, ap (λ (z : Entry). z.number) y)) (λ y. omega (arith, h.0 d y));
    }))
    (λ gt. later (up_to_some S l h.1 x v (sym (if_neg (dec_le e.number S) gt _ _) ∙ q)) (λ k i. gt k))
  where
    later : Top S l x v → (e.number ≤ S → IsSome (e.puts x) → ⊥) → Top S (e ∷ l) x v
    later t n = record {
      entry = t.entry;
      within = there t.within;
      below = t.below;
      puts = t.puts;
      last = λ d i k j. in_case i (λ y. absurd (n (subst (λ (z : Entry). z.number ≤ S) y k)
          (subst (λ (z : Entry). IsSome (z.puts x)) y j))) (λ y. t.last d y k j);
    }

pub up_to_none : (S : ℕ) (book : List Entry) (x : ℕ) → values_up_to S book x ≡ none → (d : Entry) → In d book → d.number ≤ S → IsSome (d.puts x) → ⊥
unfolding values_up_to
up_to_none S [] x q d i k j = in_nil i
up_to_none S (e ∷ l) x q d i k j =
    by_cases (dec_le e.number S)
    (λ le. option_case (e.puts x)
    (λ z. in_case i (λ y. nothing z (subst (λ (z : Entry). IsSome (z.puts x)) y j))
    (λ y. up_to_none S l x (rw z at (sym (if_pos (dec_le e.number S) le _ _) ∙ q)) d y k j))
    (λ w z. none-some (rw z at (sym (if_pos (dec_le e.number S) le _ _) ∙ q)) refl))
    (λ gt. in_case i (λ y. gt (subst (λ (z : Entry). z.number ≤ S) y k))
    (λ y. up_to_none S l x (sym (if_neg (dec_le e.number S) gt _ _) ∙ q) d y k j))

-- Rows found.
pub is_some : {A : Type 0} (o : Option A) → IsSome o → (v : A) × (o ≡ some v)
is_some none h = absurd h
is_some (some v) h = (v, refl)

pub value_at : (t x : ℕ) (r : DRow) (v : Value) → value_atₛ t x r ≡ some v → (r.tag ≡ t) × (r.cell ≡ x) × (r.value ≡ v)
unfolding value_atₛ
value_at t x r v =
    ite_elim (λ o. o ≡ some v → (r.tag ≡ t) × (r.cell ≡ x) × (r.value ≡ v)) (ℕ_discrete r.tag t)
    (λ e. ite_elim (λ o. o ≡ some v → (r.tag ≡ t) × (r.cell ≡ x) × (r.value ≡ v)) (ℕ_discrete r.cell x)
    (λ e' q. (e, e', some-injective _ _ q)) (λ _ q. absurd (none-some refl q)))
    (λ _ q. absurd (none-some refl q))

pub value_tag : (t x : ℕ) (r : DRow) → r.tag ≢ t → value_atₛ t x r ≡ none
unfolding value_atₛ
value_tag t x r n = if_neg (ℕ_discrete r.tag t) n _ _

value_cell : (t x : ℕ) (r : DRow) → r.cell ≢ x → value_atₛ t x r ≡ none
value_cell t x r n = option_case (value_atₛ t x r) (λ e. e) (λ v e. absurd (n (value_at t x r v e).1))

value_same : (t x : ℕ) (r : DRow) → r.tag ≡ t → r.cell ≡ x → value_atₛ t x r ≡ some r.value
unfolding value_atₛ
value_same t x r e f = if_pos (ℕ_discrete r.tag t) e _ _ ∙ if_pos (ℕ_discrete r.cell x) f _ _

-- A row that is found, and rows that are not.
pub find_row : (t x : ℕ) (d : List DRow) (v : Value) → findₛ t x d ≡ some v → (r : DRow) × In r d × (r.tag ≡ t) × (r.cell ≡ x) × (r.value ≡ v)
unfolding findₛ
find_row t x d v e = let r = first_in (value_atₛ t x) d v e in let q = value_at t x r.0 v r.2 in (r.0, r.1, q.0, q.1, q.2)

find_none : (t x : ℕ) (d : List DRow) → findₛ t x d ≡ none → (r : DRow) → In r d → r.tag ≡ t → r.cell ≡ x → ⊥
unfolding findₛ
find_none t x d e r i p q = none-some (first-none (value_atₛ t x) d r e i) (value_same t x r p q)

pub row_find : (t x : ℕ) (d : List DRow) (r : DRow) → In r d → r.tag ≡ t → r.cell ≡ x → IsSome (findₛ t x d)
row_find t x d r i p q = option_case (findₛ t x d) (λ e. absurd (find_none t x d e r i p q)) (λ v e. rw e tt)

pub none_found : (t x : ℕ) (d : List DRow) → ((r : DRow) → In r d → r.tag ≡ t → ⊥) → findₛ t x d ≡ none
none_found t x d h = option_case (findₛ t x d) (λ e. e) (λ v e. let r = find_row t x d v e in absurd (h r.0 r.1 r.2))

pub without_none : (t : ℕ) (d : List DRow) → (((r : DRow) × In r d × (r.tag ≡ t)) → ⊥) → without t d ≡ d
unfolding without drop?
without_none t [] n = refl
without_none t (r ∷ d) n =
    if_neg (ℕ_discrete r.tag t) (λ e. n (r, here refl, e)) _ _ ∙ ap (λ (l : List DRow). r ∷ l)
    (without_none t d (λ h. n (h.0, there h.1, h.2)))

pub find_uniq : (d : List DRow) → Uniq d → (r : DRow) → In r d → findₛ r.tag r.cell d ≡ some r.value
unfolding findₛ first
find_uniq [] u r i = absurd (in_nil i)
find_uniq (h ∷ l) u r i =
    in_case i
    (λ e. rw (value_same r.tag r.cell h (ap (λ (z : DRow). z.tag) (sym e)) (ap (λ (z : DRow). z.cell) (sym e)))
    (ap (λ (z : DRow). some z.value) (sym e)))
    (λ j. option_case (value_atₛ r.tag r.cell h)
    (λ e. rw e (find_uniq l u.1 r j))
    (λ v e. let q = value_at r.tag r.cell h v e in absurd (u.0 r j (sym q.0) (sym q.1))))

pub uniq_drop : {P : DRow → Type 0} (p : (r : DRow) → Dec (P r)) (d : List DRow) → Uniq d → Uniq (drop? p d)
unfolding drop?
uniq_drop p [] u = tt
uniq_drop p (h ∷ l) u = ite_elim Uniq (p h) (λ _. uniq_drop p l u.1) (λ _. (λ r i. u.0 r (drop_in p l r i).0, uniq_drop p l u.1))

pub find_without : (t u x : ℕ) (d : List DRow) → u ≢ t → findₛ u x (without t d) ≡ findₛ u x d
unfolding findₛ without
find_without t u x d n = first_keep (value_atₛ u x) (λ r. ℕ_discrete r.tag t) d (λ r i e. value_tag u x r (λ q. n (sym q ∙ e)))

-- A write of value v by transaction t to cell x.
pub record Written (t x : ℕ) (v : Value) (d d' : List DRow) : Type 0 where
  pub this : findₛ t x d' ≡ some v
  pub tags : (u y : ℕ) → u ≢ t → findₛ u y d' ≡ findₛ u y d
  pub cells : (y : ℕ) → y ≢ x → findₛ t y d' ≡ findₛ t y d
  pub new : (r : DRow) → In r d' → In r d ⊎ ((r.tag ≡ t) × (r.cell ≡ x))
  pub old : (r : DRow) → In r d → r.tag ≢ t → In r d'
  pub uniq : Uniq d → Uniq d'

pub write_added : (t x : ℕ) (v : Value) (d : List DRow) → findₛ t x d ≡ none → Written t x v d (d ++ (record { tag = t; cell = x; value = v } ∷ []))
unfolding findₛ first
write_added t x v d e = record {
  this = first-append (value_atₛ t x) d (row ∷ []) ∙ rw (e, value_same t x row refl refl);
  tags = λ u y n. first-append (value_atₛ u y) d (row ∷ []) ∙ rw (value_tag u y row (λ q. n (sym q))) (or-none (first (value_atₛ u y) d));
  cells = λ y n. first-append (value_atₛ t y) d (row ∷ []) ∙ rw (value_cell t y row (λ q. n (sym q))) (or-none (first (value_atₛ t y) d));
  new = λ r i. append_case d i (λ j. inl j) (λ j. let q = in_one j in inr (ap (λ (z : DRow). z.tag) q, ap (λ (z : DRow). z.cell) q));
  old = λ r i n. in_left (row ∷ []) i;
  uniq = λ u. go d u (find_none t x d e);
}
  where
    row : DRow
    row = record { tag = t; cell = x; value = v }

    or-none : (o : Option Value) → or_next o none ≡ o
    or-none none = refl
    or-none (some w) = refl

    go : (d : List DRow) → Uniq d → ((r : DRow) → In r d → r.tag ≡ t → r.cell ≡ x → ⊥) → Uniq (d ++ (row ∷ []))
    go [] u n = (λ r i. absurd (in_nil i), tt)
    go (h ∷ l) u n = (
      λ r i p q. append_case l i (λ j. u.0 r j p q)
          (λ j. let z = in_one j in n h (here refl) (sym p ∙ ap (λ (z : DRow). z.tag) z) (sym q ∙ ap (λ (z : DRow). z.cell) z)),
      go l u.1 (λ r i. n r (there i)),
    )

module _ (t x : ℕ) (v : Value) where
  abbrev new_row : DRow → DRow
  new_row r = record { tag = r.tag; cell = r.cell; value = v }

  replace_in : (d : List DRow) (r : DRow) → In r (replace t x v d) → In r d ⊎ ((r.tag ≡ t) × (r.cell ≡ x))
  unfolding replace
  replace_in [] r i = absurd (in_nil i)
  replace_in (h ∷ l) r i =
      (ite_elim (λ L. In r L → In r (h ∷ l) ⊎ ((r.tag ≡ t) × (r.cell ≡ x))) (some? (value_atₛ t x h))
      (λ k i. let w = is_some (value_atₛ t x h) k in let q = value_at t x h w.0 w.1 in
      in_case i (λ e. inr (ap (λ (z : DRow). z.tag) e ∙ q.0, ap (λ (z : DRow). z.cell) e ∙ q.1)) (λ j. inl (there j)))
      (λ _ i. in_case i (λ e. inl (here e)) (λ j. up (replace_in l r j))))
      i
    where
      up : In r l ⊎ ((r.tag ≡ t) × (r.cell ≡ x)) → In r (h ∷ l) ⊎ ((r.tag ≡ t) × (r.cell ≡ x))
      up (inl j) = inl (there j)
      up (inr q) = inr q

  in_replace : (d : List DRow) (r : DRow) → In r d → r.tag ≢ t → In r (replace t x v d)
  unfolding replace
  in_replace [] r i n = absurd (in_nil i)
  in_replace (h ∷ l) r i n =
      ite_elim (In r) (some? (value_atₛ t x h))
      (λ k. let w = is_some (value_atₛ t x h) k in let q = value_at t x h w.0 w.1 in in_case i
      (λ e. absurd (n (ap (λ (z : DRow). z.tag) e ∙ q.0))) there)
      (λ _. in_case i here (λ j. there (in_replace l r j n)))

  replace_find : (d : List DRow) (u y : ℕ) → ((r : DRow) → r.tag ≡ t → r.cell ≡ x → value_atₛ u y r ≡ none)
      → findₛ u y (replace t x v d) ≡ findₛ u y d
  unfolding replace findₛ first
  replace_find [] u y n = refl
  replace_find (h ∷ l) u y n =
      ite_elim (λ L. first (value_atₛ u y) L ≡ first (value_atₛ u y) (h ∷ l)) (some? (value_atₛ t x h))
      (λ k. let w = is_some (value_atₛ t x h) k in let q = value_at t x h w.0 w.1 in rw (n (new_row h) q.0 q.1, n h q.0 q.1))
      (λ _. ap (or_next (value_atₛ u y h)) (replace_find l u y n))

  replace_this : (d : List DRow) → IsSome (findₛ t x d) → findₛ t x (replace t x v d) ≡ some v
  unfolding replace findₛ first
  replace_this [] h = absurd h
  replace_this (h ∷ l) k =
      by_cases (some? (value_atₛ t x h))
      (λ q. let w = is_some (value_atₛ t x h) q in let z = value_at t x h w.0 w.1 in
      rw (if_pos (some? (value_atₛ t x h)) q (new_row h ∷ l) (h ∷ replace t x v l), value_same t x (new_row h) z.0 z.1))
      (λ n. let e : value_atₛ t x h ≡ none = empty (value_atₛ t x h) n in
      rw (if_neg (some? (value_atₛ t x h)) n (new_row h ∷ l) (h ∷ replace t x v l), e) (replace_this l (rw e at k)))
    where
      empty : (o : Option Value) → (IsSome o → ⊥) → o ≡ none
      empty none n = refl
      empty (some w) n = absurd (n tt)

  replace_uniq : (d : List DRow) → Uniq d → Uniq (replace t x v d)
  unfolding replace
  replace_uniq [] u = tt
  replace_uniq (h ∷ l) u =
      ite_elim Uniq (some? (value_atₛ t x h))
      (λ k. let w = is_some (value_atₛ t x h) k in let q = value_at t x h w.0 w.1 in (λ r i p p'. u.0 r i p p', u.1))
      (λ n. (λ r i p p'. other n r (replace_in l r i) p p', replace_uniq l u.1))
    where
      other : (IsSome (value_atₛ t x h) → ⊥) → (r : DRow) → In r l ⊎ ((r.tag ≡ t) × (r.cell ≡ x)) → r.tag ≡ h.tag → r.cell ≡ h.cell → ⊥
      other n r (inl j) p p' = u.0 r j p p'
      other n r (inr q) p p' = n (rw (value_same t x h (sym p ∙ q.0) (sym p' ∙ q.1)) tt)

  pub write_replaced : (d : List DRow) → IsSome (findₛ t x d) → Written t x v d (replace t x v d)
  write_replaced d k = record {
    this = replace_this d k;
    tags = λ u y n. replace_find d u y (λ r p q. value_tag u y r (λ z. n (sym z ∙ p)));
    cells = λ y n. replace_find d t y (λ r p q. value_cell t y r (λ z. n (sym z ∙ q)));
    new = replace_in d;
    old = in_replace d;
    uniq = replace_uniq d;
  }

-- Committed rows.
pub row_number_at : (t : ℕ) (c : CRow) (n : ℕ) → number_at t c ≡ some n → (c.tag ≡ t) × (c.number ≡ n)
unfolding number_at
row_number_at t c n =
    ite_elim (λ o. o ≡ some n → (c.tag ≡ t) × (c.number ≡ n)) (ℕ_discrete c.tag t) (λ e q. (e, some-injective _ _ q))
    (λ _ q. absurd (none-some refl q))

number_same : (t : ℕ) (c : CRow) → c.tag ≡ t → number_at t c ≡ some c.number
unfolding number_at
number_same t c e = if_pos (ℕ_discrete c.tag t) e _ _

number_tag : (t : ℕ) (c : CRow) → c.tag ≢ t → number_at t c ≡ none
unfolding number_at
number_tag t c n = if_neg (ℕ_discrete c.tag t) n _ _

module _ (comm : List CRow) (n u : ℕ) where
  abbrev comm+ : List CRow
  comm+ = comm ++ (record { number = n; tag = u } ∷ [])

  abbrev new_c : CRow
  new_c = record { number = n; tag = u }

  pub num_old : (t m : ℕ) → num_of t comm ≡ some m → num_of t comm+ ≡ some m
  unfolding num_of first
  num_old t m e = first-append (number_at t) comm (new_c ∷ []) ∙ rw e

  pub num_new : (t : ℕ) → num_of t comm ≡ none → t ≡ u → num_of t comm+ ≡ some n
  unfolding num_of first
  num_new t e q = first-append (number_at t) comm (new_c ∷ []) ∙ rw (e, number_same t new_c (sym q))

  pub num_none : (t : ℕ) → num_of t comm ≡ none → t ≢ u → num_of t comm+ ≡ none
  unfolding num_of first
  num_none t e q = first-append (number_at t) comm (new_c ∷ []) ∙ rw (e, number_tag t new_c (λ z. q (sym z)))

  pub num_case : (t m : ℕ) → num_of t comm+ ≡ some m → (num_of t comm ≡ some m) ⊎ ((num_of t comm ≡ none) × (t ≡ u) × (n ≡ m))
  num_case t m e =
      option_case (num_of t comm)
      (λ q. by_cases (ℕ_discrete t u)
      (λ z. inr (q, z, some-injective n m (sym (num_new t q z) ∙ e)))
      (λ z. absurd (none-some (num_none t q z) e)))
      (λ k q. inl (q ∙ sym (num_old t k q) ∙ e))
